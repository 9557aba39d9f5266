-- The charges of the model for the soft rules: items, a constant or terms on cells.
pub mod CompleteWeekends
pub mod ConsecutiveAssignments
pub mod ConsecutiveDaysOff
pub mod OptimalCoverage
pub mod ShiftOffRequests
pub mod TotalAssignments
pub mod WorkedWeekends
