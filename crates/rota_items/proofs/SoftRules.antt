-- Each soft rule is sound: a file for each rule, or for two with similar items.
pub mod ConsecutiveDays
pub mod EachRule
pub mod NurseProperties
pub mod OptimalCoverage
pub mod ShiftOffRequests
pub mod Sizes
pub mod Sound
pub mod TotalAssignments
pub mod Weekends
