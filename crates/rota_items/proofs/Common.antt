-- The imports of the proofs of functions: the words, and the lemmas on events taken.
pub mod Definitions
pub mod Imports
unfoldable pub use Imports.*
pub use Rattle.rota_items.proofs.RisingCells.{nurse_cells-range, on_cells-range, requests-range, work_cells-range}
pub use Rattle.rota_rules.proofs.CostLemmas.{instance-within_limits}
pub use Rattle.rota_items.proofs.LogicWords.{SumOfEach}
pub use Rattle.rota_items.proofs.Taking.{both, cell_refused, cell_taken, cells_join, events_join, exits, go_on, goes_on, held_join}
pub use Rattle.rota_items.proofs.Taking.{items_join, list_refused, lone_row, loop_ended, loop_refused, no_pattern, nothing, numbers_join}
pub use Rattle.rota_items.proofs.Taking.{pattern_refused, pattern_takes, pattern_took, row_closed, row_refused, row_taken, row_unclosed}
pub use Rattle.rota_items.proofs.Taking.{row_unstarted, rows_join, stop, takes_one, terms_join, Refused-one, row-is}
