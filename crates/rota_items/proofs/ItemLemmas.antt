-- The lemmas of this crate that the proofs of `rota_judge` use.
pub use Rattle.rota_items.proofs.CellCounts.{any-on_cells, count-none, count-on_cells, count-work_cells, none-pass, one-on, one-work}
pub use Rattle.rota_items.proofs.CellCounts.{the_one}
pub use Rattle.rota_items.proofs.PatternItems.{any_or_none, chosen-small, positive_part-parts, shortage-minimum, spread, value_of-append}
pub use Rattle.rota_items.proofs.PatternItems.{value_of-sum}
pub use Rattle.rota_items.proofs.RisingCells.{cell_number-below, day_start, in-cell, on-keeps, rises-between, rises-numbered}
pub use Rattle.rota_items.proofs.RisingCells.{rises-on_cells, rises-skill_cells, rises-work_cells, skill-are, work-are}
pub use Rattle.rota_items.proofs.RuleSizes.{constant-few, constant_of_rule-few, each-small, half_limit, shortages-few, soft_items-le}
pub use Rattle.rota_items.proofs.RunLaw.{weighted_shortages-day_items, weighted_shortages-run_items}
pub use Rattle.rota_items.proofs.SlackBound.{constraints-below, length-constraints, rows-below, slack_count-cons, slack_count-numbered}
pub use Rattle.rota_items.proofs.SlackBound.{variables-below}
pub use Rattle.rota_items.proofs.SoftRules.ConsecutiveDays.{weighted-off_runs, weighted-on_runs, weighted-work_runs}
pub use Rattle.rota_items.proofs.SoftRules.EachRule.{HasEnough, ItemIn, SoftItem, cell_terms-are, charged_on, charges-penalty, each-item}
pub use Rattle.rota_items.proofs.SoftRules.EachRule.{in-cell_terms, rise-cell_terms, soft_items-soft, sound-cell_terms, sound-rule}
pub use Rattle.rota_items.proofs.SoftRules.ShiftOffRequests.{IsTermSound, value_of-request_terms, value_of-singleton_if}
pub use Rattle.rota_items.proofs.SoftRules.Sound.{IsItemSound}
pub use Rattle.rota_items.proofs.SoundTerms.{AreSound, AreUnits, OnCoefficients, OnTerms, coefficients-numbered, coefficients-times}
pub use Rattle.rota_items.proofs.SoundTerms.{in-on_cells, in-work_cells, on-times, sound-cells, sound-demand, spread-sound, spread-units}
pub use Rattle.rota_items.proofs.SoundTerms.{units-times, value_of-agree}
pub use Rattle.rota_items.proofs.Taking.{Refused-after, Refused-before, Refused-one, Takes-then, exits, loop_refused, takes_one, taking}
