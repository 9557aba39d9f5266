-- The events that send sums and rows over cells to a taker.
use Rattle.std.specs.Prelude.{ℤ, pos, negsuc, List}
use Rattle.rota_core.specs.declared.values.Cell.{Cell}
use Rattle.rota_core.specs.Problem.{Problem}
use Rattle.rota_items.specs.declared.sums.Sign.{Sign}
use Rattle.rota_items.specs.declared.sums.Sign.TheVariants.{Plus, Minus}
use Rattle.rota_items.specs.Linear.{Term}
use Rattle.rota_items.specs.Rows.{times}
use Rattle.rota_items.specs.Events.{Event, term_events}
use Rattle.rota_items.specs.WeekModel.{numbered_terms}

abbrev pub coefficient_of : Sign → ℤ
coefficient_of Plus = pos 1
coefficient_of Minus = negsuc 0

-- the events of a sum of terms on cells, each with its cell's variable
unfoldable pub cell_term_events : Problem → List (Term Cell) → List Event
cell_term_events problem terms = term_events (numbered_terms problem terms)

-- the events of these cells, each with this sign
abbrev pub sum_events : Problem → Sign → List Cell → List Event
sum_events problem sign cells = cell_term_events problem (times (coefficient_of sign) cells)
