-- The part that a taker took of a list of literals, which are given by their truth values.
use Rattle.std.specs.Prelude.{Bool, List, Result}
use Rattle.rota_items.specs.Takes.{TakesAll, TookAll}
use Rattle.rota_judge.specs.declared.literals.literal_takers.LiteralTaker.{Ghosts}

abbrev pub TookLiterals : {S F : Type 0} → Ghosts S F → List Bool → S → S → Type 0
TookLiterals T truths old new = TookAll T.value T.step T.left truths old new

abbrev pub TakesLiterals : {S F R : Type 0} → Ghosts S F → List Bool → S → S → Result R F → Type 0
TakesLiterals T truths old new result = TakesAll T.value T.step T.left truths old new result
