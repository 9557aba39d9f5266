-- The report on a decoded answer.
use Rattle.std.specs.Prelude.{ℕ, ℤ, List, [], ◌++◌, codes, length, Option, Some, None, slice_index_or}
use Rattle.rota_pb.specs.Imports.{soft_rules}
use Rattle.rota_core.specs.Lists.{concat_below}
use Rattle.rota_core.specs.Numeral.{numeral, signed_numeral}
use Rattle.rota_core.specs.Rules.{rule_name}
use Rattle.rota_core.specs.declared.rule.Rule.TheVariants.{Unit}
use Rattle.rota_read.specs.SolutionText.{spaced, ended}
use Rattle.solver_text.specs.Status.{status_words}
use Rattle.rota_pb.specs.declared.decoded.Decoded.{Decoded}

-- the line of a name and a number
abbrev pub number_line : List ℕ → ℕ → List ℕ
number_line name number = ended (spaced name (numeral number))

-- the line of the soft rule with this index
abbrev pub cost_line : List ℕ → ℕ → List ℕ
cost_line costs index = number_line (rule_name (slice_index_or soft_rules index Unit)) (slice_index_or costs index 0)

-- the lines of all soft rules
unfoldable pub cost_lines : List ℕ → List ℕ
cost_lines costs = concat_below (length soft_rules) (cost_line costs)

-- the line of the last o line's value; no line if the answer had no o line
abbrev pub last_o_line : Option ℤ → List ℕ
last_o_line None = []
last_o_line (Some value) = ended (spaced (codes "last o") (signed_numeral value))

-- the whole report
abbrev pub report_text : Decoded → List ℕ
report_text decoded =
    ended (spaced (codes "status") (status_words decoded.status))
    ++ number_line (codes "objective") decoded.objective
    ++ number_line (codes "penalty") decoded.penalty
    ++ cost_lines decoded.costs
    ++ last_o_line decoded.last_o
