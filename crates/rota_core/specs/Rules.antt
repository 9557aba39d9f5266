-- The rules, in their order, and their names.
use Rattle.std.specs.Prelude.{ℕ, Bool, List, [], ◌∷◌, codes}
use Rattle.std.specs.Str.{bytes_eq}
use Rattle.rota_core.specs.declared.rule.Rule.{Rule}

-- the hard rules, in order
abbrev pub hard_rules : List Rule
hard_rules = Rule.H1 ∷ Rule.H2 ∷ Rule.H3 ∷ Rule.H4 ∷ Rule.H5 ∷ []

-- the soft rules, in order
abbrev pub soft_rules : List Rule
soft_rules = Rule.S1 ∷ Rule.S2 ∷ Rule.S3 ∷ Rule.S4 ∷ Rule.S5 ∷ Rule.S6 ∷ Rule.S7 ∷ []

-- the name of a rule
abbrev pub rule_name : Rule → List ℕ
rule_name Rule.Unit = codes "unit"
rule_name Rule.H1 = codes "H1"
rule_name Rule.H2 = codes "H2"
rule_name Rule.H3 = codes "H3"
rule_name Rule.H4 = codes "H4"
rule_name Rule.H5 = codes "H5"
rule_name Rule.S1 = codes "S1"
rule_name Rule.S2 = codes "S2"
rule_name Rule.S3 = codes "S3"
rule_name Rule.S4 = codes "S4"
rule_name Rule.S5 = codes "S5"
rule_name Rule.S6 = codes "S6"
rule_name Rule.S7 = codes "S7"

-- whether two rules are the same; no two have the same name
abbrev pub is_rule : Rule → Rule → Bool
is_rule one other = bytes_eq (rule_name one) (rule_name other)
