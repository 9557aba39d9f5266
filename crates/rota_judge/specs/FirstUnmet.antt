-- The first row that an assignment does not satisfy, and its rule.
use Rattle.std.specs.Prelude.{◌+◌, if◌then◌else◌, ◌∷◌}
use Rattle.rota_judge.specs.Imports.{ℕ, Bool, Option, Some, None, MatchOption, List, [], Rule, Unit, H1, H2, H3, H4, H5, Roster, KeepsHeld}
use Rattle.rota_judge.specs.Imports.{Problem, KeepsOneCell, KeepsMinimum, KeepsSuccession, KeepsSkills, KeepsCompetitionRules, KeepsHardRules}
use Rattle.rota_items.specs.declared.part.Part.{Part}
use Rattle.rota_items.specs.declared.part.Part.TheVariants.{Objective, Hard, Soft}
use Rattle.rota_items.specs.Rows.{LinearRow, is_satisfied}

-- the rule of a constraint
abbrev pub rule_of_part : Part → Rule
rule_of_part Objective = Unit
rule_of_part (Hard rule) = rule
rule_of_part (Soft rule weight) = rule

-- the row that was found, with its number increased by the number of rows before
abbrev pub later : ℕ → Option (ℕ × Rule) → Option (ℕ × Rule)
later before None = None
later before (Some (number, rule)) = Some (before + number, rule)

-- the number, from 1, and the rule of the first row that fails the test
abbrev pub first_failing : {X : Type 0} → (LinearRow X → Bool) → List (LinearRow X) → Option (ℕ × Rule)
first_failing test [] = None
first_failing test (row ∷ rows) =
    (if test row then later 1 (first_failing test rows) else Some (1, rule_of_part row.part))

-- the number and the rule of the first row that the assignment does not satisfy
abbrev pub first_unmet : {X : Type 0} → (X → Bool) → List (LinearRow X) → Option (ℕ × Rule)
first_unmet assignment rows = first_failing (is_satisfied assignment) rows

-- the rule is the first, in the order of the rules, that the roster breaks
abbrev pub FirstBroken : Problem → Roster → Rule → Type 0
FirstBroken problem roster H1 = KeepsOneCell problem roster → ⊥
FirstBroken problem roster H2 = KeepsOneCell problem roster × (KeepsMinimum problem roster → ⊥)
FirstBroken problem roster H3 = KeepsOneCell problem roster × KeepsMinimum problem roster × (KeepsSuccession problem roster → ⊥)
FirstBroken problem roster H4 =
    KeepsOneCell problem roster × KeepsMinimum problem roster × KeepsSuccession problem roster ×
    (KeepsSkills problem roster → ⊥)
FirstBroken problem roster H5 = KeepsCompetitionRules problem roster × (KeepsHeld problem roster → ⊥)
FirstBroken problem roster _ = ⊥

-- no row is named, and the roster keeps the hard rules; or the row is named, and its rule is the first that the roster breaks
abbrev pub NamesFirstBroken : Problem → Roster → Option (ℕ × Rule) → Type 0
NamesFirstBroken problem roster named =
    MatchOption named (KeepsHardRules problem roster) (λ row. FirstBroken problem roster row.1)
