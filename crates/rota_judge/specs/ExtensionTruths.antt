-- The truth values of the variables of a week's model in the extension of a roster, one after the other.
use Rattle.std.specs.Prelude.{ℕ, ◌+◌, Bool, List, [], ◌∷◌}
use Rattle.rota_core.specs.Lists.{concat_below}
use Rattle.rota_core.specs.Problem.{Problem}
use Rattle.rota_core.specs.Roster.{Roster}
use Rattle.rota_judge.specs.Extensions.{extension_of}
use Rattle.rota_items.specs.WeekModel.{model_of}

-- the truth values of the variables from 1 to count
abbrev pub truths_to : ℕ → (ℕ → Bool) → List Bool
truths_to count assignment = concat_below count (λ index. assignment (index + 1) ∷ [])

-- the truth values of all variables of the week's model, in the roster's extension
abbrev pub extension_truths : Problem → Roster → List Bool
extension_truths problem roster = truths_to (model_of problem).variables (extension_of problem roster)
