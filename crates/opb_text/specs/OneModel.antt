-- The text of a model determines the model.
use Rattle.std.specs.Prelude.{◌≡◌, ℕ, List}
use Rattle.rota_items.specs.Linear.{Model}
use Rattle.opb_text.specs.ModelText.{opb_text}

-- no text spells two models
abbrev pub EachTextSpellsOneModel : Type 0
EachTextSpellsOneModel =
    (text : List ℕ) (first second : Model) → text ≡ opb_text first → text ≡ opb_text second → first ≡ second
