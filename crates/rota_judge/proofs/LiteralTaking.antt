-- How the list of literals taken by a taker grows, literal by literal.
use Rattle.rota_judge.proofs.Common.Imports.{◌≡◌, ℕ, ◌+◌, ◌<◌, Bool, List, [], ◌∷◌, Result, MatchResult, refl, concat_below-more, RefusedOne, TookLiterals}
use Rattle.rota_items.proofs.ItemLemmas.{Refused-one, Takes-then, takes_one, loop_refused}
use Rattle.rota_judge.specs.LiteralTakes.{TakesLiterals}
use Rattle.rota_judge.specs.SlackValues.{truths_below}
use Rattle.rota_judge.specs.declared.literals.literal_takers.LiteralTaker.{Ghosts}

-- the literal of an index follows the literals of the indices before it
module _ {S F : Type 0} (T : Ghosts S F) (truth : ℕ → Bool) (index count : ℕ) (positive : Bool) (s t u : S)
    (is : positive ≡ truth index) (before : TookLiterals T (truths_below index truth) s t) where
  pub literals_refused : index < count → T.left (T.value t) positive u → RefusedOne T.value T.step T.left (truths_below count truth) s u
  literals_refused below refused =
      loop_refused {h = λ (truths : List Bool). truths} (record { none = refl; append = λ xs ys. refl })
      index count (λ index. truth index ∷ []) s t u below before (Refused-one (truth index) t u (rw is at refused))

  pub literals_end : {R : Type 0} (r : Result R F) → count ≡ index + 1 →
      MatchResult r (λ _. T.value u ≡ T.step (T.value t) positive) (λ _. T.left (T.value t) positive u) → TakesLiterals T (truths_below count truth) s u r
  literals_end r next takes =
      rw (next, concat_below-more index (λ index. truth index ∷ []))
      (Takes-then (truths_below index truth) (truth index ∷ []) s t u r before (takes_one _ _ _ (truth index) t u r (rw is at takes)))
