-- Equivalent pasts cost the same in a leaf, since its weeks have the same limits.
use Rattle.std.proofs.Common.{◌≡◌, ℕ, ◌+◌, List, [], ◌∷◌, map, refl, sym}
use Rattle.std.specs.List.{AllByRecursion}
use Rattle.std.proofs.lemmas.List.Elements.{All-drop, All-from_recursion, recursion_from_All}
use Rattle.rota_core.specs.Problem.{Problem}
use Rattle.rota_core.specs.declared.values.Past.{Past}
use Rattle.rota_certificate.specs.EquivalentPasts.{AreEquivalent, HaveSameLimits}
use Rattle.rota_certificate.specs.Facts.{Case}
use Rattle.rota_certificate.specs.LeafBounds.{leaf_weeks}
use Rattle.rota_certificate.specs.LentLeaves.{Fits, prices_lent, week_lent}
use Rattle.rota_certificate.specs.NurseBounds.{LeafWeek}
use Rattle.rota_certificate.specs.Stages.{IsStage, StageTables, all_of, later_of, least_after, least_in, terms_of, week_of}
use Rattle.rota_certificate.specs.declared.stages.LentWeek.{LentWeek}
use Rattle.rota_certificate.proofs.EquivalentPasts.{least_days-equivalent, rest_after-equivalent}

-- a property of each lent week holds for each week of the leaf
leaf-all : (P : Problem → Type 0) (case : Case) (w : ℕ) (weeks : List LentWeek) → AllByRecursion (λ (one : LentWeek). P (week_lent one)) weeks →
    AllByRecursion (λ (one : LeafWeek). P one.week) (leaf_weeks case w (map week_lent weeks) (map prices_lent weeks))
unfolding leaf_weeks
leaf-all P case w [] all = tt
leaf-all P case w (one ∷ weeks) all = (all.0, leaf-all P case (w + 1) weeks all.1)

fits-limits : (problem : Problem) (weeks : List LentWeek) → AllByRecursion (Fits problem) weeks →
    AllByRecursion (λ (one : LentWeek). HaveSameLimits problem (week_lent one)) weeks
fits-limits problem [] all = tt
fits-limits problem (one ∷ weeks) all =
    (record { limits = λ s. sym (all.0.limits s); contract = λ n. sym (all.0.contract n) }, fits-limits problem weeks all.1)

module _ (stage : StageTables) (is : IsStage stage) where
  -- the week has the limits of the stage's week
  abbrev HasLimits : LeafWeek → Type 0
  HasLimits one = HaveSameLimits (week_of stage).week one.week

  later-limits : AllByRecursion HasLimits (later_of stage)
  later-limits =
      let all = leaf-all (HaveSameLimits (week_of stage).week) stage.leaf.case 0 stage.leaf.weeks
      (fits-limits (week_of stage).week stage.leaf.weeks is.fit) in
      recursion_from_All HasLimits (later_of stage)
      (All-drop HasLimits (stage.week + 1) (all_of stage) (All-from_recursion HasLimits (all_of stage) all))

  pub stage-equivalent : (days_left : ℕ) (past other : Past) → AreEquivalent (week_of stage).week stage.nurse past other →
      least_in stage days_left past ≡ least_in stage days_left other
  stage-equivalent days_left past other equivalent =
      least_days-equivalent (terms_of stage) stage.nurse (week_of stage) (least_after stage)
      (rest_after-equivalent (terms_of stage) stage.nurse (week_of stage).week (week_of stage).week (later_of stage)
      (record { limits = λ s. refl; contract = λ n. refl }) later-limits) days_left past other equivalent
