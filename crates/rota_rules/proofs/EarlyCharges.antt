-- The charges of consecutive weeks sum up to the excess at the end, less the excess at the start.
use Rattle.std.proofs.Common.{◌≡◌, ℕ, ◌+◌, true, List, [], ◌∷◌, arith}
use Rattle.std.proofs.lemmas.List.Sums.{sum_by-cons}
use Rattle.std.specs.List.{sum, sum_by}
use Rattle.rota_rules.specs.CountedTotals.{added_excess, charged_excess}
use Rattle.rota_rules.specs.EarlyWeeks.{CountedTotal, FollowEarly, RosteredWeek, added_by_all, added_in, early_charges}

pub early_charges-are : (maximum before : ℕ) (steps : List ℕ) → early_charges maximum before steps ≡ added_excess maximum before (sum steps)
early_charges-are maximum before [] = omega arith
early_charges-are maximum before (now ∷ later) =
    omega (arith, sum_by-cons (λ (n : ℕ). n) now later, early_charges-are maximum (before + now) later)

module _ (total : CountedTotal) where
  -- the charge of a week for the total
  abbrev charged_in : RosteredWeek → ℕ
  charged_in one = charged_excess one.week (total.maximum one.week) (total.before one.week) (added_in total one)

  pays_added : (one : RosteredWeek) → one.week.is_early ≡ true →
      charged_in one ≡ added_excess (total.maximum one.week) (total.before one.week) (added_in total one)
  pays_added one early = grind (arith, early)

  pub charges_sum : (one : RosteredWeek) (later : List RosteredWeek) → FollowEarly total one later →
      sum_by charged_in (one ∷ later) ≡ added_by_all total one later
  charges_sum one [] early = omega (arith, sum_by-cons charged_in one [], sum_by-cons (added_in total) one [], pays_added one early)
  charges_sum one (next ∷ later) (early, continues, follow) =
      omega (
        arith,
        sum_by-cons charged_in one (next ∷ later),
        sum_by-cons (added_in total) one (next ∷ later),
        pays_added one early,
        charges_sum next later follow,
      )
