-- The number of plain sums in a pattern's days.
use Rattle.rota_items.proofs.Common.Imports.{◌≡◌, ℕ, zero, suc, ◌+◌, ◌-◌, Bool, true, false, cond, List, map, refl, arith, bool_byte}
use Rattle.rota_items.proofs.Common.Imports.{range_with_len, count_by, sum_by-cons, sum_by-append, singleton_if, Problem, property_of}
use Rattle.rota_items.proofs.Common.Imports.{is_plain_of, days_of, is_plain, PatternDay, with_property, DayPattern, DayProperty, Shift}

-- `plain` says whether a day's sum is plain, from whether the day must have the property
module _ (plain : Bool → Bool) where
  abbrev is : PatternDay → Bool
  is day = plain day.has

  count-with : (first n : ℕ) → count_by is (map with_property (range_with_len first n)) ≡ cond (plain true) n 0
  count-with first zero = grind arith
  count-with first (suc n) =
      grind (
        arith,
        sum_by-cons (λ x. cond (is x) 1 0) (with_property first) (map with_property (range_with_len (first + 1) n)),
        count-with (first + 1) n,
      )

  pub count-plain : (pattern : DayPattern) → count_by is (days_of pattern) ≡
      cond (plain false) (bool_byte pattern.without_before + bool_byte pattern.without_after) 0 +
      cond (plain true) (pattern.end - pattern.first) 0
  unfolding singleton_if
  count-plain pattern = grind (arith, sum_by-append {X = PatternDay}, count-with)

-- both tests of a property find the same plain sums
pub plain-of_property : (problem : Problem) (n : ℕ) (property : DayProperty) (days : List PatternDay) →
    count_by (λ (day : PatternDay). is_plain_of property day.has) days ≡ count_by (is_plain (property_of problem n property)) days
plain-of_property problem n (Shift s) days = refl
plain-of_property problem n _ days = refl
