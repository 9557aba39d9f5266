-- The values of sums and their size, and the shortage of a pattern's item: 1 if the days match the pattern, and otherwise 0.
use Rattle.rota_items.proofs.Common.Imports.{◌≡◌, ℕ, ◌-◌, ◌*◌, ◌≤◌, Bool, not, cond, true, false, ◌⊎◌, inr, List, [], ◌∷◌, ◌++◌, refl, arith, ℤ}
use Rattle.rota_items.proofs.Common.Imports.{pos, negsuc, ◌+ℤ◌, ◌-ℤ◌, list_any, sum_by, count_by, flat_map, AllByRecursion, sum_by-cons, ints, Item}
use Rattle.rota_items.proofs.Common.Imports.{Rule, shortage, times, Term, value_of, Property, Present, Absent, variables_on, is_plain, day_terms}
use Rattle.rota_items.proofs.Common.Imports.{pattern_item, PatternDay, Pattern, has_property, ◌+◌, nat_abs, if◌then◌else◌, up, down, positive_part}
use Rattle.rota_items.proofs.DayLaw.{matches_day, matches, units_of}

pub value_of-append : {X : Type 0} (assignment : X → Bool) (xs ys : List (Term X)) →
    value_of assignment (xs ++ ys) ≡ value_of assignment xs +ℤ value_of assignment ys
value_of-append assignment [] ys = omega (arith, ints)
value_of-append assignment (x ∷ xs) ys = omega (arith, ints, value_of-append assignment xs ys)

-- whether one of the variables is true, by the number of true variables
pub any_or_none : {X : Type 0} (assignment : X → Bool) (variables : List X) →
    ((list_any assignment variables ≡ true) × (1 ≤ count_by assignment variables)) ⊎
    ((list_any assignment variables ≡ false) × (count_by assignment variables ≡ 0))
any_or_none assignment [] = inr (refl, refl)
any_or_none assignment (v ∷ vs) = grind (arith, sum_by-cons (λ x. cond (assignment x) 1 0) v vs, any_or_none assignment vs)

-- the value of a sum that is plain or negated
abbrev pub signed : Bool → ℕ → ℤ
signed plain n = cond plain (pos 0 -ℤ pos n) (pos n)

abbrev pub signed_terms : {X : Type 0} → Bool → List X → List (Term X)
signed_terms plain variables = times (cond plain (negsuc 0) (pos 1)) variables

pub value_of-sum : {X : Type 0} (assignment : X → Bool) (plain : Bool) (variables : List X) →
    value_of assignment (signed_terms plain variables) ≡ signed plain (count_by assignment variables)
value_of-sum assignment plain [] = grind (arith, ints)
value_of-sum assignment plain (v ∷ vs) =
    grind (arith, ints, sum_by-cons (λ x. cond (assignment x) 1 0) v vs, value_of-sum assignment plain vs)

-- ---- the size of sums

-- the sum of the coefficients without their signs
abbrev pub spread : {X : Type 0} → List (Term X) → ℕ
spread {X} terms = sum_by (λ (term : Term X). nat_abs term.0) terms

pub chosen-small : (b : Bool) (x c : ℤ) → nat_abs (x +ℤ (if b then c else pos 0)) ≤ nat_abs x + nat_abs c
chosen-small b x c = grind (arith, ints)

pub value_of-small : {X : Type 0} (assignment : X → Bool) (terms : List (Term X)) → nat_abs (value_of assignment terms) ≤ spread terms
value_of-small assignment [] = omega arith
value_of-small {X} assignment (t ∷ ts) =
    grind (arith, ints, sum_by-cons (λ (term : Term X). nat_abs term.0) t ts, value_of-small assignment ts)

-- for `omega`, which reads an integer as the difference of two numbers
pub positive_part-parts : (z : ℤ) → positive_part z ≡ up z - down z
positive_part-parts (pos n) = omega arith
positive_part-parts (negsuc n) = omega arith

-- the shortage is at most the degree and the coefficients together
pub shortage-minimum : {X : Type 0} (assignment : X → Bool) (item : Item X) →
    shortage assignment item ≤ positive_part item.degree + spread item.terms
shortage-minimum assignment item = omega (arith, ints, positive_part-parts, value_of-small assignment item.terms)

-- ---- the item of a pattern

-- 1 on a day that does not match the pattern
abbrev pub miss : (ℕ → Bool) → PatternDay → ℕ
miss has day = cond (matches_day has day) 0 1

-- a sum of 0 or 1, less 1 if it is plain, is 0 if it is as wanted, and otherwise 1
value_of-day : {X : Type 0} (property : Property X) (assignment : X → Bool) (day : PatternDay) →
    count_by assignment (variables_on property day.day) ≤ 1 →
    value_of assignment (day_terms property day) +ℤ pos (cond (is_plain property day) 1 0) ≡
    pos (miss (has_property property assignment) day)
value_of-day (Present variables) assignment day one =
    grind (arith, ints, value_of-sum assignment day.has (variables day.day), any_or_none assignment (variables day.day))
value_of-day (Absent variables) assignment day one =
    grind (arith, ints, value_of-sum assignment (not day.has) (variables day.day), any_or_none assignment (variables day.day))

abbrev pub AtMostOneOn : {X : Type 0} → Property X → (X → Bool) → List PatternDay → Type 0
AtMostOneOn property assignment days = AllByRecursion (λ day. count_by assignment (variables_on property day.day) ≤ 1) days

value_of-days : {X : Type 0} (property : Property X) (assignment : X → Bool) (days : List PatternDay) →
    AtMostOneOn property assignment days →
    value_of assignment (flat_map (day_terms property) days) +ℤ pos (count_by (is_plain property) days) ≡
    pos (sum_by (miss (has_property property assignment)) days)
value_of-days property assignment [] one = refl
value_of-days property assignment (day ∷ days) one =
    let parts = value_of-append assignment (day_terms property day) (flat_map (day_terms property) days) in
    let plain = sum_by-cons (λ x. cond (is_plain property x) 1 0) day days in
    let missed = sum_by-cons (miss (has_property property assignment)) day days in
    omega (arith, ints, value_of-day property assignment day one.0, value_of-days property assignment days one.1)

-- 1 if there is no miss
misses : (has : ℕ → Bool) (days : List PatternDay) → 1 - sum_by (miss has) days ≡ cond (matches has days) 1 0
misses has [] = refl
misses has (day ∷ days) = grind (arith, sum_by-cons (miss has) day days, misses has days)

module _ {X : Type 0} (rule : Rule) (weight : ℕ) (property : Property X) (assignment : X → Bool) (pattern : Pattern)
    (one : AtMostOneOn property assignment pattern.days) where
  abbrev item : Item X
  item = pattern_item rule weight property pattern

  pub shortage-pattern_item : shortage assignment item ≡ cond (matches (has_property property assignment) pattern.days) 1 0
  shortage-pattern_item =
      let missed = misses (has_property property assignment) pattern.days in
      omega (arith, ints, positive_part-parts, value_of-days property assignment pattern.days one)

  pub weighted-pattern_item : item.weight * shortage assignment item ≡ weight * units_of (has_property property assignment) pattern
  weighted-pattern_item = rw shortage-pattern_item (grind arith)
