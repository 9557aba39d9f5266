-- The cells of sums, and the terms of patterns, are in ascending order of their variables. The variables of some sums follow one another.
use Rattle.rota_items.proofs.Common.Imports.{◌≡◌, ℕ, ◌+◌, ◌*◌, ◌<◌, ◌≤◌, List, [], ◌∷◌, map, length, subst, arith, ℤ, range_with_len, flat_map}
use Rattle.rota_items.proofs.Common.Imports.{mul-add-lt, mul-le-mul_right, concat_below, AllByRecursion, InWeek, cell, Problem, Cell, on_cells}
use Rattle.rota_items.proofs.Common.Imports.{work_cells, nurse_cells, demand_cells, skill_cells, cell_number, unit_number, Term, times}
use Rattle.rota_items.proofs.Common.Imports.{numbered_terms, Property, variables_on, day_terms, PatternDay, true, nat_lt, refl, sym, ap, ◌∙◌, pos}
use Rattle.rota_items.proofs.Common.Imports.{nat_tests, map-map, singleton_if, request_terms_on, request_weight, cell_term_events, term_events}
use Rattle.rota_core.proofs.CellIndices.{cell_index-lt}
use Rattle.rota_core.specs.RisingLists.{RisesWithin}
use Rattle.rota_core.proofs.LogicWords.{all-weaker, length-rising, numbers-rising, rises-append, rises-blocks, rises-each, rises-in, rises-map}
use Rattle.rota_items.proofs.LogicWords.{length-each-is, map-concat_below, Are, alone, in-turns}

-- the numbers of the cells are below the number of the unit variable
pub cell_number-below : (problem : Problem) (one : Cell) → InWeek problem one → cell_number problem one < unit_number problem
cell_number-below problem one inside =
    omega (arith, cell_index-lt problem.nurses problem.shifts problem.skills one inside.nurse_in inside.day_in inside.shift_in inside.skill_in)

-- numbers that rise are between the first and the end
pub rises-between : {X : Type 0} (number : X → ℕ) (first end : ℕ) (xs : List X) → RisesWithin number first end xs →
    AllByRecursion (λ x. (first ≤ number x) × (number x < end)) xs
rises-between number first end [] rises = tt
rises-between number first end (x ∷ xs) rises = (
  (rises.0, omega (arith, length-rising number (number x + 1) end xs rises.1)),
  all-weaker _ _ (λ y later. (omega (arith, rises.0, later.0), later.1)) xs (rises-between number (number x + 1) end xs rises.1),
)

module _ (problem : Problem) where
  pub in-cell : (n d s k : ℕ) → n < problem.nurses → d < 7 → s < problem.shifts → k < problem.skills → InWeek problem (cell n d s k)
  in-cell n d s k n_in d_in s_in k_in = record { nurse_in = n_in; day_in = d_in; shift_in = s_in; skill_in = k_in }

  pub on-are : (n s d : ℕ) → Are (on_cells problem n s d) (λ P. (k : ℕ) → k < problem.skills → P (cell n d s k))
  on-are n s d = in-turns (λ k. alone)

  pub work-are : (n d : ℕ) → Are (work_cells problem n d) (λ P. (s : ℕ) → s < problem.shifts → (k : ℕ) → k < problem.skills → P (cell n d s k))
  work-are n d = in-turns (λ s. on-are n s d)

  pub skill-are : (n k : ℕ) → Are (skill_cells problem n k) (λ P. (d : ℕ) → d < 7 → (s : ℕ) → s < problem.shifts → P (cell n d s k))
  skill-are n k = in-turns (λ d. in-turns (λ s. alone))

  -- ---- their numbers

  -- the first number of a nurse's day
  abbrev pub day_start : ℕ → ℕ → ℕ
  day_start n d = (n * 7 + d) * problem.shifts * problem.skills + 1

  abbrev pub shift_start : ℕ → ℕ → ℕ → ℕ
  shift_start n d s = ((n * 7 + d) * problem.shifts + s) * problem.skills + 1

  pub rises-on_cells : (n s d : ℕ) →
      RisesWithin (cell_number problem) (shift_start n d s) (shift_start n d (s + 1)) (on_cells problem n s d)
  rises-on_cells n s d =
      rises-blocks (cell_number problem) _ _ problem.skills (λ k. cell n d s k ∷ []) (λ k. shift_start n d s + k)
      (omega arith) (omega arith) (λ k k_in. (omega arith, omega arith))

  pub rises-work_cells : (n d : ℕ) → RisesWithin (cell_number problem) (day_start n d) (day_start n (d + 1)) (work_cells problem n d)
  rises-work_cells n d =
      rises-blocks (cell_number problem) _ _ problem.shifts (λ s. on_cells problem n s d) (shift_start n d)
      (omega arith) (omega arith) (λ s s_in. rises-on_cells n s d)

  pub rises-nurse_cells : (n : ℕ) → RisesWithin (cell_number problem) (day_start n 0) (day_start n 7) (nurse_cells problem n)
  rises-nurse_cells n = rises-each (cell_number problem) 7 (λ d. work_cells problem n d) (day_start n) (λ d d_in. rises-work_cells n d)

  pub on-keeps : (n s d : ℕ) → s < problem.shifts →
      RisesWithin (cell_number problem) (day_start n d) (day_start n (d + 1)) (on_cells problem n s d)
  on-keeps n s d s_in =
      let later : (n * 7 + d) * problem.shifts + (s + 1) ≤ (n * 7 + (d + 1)) * problem.shifts = omega arith in
      rises-in (cell_number problem) _ _ _ _ _ (omega arith) (omega (arith, mul-le-mul_right problem.skills later)) (rises-on_cells n s d)

  pub rises-demand_cells : (d s k : ℕ) → d < 7 → s < problem.shifts → k < problem.skills →
      RisesWithin (cell_number problem) (day_start 0 0) (day_start problem.nurses 0) (demand_cells problem d s k)
  rises-demand_cells d s k d_in s_in k_in =
      rises-each (cell_number problem) problem.nurses (λ n. cell n d s k ∷ []) (λ n. day_start n 0) (λ n n_in.
      let shifts = mul-add-lt d problem.shifts s 7 d_in s_in in
      (omega arith, omega (arith, mul-add-lt (d * problem.shifts + s) problem.skills k (problem.shifts * 7) shifts k_in)))

  pub rises-skill_cells : (n k : ℕ) → k < problem.skills →
      RisesWithin (cell_number problem) (day_start n 0) (day_start n 7) (skill_cells problem n k)
  rises-skill_cells n k k_in =
      rises-each (cell_number problem) 7 (λ d. concat_below problem.shifts (λ s. cell n d s k ∷ [])) (day_start n) (λ d d_in.
      rises-blocks (cell_number problem) _ _ problem.shifts (λ s. cell n d s k ∷ []) (shift_start n d) (omega arith) (omega arith)
      (λ s s_in. (omega arith, omega arith)))

  -- ---- the variables of a nurse's day on a shift type, of her day and of her week follow one another

  abbrev first_on : ℕ → ℕ → ℕ → ℕ
  first_on n d s = cell_number problem (cell n d s 0)

  events-range : (coefficient : ℤ) (cells : List Cell) (first from end n : ℕ) → RisesWithin (cell_number problem) from end cells →
      length cells ≡ n → first ≤ from → end ≤ first + n →
      cell_term_events problem (times coefficient cells) ≡ term_events (times coefficient (range_with_len first n))
  unfolding cell_term_events
  events-range coefficient cells first from end n rises long low high =
      rw (← long) (
      ap term_events
      (map-map (λ (term : Term Cell). (term.0, cell_number problem term.1)) (λ (one : Cell). (coefficient, one)) cells ∙
      sym (map-map (λ (v : ℕ). (coefficient, v)) (cell_number problem) cells) ∙
      ap (times coefficient) (numbers-rising (cell_number problem) first from end cells rises low (omega arith)))
      )

  length-work : (n d : ℕ) → length (work_cells problem n d) ≡ problem.shifts * (problem.skills * 1)
  length-work n d = length-each-is problem.shifts (problem.skills * 1) (λ s. on_cells problem n s d) (λ s _.
      length-each-is problem.skills 1 (λ k. cell n d s k ∷ []) (λ k _. refl))

  pub on_cells-range : (coefficient : ℤ) (n s d : ℕ) →
      cell_term_events problem (times coefficient (on_cells problem n s d)) ≡
      term_events (times coefficient (range_with_len (first_on n d s) problem.skills))
  on_cells-range coefficient n s d =
      events-range coefficient (on_cells problem n s d) _ _ _ _ (rises-on_cells n s d)
      (omega (arith, length-each-is problem.skills 1 (λ k. cell n d s k ∷ []) (λ k _. refl)))
      (omega arith) (omega arith)

  pub work_cells-range : (coefficient : ℤ) (n d : ℕ) →
      cell_term_events problem (times coefficient (work_cells problem n d)) ≡
      term_events (times coefficient (range_with_len (first_on n d 0) (problem.shifts * problem.skills)))
  work_cells-range coefficient n d =
      events-range coefficient (work_cells problem n d) _ _ _ _ (rises-work_cells n d) (omega (arith, length-work n d))
      (omega arith) (omega arith)

  pub nurse_cells-range : (coefficient : ℤ) (n : ℕ) →
      cell_term_events problem (times coefficient (nurse_cells problem n)) ≡
      term_events (times coefficient (range_with_len (first_on n 0 0) (7 * problem.shifts * problem.skills)))
  nurse_cells-range coefficient n =
      events-range coefficient (nurse_cells problem n) _ _ _ _ (rises-nurse_cells n)
      (omega (arith, length-each-is 7 _ (work_cells problem n) (λ d _. length-work n d))) (omega arith) (omega arith)

  pub requests-range : (n d s : ℕ) → 0 < problem.requests n d s →
      cell_term_events problem (request_terms_on problem n d s) ≡
      term_events (times (pos (request_weight * problem.requests n d s)) (range_with_len (first_on n d s) problem.skills))
  unfolding singleton_if
  requests-range n d s some =
      let coefficient = pos (request_weight * problem.requests n d s) in
      let wanted : nat_lt 0 (problem.requests n d s) ≡ true = grind (arith, nat_tests) in
      ap (λ test. cell_term_events problem (concat_below problem.skills (λ k. singleton_if test (coefficient, cell n d s k)))) wanted ∙
      ap (cell_term_events problem) (sym (map-concat_below (λ one. (coefficient, one)) problem.skills (λ k. cell n d s k ∷ []))) ∙
      on_cells-range coefficient n s d

  -- ---- terms

  abbrev pub at : Term Cell → ℕ
  at term = cell_number problem term.1

  abbrev pub within : List (Term Cell) → Type 0
  within terms = RisesWithin at 1 (unit_number problem) terms

  pub rises-times : (first end : ℕ) (coefficient : ℤ) (cells : List Cell) →
      RisesWithin (cell_number problem) first end cells → RisesWithin at first end (times coefficient cells)
  rises-times first end coefficient cells rises = rises-map at (λ one. (coefficient, one)) first end cells rises

  pub rises-numbered : (first end : ℕ) (terms : List (Term Cell)) → RisesWithin at first end terms →
      RisesWithin (λ (term : Term ℕ). term.1) first end (numbered_terms problem terms)
  rises-numbered first end terms rises =
      rises-map (λ (term : Term ℕ). term.1) (λ (term : Term Cell). (term.0, cell_number problem term.1)) first end terms rises

  -- ---- patterns

  abbrev KeepsToDays : ℕ → Property Cell → Type 0
  KeepsToDays n property = (d : ℕ) → RisesWithin (cell_number problem) (day_start n d) (day_start n (d + 1)) (variables_on property d)

  pub rises-days : (n : ℕ) (property : Property Cell) → KeepsToDays n property → (first end : ℕ) (days : List PatternDay) →
      map (λ (day : PatternDay). day.day) days ≡ range_with_len first (length days) → end ≡ first + length days →
      RisesWithin at (day_start n first) (day_start n end) (flat_map (day_terms property) days)
  rises-days n property keeps first end [] days_are up_to = rw up_to (omega arith)
  rises-days n property keeps first end (day ∷ days) days_are up_to =
      let here : day.day ≡ first = cc in
      let rest : map (λ (day : PatternDay). day.day) days ≡ range_with_len (first + 1) (length days) = cc in
      rises-append at _ (day_start n (first + 1)) _ (day_terms property day) (flat_map (day_terms property) days)
      (rises-times _ _ _ (variables_on property day.day)
      (subst (λ d. RisesWithin (cell_number problem) (day_start n d) (day_start n (d + 1)) (variables_on property day.day)) here (keeps day.day)))
      (rises-days n property keeps (first + 1) end days rest (omega arith))
