-- The cells of a nurse's day that a roster has: their number, which is at most 1, and whether there is one.
use Rattle.rota_items.proofs.Common.Imports.{◌≡◌, ℕ, ◌+◌, ◌<◌, ◌≤◌, Bool, true, false, cond, inl, inr, List, [], ◌∷◌, refl, ap, ◌∙◌, arith, sym, count_by}
use Rattle.rota_items.proofs.Common.Imports.{list_any, cases_Bool, true≢false, or-false, false_from_ne_true, sum_by-cons, AllByRecursion, sum_below}
use Rattle.rota_items.proofs.Common.Imports.{count_below, KeepsOneCell, is_on, works, Roster, cell, InWeek, Problem, Cell, cell_number, on_cells, work_cells}
use Rattle.rota_core.specs.RisingLists.{RisesWithin}
use Rattle.rota_items.proofs.LogicWords.{all-both, all-weaker, sum_by-each-is, count_by-each, list_any-each}
use Rattle.rota_rules.proofs.LogicWords.{any_below-same}
use Rattle.rota_items.proofs.RisingCells.{in-cell, on-are, rises-between, rises-on_cells, rises-work_cells, work-are}

-- ---- the number of elements of a list that pass

module _ {X : Type 0} (p : X → Bool) where
  pub none-pass : (xs : List X) → count_by p xs ≡ 0 → AllByRecursion (λ x. p x ≡ false) xs
  none-pass [] none = tt
  none-pass (x ∷ xs) none = let more = sum_by-cons (λ x. cond (p x) 1 0) x xs in (grind arith, none-pass xs (omega arith))

  pub count-none : (xs : List X) → AllByRecursion (λ x. p x ≡ false) xs → count_by p xs ≡ 0
  count-none [] fail = refl
  count-none (x ∷ xs) fail =
      omega (arith, sum_by-cons (λ x. cond (p x) 1 0) x xs, ap {B = ℕ} (λ b. cond b 1 0) fail.0, count-none xs fail.1)

  -- if at most one passes, each element that passes is the same
  pub the_one : X → (xs : List X) → count_by p xs ≤ 1 → (one : X) × AllByRecursion (λ x. p x ≡ true → x ≡ one) xs
  the_one other [] few = (other, tt)
  the_one other (x ∷ xs) few =
      let more = sum_by-cons (λ x. cond (p x) 1 0) x xs in
      elim (cases_Bool (p x)) [
        | inl passes ↦ (x, (λ _. refl, all-weaker _ _ (λ y fails also. absurd (true≢false (sym also ∙ fails))) xs (none-pass xs (grind arith))))
        | inr fails ↦
            let rest : (one : X) × AllByRecursion (λ x. p x ≡ true → x ≡ one) xs = the_one other xs (grind arith) in
            (rest.0, (λ passes. absurd (true≢false (sym passes ∙ fails)), rest.1))
      ]

  -- if all elements that pass have the same number and the numbers rise, at most one passes
  pub at_most_one : (number : X → ℕ) (P : X → Type 0) → ((x y : X) → P x → P y → p x ≡ true → p y ≡ true → number x ≡ number y) →
      (first end : ℕ) (xs : List X) → RisesWithin number first end xs → AllByRecursion P xs → count_by p xs ≤ 1
  at_most_one number P same first end [] rises all = omega arith
  at_most_one number P same first end (x ∷ xs) rises all =
      let more = sum_by-cons (λ x. cond (p x) 1 0) x xs in
      elim (cases_Bool (p x)) [
        | inl passes ↦
            let others = count-none xs (all-both _ P (λ y. p y ≡ false) (λ y after holds. false_from_ne_true (p y) (λ also.
            omega (arith, same x y all.0 holds passes also, after.0))) xs (rises-between number _ end xs rises.1) all.1) in
            grind arith
        | inr fails ↦ grind (arith, at_most_one number P same (number x + 1) end xs rises.1 all.1)
      ]

-- ---- the cells of a nurse's day

-- the number of the nurse's cells on a shift type and on a day
abbrev pub on_count : Problem → Roster → ℕ → ℕ → ℕ → ℕ
on_count problem roster n s d = count_below problem.skills (λ k. roster (cell n d s k))

abbrev pub work_count : Problem → Roster → ℕ → ℕ → ℕ
work_count problem roster n d = sum_below problem.shifts (λ s. on_count problem roster n s d)

module _ (problem : Problem) (roster : Roster) where
  pub count-on_cells : (n s d : ℕ) → count_by roster (on_cells problem n s d) ≡ on_count problem roster n s d
  count-on_cells n s d = count_by-each roster problem.skills (λ k. cell n d s k)

  pub count-work_cells : (n d : ℕ) → count_by roster (work_cells problem n d) ≡ work_count problem roster n d
  count-work_cells n d =
      sum_by-each-is (λ c. cond (roster c) 1 0) problem.shifts (λ s. on_cells problem n s d) (λ s. on_count problem roster n s d)
      (λ s _. count-on_cells n s d)

  module _ (one : KeepsOneCell problem roster) (n d : ℕ) (n_in : n < problem.nurses) (d_in : d < 7) where
    abbrev IsOfDay : Cell → Type 0
    IsOfDay c = InWeek problem c × (c.nurse ≡ n) × (c.day ≡ d)

    same_number : (c e : Cell) → IsOfDay c → IsOfDay e → roster c ≡ true → roster e ≡ true → cell_number problem c ≡ cell_number problem e
    same_number c e c_of e_of has_c has_e =
        ap (cell_number problem)
        (one c e (record { in_week = c_of.0; in_roster = has_c }) (record { in_week = e_of.0; in_roster = has_e })
        (c_of.1 ∙ sym e_of.1) (c_of.2 ∙ sym e_of.2))

    pub one-work : count_by roster (work_cells problem n d) ≤ 1
    one-work =
        at_most_one roster (cell_number problem) IsOfDay same_number _ _ (work_cells problem n d) (rises-work_cells problem n d)
        ((work-are problem n d).all IsOfDay (λ s s_in k k_in. (in-cell problem n d s k n_in d_in s_in k_in, refl, refl)))

    pub one-on : (s : ℕ) → s < problem.shifts → count_by roster (on_cells problem n s d) ≤ 1
    one-on s s_in =
        at_most_one roster (cell_number problem) IsOfDay same_number _ _ (on_cells problem n s d) (rises-on_cells problem n s d)
        ((on-are problem n s d).all IsOfDay (λ k k_in. (in-cell problem n d s k n_in d_in s_in k_in, refl, refl)))

  -- ---- the tests are the tests of the lists of cells

  pub any-on_cells : (n s d : ℕ) → list_any roster (on_cells problem n s d) ≡ is_on problem roster n s d
  any-on_cells n s d =
      list_any-each roster problem.skills (λ k. cell n d s k ∷ []) ∙
      any_below-same problem.skills _ (λ k. roster (cell n d s k)) (λ k _. or-false (roster (cell n d s k)))

  pub any-work_cells : (n d : ℕ) → list_any roster (work_cells problem n d) ≡ works problem roster n d
  any-work_cells n d =
      list_any-each roster problem.shifts (λ s. on_cells problem n s d) ∙
      any_below-same problem.shifts _ (λ s. is_on problem roster n s d) (λ s _. any-on_cells n s d)

  -- the same for all days at once
  pub any-on : (n s : ℕ) → ◌≡◌ {A = ℕ → Bool} (λ d. list_any roster (on_cells problem n s d)) (is_on problem roster n s)
  any-on n s = λ i. λ d. any-on_cells n s d i

  pub any-works : (n : ℕ) → ◌≡◌ {A = ℕ → Bool} (λ d. list_any roster (work_cells problem n d)) (works problem roster n)
  any-works n = λ i. λ d. any-work_cells n d i
