-- The terms on cells charge the request rows that are not granted.
use Rattle.rota_items.proofs.Common.Imports.{◌≡◌, ℕ, ◌+◌, ◌<◌, Bool, true, false, cond, List, refl, ap, ◌∙◌, arith, pos, ◌+ℤ◌, ◌<ℤ◌}
use Rattle.rota_items.proofs.Common.Imports.{◌≤ℤ◌, nat_lt, AllByRecursion, ltb-true, ints, AllByRecursion-concat_below}
use Rattle.rota_items.proofs.Common.Imports.{AllByRecursion-singleton_if, singleton_if, Roster, InWeek, Problem, Cell, Term, value_of}
use Rattle.rota_items.proofs.Common.Imports.{IsWithinLimits, Rule, max_weight, request_cost, request_weight, request_terms, request_terms_on, []}
use Rattle.rota_items.proofs.Common.Imports.{◌∷◌, negsuc, nat_tests, sum_by, sum_by-cons, positive_part}
use Rattle.rota_core.proofs.LogicWords.{rises-blocks, rises-singleton_if}
use Rattle.rota_items.proofs.ItemLists.{none-concat_below}
use Rattle.rota_items.proofs.RisingCells.{at, day_start, in-cell, shift_start, within}
use Rattle.rota_items.proofs.SoftRules.Sound.{IsRuleSound}
use Rattle.rota_items.specs.RuleItems.{no_charge}
use Rattle.rota_rules.proofs.LogicWords.{sum_below-zero}
use Rattle.rota_items.proofs.LogicWords.{all-weaker, sum_by-each-times, sum_by-singleton_if}
use Rattle.rota_items.proofs.SoundTerms.{OnCoefficients}

-- ---- the value of terms

pub value_of-singleton_if : {X : Type 0} (assignment : X → Bool) (test : Bool) (term : Term X) →
    value_of assignment (singleton_if test term) ≡ cond test (cond (assignment term.1) term.0 (pos 0) +ℤ pos 0) (pos 0)
unfolding singleton_if
value_of-singleton_if assignment true term = refl
value_of-singleton_if assignment false term = refl

abbrev worth : {X : Type 0} → (X → Bool) → Term X → ℕ
worth assignment term = cond (assignment term.1) (positive_part term.0) 0

-- terms whose coefficients are at least 0 sum up as natural numbers
value_of-worth : {X : Type 0} (assignment : X → Bool) (terms : List (Term X)) → OnCoefficients (λ c. pos 0 ≤ℤ c) terms →
    value_of assignment terms ≡ pos (sum_by (worth assignment) terms)
value_of-worth assignment [] all = refl
value_of-worth assignment ((pos n, x) ∷ terms) all =
    grind (arith, ints, sum_by-cons (worth assignment) (pos n, x) terms, value_of-worth assignment terms all.1)
value_of-worth assignment ((negsuc n, x) ∷ terms) all = absurd (omega (arith, ints, all.0))

module _ (problem : Problem) where
  -- ---- the terms

  -- the term is at a cell of the week, with a coefficient that is positive and small
  pub record IsTermSound (term : Term Cell) : Type 0 where
    pub cell_in : InWeek problem term.1
    pub positive : pos 0 <ℤ term.0
    pub small : IsWithinLimits problem → term.0 ≤ℤ pos max_weight

  pub sound-request_terms : AllByRecursion IsTermSound (request_terms problem)
  sound-request_terms =
      AllByRecursion-concat_below IsTermSound problem.nurses _ (λ n n_in.
      AllByRecursion-concat_below IsTermSound 7 _ (λ d d_in.
      AllByRecursion-concat_below IsTermSound problem.shifts (request_terms_on problem n d) (λ s s_in.
      AllByRecursion-concat_below IsTermSound problem.skills _ (λ k k_in.
      AllByRecursion-singleton_if IsTermSound _ _ (λ test.
      let some : 0 < problem.requests n d s = ltb-true 0 (problem.requests n d s) test in record {
        cell_in = in-cell problem n d s k n_in d_in s_in k_in;
        positive = omega (arith, ints, some);
        small = λ limits. omega (arith, ints, limits.requests n d s);
      })))))

  -- the terms of a nurse, of her day and of a shift type occupy blocks of numbers, one after the other
  pub rise-request_terms : within problem (request_terms problem)
  rise-request_terms =
      rises-blocks (at problem) _ _ problem.nurses _ (λ n. day_start problem n 0) (omega arith) (omega arith) (λ n n_in.
      rises-blocks (at problem) _ _ 7 _ (day_start problem n) (omega arith) (omega arith) (λ d d_in.
      rises-blocks (at problem) _ _ problem.shifts (request_terms_on problem n d) (shift_start problem n d) (omega arith) (omega arith) (λ s s_in.
      rises-blocks (at problem) _ _ problem.skills _ (λ k. shift_start problem n d s + k) (omega arith) (omega arith) (λ k k_in.
      rises-singleton_if (at problem) _ _ (nat_lt 0 (problem.requests n d s)) _ (omega arith) (omega arith)))))

  -- ---- the cost

  pub value_of-request_terms : (roster : Roster) → value_of roster (request_terms problem) ≡ pos (request_cost problem roster)
  value_of-request_terms roster =
      value_of-worth roster (request_terms problem)
      (all-weaker IsTermSound (λ (term : Term Cell). pos 0 ≤ℤ term.0) (λ term sound. omega (arith, ints, sound.positive))
      (request_terms problem) sound-request_terms) ∙
      ap pos
      (sum_by-each-times (worth roster) problem.nurses request_weight _ _ (λ n _.
      sum_by-each-times (worth roster) 7 request_weight _ _ (λ d _.
      sum_by-each-times (worth roster) problem.shifts request_weight _ _ (λ s _.
      sum_by-each-times (worth roster) problem.skills request_weight _ _ (λ k _.
      rw sum_by-singleton_if (grind (arith, nat_tests)))))))

  pub sound-shift_off_requests : IsRuleSound problem Rule.S4 (request_cost problem) (record no_charge { cell_terms = request_terms })
  sound-shift_off_requests = record {
    items = rw (← none-concat_below problem.nurses) tt;
    charges = λ roster keeps.
        rw (← none-concat_below problem.nurses) (omega (arith, ints, value_of-request_terms roster, sum_below-zero problem.nurses (λ _. 0) (λ _ _. refl)));
    small = λ limits. rw (← none-concat_below problem.nurses) (record { each = tt; few = omega arith });
    constant_small = λ limits n. omega arith;
  }
