-- The rows of H3 mean the rule: no shift type after one that it may not follow.
use Rattle.rota_judge.proofs.Common.Imports.{◌≡◌, ℕ, ◌+◌, ◌<◌, ◌≤◌, ◌++◌, true, false, cond, inl, inr, refl, ap, ◌∙◌, arith, count_by, negsuc}
use Rattle.rota_judge.proofs.Common.Imports.{Option, Some, None, cases_Bool, sum_by-append, AllByRecursion-append, KeepsOneCell, KeepsSuccession}
use Rattle.rota_judge.proofs.Common.Imports.{is_on, InWeek, Roster, Problem, cell_number, on_cells, h3_monday_row, h3_row, is_forbidden_after, H3}
use Rattle.rota_core.proofs.LogicWords.{rises-append}
use Rattle.rota_items.proofs.ItemLemmas.{any-on_cells, one-on, any_or_none, day_start, on-keeps, rises-on_cells, in-on_cells, sound-cells}
use Rattle.rota_judge.proofs.HardRules.Sound.{at_most, Holds, IsHardRuleSound, IsRowSound}
use Rattle.rota_items.proofs.LogicWords.{in-parts, in-turns, where-holds}

module _ (problem : Problem) where
  module _ (roster : Roster) where
    allowed-after : KeepsSuccession problem roster → (n t : ℕ) → n < problem.nurses → t < problem.shifts →
        is_on problem roster n t 0 ≡ true → (last : Option ℕ) → (problem.past n).last ≡ last → is_forbidden_after problem last t ≡ false
    allowed-after kept n t n_in t_in on None last_is = refl
    allowed-after kept n t n_in t_in on (Some s) last_is = kept.from_history n s t n_in t_in last_is on

    some-on : (n s d : ℕ) → is_on problem roster n s d ≡ true → 1 ≤ count_by roster (on_cells problem n s d)
    some-on n s d on = grind (arith, any_or_none roster (on_cells problem n s d), any-on_cells problem roster n s d)

    monday-few : KeepsSuccession problem roster → (n t : ℕ) → n < problem.nurses → t < problem.shifts →
        is_forbidden_after problem (problem.past n).last t ≡ true → count_by roster (on_cells problem n t 0) ≤ 0
    monday-few kept n t n_in t_in forbidden =
        let allowed : is_on problem roster n t 0 ≡ true → is_forbidden_after problem (problem.past n).last t ≡ false =
        λ on. allowed-after kept n t n_in t_in on (problem.past n).last refl in
        grind (arith, any_or_none roster (on_cells problem n t 0), any-on_cells problem roster n t 0)

    row-few : KeepsOneCell problem roster → KeepsSuccession problem roster → (n d s t : ℕ) →
        n < problem.nurses → d < 6 → s < problem.shifts → t < problem.shifts → problem.is_forbidden s t ≡ true →
        count_by roster (on_cells problem n s d ++ on_cells problem n t (d + 1)) ≤ 1
    row-few one kept n d s t n_in d_in s_in t_in forbidden =
        let parts = sum_by-append (λ c. cond (roster c) 1 0) (on_cells problem n s d) (on_cells problem n t (d + 1)) in
        let first = any_or_none roster (on_cells problem n s d) in
        let second = any_or_none roster (on_cells problem n t (d + 1)) in
        let one_first = one-on problem roster one n d n_in (omega arith) s s_in in
        let one_second = one-on problem roster one n (d + 1) n_in (omega arith) t t_in in
        let kept_in = kept.in_week n d s t n_in d_in s_in t_in in
        grind (arith, any-on_cells problem roster n s d, any-on_cells problem roster n t (d + 1), kept_in)

  pub succession : IsHardRuleSound problem H3
  succession =
      let rows-are = in-turns {n = problem.nurses} (λ n. in-parts
      (in-turns {n = problem.shifts} (λ t. where-holds {test = is_forbidden_after problem (problem.past n).last t} {x = h3_monday_row problem n t}))
      (in-turns {n = 6} (λ d. in-turns {n = problem.shifts} (λ s. in-turns {n = problem.shifts} (λ t.
      where-holds {test = problem.is_forbidden s t} {x = h3_row problem n d s t}))))) in record {
        rows = rows-are.all (IsRowSound problem H3) (λ n n_in. (
          λ t t_in forbidden. record {
            part_is = refl;
            terms = sound-cells problem (negsuc 0) (inr refl) _ _ (on_cells problem n t 0) (in-on_cells problem n t 0 n_in t_in (omega arith))
                (rises-on_cells problem n t 0);
            holds = λ roster _ kept. (at_most roster (on_cells problem n t 0) 0).1 (monday-few roster kept n t n_in t_in forbidden);
          },
          λ d d_in s s_in t t_in forbidden. record {
            part_is = refl;
            terms = sound-cells problem (negsuc 0) (inr refl) _ _ (on_cells problem n s d ++ on_cells problem n t (d + 1))
                (AllByRecursion-append (InWeek problem) (on_cells problem n s d) (on_cells problem n t (d + 1))
                (in-on_cells problem n s d n_in s_in (omega arith)) (in-on_cells problem n t (d + 1) n_in t_in (omega arith)))
                (rises-append (cell_number problem) (day_start problem n d) (day_start problem n (d + 1)) (day_start problem n (d + 1 + 1)) _ _
                (on-keeps problem n s d s_in) (on-keeps problem n t (d + 1) t_in));
            holds = λ roster one kept.
                (at_most roster (on_cells problem n s d ++ on_cells problem n t (d + 1)) 1).1
                (row-few roster one kept n d s t n_in d_in s_in t_in forbidden);
          },
        ));
        mean = λ roster all.
            let each = rows-are.each (Holds roster) all in record {
              from_history = λ n s t n_in t_in last_is on.
                  elim (cases_Bool (problem.is_forbidden s t)) [
                    | inl forbidden ↦
                        let row = (each n n_in).0 t t_in (ap (λ last. is_forbidden_after problem last t) last_is ∙ forbidden) in
                        absurd (omega (arith, some-on roster n t 0 on, (at_most roster (on_cells problem n t 0) 0).0 row))
                    | inr allowed ↦ allowed
                  ];
              in_week = λ n d s t n_in d_in s_in t_in first second.
                  elim (cases_Bool (problem.is_forbidden s t)) [
                    | inl forbidden ↦
                        let row = (each n n_in).1 d d_in s s_in t t_in forbidden in
                        let parts = sum_by-append (λ c. cond (roster c) 1 0) (on_cells problem n s d) (on_cells problem n t (d + 1)) in
                        let few = (at_most roster (on_cells problem n s d ++ on_cells problem n t (d + 1)) 1).0 row in
                        absurd (omega (arith, some-on roster n s d first, some-on roster n t (d + 1) second))
                    | inr allowed ↦ allowed
                  ];
            };
      }
