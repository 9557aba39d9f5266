-- The recursion of the nurse's bound, as the code goes through it.
use Rattle.std.proofs.Common.{◌≡◌, ℕ, zero, suc, ◌+◌, ◌-◌, ◌≤◌, inl, inr, refl, ap, sym, ◌∙◌, arith}
use Rattle.std.specs.Prelude.{Option, Some, None}
use Rattle.std.proofs.lemmas.Bool.{cases_Bool, cond-true, cond-false}
use Rattle.rota_core.specs.Sizes.{DAYS}
use Rattle.rota_core.specs.Prices.{Prices, max_price}
use Rattle.rota_core.specs.Problem.{Problem}
use Rattle.rota_core.specs.declared.values.Past.{Past}
use Rattle.rota_certificate.specs.Minimums.{not_allowed}
use Rattle.rota_certificate.specs.NurseBounds.{LeafWeek, Terms, allowed_rebate, choice_value, day_rebate, least_choice, least_days, may_be_off, rebate}
use Rattle.rota_certificate.proofs.Sums.{least-start}

module _ (terms : Terms) (one : LeafWeek) (n : ℕ) where
  pub least_days-end : (rest : Past → ℕ) (past : Past) → least_days terms one n rest 0 past ≡ rest past
  unfolding least_days
  least_days-end rest past = refl

  pub least_days-step : (rest : Past → ℕ) (days_left d : ℕ) (past : Past) → d + suc days_left ≡ DAYS →
      least_days terms one n rest (suc days_left) past ≡ least_choice terms one n d past (least_days terms one n rest days_left)
  unfolding least_days
  least_days-step rest days_left d past all =
      let e : DAYS - suc days_left ≡ d = omega arith in
      ap (λ day. least_choice terms one n day past (least_days terms one n rest days_left)) e

  pub least_days-at_end : (rest : Past → ℕ) (days_left : ℕ) (past : Past) → days_left ≡ 0 → rest past ≡ least_days terms one n rest days_left past
  least_days-at_end rest days_left past none = sym (least_days-end rest past) ∙ ap (λ l. least_days terms one n rest l past) (sym none)

  pub least_days-is : (rest : Past → ℕ) (days_left : ℕ) (past : Past) → 1 ≤ days_left → days_left ≤ DAYS →
      least_choice terms one n (6 - (days_left - 1)) past (least_days terms one n rest (days_left - 1)) ≡
      least_days terms one n rest days_left past
  least_days-is rest days_left past some within =
      let e : suc (days_left - 1) ≡ days_left = omega arith in
      sym (least_days-step rest (days_left - 1) (6 - (days_left - 1)) past (omega arith)) ∙ ap (λ l. least_days terms one n rest l past) e

  pub least_choice-small : (d : ℕ) (past : Past) (rest : Past → ℕ) → least_choice terms one n d past rest ≤ not_allowed
  least_choice-small d past rest =
      let least = least-start one.week.shifts not_allowed (λ s. choice_value terms one n d past rest (Some s)) in omega (arith, least)

  pub least_days-small : (rest : Past → ℕ) (days_left : ℕ) (past : Past) → 1 ≤ days_left → least_days terms one n rest days_left past ≤ not_allowed
  unfolding least_days
  least_days-small rest zero past some = absurd (omega arith)
  least_days-small rest (suc days_left) past some = least_choice-small (DAYS - suc days_left) past (least_days terms one n rest days_left)

pub day_rebate-small : (problem : Problem) (prices : Prices) (n d : ℕ) (choice : Option ℕ) → day_rebate problem prices n d choice ≤ not_allowed
day_rebate-small problem prices n d None =
    elim (cases_Bool (may_be_off problem n d)) [
      | inl free ↦ omega (arith, cond-true (may_be_off problem n d) max_price not_allowed free)
      | inr held ↦ omega (arith, cond-false (may_be_off problem n d) max_price not_allowed held)
    ]
day_rebate-small problem prices n d (Some s) = least-start problem.skills not_allowed (rebate problem prices n d s)

pub allowed_rebate-small : (one : LeafWeek) (n d : ℕ) (choice : Option ℕ) → allowed_rebate one n d choice ≤ not_allowed
allowed_rebate-small one n d choice =
    elim (cases_Bool (one.may_choose n d choice)) [
      | inl may ↦
          omega (
            arith,
            cond-true (one.may_choose n d choice) (day_rebate one.week one.prices n d choice) not_allowed may,
            day_rebate-small one.week one.prices n d choice,
          )
      | inr not_allowed_to ↦
          omega (arith, cond-false (one.may_choose n d choice) (day_rebate one.week one.prices n d choice) not_allowed not_allowed_to)
    ]
