-- The minimum cost of a week's days does not depend on the history of the week, but only on the past from which it starts.
use Rattle.std.proofs.Common.{◌≡◌, ℕ, zero, suc, ◌+◌, ◌-◌, cond, min, refl, ap, ◌∙◌}
use Rattle.std.specs.Prelude.{Option, Some, None}
use Rattle.rota_core.specs.Sizes.{DAYS}
use Rattle.rota_core.specs.declared.values.Past.{Past}
use Rattle.rota_certificate.specs.DayCharges.{choice_cost, past_after}
use Rattle.rota_certificate.specs.Minimums.{least_below, not_allowed}
use Rattle.rota_certificate.specs.NurseBounds.{LeafWeek, Terms, allowed_rebate, choice_value, is_barred, least_choice, least_days}
use Rattle.rota_certificate.specs.Plans.{Pasts, after}
use Rattle.rota_certificate.proofs.Sums.{least-same}

-- the week of a leaf, with this history before it
abbrev pub week_after : LeafWeek → Pasts → LeafWeek
week_after one history = record one { week = after one.week history }

module _ (terms : Terms) (leaf : LeafWeek) (n : ℕ) where
  -- the value of a choice depends only on the values of the rest
  value-alike : (d : ℕ) (past : Past) (one other : Past → ℕ) → ((p : Past) → one p ≡ other p) → (choice : Option ℕ) →
      choice_value terms leaf n d past one choice ≡ choice_value terms leaf n d past other choice
  value-alike d past one other same None =
      ap (λ (r : ℕ). choice_cost terms.unit terms.tariff terms.charged leaf.week n d past None + allowed_rebate leaf n d None + r) (same (past_after d past None))
  value-alike d past one other same (Some s) =
      ap (λ (r : ℕ). cond (is_barred leaf.week past (Some s)) not_allowed
      (choice_cost terms.unit terms.tariff terms.charged leaf.week n d past (Some s) + allowed_rebate leaf n d (Some s) + r)) (same (past_after d past (Some s)))

  pub least_choice-alike : (d : ℕ) (past : Past) (one other : Past → ℕ) → ((p : Past) → one p ≡ other p) →
      least_choice terms leaf n d past one ≡ least_choice terms leaf n d past other
  least_choice-alike d past one other same =
      let on = least-same leaf.week.shifts not_allowed (λ s. choice_value terms leaf n d past one (Some s))
      (λ s. choice_value terms leaf n d past other (Some s)) (λ s. value-alike d past one other same (Some s)) in
      ap (λ (v : ℕ). min v (least_below leaf.week.shifts not_allowed (λ s. choice_value terms leaf n d past one (Some s))))
      (value-alike d past one other same None) ∙
      ap (λ (v : ℕ). min (choice_value terms leaf n d past other None) v) on

  pub history-free : (history : Pasts) (rest : Past → ℕ) (days_left : ℕ) (past : Past) →
      least_days terms (week_after leaf history) n rest days_left past ≡ least_days terms leaf n rest days_left past
  unfolding least_days
  history-free history rest zero past = refl
  history-free history rest (suc days_left) past =
      least_choice-alike (DAYS - suc days_left) past (least_days terms (week_after leaf history) n rest days_left)
      (least_days terms leaf n rest days_left) (history-free history rest days_left)
