-- On each day of a nurse, a roster that keeps the hard rules has a choice that the recursion lets her make.
use Rattle.std.proofs.Common.{◌≡◌, ℕ, suc, ◌+◌, ◌-◌, ◌<◌, ◌≤◌, inl, inr, Bool, true, false, not, refl, ap, sym, ◌∙◌, arith, add-one}
use Rattle.std.proofs.Common.{◌==◌, ◌&&◌, ◌||◌}
use Rattle.std.specs.Prelude.{IfSome, Option, Some, None}
use Rattle.std.proofs.lemmas.Bool.{cases_Bool, false_from_ne_true, cond-true, cond-false, eq-eqb, or_left, or_right, and_from}
use Rattle.rota_core.specs.Sizes.{DAYS}
use Rattle.rota_core.specs.HardRules.{is_on, works, KeepsHardRules}
use Rattle.rota_core.specs.Roster.{Roster, cell, InWeek}
use Rattle.rota_core.specs.Problem.{Problem}
use Rattle.rota_core.specs.SumsBelow.{any_below}
use Rattle.rota_core.specs.declared.values.Cell.{Cell}
use Rattle.rota_core.specs.declared.values.Past.{Past}
use Rattle.rota_certificate.specs.DayCharges.{choice_cost, past_after}
use Rattle.rota_certificate.specs.Facts.{has_choice}
use Rattle.rota_certificate.specs.Minimums.{not_allowed}
use Rattle.rota_certificate.specs.NurseBounds.{LeafWeek, Terms, allowed_rebate, choice_value, day_rebate, is_barred, least_choice, may_be_off, may_have, rebate}
use Rattle.rota_certificate.specs.NurseBounds.{is_held_apart, is_held_apart_on, is_only_held}
use Rattle.rota_certificate.specs.NurseCosts.{AllowsChoices}
use Rattle.rota_core.specs.Prices.{Prices, ArePrices, max_price}
use Rattle.rota_certificate.proofs.Days.{IsFree, HasOne, day-is, free-on, free-works, free-total, one-on, one-works, one-total}
use Rattle.rota_certificate.proofs.DaySteps.{Chooses, Follows, follows-off, follows-on}
use Rattle.rota_certificate.proofs.Sums.{any-none, any-some, least-at}

-- a test that implies another does not pass without it
not-both : (one other : Bool) → (one ≡ true → other ≡ true) → (one && not other) ≡ false
not-both true other is = ap not (is refl)
not-both false other is = refl

module _ (terms : Terms) (one : LeafWeek) (roster : Roster) (n : ℕ) (within : ArePrices one.prices) (keeps : KeepsHardRules one.week roster)
    (n_in : n < one.week.nurses) (allows : AllowsChoices one (record { week = one.week; roster = roster }) n) where
  abbrev problem : Problem
  problem = one.week

  abbrev prices : Prices
  prices = one.prices

  abbrev has : ℕ → ℕ → ℕ → Bool
  has d s k = roster (cell n d s k)

  in_week : (d s k : ℕ) → d < DAYS → s < problem.shifts → k < problem.skills → InWeek problem (cell n d s k)
  in_week d s k d_in s_in k_in = record { nurse_in = n_in; day_in = d_in; shift_in = s_in; skill_in = k_in }

  held-in : (d s k : ℕ) → d < DAYS → s < problem.shifts → k < problem.skills → problem.is_held (cell n d s k) ≡ true → has d s k ≡ true
  held-in d s k d_in s_in k_in held = keeps.held (cell n d s k) (record { in_week = in_week d s k d_in s_in k_in; in_roster = held })

  pub same-cell : (d : ℕ) → d < DAYS → (s k t l : ℕ) → s < problem.shifts → k < problem.skills → t < problem.shifts → l < problem.skills →
      has d s k ≡ true → has d t l ≡ true → (s ≡ t) × (k ≡ l)
  same-cell d d_in s k t l s_in k_in t_in l_in one other =
      let same = keeps.of_competition.one_cell (cell n d s k) (cell n d t l)
      (record { in_week = in_week d s k d_in s_in k_in; in_roster = one })
      (record { in_week = in_week d t l d_in t_in l_in; in_roster = other }) refl refl in
      (ap (λ (c : Cell). c.shift) same, ap (λ (c : Cell). c.skill) same)

  -- on a day off no cell is held
  free-chooses : (d : ℕ) → d < DAYS → IsFree problem.shifts problem.skills (has d) → Chooses problem prices roster n d None
  free-chooses d d_in free =
      let none : works problem problem.is_held n d ≡ false =
      any-none problem.shifts _ (λ s s_in. any-none problem.skills _ (λ k k_in.
      false_from_ne_true _ (λ held. absurd (cc (held-in d s k d_in s_in k_in held, free.none s k s_in k_in))))) in
      let opened : may_be_off problem n d ≡ true = rw none refl in
      record {
        opened = opened;
        on = free-on problem.shifts problem.skills (has d) free;
        working = free-works problem.shifts problem.skills (has d) free;
        requested = free-total problem.shifts problem.skills (has d) free (λ s k. problem.requests n d s);
        assigned = free-total problem.shifts problem.skills (has d) free (λ s k. 1);
        worth =
            omega (
              arith,
              cond-true (may_be_off problem n d) max_price not_allowed opened,
              free-total problem.shifts problem.skills (has d) free (prices d),
            );
      }

  -- no cell but the one that she has is held that day
  none-apart : (d s k : ℕ) → d < DAYS → HasOne problem.shifts problem.skills (has d) s k →
      any_below problem.shifts (is_held_apart_on problem n d s k) ≡ false
  none-apart d s k d_in have =
      any-none problem.shifts (is_held_apart_on problem n d s k) (λ t t_in.
      any-none problem.skills (is_held_apart problem n d s k t) (λ l l_in.
      not-both (problem.is_held (cell n d t l)) (t == s && l == k) (λ held.
      let same = have.alone t l t_in l_in (held-in d t l d_in t_in l_in held) in
      and_from _ _ (eq-eqb t s same.0) (eq-eqb l k same.1))))

  -- she may have the cell that she has
  may-have : (d s k : ℕ) → d < DAYS → HasOne problem.shifts problem.skills (has d) s k → may_have problem n d s k ≡ true
  may-have d s k d_in have =
      let skilled = keeps.of_competition.skills (cell n d s k)
      (record { in_week = in_week d s k d_in have.shift_in have.skill_in; in_roster = have.here }) in
      let allowed : (may_be_off problem n d || is_only_held problem n d s k) ≡ true =
      elim (cases_Bool (works problem problem.is_held n d)) [
        | inl some ↦
            let t = any-some problem.shifts _ some in
            let l = any-some problem.skills _ t.2 in
            let same = have.alone t.0 l.0 t.1 l.1 (held-in d t.0 l.0 d_in t.1 l.1 l.2) in
            let held = sym (ap (λ a. problem.is_held (cell n d a l.0)) same.0 ∙ ap (λ b. problem.is_held (cell n d s b)) same.1) ∙ l.2 in
            or_right _ _ (and_from _ _ held (ap not (none-apart d s k d_in have)))
        | inr none ↦ or_left _ _ (ap not none)
      ] in
      and_from _ _ skilled allowed

  one-chooses : (d s k : ℕ) → d < DAYS → HasOne problem.shifts problem.skills (has d) s k → Chooses problem prices roster n d (Some s)
  one-chooses d s k d_in have = record {
    opened = have.shift_in;
    on = one-on problem.shifts problem.skills (has d) s k have;
    working = one-works problem.shifts problem.skills (has d) s k have;
    requested = one-total problem.shifts problem.skills (has d) s k have (λ s k. problem.requests n d s);
    assigned = one-total problem.shifts problem.skills (has d) s k have (λ s k. 1);
    worth =
        let least = least-at problem.skills not_allowed k (λ k. rebate problem prices n d s k) have.skill_in in
        let here = cond-true (may_have problem n d s k) (max_price - prices d s k) not_allowed (may-have d s k d_in have) in
        omega (arith, least, here, within d s k, one-total problem.shifts problem.skills (has d) s k have (prices d));
  }

  -- ---- the minimum is at most the value of the roster's choice

  -- the cost of the choice, its rebate, and the value of the rest
  abbrev pub chosen_value : (day : ℕ) → Past → (rest : Past → ℕ) → Option ℕ → ℕ
  chosen_value d past rest choice =
      choice_cost terms.unit terms.tariff terms.charged problem n d past choice + day_rebate problem prices n d choice +
      rest (past_after d past choice)

  -- the roster has the choice
  has-choice : (d : ℕ) (choice : Option ℕ) → Chooses problem prices roster n d choice → has_choice problem roster n d choice ≡ true
  has-choice d None chooses = rw chooses.working refl
  has-choice d (Some s) chooses = chooses.on s chooses.opened ∙ eq-eqb s s refl

  choice-inside : (d : ℕ) (choice : Option ℕ) → Chooses problem prices roster n d choice → IfSome choice (λ s. s < problem.shifts)
  choice-inside d None chooses = tt
  choice-inside d (Some s) chooses = chooses.opened

  rebate-is : (d : ℕ) (choice : Option ℕ) → d < DAYS → Chooses problem prices roster n d choice →
      allowed_rebate one n d choice ≡ day_rebate problem prices n d choice
  rebate-is d choice d_in chooses =
      cond-true (one.may_choose n d choice) (day_rebate problem prices n d choice) not_allowed
      (allows d choice d_in (choice-inside d choice chooses) (has-choice d choice chooses))

  least-allowed : (d : ℕ) (past : Past) (rest : Past → ℕ) (choice : Option ℕ) → d < DAYS → Chooses problem prices roster n d choice →
      is_barred problem past choice ≡ false → least_choice terms one n d past rest ≤ chosen_value d past rest choice
  least-allowed d past rest None d_in chooses may = omega (arith, rebate-is d None d_in chooses)
  least-allowed d past rest (Some s) d_in chooses may =
      let least = least-at problem.shifts not_allowed s (λ t. choice_value terms one n d past rest (Some t)) chooses.opened in
      omega (
        arith,
        least,
        cond-false (is_barred problem past (Some s)) not_allowed
            (choice_cost terms.unit terms.tariff terms.charged problem n d past (Some s) + allowed_rebate one n d (Some s) +
            rest (past_after d past (Some s))) may,
        rebate-is d (Some s) d_in chooses,
      )

  -- a choice for the day, with its past after it
  pub record Goes (d : ℕ) (past : Past) (rest : Past → ℕ) : Type 0 where
    pub choice : Option ℕ
    pub chooses : Chooses problem prices roster n d choice
    pub follows : Follows problem prices roster n (suc d) (past_after d past choice)
    pub least : least_choice terms one n d past rest ≤ chosen_value d past rest choice

  pub goes : (d : ℕ) (past : Past) (rest : Past → ℕ) → d < DAYS → Follows problem prices roster n d past → Goes d past rest
  goes d past rest d_in follows =
      elim (day-is problem.shifts problem.skills (has d) (same-cell d d_in)) [
        | inl free ↦
            let chooses = free-chooses d d_in free in
            record {
              choice = None;
              chooses = chooses;
              follows = follows-off problem prices roster n d past follows chooses;
              least = least-allowed d past rest None d_in chooses refl;
            }
        | inr cell ↦
            let s = cell.0 in
            let chooses = one-chooses d s cell.1 d_in cell.2 in
            let here : is_on problem roster n s d ≡ true = chooses.on s cell.2.shift_in ∙ eq-eqb s s refl in
            record {
              choice = Some s;
              chooses = chooses;
              follows = follows-on problem prices roster n d past follows s chooses (λ more t t_in next.
                  keeps.of_competition.succession.in_week n d s t n_in (omega arith) cell.2.shift_in t_in here (rw add-one next));
              least = least-allowed d past rest (Some s) d_in chooses (follows.allows d_in s cell.2.shift_in here);
            }
      ]
