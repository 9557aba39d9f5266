-- A nurse's day in a roster: it is a day off, or it has one cell.
use Rattle.std.proofs.Common.{◌≡◌, ℕ, ◌<◌, ◌≢◌, ◌⊎◌, inl, inr, Bool, true, false, cond, ap, sym, ◌∙◌, ◌==◌}
use Rattle.std.specs.Prelude.{Some}
use Rattle.std.proofs.lemmas.Bool.{cases_Bool, eqb-true, eqb-false, false_from_ne_true}
use Rattle.rota_core.specs.SumsBelow.{sum_below, any_below}
use Rattle.rota_certificate.specs.DayCharges.{is_shift}
use Rattle.rota_certificate.proofs.Sums.{sum-at, sum_below-zero, any-none, any-at, any-some, find-below}

-- whether a day has the cell on a shift type with a skill
module _ (S K : ℕ) (has : ℕ → ℕ → Bool) where
  -- the day has no cell
  pub record IsFree : Type 0 where
    pub none : (s k : ℕ) → s < S → k < K → has s k ≡ false

  -- the day has this cell, and no other
  pub record HasOne (shift skill : ℕ) : Type 0 where
    pub shift_in : shift < S
    pub skill_in : skill < K
    pub here : has shift skill ≡ true
    pub alone : (s k : ℕ) → s < S → k < K → has s k ≡ true → (s ≡ shift) × (k ≡ skill)

  abbrev pub on : ℕ → Bool
  on s = any_below K (has s)

  -- the day's sum of a number for each of its cells
  abbrev pub total : (ℕ → ℕ → ℕ) → ℕ
  total f = sum_below S (λ s. sum_below K (λ k. cond (has s k) (f s k) 0))

  pub free-on : IsFree → (s : ℕ) → s < S → on s ≡ false
  free-on free s s_in = any-none K (has s) (λ k k_in. free.none s k s_in k_in)

  pub free-works : IsFree → any_below S on ≡ false
  free-works free = any-none S on (free-on free)

  pub free-total : IsFree → (f : ℕ → ℕ → ℕ) → total f ≡ 0
  free-total free f =
      sum_below-zero S _ (λ s s_in. sum_below-zero K _ (λ k k_in. ap (λ (b : Bool). cond b (f s k) 0) (free.none s k s_in k_in)))

  module _ (shift skill : ℕ) (one : HasOne shift skill) where
    pub one-not : (s k : ℕ) → s < S → k < K → (s ≡ shift → k ≢ skill) → has s k ≡ false
    one-not s k s_in k_in other =
        false_from_ne_true (has s k) (λ holds. let h = one.alone s k s_in k_in holds in other h.0 h.1)

    pub one-on : (s : ℕ) → s < S → on s ≡ is_shift (Some shift) s
    one-on s s_in =
        elim (cases_Bool (shift == s)) [
          | inl same ↦
              let e : shift ≡ s = eqb-true shift s same in
              ap on (sym e) ∙ any-at K skill (has shift) one.skill_in one.here ∙ sym same
          | inr other ↦
              any-none K (has s) (λ k k_in. one-not s k s_in k_in (λ e _. eqb-false shift s other (sym e))) ∙ sym other
        ]

    pub one-works : any_below S on ≡ true
    one-works = any-at S shift on one.shift_in (any-at K skill (has shift) one.skill_in one.here)

    pub one-total : (f : ℕ → ℕ → ℕ) → total f ≡ f shift skill
    one-total f =
        sum-at S shift _ one.shift_in (λ s s_in other. sum_below-zero K _ (λ k k_in.
        ap (λ (b : Bool). cond b (f s k) 0) (one-not s k s_in k_in (λ same _. other same)))) ∙
        (sum-at K skill _ one.skill_in (λ k k_in other.
        ap (λ (b : Bool). cond b (f shift k) 0) (one-not shift k one.shift_in k_in (λ _ same. other same))) ∙
        ap (λ (b : Bool). cond b (f shift skill) 0) one.here)

  -- a day is free or has one cell, if no two of its cells differ
  pub day-is : ((s k t l : ℕ) → s < S → k < K → t < S → l < K → has s k ≡ true → has t l ≡ true → (s ≡ t) × (k ≡ l)) →
      IsFree ⊎ ((shift skill : ℕ) × HasOne shift skill)
  day-is same =
      elim (find-below S on) [
        | inl none ↦ inl (record { none = λ s k s_in k_in. false_from_ne_true (has s k) (λ holds. absurd (cc (none s s_in, any-at K k (has s) k_in holds))) })
        | inr found ↦
            let k = any-some K (has found.0) found.2 in
            inr (
              found.0,
              k.0,
              record {
                shift_in = found.1;
                skill_in = k.1;
                here = k.2;
                alone = λ s l s_in l_in holds. same s l found.0 k.0 s_in l_in found.1 k.1 holds k.2;
              },
            )
      ]
