-- The charges of the runs on all shift types are two: on the shift type of the day, and on the last one.
use Rattle.std.proofs.Common.{◌≡◌, ℕ, ◌+◌, ◌<◌, ◌≢◌, inl, inr, Bool, true, false, cond, refl, ap, sym, ◌∙◌, ◌==◌, arith}
use Rattle.std.specs.Prelude.{Option, Some, None, IfSome}
use Rattle.std.proofs.lemmas.Bool.{cases_Bool, cond-true, cond-false, eq-eqb, eqb-true, eqb-false, false_from_ne_true}
use Rattle.rota_core.specs.SumsBelow.{sum_below}
use Rattle.rota_core.specs.Problem.{Problem}
use Rattle.rota_core.specs.declared.values.Past.{Past}
use Rattle.rota_certificate.specs.DayCharges.{is_shift, run_charge, shift_charges}
use Rattle.rota_certificate.specs.ShiftCharges.{charge_of_last, ended_charge, going_charge}
use Rattle.rota_certificate.proofs.Sums.{sum-at, sum-two, sum_below-zero}

differs : (a b : ℕ) → b ≢ a → (a == b) ≡ false
differs a b other = false_from_ne_true (a == b) (λ same. other (sym (eqb-true a b same)))

module _ (problem : Problem) (run : ℕ) where
  -- the charge of a shift type, which may be the last one, the choice of the day, or both
  abbrev charge : (is_last is_choice : Bool) → ℕ → ℕ
  charge is_last is_choice s = run_charge (cond is_last run 0) is_choice (problem.limits s)

  abbrev charge_on : (last choice : Option ℕ) → ℕ → ℕ
  charge_on last choice s = charge (is_shift last s) (is_shift choice s) s

  -- equal tests give equal charges
  charge-at : (s : ℕ) (a b c d : Bool) → a ≡ b → c ≡ d → charge a c s ≡ charge b d s
  charge-at s a b c d e f = ap (λ (x : Bool). charge x c s) e ∙ ap (λ (y : Bool). charge b y s) f

  abbrev going : (last choice : Option ℕ) → ℕ
  going last None = 0
  going last (Some s) = charge (is_shift last s) true s

  two-charges : (last choice : Option ℕ) → IfSome choice (λ s. s < problem.shifts) → IfSome last (λ s. s < problem.shifts) →
      going last choice + charge_of_last problem run last choice ≡ sum_below problem.shifts (charge_on last choice)
  two-charges None None choice_in last_in = sym (sum_below-zero problem.shifts _ (λ s _. refl))
  two-charges (Some l) None choice_in last_in =
      let all : sum_below problem.shifts (charge_on (Some l) None) ≡ charge_on (Some l) None l =
      sum-at problem.shifts l (charge_on (Some l) None) last_in
      (λ j _ other. ap (λ (x : Bool). charge x false j) (differs l j other)) in
      let here : charge_on (Some l) None l ≡ charge true false l = ap (λ (x : Bool). charge x false l) (eq-eqb l l refl) in
      omega (arith, all ∙ here)
  two-charges None (Some c) choice_in last_in =
      let all : sum_below problem.shifts (charge_on None (Some c)) ≡ charge_on None (Some c) c =
      sum-at problem.shifts c (charge_on None (Some c)) choice_in
      (λ j _ other. ap (λ (y : Bool). charge false y j) (differs c j other)) in
      let here : charge_on None (Some c) c ≡ charge false true c = ap (λ (y : Bool). charge false y c) (eq-eqb c c refl) in
      omega (arith, all ∙ here)
  two-charges (Some l) (Some c) choice_in last_in =
      let here : charge_on (Some l) (Some c) c ≡ charge (l == c) true c = ap (λ (y : Bool). charge (l == c) y c) (eq-eqb c c refl) in
      elim (cases_Bool (c == l)) [
        | inl same ↦
            let e : c ≡ l = eqb-true c l same in
            let all : sum_below problem.shifts (charge_on (Some l) (Some c)) ≡ charge_on (Some l) (Some c) c =
            sum-at problem.shifts c (charge_on (Some l) (Some c)) choice_in
            (λ j _ other. charge-at j (l == j) false (c == j) false (differs l j (λ is. other (is ∙ sym e))) (differs c j other)) in
            let ended : charge_of_last problem run (Some l) (Some c) ≡ 0 = cond-true (c == l) 0 (run_charge run false (problem.limits l)) same in
            omega (arith, all ∙ here, ended)
        | inr other ↦
            let all : sum_below problem.shifts (charge_on (Some l) (Some c)) ≡ charge_on (Some l) (Some c) c + charge_on (Some l) (Some c) l =
            sum-two problem.shifts c l (charge_on (Some l) (Some c)) choice_in last_in (eqb-false c l other)
            (λ j _ not_c not_l. charge-at j (l == j) false (c == j) false (differs l j not_l) (differs c j not_c)) in
            let there : charge_on (Some l) (Some c) l ≡ charge true false l = charge-at l (l == l) true (c == l) false (eq-eqb l l refl) other in
            let ended : charge_of_last problem run (Some l) (Some c) ≡ charge true false l =
            cond-false (c == l) 0 (run_charge run false (problem.limits l)) other in
            omega (arith, all, here, there, ended)
      ]

going-is : (problem : Problem) (past : Past) (choice : Option ℕ) → going_charge problem past choice ≡ going problem past.shift_run past.last choice
going-is problem past None = refl
going-is problem past (Some s) = refl

pub shift_charges-are : (problem : Problem) (past : Past) (choice : Option ℕ) → IfSome choice (λ s. s < problem.shifts) →
    IfSome past.last (λ s. s < problem.shifts) →
    going_charge problem past choice + ended_charge problem past choice ≡ shift_charges problem past choice
shift_charges-are problem past choice choice_in last_in =
    ap (λ (g : ℕ). g + ended_charge problem past choice) (going-is problem past choice) ∙
    two-charges problem past.shift_run past.last choice choice_in last_in
