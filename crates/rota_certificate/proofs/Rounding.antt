-- The rounded bound of a case is at most the cost of each plan in it: the cost is a multiple of 5, and the parity of the charges of
-- shift runs says whether it is a multiple of 10.
use Rattle.std.proofs.Common.{◌≡◌, ℕ, ◌+◌, ◌*◌, ◌≤◌, ◌==◌, ◌||◌, Bool, true, false, sym, ◌∙◌, refl, inl, inr, ◌⊎◌, arith, [], ◌∷◌}
use Rattle.std.specs.Prelude.{◌/◌, ◌%◌}
use Rattle.std.specs.List.{list_any}
use Rattle.std.proofs.lemmas.Bool.{cases_Bool, eqb-true, eqb-false}
use Rattle.rota_core.specs.declared.certificate.Condition.{Condition}
use Rattle.rota_core.specs.declared.certificate.Fact.{Fact}
use Rattle.rota_core.specs.declared.certificate.Fact.TheVariants.{Charges, Choice, EvenShiftRuns, Nurses}
use Rattle.rota_certificate.specs.CertificateBounds.{rounded_up, says_even, says_odd}
use Rattle.rota_certificate.specs.Facts.{Case, IsIn, has_even_shift_runs, is_fact}
use Rattle.rota_certificate.specs.Plans.{Plan}

either : (a b : Bool) → (a || b) ≡ true → (a ≡ true) ⊎ (b ≡ true)
either true b one = inl refl
either false b one = inr one

module _ (plan : Plan) where
  even-step : (fact : Fact) (holds : Bool) → is_fact plan fact ≡ holds → says_even fact holds ≡ true → has_even_shift_runs plan ≡ true
  even-step EvenShiftRuns true meets says = meets
  even-step EvenShiftRuns false meets says = absurd (cc says)
  even-step (Choice one) holds meets says = absurd (cc says)
  even-step (Nurses limit) holds meets says = absurd (cc says)
  even-step (Charges limit) holds meets says = absurd (cc says)

  odd-step : (fact : Fact) (holds : Bool) → is_fact plan fact ≡ holds → says_odd fact holds ≡ true → has_even_shift_runs plan ≡ false
  odd-step EvenShiftRuns true meets says = absurd (cc says)
  odd-step EvenShiftRuns false meets says = meets
  odd-step (Choice one) holds meets says = absurd (cc says)
  odd-step (Nurses limit) holds meets says = absurd (cc says)
  odd-step (Charges limit) holds meets says = absurd (cc says)

  even-case : (case : Case) → IsIn plan case → list_any (λ (one : Condition). says_even one.fact one.holds) case ≡ true → has_even_shift_runs plan ≡ true
  even-case [] is_in says = absurd (cc says)
  even-case (condition ∷ case) is_in says =
      elim (either (says_even condition.fact condition.holds) (list_any (λ (one : Condition). says_even one.fact one.holds) case) says) [
        | inl here ↦ even-step condition.fact condition.holds is_in.0 here
        | inr later ↦ even-case case is_in.1 later
      ]

  odd-case : (case : Case) → IsIn plan case → list_any (λ (one : Condition). says_odd one.fact one.holds) case ≡ true → has_even_shift_runs plan ≡ false
  odd-case [] is_in says = absurd (cc says)
  odd-case (condition ∷ case) is_in says =
      elim (either (says_odd condition.fact condition.holds) (list_any (λ (one : Condition). says_odd one.fact one.holds) case) says) [
        | inl here ↦ odd-step condition.fact condition.holds is_in.0 here
        | inr later ↦ odd-case case is_in.1 later
      ]

even-rounded : (runs rest sum cost : ℕ) → cost ≡ 15 * runs + 10 * rest → sum ≤ 1000 * cost → runs % 2 ≡ 0 → (sum + 9999) / 10000 * 10 ≤ cost
even-rounded runs rest sum cost is below even = omega (arith, is, below, even)

odd-rounded : (runs rest sum cost : ℕ) → cost ≡ 15 * runs + 10 * rest → sum ≤ 1000 * cost → runs % 2 ≡ 1 → (sum + 4999) / 10000 * 10 + 5 ≤ cost
odd-rounded runs rest sum cost is below odd = omega (arith, is, below, odd)

fifth-rounded : (runs rest sum cost : ℕ) → cost ≡ 15 * runs + 10 * rest → sum ≤ 1000 * cost → (sum + 4999) / 5000 * 5 ≤ cost
fifth-rounded runs rest sum cost is below = omega (arith, is, below)

even-is : (runs : ℕ) → (runs % 2 == 0) ≡ true → runs % 2 ≡ 0
even-is runs even = eqb-true (runs % 2) 0 even

odd-is : (runs : ℕ) → (runs % 2 == 0) ≡ false → runs % 2 ≡ 1
odd-is runs odd =
    let other : runs % 2 ≡ 0 → ⊥ = eqb-false (runs % 2) 0 odd in
    grind (arith, other)

pub rounded-within : (plan : Plan) (case : Case) (runs rest sum cost : ℕ) → IsIn plan case → (has_even_shift_runs plan ≡ (runs % 2 == 0)) →
    cost ≡ 15 * runs + 10 * rest → sum ≤ 1000 * cost → rounded_up case sum ≤ cost
rounded-within plan case runs rest sum cost is_in parity is below =
    elim (cases_Bool (list_any (λ (one : Condition). says_even one.fact one.holds) case)) [
      | inl even ↦
          rw even (even-rounded runs rest sum cost is below (even-is runs (sym parity ∙ even-case plan case is_in even)))
      | inr not_even ↦
          elim (cases_Bool (list_any (λ (one : Condition). says_odd one.fact one.holds) case)) [
            | inl odd ↦
                rw (not_even, odd) (odd-rounded runs rest sum cost is below (odd-is runs (sym parity ∙ odd-case plan case is_in odd)))
            | inr neither ↦ rw (not_even, neither) (fifth-rounded runs rest sum cost is below)
          ]
    ]
