-- The conditions of a leaf with their surcharges, one after another.
use Rattle.std.proofs.Common.{◌≡◌, ℕ, zero, suc, ◌+◌, ◌<◌, ◌≤◌, ap, ◌∙◌, refl, arith, inl, inr, List, [], ◌∷◌, length, drop, slice_index_or}
use Rattle.std.specs.List.{AllByRecursion}
use Rattle.std.proofs.lemmas.Bool.{cases_lt}
use Rattle.std.proofs.lemmas.List.{drop_all, drop_more}
use Rattle.rota_core.specs.declared.certificate.Condition.{Condition}
use Rattle.rota_core.specs.Limits.{max_price}
use Rattle.rota_certificate.specs.CaseLimits.{AreLimitedCharges, IsLimited, IsLimitedCase}
use Rattle.rota_certificate.specs.Facts.{Case}
use Rattle.rota_certificate.specs.Tariffs.{surcharged}
use Rattle.rota_certificate.specs.declared.surcharges.Surcharged.{Surcharged}
use Rattle.rota_certificate.proofs.ListSteps.{list-more}

-- an index beyond the list gives the default
beyond : (xs : List ℕ) (i : ℕ) → length xs ≤ i → slice_index_or xs i 0 ≡ 0
beyond [] i past = refl
beyond (x ∷ xs) zero past = absurd (omega (arith, past))
beyond (x ∷ xs) (suc i) past = beyond xs i (omega (arith, past))

first-of : (condition : Condition) (case : Case) (surcharges : List ℕ) (i : ℕ) →
    surcharged (condition ∷ case) (drop i surcharges) ≡
    (record { condition = condition; surcharge = slice_index_or surcharges i 0 } ∷ surcharged case (drop (i + 1) surcharges))
unfolding surcharged
first-of condition case surcharges i =
    elim (cases_lt i (length surcharges)) [
      | inl inside ↦
          let more = drop_more surcharges i 0 inside in
          ap (λ (xs : List ℕ). surcharged (condition ∷ case) xs) more
      | inr past ↦
          let none = drop_all i surcharges past in
          let later = drop_all (i + 1) surcharges (omega (arith, past)) in
          rw (none, later, beyond surcharges i past) refl
    ]

pub surcharged-more : (case : Case) (surcharges : List ℕ) (i : ℕ) (condition : Condition) → i < length case →
    condition ≡ slice_index_or case i condition →
    surcharged (drop i case) (drop i surcharges) ≡
    (record { condition = condition; surcharge = slice_index_or surcharges i 0 } ∷ surcharged (drop (i + 1) case) (drop (i + 1) surcharges))
surcharged-more case surcharges i condition inside is =
    ap (λ (rest : Case). surcharged rest (drop i surcharges)) (list-more case i condition inside is) ∙
    first-of condition (drop (i + 1) case) surcharges i

pub surcharged-end : (case : Case) (surcharges : List ℕ) (i : ℕ) → length case ≤ i → surcharged (drop i case) (drop i surcharges) ≡ []
unfolding surcharged
surcharged-end case surcharges i past = ap (λ (rest : Case). surcharged rest (drop i surcharges)) (drop_all i case past)

-- ---- limits of the conditions with their surcharges

pub surcharged-length : (case : Case) (surcharges : List ℕ) → length (surcharged case surcharges) ≡ length case
unfolding surcharged
surcharged-length [] surcharges = refl
surcharged-length (condition ∷ case) [] = omega (arith, surcharged-length case [])
surcharged-length (condition ∷ case) (m ∷ surcharges) = omega (arith, surcharged-length case surcharges)

pub surcharged-each : (P : Condition → Type 0) (case : Case) (surcharges : List ℕ) → AllByRecursion P case →
    AllByRecursion (λ (one : Surcharged). P one.condition) (surcharged case surcharges)
unfolding surcharged
surcharged-each P [] surcharges all = tt
surcharged-each P (condition ∷ case) [] all = (all.0, surcharged-each P case [] all.1)
surcharged-each P (condition ∷ case) (m ∷ surcharges) all = (all.0, surcharged-each P case surcharges all.1)

pub surcharged-small : (most : ℕ) (case : Case) (surcharges : List ℕ) → AllByRecursion (λ m. m ≤ most) surcharges →
    AllByRecursion (λ (one : Surcharged). one.surcharge ≤ most) (surcharged case surcharges)
unfolding surcharged
surcharged-small most [] surcharges all = tt
surcharged-small most (condition ∷ case) [] all = (omega arith, surcharged-small most case [] all)
surcharged-small most (condition ∷ case) (m ∷ surcharges) all = (all.0, surcharged-small most case surcharges all.1)

pub surcharged-limited : (case : Case) (surcharges : List ℕ) → IsLimitedCase case → AllByRecursion (λ m. m ≤ max_price) surcharges →
    AreLimitedCharges (surcharged case surcharges)
surcharged-limited case surcharges limited small = record {
  few = omega (arith, surcharged-length case surcharges, limited.few);
  each = surcharged-each (λ (one : Condition). IsLimited one.fact) case surcharges limited.each;
  small = surcharged-small max_price case surcharges small;
}
