-- The table of endings.
use Rattle.std.proofs.Common.{◌≡◌, ℕ, zero, suc, ◌+◌, ◌-◌, ◌*◌, ◌/◌, ◌%◌, ◌<◌, Bool, true, ◌&&◌, T, eqb}
use Rattle.std.proofs.Common.{get_or, inl, inr, arith, eq-zero-or-pos, eqb→eq}
use lib.Ieee.Fits.{and_l, and_r}
use Rattle.text_sink.specs.declared.digits.TheConstants.{ENDINGS}

-- the four bytes of a pair
pub record Ends (p : ℕ) : Type 0 where
  pub tens : get_or ENDINGS (p * 4) 0 ≡ 48 + p / 10
  pub ones : get_or ENDINGS (p * 4 + 1) 0 ≡ 48 + p % 10
  pub blank : get_or ENDINGS (p * 4 + 2) 0 ≡ 32
  pub rest : get_or ENDINGS (p * 4 + 3) 0 ≡ 32

abbrev is_ending : ℕ → Bool
is_ending p =
    (eqb (get_or ENDINGS (p * 4) 0) (48 + p / 10) && eqb (get_or ENDINGS (p * 4 + 1) 0) (48 + p % 10))
    && (eqb (get_or ENDINGS (p * 4 + 2) 0) 32 && eqb (get_or ENDINGS (p * 4 + 3) 0) 32)

abbrev are_endings : ℕ → Bool
are_endings zero = true
are_endings (suc p) = is_ending p && are_endings p

ending_is : (p : ℕ) → T (is_ending p) → Ends p
ending_is p t =
    let digits = and_l (eqb (get_or ENDINGS (p * 4) 0) (48 + p / 10) && eqb (get_or ENDINGS (p * 4 + 1) 0) (48 + p % 10)) _ t in
    let blanks = and_r (eqb (get_or ENDINGS (p * 4) 0) (48 + p / 10) && eqb (get_or ENDINGS (p * 4 + 1) 0) (48 + p % 10)) _ t in
    record {
      tens = eqb→eq _ _ (and_l _ _ digits);
      ones = eqb→eq _ _ (and_r _ _ digits);
      blank = eqb→eq _ _ (and_l _ _ blanks);
      rest = eqb→eq _ _ (and_r _ _ blanks);
    }

below : (n p : ℕ) → T (are_endings n) → p < n → Ends p
below zero p t h = absurd (omega arith)
below (suc n) p t h =
    elim (eq-zero-or-pos (n - p)) [
      | inl z ↦ let e : p ≡ n = omega arith in rw e (ending_is n (and_l _ (are_endings n) t))
      | inr g ↦ below n p (and_r _ (are_endings n) t) (omega arith)
    ]

pub ending_at : (p : ℕ) → p < 100 → Ends p
ending_at p h = below 100 p tt h
