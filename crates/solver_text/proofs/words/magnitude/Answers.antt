use Rattle.std.proofs.Common.{◌≡◌, ◌<◌, ◌≤◌, ◌^◌, ℕ, length, arith, pos, to_z, w64, Some, None, Option, ℤ, Bool, true, false}
use Rattle.std.proofs.Common.{List, ap, sym, ◌∙◌, take, nat_lt, nat_le, ◌==◌, [], ◌∷◌, true≢false, subst}
use Rattle.std.proofs.Math.Nat.{pow-le-pow_right}
use Rattle.std.proofs.lemmas.Int.{to_z_pos}
use Rattle.std.proofs.lemmas.List.{take_all}
use Rattle.std.proofs.lemmas.Bool.{lt-ltb, le-leb}
use Rattle.std.specs.Option.{option_map_or}
use Rattle.rota_core.specs.Decimal.{decimal, is_decimal}
use Rattle.solver_text.specs.Answers.{magnitude_of}
use Rattle.solver_text.proofs.words.magnitude.Goals as goal

below : (n i : ℕ) → n < 10 ^ i → i < 18 → n < 10 ^ 17
below n i h lt = let le : 10 ^ i ≤ 10 ^ 17 = pow-le-pow_right {n = 10} (omega arith) {i = i} {j = 17} (omega arith) in omega arith

below_all : (n i : ℕ) → n < 10 ^ i → i ≤ 18 → n < 10 ^ 18
below_all n i h lt = let le : 10 ^ i ≤ 10 ^ 18 = pow-le-pow_right {n = 10} (omega arith) {i = i} {j = 18} (omega arith) in omega arith

pub overflow_mul-value : goal.overflow_mul-value
overflow_mul-value c = let h = below c.loop-b.value c.loop-b.b-index c.loop-b.invariant.small (omega arith) in omega arith

pub overflow_add-value : goal.overflow_add-value
overflow_add-value c = let h = below c.loop-b.value c.loop-b.b-index c.loop-b.invariant.small (omega arith) in omega arith

pub overflow_cast-result : goal.overflow_cast-result
overflow_cast-result c = let h = below_all c.loop-b.value c.loop-b.b-index c.loop-b.invariant.small (omega arith) in omega arith

some_bytes : (digits : List ℕ) {empty : Bool} → empty ≡ false → empty ≡ (length digits == 0) → 0 < length digits
some_bytes [] e g = absurd (true≢false (sym g ∙ e))
some_bytes (d ∷ digits) e g = omega arith

magnitude_at : (digits : List ℕ) (n : ℕ) → is_decimal digits ≡ true → n ≡ decimal digits → 0 < length digits →
    length digits ≤ 18 → magnitude_of digits ≡ Some n
magnitude_at digits n e is some short =
    let nonempty : nat_lt 0 (length digits) ≡ true = lt-ltb 0 (length digits) some in
    let fits : nat_le (length digits) 18 ≡ true = le-leb (length digits) 18 short in
    rw (e, nonempty, fits) (ap (λ (m : ℕ). Some m) (sym is))

pub returns : goal.returns
returns c =
    let digits = c.args.digits.now in
    let i = c.loop-b.b-index in
    let all : take i digits ≡ digits = take_all i digits (omega arith) in
    let decimals : is_decimal digits ≡ true =
    (let P : List ℕ → Type 0 = λ ds. is_decimal ds ≡ true in subst P all c.loop-b.invariant.digits)
    in
    let value : c.loop-b.value ≡ decimal digits = c.loop-b.invariant.value ∙ ap (λ (ds : List ℕ). decimal ds) all in
    let small = below_all c.loop-b.value i c.loop-b.invariant.small (omega arith) in
    let positive : to_z w64 c.loop-b.value ≡ pos c.loop-b.value = to_z_pos w64 c.loop-b.value (omega arith) in
    ap (λ (z : ℤ). Some z) positive
    ∙ sym
    (ap (λ (m : Option ℕ). option_map_or (λ n. Some (pos n)) m None)
    (magnitude_at digits c.loop-b.value decimals value
    (omega (arith, some_bytes digits c.if-is_empty.false c.is_empty.ensures)) c.if-digits-gt-MAX_DIGITS.false))
