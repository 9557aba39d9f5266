-- Truth values in words.
use Rattle.std.proofs.Common.{◌≡◌, ◌≢◌, ℕ, zero, suc, ◌+◌, ◌-◌, ◌*◌, ◌^◌, ◌/◌, ◌%◌, ◌<◌, ◌≤◌, min, Bool, true, false, ◌==◌}
use Rattle.std.proofs.Common.{List, length, map, get_or, set, replicate, refl, sym, ap, ◌∙◌, arith, inl, inr}
use Rattle.std.proofs.Math.ListN.{length-set}
use Rattle.std.specs.Prelude.{bit_or}
use Rattle.std.specs.Int.{w64, bit_at, trailing_zeros}
use Rattle.std.specs.Int.Count.{trailing_of_zero}
use Rattle.std.specs.List.{range_with_len}
use Rattle.std.proofs.lemmas.Bool.{cases_eq, cases_lt}
use Rattle.std.proofs.lemmas.List.{get_or_past, get_or_default, get_or-replicate, get_or-set_same, get_or-set_other, length-replicate}
use Rattle.std.proofs.lemmas.List.FromFn.{fill_by_all, length-map-range_with_len, get_or-map-range_with_len}
use Rattle.std.proofs.lemmas.Nat.{shr-shr, shr_le}
use Rattle.std.proofs.lemmas.Nat.Bits.{bit_at-zero, bit_at-trailing_zeros, bit_at_set_same, bit_at_set_other}
use Rattle.rota_core.specs.Bits.{is_set, truths_of}

pub length-truths_of : (words : List ℕ) (n : ℕ) → length (truths_of words n) ≡ n
unfolding truths_of
length-truths_of words n = length-map-range_with_len (is_set words) 0 n

pub get_or-truths_of : (words : List ℕ) (n i : ℕ) → i < n → get_or (truths_of words n) i false ≡ is_set words i
unfolding truths_of
get_or-truths_of words n i h = get_or-map-range_with_len (is_set words) 0 n i i false h (omega arith)

is_set-zeros : (m i : ℕ) → i < 64 * m → is_set (replicate m 0) i ≡ false
is_set-zeros m i h =
    let within : i / 64 < m = omega arith in
    rw (get_or-replicate {A = ℕ} m (i / 64) 0 0 within, bit_at-zero (i % 64)) refl

-- words of zeros hold no truth value
pub truths_of-zeros : (m n : ℕ) → n ≤ 64 * m → truths_of (replicate m 0) n ≡ replicate n false
unfolding truths_of
truths_of-zeros m n h =
    sym (fill_by_all (is_set (replicate m 0)) (replicate n false) n false (length-replicate n false) (λ i within.
    get_or-replicate n i false false within ∙ sym (is_set-zeros m i (omega arith))))

-- the word with one more bit
abbrev pub with_bit : ℕ → ℕ → ℕ
with_bit word k = bit_or word (1 * 2 ^ k % 2 ^ 64)

is_set-with_bit_same : (words : List ℕ) (i : ℕ) → i / 64 < length words
    → is_set (set words (i / 64) (with_bit (get_or words (i / 64) 0) (i % 64))) i ≡ true
is_set-with_bit_same words i h =
    let small : i % 64 < 64 = omega arith in
    rw (
      get_or-set_same words (i / 64) (with_bit (get_or words (i / 64) 0) (i % 64)) 0 h,
      bit_at_set_same w64 (get_or words (i / 64) 0) (i % 64) small,
    ) refl

is_set-with_bit_other : (words : List ℕ) (i j : ℕ) → i / 64 < length words → j ≢ i
    → is_set (set words (i / 64) (with_bit (get_or words (i / 64) 0) (i % 64))) j ≡ is_set words j
is_set-with_bit_other words i j h other =
    let word = with_bit (get_or words (i / 64) 0) (i % 64) in
    let small : i % 64 < 64 = omega arith in
    elim (cases_eq (j / 64) (i / 64)) [
      | inl e ↦
          let apart : j % 64 ≢ i % 64 = λ f. other (omega arith) in
          rw (e, get_or-set_same words (i / 64) word 0 h, bit_at_set_other w64 (get_or words (i / 64) 0) (i % 64) small (j % 64) apart) refl
      | inr ne ↦ rw (get_or-set_other words (i / 64) (j / 64) word 0 ne) refl
    ]

-- one more bit is one more truth value
pub truths_of-with_bit : (words : List ℕ) (n i : ℕ) → i < n → n ≤ 64 * length words
    → truths_of (set words (i / 64) (with_bit (get_or words (i / 64) 0) (i % 64))) n ≡ set (truths_of words n) i true
unfolding truths_of
truths_of-with_bit words n i h fits =
    let truths = map (is_set words) (range_with_len 0 n) in
    let long : length truths ≡ n = length-truths_of words n in
    let word_in : i / 64 < length words = omega arith in
    sym (fill_by_all _ (set truths i true) n false (length-set truths i true ∙ long) (λ j within.
    elim (cases_eq j i) [
      | inl e ↦ rw e (get_or-set_same truths i true false (omega arith) ∙ sym (is_set-with_bit_same words i word_in))
      | inr ne ↦
          get_or-set_other truths i j true false ne ∙ get_or-truths_of words n j within ∙
          sym (is_set-with_bit_other words i j word_in ne)
    ]))

-- the digits of a word below its lowest 1
zero_digit : (word i : ℕ) → word < 2 ^ 64 → i < trailing_zeros w64 word → bit_at word i ≡ 0
zero_digit zero i small below = bit_at-zero i
zero_digit (suc word) i small below = (bit_at-trailing_zeros w64 (suc word) (omega arith) small).2 i below

one_digit : (word : ℕ) → word < 2 ^ 64 → trailing_zeros w64 word ≡ 0 → bit_at word 0 ≡ 1
one_digit zero small none = absurd (omega (arith, trailing_of_zero 64, none))
one_digit (suc word) small none = rw none at (bit_at-trailing_zeros w64 (suc word) (omega arith) small).1

-- the word with the truth value at index i, whose first count digits from there on are 0
module _ (words : List ℕ) (n i word count : ℕ) (truths : List Bool) (seen : truths_of words n ≡ truths) (inside : i < length truths)
    (fits : n ≤ 64 * length words) (read : word ≡ get_or words (i / 64) word) (small : word < 2 ^ 64)
    (least : count ≡ min (trailing_zeros w64 (word / 2 ^ (i % 64))) (64 - i % 64)) where
  len : length truths ≡ n
  len = ap length (sym seen) ∙ length-truths_of words n

  small_rest : word / 2 ^ (i % 64) < 2 ^ 64
  small_rest = omega (arith, small, shr_le word (i % 64))

  -- the digits are the truth values
  get_or-digit : (j k : ℕ) → i + k ≡ j → i % 64 + k < 64 → j < n → get_or truths j false ≡ (bit_at (word / 2 ^ (i % 64)) k == 1)
  get_or-digit j k at within below =
      let row : j / 64 ≡ i / 64 = omega arith in
      let column : j % 64 ≡ i % 64 + k = omega arith in
      let row_in : i / 64 < length words = omega (arith, len, inside, fits) in
      let same : get_or words (i / 64) 0 ≡ word = sym (read ∙ get_or_default words (i / 64) word 0 row_in) in
      ap (λ t. get_or t j false) (sym seen) ∙ get_or-truths_of words n j below ∙ rw (row, column, same, shr-shr word (i % 64) k)

  -- the count values from the index on are false
  pub get_or-falses : (k : ℕ) → i ≤ k → k < i + count → get_or truths k false ≡ false
  get_or-falses k after below =
      elim (cases_lt k n) [
        | inl within ↦
            get_or-digit k (k - i) (omega arith) (omega (arith, least)) within ∙
            ap (λ digit. digit == 1) (zero_digit (word / 2 ^ (i % 64)) (k - i) small_rest (omega (arith, least)))
        | inr past ↦ get_or_past truths k false (omega (arith, len))
      ]

  -- and if there are none, the value at the index is true
  pub get_or-no_falses : count ≡ 0 → get_or truths i false ≡ true
  get_or-no_falses none =
      get_or-digit i 0 (omega arith) (omega arith) (omega (arith, len, inside)) ∙
      ap (λ digit. digit == 1) (one_digit (word / 2 ^ (i % 64)) small_rest (omega (arith, least)))
