-- Bytes written over an array.
use Rattle.std.proofs.Common.{◌≡◌, ℕ, ◌+◌, ◌<◌, ◌≤◌, sym, ap, ◌∙◌, arith, append_assoc, length-append, length-set}
use Rattle.std.proofs.Common.{List, [], ◌∷◌, ◌++◌, length, take, drop, set}
use Rattle.std.proofs.lemmas.List.{take-take, take-append-drop, take-append-le, length-take-le, take_at, take_more_set}
use Rattle.std.specs.List.{refill}
use Rattle.std.proofs.Math.Seq.{take-append-add}

-- the first bytes of a piece that was written after the front
pub piece_start : (new front piece : List ℕ) (at count : ℕ) → length front ≡ at → count ≤ length piece →
    take (at + length piece) new ≡ front ++ piece → take (at + count) new ≡ front ++ take count piece
piece_start new front piece at count long fits written =
    sym (take-take (at + count) (at + length piece) new (omega arith))
    ∙ ap (take (at + count)) written
    ∙ ap (λ (n : ℕ). take (n + count) (front ++ piece)) (sym long)
    ∙ take-append-add front piece count

-- a byte, the first bytes of a second piece, and three bytes of a third
pub three : (old two new middle last : List ℕ) (start count first : ℕ) →
    start < length old → count ≤ length middle → 3 ≤ length last →
    take (start + 1 + length middle) two ≡ take (start + 1) (set old start first) ++ middle →
    take (start + 1 + count + length last) new ≡ take (start + 1 + count) two ++ last →
    take (start + 1 + count + 3) new ≡ take start old ++ (first ∷ take count middle ++ take 3 last)
three old two new middle last start count first inside fits short second third =
    let written = set old start first in
    let long : length (take (start + 1) written) ≡ start + 1 =
    length-take-le (start + 1) written (omega (arith, length-set old start first)) in
    let front : take (start + 1 + count) two ≡ take (start + 1) written ++ take count middle =
    piece_start two (take (start + 1) written) middle (start + 1) count long fits second in
    let few : length (take count middle) ≡ count = length-take-le count middle fits in
    let front_long : length (take (start + 1 + count) two) ≡ start + 1 + count =
    ap length front ∙ omega (arith, length-append (take (start + 1) written) (take count middle), long, few) in
    piece_start new (take (start + 1 + count) two) last (start + 1 + count) 3 front_long short third
    ∙ ap (λ (xs : List ℕ). xs ++ take 3 last) (front ∙ ap (λ (xs : List ℕ). xs ++ take count middle) (take_more_set old start first inside))
    ∙ append_assoc (take start old ++ first ∷ []) (take count middle) (take 3 last)
    ∙ append_assoc (take start old) (first ∷ []) (take count middle ++ take 3 last)

-- digits that end at the right index
pub digits_after : (old new digits : List ℕ) (at end : ℕ) →
    at + length digits ≡ end → at ≤ length old → drop at new ≡ digits ++ drop end old → take at new ≡ take at old →
    take end new ≡ take at old ++ digits
digits_after old new digits at end long inside written before =
    ap (take end) (sym (take-append-drop at new)
    ∙ ap (λ (front : List ℕ). front ++ drop at new) before
    ∙ ap (λ (back : List ℕ). take at old ++ back) written
    ∙ sym (append_assoc (take at old) digits (drop end old)))
    ∙ take_at (take at old ++ digits) (drop end old) end
    (omega (arith, length-append (take at old) digits, length-take-le at old inside))

-- the front of the bytes that a loan wrote back
pub front_of_refill : (old new : List ℕ) (count : ℕ) → length new ≡ length old → count ≤ length old →
    take count (refill (length old) old new) ≡ take count new
front_of_refill old new count same inside =
    take-take count (length old) (new ++ drop (length new) old) inside
    ∙ take-append-le count new (drop (length new) old) (omega (arith, same, inside))
