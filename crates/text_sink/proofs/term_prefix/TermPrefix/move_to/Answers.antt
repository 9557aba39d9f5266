use Rattle.std.proofs.Common.{◌≡◌, ◌+◌, ◌/◌, ◌^◌, ◌<◌, ◌≤◌, ◌∷◌, [], ℕ, List, length, take, ◌++◌, ap, ◌∙◌, arith, decimal}
use Rattle.std.proofs.lemmas.Fmt.{length-decimal-le}
use Rattle.text_sink.proofs.Pieces.{digits_after}
use Rattle.text_sink.proofs.term_prefix.TermPrefix.move_to.Goals as goal

most : (n : ℕ) → n < 2 ^ 32 → length (decimal (n / 100)) ≤ 8
most n small = length-decimal-le 8 (n / 100) (omega arith) (omega arith) (omega arith)

pub overflow_add-len : goal.overflow_add-len
overflow_add-len c = omega (arith, c.count_digits-len.ensures, most c.args.first (omega arith))

pub write_digits-requires : goal.write_digits-requires
write_digits-requires c =
    let same : length (decimal c.from.result) ≡ length (decimal (c.args.first / 100)) = ap (λ (m : ℕ). length (decimal m)) c.from.ensures in
    let few : length (decimal (c.args.first / 100)) ≤ 8 = most c.args.first (omega arith) in
    (omega (arith, same, c.count_digits-len.ensures), omega (arith, c.count_digits-len.ensures, few))

pub invariant_of-self : goal.invariant_of-self
invariant_of-self c =
    let same : length (decimal c.from.result) ≡ length (decimal (c.args.first / 100)) = ap (λ (m : ℕ). length (decimal m)) c.from.ensures in
    let few : length (decimal (c.args.first / 100)) ≤ 8 = most c.args.first (omega arith) in
    let at : c.write_digits.result ≡ 3 = omega (arith, same, c.count_digits-len.ensures, c.write_digits.ensures.start) in
    let blank : List ℕ = 49 ∷ 32 ∷ 120 ∷ 32 ∷ 32 ∷ 32 ∷ 32 ∷ 32 ∷ 32 ∷ 32 ∷ 32 ∷ 32 ∷ 32 ∷ 32 ∷ 32 ∷ 32 ∷ [] in
    record {
      some = c.requires.0;
      whole = c.requires.1;
      fits = omega (arith, c.count_digits-len.ensures, few);
      spells =
          digits_after blank c.write_digits.new.buf (decimal c.from.result) c.write_digits.result (3 + c.count_digits-len.result)
          c.write_digits.ensures.start (omega (arith, at)) c.write_digits.ensures.written c.write_digits.ensures.before
          ∙ ap (λ (n : ℕ). take n blank ++ decimal c.from.result) at
          ∙ ap (λ (m : ℕ). 49 ∷ 32 ∷ 120 ∷ decimal m) c.from.ensures;
    }
