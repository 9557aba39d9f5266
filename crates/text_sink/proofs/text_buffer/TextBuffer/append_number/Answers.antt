use Rattle.std.proofs.Common.{◌≡◌, ◌+◌, ◌≤◌, ℕ, List, length, take, ◌++◌, sym, ap, ◌∙◌, arith, decimal, length-append}
use Rattle.std.proofs.lemmas.List.{length-take-le}
use Rattle.std.proofs.lemmas.Fmt.{length-decimal-le}
use Rattle.rota_core.specs.Numeral.{numeral}
use Rattle.text_sink.proofs.StdNumerals.{numeral_is}
use Rattle.text_sink.proofs.Pieces.{digits_after, front_of_refill}
use Rattle.text_sink.proofs.text_buffer.TextBuffer.append_number.Goals as goal

pub overflow_add-end : goal.overflow_add-end
overflow_add-end c =
    let within : c.self.inside.len ≤ 4096 = c.self.invariant.0 in
    omega (arith, within, c.count_digits.ensures, length-decimal-le 10 c.args.number (omega arith) (omega arith) (omega arith))

pub write_digits-requires : goal.write_digits-requires
write_digits-requires c =
    let bytes = c.self.inside.bytes.items in
    let start = c.self.inside.len in
    let within : start ≤ 4096 = c.self.invariant.0 in
    let full : length c.as_mut_slice.result.now ≡ 4096 = ap length c.as_mut_slice.ensures.value ∙ c.self.invariant.1 in
    let long : length c.args.self.now ≡ start =
    ap length (sym c.self.view_is) ∙ length-take-le start bytes (omega (arith, c.self.invariant.1, within)) in
    let same : length (decimal c.from.result) ≡ length (decimal c.args.number) = ap (λ (m : ℕ). length (decimal m)) c.from.ensures in
    let most : length (decimal c.args.number) ≤ 10 = length-decimal-le 10 c.args.number (omega arith) (omega arith) (omega arith) in
    (omega (arith, same, c.count_digits.ensures), omega (arith, c.count_digits.ensures, most, long, c.requires, full))

pub returns-clause-text : goal.returns-clause-text
returns-clause-text c =
    let bytes = c.as_mut_slice.result.now in
    let start = c.self.inside.len in
    let within : start ≤ 4096 = c.self.invariant.0 in
    let full : length bytes ≡ 4096 = ap length c.as_mut_slice.ensures.value ∙ c.self.invariant.1 in
    let text : take start bytes ≡ c.args.self.now = ap (take start) c.as_mut_slice.ensures.value ∙ c.self.view_is in
    let same : length (decimal c.from.result) ≡ length (decimal c.args.number) = ap (λ (m : ℕ). length (decimal m)) c.from.ensures in
    let at : c.write_digits.result ≡ start = omega (arith, same, c.count_digits.ensures, c.write_digits.ensures.start) in
    let items = c.self.inside.bytes.items in
    let most : length (decimal c.args.number) ≤ 10 = length-decimal-le 10 c.args.number (omega arith) (omega arith) (omega arith) in
    let long : length c.args.self.now ≡ start = ap length (sym text) ∙ length-take-le start bytes (omega (arith, full, within)) in
    let kept : length c.write_digits.new.buf ≡ length items = omega (arith, c.write_digits.auto.buf, full, c.self.invariant.1) in
    front_of_refill items c.write_digits.new.buf (start + c.count_digits.result) kept
    (omega (arith, c.count_digits.ensures, most, long, c.requires, c.self.invariant.1))
    ∙ digits_after bytes c.write_digits.new.buf (decimal c.from.result) c.write_digits.result (start + c.count_digits.result)
    c.write_digits.ensures.start (omega (arith, at, within, full)) c.write_digits.ensures.written c.write_digits.ensures.before
    ∙ ap (λ (n : ℕ). take n bytes ++ decimal c.from.result) at
    ∙ ap (λ (m : ℕ). take start bytes ++ decimal m) c.from.ensures
    ∙ ap (λ (ds : List ℕ). take start bytes ++ ds) (numeral_is c.args.number (omega arith))
    ∙ ap (λ (xs : List ℕ). xs ++ numeral c.args.number) text

pub returns-clause-short : goal.returns-clause-short
returns-clause-short c =
    let n = c.args.number in
    let most : length (decimal n) ≤ 10 = length-decimal-le 10 n (omega arith) (omega arith) (omega arith) in
    let same : length (decimal n) ≡ length (numeral n) = ap length (numeral_is n (omega arith)) in
    omega (arith, ap length (returns-clause-text c), length-append c.args.self.now (numeral n), same, most)
