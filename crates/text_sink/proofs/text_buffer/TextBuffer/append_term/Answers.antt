use Rattle.std.proofs.Common.{rules, ◌≡◌, ◌+◌, ◌-◌, ◌/◌, ◌%◌, ◌≤◌, length, take, sym, ap, ◌∙◌, arith, append_assoc, length-set}
use Rattle.std.proofs.lemmas.List.{length-take-le}
use Rattle.text_sink.specs.TermText.{sign}
use Rattle.text_sink.proofs.Pieces.{three, front_of_refill}
use Rattle.text_sink.proofs.StdNumerals.{numeral_is}
use Rattle.text_sink.proofs.TwoDigits.{decimal_hundreds}
use Rattle.text_sink.proofs.text_buffer.TextBuffer.append_term.Goals.{then-positive, else-positive}
use Rattle.text_sink.proofs.text_buffer.TextBuffer.append_term.Goals as goal

pub returns : goal.returns
returns c =
    let items = c.self.inside.bytes.items in
    let start = c.self.inside.len in
    let prefix = c.self.inside.prefix in
    let old = c.as_mut_slice-bytes.result.now in
    let new = c.copy_in-2.new.bytes in
    let n = c.args.variable in
    let same : old ≡ items = c.as_mut_slice-bytes.ensures.value in
    let full : length items ≡ 4096 = c.self.invariant.1 in
    let within : start ≤ 4096 = c.self.invariant.0 in
    let text : take start old ≡ c.args.self.now = ap (take start) same ∙ c.self.view_is in
    let long : length c.args.self.now ≡ start = ap length (sym c.self.view_is) ∙ length-take-le start items (omega (arith, full, within)) in
    let room : length c.args.self.now + 17 ≤ 4096 = c.requires in
    let most : prefix.len ≤ 12 = prefix.fits in
    let middle : length prefix.bytes ≡ 16 = search rules in
    let ends : length c.ending.result ≡ 4 = search rules in
    let kept : length new ≡ length items =
    omega (arith, c.copy_in.auto.bytes, c.copy_in-2.auto.bytes, length-set old start c.if-positive.sign, ap length same) in
    let some : 100 ≤ prefix.first = prefix.some in
    let whole : prefix.first % 100 ≡ 0 = prefix.whole in
    let hundreds : prefix.first / 100 ≡ n / 100 = omega arith in
    let pair : n - prefix.first ≡ n % 100 = omega arith in
    let signed : c.if-positive.sign ≡ sign c.args.positive =
    elim c.if-positive.branch [
      | then-positive w ↦ w.sign-is ∙ ap sign (sym w.if-positive.true)
      | else-positive w ↦ w.sign-is ∙ ap sign (sym w.if-positive.false)
    ] in
    front_of_refill items new (start + 1 + prefix.len + 3) kept (omega arith)
    ∙ three old c.copy_in.new.bytes new prefix.bytes c.ending.result start prefix.len c.if-positive.sign
    (omega (arith, ap length same)) (omega arith) (omega arith) c.copy_in.ensures c.copy_in-2.ensures
    ∙ rw (
      text,
      signed,
      c.ending.ensures,
      pair,
      prefix.spells,
      hundreds,
      sym (numeral_is n (omega arith)),
      decimal_hundreds n (omega arith) (omega arith),
    ) (simp append_assoc)
