use Rattle.std.proofs.Common.{◌∙◌, ap, sym, length, arith}
use Rattle.solver_text.specs.LineStates.{in_word, take_bytes}
use Rattle.solver_text.specs.declared.literal.LiteralFront.{LiteralFront}
use Rattle.solver_text.proofs.WordBytes.{take_bytes-word_byte}
use Rattle.solver_text.proofs.literal.LiteralFront.read_on.Goals as goal

pub loop-b-preserved-in-Number : goal.loop-b-preserved-in-Number
loop-b-preserved-in-Number c = (
  (λ known word.
      c.loop-b.invariant.0 known word ∙
      rw c.in-Some.ensures.cases.0
      (take_bytes-word_byte known c.loop-b.front word c.in-Some.b.now c.in-Some.after.now
      (grind (arith, c.if-b-eq10.false)) (sym c.is_blank.ensures ∙ c.if-is_blank.false)) ∙
      ap (λ (front : LiteralFront). take_bytes known (in_word front word) c.in-Some.after.now)
      (sym c.with_byte-front.ensures ∙ c.in-Number.is) ∙
      c.read_digits-number.ensures.reads known word),
  omega (arith, ap length c.in-Some.ensures.cases.0, c.loop-b.invariant.1, c.read_digits-number.ensures.shorter),
)

pub loop-b-preserved : goal.loop-b-preserved
loop-b-preserved c = (
  (λ known word.
      c.loop-b.invariant.0 known word ∙
      rw (c.in-Some.ensures.cases.0, c.with_byte-front.ensures)
      (take_bytes-word_byte known c.loop-b.front word c.in-Some.b.now c.in-Some.after.now
      (grind (arith, c.if-b-eq10.false)) (sym c.is_blank.ensures ∙ c.if-is_blank.false))),
  omega (arith, ap length c.in-Some.ensures.cases.0, c.loop-b.invariant.1),
)
