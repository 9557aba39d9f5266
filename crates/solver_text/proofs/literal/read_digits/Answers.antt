use Rattle.std.proofs.Common.{◌∙◌, ap, sym, length, arith}
use Rattle.solver_text.proofs.WordBytes.{take_bytes-digit}
use Rattle.solver_text.proofs.literal.read_digits.Goals as goal

pub loop-b-preserved : goal.loop-b-preserved
loop-b-preserved c = (
  (λ known word.
      c.loop-b.invariant.0 known word ∙
      rw (c.in-Some.ensures.cases.0, c.number_with-number.ensures)
      (take_bytes-digit known c.args.positive c.loop-b.number word c.in-Some.b.now c.in-Some.after.now
      (sym c.if-not-is_ascii_digit.ensures.value))),
  omega (arith, ap length c.in-Some.ensures.cases.0, c.loop-b.invariant.1),
)
