use Rattle.std.proofs.Common.{refl, ap, length, arith, ◌∙◌}
use Rattle.solver_text.specs.LineStates.{start}
use Rattle.solver_text.proofs.ReadLaws.{empty-line}
use Rattle.solver_text.proofs.line_state.after_empty_lines.Goals as goal

pub loop-b-preserved : goal.loop-b-preserved
loop-b-preserved c = record {
  passes = λ known.
      c.loop-b.invariant.passes known ∙ rw c.in-Some.ensures.cases.0 (empty-line known start _ _ refl c.if-b-ne10.false);
  no_longer = omega (arith, ap length c.in-Some.ensures.cases.0, c.loop-b.invariant.no_longer);
}
