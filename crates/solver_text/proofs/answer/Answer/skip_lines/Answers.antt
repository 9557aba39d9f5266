use Rattle.std.proofs.Common.{refl, ◌∙◌, ℕ, arith, length-drop, length-take}
use Rattle.solver_text.specs.States.{known_of, line_of}
use Rattle.solver_text.proofs.ReadLaws.{skips, skips_all}
use Rattle.solver_text.proofs.answer.Answer.skip_lines.Goals as goal

pub loop-end-preserved : goal.loop-end-preserved
loop-end-preserved c = record {
  taken =
      rw c.skip.ensures
      (c.loop-end.invariant.taken
      ∙ skips (known_of c.loop-end.self.known) (line_of c.loop-end.self) c.loop-end.rest.now c.in-Some.end c.loop-end.invariant.skipped
      c.in-Some.ensures.0.high (λ k lt. c.in-Some.ensures.0.before k (omega arith) lt) c.in-Some.ensures.1
      ∙ c.after_empty_lines-rest.ensures.passes (known_of c.loop-end.self.known)
      ∙ c.if-not-begins_skipped.ensures refl (known_of c.loop-end.self.known));
  skipped = rw c.skip.ensures refl;
  no_longer = let short = c.loop-end.invariant.no_longer in omega (arith, length-take {A = ℕ}, length-drop {A = ℕ});
}

pub returns-then-not-begins_skipped-clause-takes : goal.returns-then-not-begins_skipped-clause-takes
returns-then-not-begins_skipped-clause-takes c =
    rw c.start_again.ensures
    (c.loop-end.invariant.taken
    ∙ skips (known_of c.loop-end.self.known) (line_of c.loop-end.self) c.loop-end.rest.now c.in-Some.end c.loop-end.invariant.skipped
    c.in-Some.ensures.0.high (λ k lt. c.in-Some.ensures.0.before k (omega arith) lt) c.in-Some.ensures.1
    ∙ c.after_empty_lines-rest.ensures.passes (known_of c.loop-end.self.known))

pub returns-clause-takes : goal.returns-clause-takes
returns-clause-takes c =
    c.loop-end.invariant.taken
    ∙ skips_all (known_of c.loop-end.self.known) (line_of c.loop-end.self) c.loop-end.rest.now c.loop-end.invariant.skipped
    (λ k lt. c.in_default.ensures k (omega arith) lt)
