use Rattle.std.proofs.Common.{◌≡◌, drop}
use Rattle.inrc2pb_frame.specs.Options.{texts}
use Rattle.inrc2pb_bound_program.specs.FixTexts.{are_fixes}
use Rattle.inrc2pb_bound_program.proofs.fixes.are_fixes.Given as goal

-- each text before this one has a week of its own
abbrev pub invariant-loop-index : goal.invariant-loop-index
invariant-loop-index l = are_fixes l.weeks (texts (drop l.index l.given)) ≡ are_fixes l.weeks (texts l.given)
