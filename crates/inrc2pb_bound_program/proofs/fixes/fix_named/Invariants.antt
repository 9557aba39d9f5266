use Rattle.std.proofs.Common.{◌≡◌, drop}
use Rattle.inrc2pb_frame.specs.Options.{texts}
use Rattle.inrc2pb_bound_program.specs.FixTexts.{fix_of}
use Rattle.inrc2pb_bound_program.proofs.fixes.fix_named.Given as goal

-- no text before this one names the week
abbrev pub invariant-loop-text : goal.invariant-loop-text
invariant-loop-text l = fix_of l.weeks (texts (drop l.text-index l.given)) l.week ≡ fix_of l.weeks (texts l.given) l.week
