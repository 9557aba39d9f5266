use Rattle.std.proofs.Common.{◌∙◌, length}
use Rattle.inrc2pb_frame.specs.Options.{texts}
use Rattle.inrc2pb_bound_program.specs.FixTexts.{fix_of}
use Rattle.inrc2pb_bound_program.proofs.WeekPaths.{fixes_more, weeks_more}
use Rattle.inrc2pb_bound_program.proofs.command_line.week_paths.Goals as goal

pub loop-index-preserved : goal.loop-index-preserved
loop-index-preserved c = record {
  week = weeks_more c.loop-index.paths.items c.push.new.self.items _ c.in_ok-push.ensures.items c.loop-index.index
      c.args.weeks.now _ c.loop-index-test.true c.in_ok-paths_of_week.ensures.week c.loop-index.invariant.week;
  fix = fixes_more c.loop-index.paths.items c.push.new.self.items _ c.in_ok-push.ensures.items c.loop-index.index
      (fix_of (length c.args.weeks.now) (texts c.args.fixes.now))
      (c.in_ok-paths_of_week.ensures.fix ∙ c.fix_named-fix.ensures) c.loop-index.invariant.fix;
}
