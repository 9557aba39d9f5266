use Rattle.std.proofs.Common.{◌≡◌, length}
use Rattle.std.specs.Prelude.{vec_capacity, vec_len}
use Rattle.inrc2pb_bound_program.specs.PeriodOpening.{open_week}
use Rattle.inrc2pb_bound_program.proofs.PeriodOpens.{HasOpened}
use Rattle.inrc2pb_bound_program.proofs.open_files.open_weeks.Given as goal

-- the files of the weeks before this one are open, and there is room for the others
abbrev pub invariant-loop-week : goal.invariant-loop-week
invariant-loop-week g l = record {
  files : HasOpened g.O.Opens g.O.File.Source (open_week g.O.File.Source) l.weeks l.initial.files l.files l.week-index l.opened.items;
  count : vec_len l.opened ≡ l.week-index;
  room : vec_capacity l.opened ≡ length l.weeks;
}
