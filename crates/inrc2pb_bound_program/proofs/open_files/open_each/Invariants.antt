use Rattle.std.proofs.Common.{◌≡◌, length}
use Rattle.std.specs.Prelude.{vec_capacity, vec_len}
use Rattle.inrc2pb_bound_program.specs.PeriodOpening.{open_path}
use Rattle.inrc2pb_bound_program.proofs.PeriodOpens.{HasOpened}
use Rattle.inrc2pb_bound_program.proofs.open_files.open_each.Given as goal

-- the files at the paths before this one are open, and there is room for the others
abbrev pub invariant-loop-path : goal.invariant-loop-path
invariant-loop-path g l = record {
  files : HasOpened g.O.Opens g.O.File.Source (open_path g.O.File.Source) l.paths l.initial.files l.files l.path-index l.opened.items;
  count : vec_len l.opened ≡ l.path-index;
  room : vec_capacity l.opened ≡ length l.paths;
}
