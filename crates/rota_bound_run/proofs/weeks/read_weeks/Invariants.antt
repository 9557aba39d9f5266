use Rattle.std.proofs.Common.{◌≡◌, [], length}
use Rattle.rota_bound_run.specs.PeriodFiles.{week_readers}
use Rattle.rota_bound_run.specs.PeriodRead.{read_next}
use Rattle.rota_bound_run.specs.WeeksRead.{AreWeeksFrom}
use Rattle.rota_bound_run.proofs.InTurn.{Reads}
use Rattle.rota_bound_run.proofs.weeks.read_weeks.Given as goal

-- the first weeks are read
abbrev pub invariant-loop-index : goal.invariant-loop-index
invariant-loop-index g l =
    let w = l.fn in
    record {
      reads : Reads (read_next w.early w.ward (length w.files.items)) (week_readers g.S.Source) [] w.files.items l.index l.files.items l.weeks.items;
      weeks : AreWeeksFrom w.early w.ward 0 l.weeks.items;
      number : length l.weeks.items ≡ l.index;
    }
