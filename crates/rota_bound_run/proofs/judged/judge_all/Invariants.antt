use Rattle.std.proofs.Common.{◌≡◌, [], length}
use Rattle.std.specs.Prelude.{vec_capacity, vec_len}
use Rattle.rota_pb.specs.RunPorts.{reader_of}
use Rattle.rota_bound_run.specs.PlanJudged.{judge_next}
use Rattle.rota_bound_run.proofs.InTurn.{Reads}
use Rattle.rota_bound_run.proofs.Judging.{AreJudged}
use Rattle.rota_bound_run.proofs.judged.judge_all.Given as goal

-- the first rosters are read and judged
abbrev pub invariant-loop-index : goal.invariant-loop-index
invariant-loop-index g l =
    let w = l.fn in
    record {
      reads : Reads (judge_next w.weeks.items) (reader_of g.S.Source) [] w.files.items l.index l.files.items l.judged.rosters.items;
      judged : AreJudged w.weeks.items l.index l.judged.rosters.items l.judged.penalty l.pasts.items;
      same : l.weeks.items ≡ w.weeks.items;
      count : vec_len l.judged.rosters ≡ l.index;
      room : vec_capacity l.judged.rosters ≡ length w.weeks.items;
    }
