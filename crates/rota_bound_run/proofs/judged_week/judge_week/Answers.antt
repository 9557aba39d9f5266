use Rattle.std.proofs.Common.{refl}
use Rattle.std.proofs.lemmas.Result.{err_from_is_err_and}
use Rattle.rota_core.specs.InstanceTables.{problem_of}
use Rattle.rota_pb.specs.RunPorts.{reader_of}
use Rattle.rota_pb.specs.Steps.{stopped, went_on}
use Rattle.rota_bound_run.proofs.JudgedAfter.{are-pasts, judged-alike, judges-week, not-pasts-of, pasts-of, refuses-week}
use Rattle.rota_bound_run.proofs.judged_week.judge_week.Goals as goal

pub returns-then-not-are_pasts-clause-reads : goal.returns-then-not-are_pasts-clause-reads
returns-then-not-are_pasts-clause-reads g c = λ history are.
    stopped _ refl
    (record {
      beyond =
          not-pasts-of (problem_of c.args.week.now) history c.shifts.result c.args.pasts.items c.shifts.ensures.count are
          c.are_pasts.result c.if-not-are_pasts.true
          (rw c.deref.ensures.value at c.are_pasts.ensures.no);
      is = refl;
    })
    (λ _. (refl, λ roster. tt))

pub returns-in_err-roster-clause-reads : goal.returns-in_err-roster-clause-reads
returns-in_err-roster-clause-reads g c =
    let p = err_from_is_err_and c.from_residual.result c.from_residual.ensures.1 in
    rw (p.1, p.2) (λ history are.
    went_on tt (pasts-of (problem_of c.args.week.now) history c.shifts.result c.args.pasts.items c.shifts.ensures.count are
    (rw c.deref.ensures.value at (c.are_pasts.ensures.yes c.if-not-are_pasts.false)))
    (stopped _ refl c.in_err-roster.ensures (λ roster. tt)))

pub replace_pasts-first-requires : goal.replace_pasts-first-requires
replace_pasts-first-requires g c =
    are-pasts (problem_of c.args.week.now) c.shifts.result c.args.pasts.items c.shifts.ensures.count c.requires
    (rw c.deref.ensures.value at (c.are_pasts.ensures.yes c.if-not-are_pasts.false))

pub returns-in_err-penalty-clause-reads : goal.returns-in_err-penalty-clause-reads
returns-in_err-penalty-clause-reads g c =
    let p = err_from_is_err_and c.from_residual-in_err-penalty.result c.from_residual-in_err-penalty.ensures.1 in
    rw (p.1, p.2) (λ history are.
    refuses-week c.args.week.now history c.shifts.result c.args.pasts.items
    (reader_of g.S.Source c.args.file.now c.read_roster.new.source) c.in_ok-roster.roster c.shifts.ensures.count are
    (rw c.deref.ensures.value at (c.are_pasts.ensures.yes c.if-not-are_pasts.false)) c.in_ok-roster.ensures c.in_err-penalty.field-0.0
    (rw c.replace_pasts-first.ensures.replaced at c.in_err-penalty.ensures))

pub pasts_after-pasts-requires-clause-pasts : goal.pasts_after-pasts-requires-clause-pasts
pasts_after-pasts-requires-clause-pasts g c =
    rw (c.replace_pasts-pasts.ensures.replaced, c.replace_pasts-pasts.ensures.before, c.replace_pasts-first.ensures.replaced)
    (are-pasts (problem_of c.args.week.now) c.shifts.result c.args.pasts.items c.shifts.ensures.count c.requires
    (rw c.deref.ensures.value at (c.are_pasts.ensures.yes c.if-not-are_pasts.false)))

pub returns-clause-reads : goal.returns-clause-reads
returns-clause-reads g c = λ history are.
    judges-week c.args.week.now history c.shifts.result c.args.pasts.items
    (reader_of g.S.Source c.args.file.now c.read_roster.new.source) c.in_ok-roster.roster c.shifts.ensures.count are
    (rw c.deref.ensures.value at (c.are_pasts.ensures.yes c.if-not-are_pasts.false)) c.in_ok-roster.ensures
    (rw c.replace_pasts-first.ensures.replaced at c.in_ok-penalty.ensures).keeps

pub returns-clause-judged : goal.returns-clause-judged
returns-clause-judged g c = λ history are.
    judged-alike (problem_of c.args.week.now) history c.shifts.result c.args.pasts.items c.shifts.ensures.count are
    (record { roster = c.in_ok-roster.roster; penalty = c.in_ok-penalty.penalty; pasts = c.pasts_after-pasts.result })
    (rw c.replace_pasts-first.ensures.replaced at c.in_ok-penalty.ensures)
    (rw (c.replace_pasts-pasts.ensures.replaced, c.replace_pasts-pasts.ensures.before, c.replace_pasts-first.ensures.replaced) at
    c.pasts_after-pasts.ensures)
