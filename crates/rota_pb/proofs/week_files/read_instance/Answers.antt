use Rattle.std.proofs.Common.{refl}
use Rattle.rota_pb.specs.Steps.{went_on}
use Rattle.rota_pb.proofs.Steps.{stopped_by}
use Rattle.rota_pb.proofs.week_files.read_instance.Goals as goal

pub returns-in_err-instance : goal.returns-in_err-instance
returns-in_err-instance g c = stopped_by _ _ c.from_residual.ensures.1 c.in_err-instance.ensures (λ tables. (refl, λ roster. tt))

pub returns-in_err-held : goal.returns-in_err-held
returns-in_err-held g c =
    went_on c.in_ok-instance.instance c.in_ok-instance.ensures
    (rw c.if-choice.true (stopped_by _ _ c.from_residual-in_err-held.ensures.1 c.in_err-held.ensures (λ roster. tt)))

pub hold-requires : goal.hold-requires
hold-requires g c = c.in_ok-held.ensures.1

pub returns-then-choice : goal.returns-then-choice
returns-then-choice g c =
    went_on c.in_ok-instance.instance c.in_ok-instance.ensures
    (rw c.if-choice.true
    (went_on c.in_ok-held.held c.in_ok-held.ensures (c.hold.ensures.holds, c.hold.ensures.limits)))

pub returns : goal.returns
returns g c =
    went_on c.in_ok-instance.instance c.in_ok-instance.ensures (rw c.if-choice.false ((refl, λ roster. tt), refl))
