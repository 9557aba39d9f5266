use Rattle.std.proofs.Common.{sym, subst, map}
use Rattle.std.proofs.lemmas.Result.{IfOk-weaker}
use Rattle.rota_core.specs.InstanceTables.{problem_of}
use Rattle.rota_certificate.specs.PeriodBounds.{AreOptimalAt, NoneCostLess}
use Rattle.rota_certificate.proofs.PeriodProofs.{are-optimal, none-cost_less}
use Rattle.rota_certificate.proofs.tree.lower_bound.Goals as goal

pub returns-clause-bound : goal.returns-clause-bound
returns-clause-bound c = c.least_bound.ensures

pub returns-clause-sound : goal.returns-clause-sound
returns-clause-sound c =
    let weeks = c.args.weeks.now in
    let given = c.args.given.now in
    let certificate = c.args.certificate.now in
    let sound = none-cost_less given certificate weeks c.requires in
    IfOk-weaker c.least_bound.result _ (NoneCostLess (map problem_of weeks) given)
    (λ points is. subst (NoneCostLess (map problem_of weeks) given) (sym is) sound) c.least_bound.ensures

pub returns-clause-optimal : goal.returns-clause-optimal
returns-clause-optimal c =
    let weeks = c.args.weeks.now in
    let given = c.args.given.now in
    IfOk-weaker c.least_bound.result (NoneCostLess (map problem_of weeks) given) (AreOptimalAt (map problem_of weeks) given)
    (λ points none. are-optimal (map problem_of weeks) given points none) (returns-clause-sound c)
