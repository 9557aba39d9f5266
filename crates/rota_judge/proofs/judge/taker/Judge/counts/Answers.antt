use Rattle.rota_judge.proofs.Common.{◌<◌, ◌∙◌, arith, le-ltb, problem_of, unit_number}
use Rattle.rota_judge.proofs.Numbers.{index-assigned}
use Rattle.rota_judge.proofs.judge.taker.Judge.counts.Goals as goal

pub returns-else-self-variable-2 : goal.returns-else-self-variable-2
returns-else-self-variable-2 c =
    let problem = problem_of c.self.inside.instance.now in
    let below : c.args.variable < unit_number problem = rw (← c.self.invariant.1.unit_is) c.if-self-variable-2.false in
    rw (← c.self.view_is, c.in-Extended.is, le-ltb (unit_number problem) c.args.variable (omega (arith, below)))
    (c.has_index.ensures ∙
    index-assigned problem c.in-Extended.roster.now _ c.args.variable (rw c.in-Extended.is at c.self.invariant.1.fits)
    (omega (arith, c.if-variable-eq0.false)) below)
