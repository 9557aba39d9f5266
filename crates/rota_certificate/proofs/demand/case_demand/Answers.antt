use Rattle.std.proofs.Common.{ℕ, ap, sym, ◌∙◌, arith, ◌+◌, ◌≤◌, drop, length}
use Rattle.rota_certificate.specs.PlaceCases.{lowered_optimal, raised_minimum}
use Rattle.rota_certificate.proofs.DemandSteps.{lowered-end, lowered-more, raised-end, raised-more}
use Rattle.rota_certificate.proofs.demand.case_demand.Goals as goal

pub loop-index-preserved : goal.loop-index-preserved
loop-index-preserved c =
    let p = c.args.place in
    let case = c.args.case.now in
    let i = c.loop-index.index in
    let condition = c.condition_at-condition.result in
    let raised = raised-more case i p.week p.day p.shift p.skill condition c.loop-index-test.true c.condition_at-condition.ensures c.loop-index.minimum in
    let lowered = lowered-more case i p.week p.day p.shift p.skill condition c.loop-index-test.true c.condition_at-condition.ensures c.loop-index.optimal in
    record {
      minimum = ap (λ (m : ℕ). raised_minimum (drop (i + 1) case) p.week p.day p.shift p.skill m) c.raised_by-minimum.ensures.minimum ∙ sym raised ∙
          c.loop-index.invariant.minimum;
      optimal = ap (λ (m : ℕ). lowered_optimal (drop (i + 1) case) p.week p.day p.shift p.skill m) c.lowered_by-optimal.ensures.optimal ∙ sym lowered ∙
          c.loop-index.invariant.optimal;
      minimum_in = c.raised_by-minimum.ensures.small;
      optimal_in = c.lowered_by-optimal.ensures.small;
    }

pub returns-clause-demand : goal.returns-clause-demand
returns-clause-demand c =
    let p = c.args.place in
    let case = c.args.case.now in
    let past : length case ≤ c.loop-index.index = omega (arith, c.loop-index-test.false) in
    let raised = sym (raised-end case c.loop-index.index p.week p.day p.shift p.skill past c.loop-index.minimum) ∙ c.loop-index.invariant.minimum in
    let lowered = sym (lowered-end case c.loop-index.index p.week p.day p.shift p.skill past c.loop-index.optimal) ∙ c.loop-index.invariant.optimal in
    ap (λ (m : ℕ). record { minimum = m; optimal = c.loop-index.optimal }) raised ∙
    ap (λ (m : ℕ). record { minimum = raised_minimum case p.week p.day p.shift p.skill c.args.demand.minimum; optimal = m }) lowered
