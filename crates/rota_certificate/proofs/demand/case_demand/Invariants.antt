use Rattle.std.proofs.Common.{◌≡◌, ◌≤◌, drop}
use Rattle.rota_core.specs.Limits.{max_number}
use Rattle.rota_certificate.specs.CaseLimits.{most_nurses}
use Rattle.rota_certificate.specs.PlaceCases.{lowered_optimal, raised_minimum}
use Rattle.rota_certificate.proofs.demand.case_demand.Given as goal

-- the demand so far, changed by the conditions that are left, is the demand in the case
abbrev pub invariant-loop-index : goal.invariant-loop-index
invariant-loop-index l =
    let p = l.place in
    record {
      minimum : raised_minimum (drop l.index l.case) p.week p.day p.shift p.skill l.minimum ≡
          raised_minimum l.case p.week p.day p.shift p.skill l.fn.demand.minimum;
      optimal : lowered_optimal (drop l.index l.case) p.week p.day p.shift p.skill l.optimal ≡
          lowered_optimal l.case p.week p.day p.shift p.skill l.fn.demand.optimal;
      minimum_in : l.minimum ≤ most_nurses;
      optimal_in : l.optimal ≤ max_number;
    }
