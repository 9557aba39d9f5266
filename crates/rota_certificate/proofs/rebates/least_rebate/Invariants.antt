use Rattle.std.proofs.Common.{◌≡◌, ◌≤◌}
use Rattle.rota_core.specs.InstanceTables.{problem_of}
use Rattle.rota_core.specs.PriceTables.{prices_of}
use Rattle.rota_certificate.specs.Minimums.{least_below, not_allowed}
use Rattle.rota_certificate.specs.NurseBounds.{rebate}
use Rattle.rota_certificate.proofs.rebates.least_rebate.Given as goal

abbrev pub invariant-loop-skill : goal.invariant-loop-skill
invariant-loop-skill l =
    record {
      least : l.least ≡ least_below l.skill not_allowed (rebate (problem_of l.instance) (prices_of l.prices) l.nurse l.day l.shift);
      small : l.least ≤ not_allowed;
    }
