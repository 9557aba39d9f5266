use Rattle.std.proofs.Common.{◌≡◌, ◌≤◌}
use Rattle.rota_core.specs.Roster.{cell}
use Rattle.rota_core.specs.RosterTables.{set_of}
use Rattle.rota_core.specs.SumsBelow.{count_below}
use Rattle.rota_certificate.proofs.conditions.nurses_at.Given as goal

abbrev pub invariant-loop-nurse : goal.invariant-loop-nurse
invariant-loop-nurse l = record {
  count : l.count ≡ count_below l.nurse (λ n. set_of l.roster (cell n l.day l.shift l.skill));
  small : l.count ≤ l.nurse;
}
