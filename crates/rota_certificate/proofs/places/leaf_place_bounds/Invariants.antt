use Rattle.std.proofs.Common.{◌≡◌, ◌≤◌, ◌+◌, ◌*◌, drop}
use Rattle.rota_certificate.specs.LeafBounds.{leaf_place_bounds}
use Rattle.rota_certificate.specs.LentLeaves.{weeks_of}
use Rattle.rota_certificate.proofs.places.leaf_place_bounds.Given as goal

-- the sum so far and the bounds of the weeks that are left make the sum for all weeks
abbrev pub invariant-loop-week : goal.invariant-loop-week
invariant-loop-week l = record {
  sum : l.sum + leaf_place_bounds l.unit l.leaf.case l.week (drop l.week (weeks_of l.leaf)) ≡
      leaf_place_bounds l.unit l.leaf.case 0 (weeks_of l.leaf);
  small : l.sum ≤ l.week * (7 * (16 * (16 * 30000000000000)));
}
