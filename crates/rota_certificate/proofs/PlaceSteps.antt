-- The bounds of the places of a leaf, week by week.
use Rattle.std.proofs.Common.{◌≡◌, ℕ, ◌+◌, ◌<◌, ◌≤◌, ap, List, length, drop, slice_index_or}
use Rattle.rota_certificate.specs.LeafBounds.{leaf_place_bounds}
use Rattle.rota_certificate.specs.LentLeaves.{LentTables, prices_lent, week_lent, weeks_of}
use Rattle.rota_certificate.specs.NurseBounds.{LeafWeek}
use Rattle.rota_certificate.specs.PlaceCases.{case_place_bounds}
use Rattle.rota_certificate.specs.declared.stages.LentWeek.{LentWeek}
use Rattle.rota_certificate.proofs.LeafStages.{drop-at, drop-end}

pub places-more : (unit : ℕ) (leaf : LentTables) (i : ℕ) (one : LentWeek) → i < length leaf.weeks → one ≡ slice_index_or leaf.weeks i one →
    leaf_place_bounds unit leaf.case i (drop i (weeks_of leaf)) ≡
    case_place_bounds unit leaf.case i (week_lent one) (prices_lent one) +
    leaf_place_bounds unit leaf.case (i + 1) (drop (i + 1) (weeks_of leaf))
unfolding leaf_place_bounds
places-more unit leaf i one inside is =
    ap (λ (rest : List LeafWeek). leaf_place_bounds unit leaf.case i rest) (drop-at leaf i one inside is)

pub places-end : (unit : ℕ) (leaf : LentTables) (i : ℕ) → length leaf.weeks ≤ i →
    leaf_place_bounds unit leaf.case i (drop i (weeks_of leaf)) ≡ 0
unfolding leaf_place_bounds
places-end unit leaf i past = ap (λ (rest : List LeafWeek). leaf_place_bounds unit leaf.case i rest) (drop-end leaf i past)
