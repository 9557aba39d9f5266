use Rattle.std.proofs.Common.{◌≡◌, ℕ, ◌+◌, ◌&&◌, length, nat_le, nat_lt, get_or, if◌then◌else◌}
use Rattle.rota_read.proofs.week_tables.add_one.Given as goal

abbrev pub invariant-loop-index : goal.invariant-loop-index
invariant-loop-index l = record {
  length : length l.table.items ≡ length l.initial.table.items;
  sums : (k : ℕ) → get_or l.table.items k 0 ≡ get_or l.initial.table.items k 0 + (if nat_le l.first k && nat_lt k l.index then 1 else 0);
}
