use Rattle.std.proofs.Common.{ℕ, ◌<◌}
use Rattle.std.specs.Prelude.{slice_index_or}
use Rattle.rota_core.specs.Defaults.{no_past}
use Rattle.rota_core.specs.WeekTables.{IsPast}
use Rattle.rota_bound_run.proofs.pasts.are_pasts.Given as goal

-- the first pasts are within the limits
abbrev pub invariant-loop-past : goal.invariant-loop-past
invariant-loop-past l = (n : ℕ) → n < l.past-index → IsPast l.fn.shifts (slice_index_or l.fn.pasts n no_past)
