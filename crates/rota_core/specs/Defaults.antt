-- The values that a table gives for an index outside it.
use Rattle.std.specs.Prelude.{false, None}
use Rattle.rota_core.specs.declared.values.Span.{Span}
use Rattle.rota_core.specs.declared.values.Contract.{Contract}
use Rattle.rota_core.specs.declared.values.Demand.{Demand}
use Rattle.rota_core.specs.declared.values.Past.{Past}

-- a minimum and a maximum of 0
abbrev pub no_span : Span
no_span = record { min = 0; max = 0 }

-- a contract of zeros, without complete weekends
abbrev pub no_contract : Contract
no_contract = record { total = no_span; work = no_span; off = no_span; weekends = 0; complete = false }

-- a demand of zero nurses
abbrev pub no_demand : Demand
no_demand = record { minimum = 0; optimal = 0 }

-- a history of zeros, without a last shift type
abbrev pub no_past : Past
no_past = record { assignments = 0; weekends = 0; last = None; shift_run = 0; work_run = 0; off_run = 0 }
