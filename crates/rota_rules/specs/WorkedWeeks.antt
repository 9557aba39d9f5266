-- Weeks of one nurse with one skill, and rosters of them.
use Rattle.std.specs.Prelude.{ℕ, Bool, true, false, Some}
use Rattle.rota_core.specs.declared.values.Span.{Span}
use Rattle.rota_core.specs.declared.values.Contract.{Contract}
use Rattle.rota_core.specs.declared.values.Past.{Past}
use Rattle.rota_core.specs.Problem.{Problem}
use Rattle.rota_core.specs.Defaults.{no_demand, no_past}
use Rattle.rota_core.specs.Roster.{Roster}

abbrev pub limits_of : ℕ → ℕ → Span
limits_of min max = record { min = min; max = max }

-- limits so wide that they cost nothing
abbrev pub wide : Contract
wide = record { total = limits_of 1 9; work = limits_of 1 9; off = limits_of 1 9; weekends = 9; complete = false }

-- one shift type, no demand, and limits so wide that they cost nothing
abbrev pub plain_week : Problem
plain_week = record {
  numbers = record { nurses = 1; shifts = 1; skills = 1 };
  is_last = false;
  is_early = false;
  has_skill = λ n k. true;
  demand = λ d s k. no_demand;
  is_forbidden = λ s t. false;
  limits = λ s. limits_of 1 9;
  contract = λ n. wide;
  past = λ n. no_past;
  requests = λ n d s. 0;
  is_held = λ one. false;
}

abbrev pub with_contract : Contract → Problem
with_contract contract = record plain_week { contract = λ n. contract }

-- n working days before Monday, on the first shift type
abbrev pub worked_days : ℕ → Past
worked_days n = record no_past { assignments = n; last = Some 0; shift_run = n; work_run = n }

-- working days within these limits
abbrev pub working_week : Span → Past → Problem
working_week limits past = record (with_contract (record wide { work = limits })) {
  limits = λ s. limits_of 1 99;
  past = λ n. past;
}

-- the nurse has all cells of these days
abbrev pub on_days : (ℕ → Bool) → Roster
on_days has cell = has cell.day
