-- How ports over memory move their bytes.
use Rattle.std.specs.Prelude.{ℕ, ◌-◌, Bool, true, not, if◌then◌else◌, nat_lt, nat_eq, min, Option, Some, None, length}
use Rattle.byte_ports.specs.declared.memory_ports.MemorySource.{MemorySource}
use Rattle.byte_ports.specs.declared.memory_ports.MemoryTarget.{MemoryTarget}
use Rattle.byte_ports.specs.declared.memory_ports.CallPlan.{CallPlan}

-- whether a good call is left; `None` is an unlimited number of good calls
abbrev pub has_call : Option ℕ → Bool
has_call None = true
has_call (Some n) = nat_lt 0 n

-- the number of good calls that are left after a call
abbrev pub calls_after : Option ℕ → Option ℕ
calls_after None = None
calls_after (Some n) = Some (n - 1)

-- the plan after one more call
abbrev pub after_call : CallPlan → CallPlan
after_call plan = record plan { good_calls = calls_after plan.good_calls }

-- whether a call is the one that fails
abbrev pub is_last_call : CallPlan → Bool
is_last_call plan = not (has_call plan.good_calls)

abbrev pub source_plan : MemorySource → CallPlan
source_plan source = source.plan

abbrev pub is_failed_source : MemorySource → Bool
is_failed_source source = source.failed

abbrev pub is_failed_target : MemoryTarget → Bool
is_failed_target target = target.failed

-- the number of bytes that a sound source moves into a buffer of this length
abbrev pub moves : MemorySource → ℕ → ℕ
moves source wanted = min (length source.rest.now) (min wanted source.plan.max_piece)

abbrev pub target_plan : MemoryTarget → CallPlan
target_plan target = target.plan

-- the number of bytes for which a target still has room
abbrev pub room_of : MemoryTarget → ℕ
room_of target = target.room

-- the number of bytes that a sound target accepts of a piece of this length
abbrev pub takes : MemoryTarget → ℕ → ℕ
takes target wanted = min wanted (min (room_of target) target.plan.max_piece)

-- a sound port's plan after a call on a piece of this length; an empty piece does not count as a call
abbrev pub plan_after : CallPlan → ℕ → CallPlan
plan_after plan length = if nat_eq length 0 then plan else after_call plan
