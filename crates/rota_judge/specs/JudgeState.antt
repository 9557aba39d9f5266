-- How a judge changes with the events of rows.
use Rattle.std.specs.Prelude.{◌≡◌, ℕ, ◌+◌, ◌*◌, ℤ, pos, ◌+ℤ◌, ◌-ℤ◌, min, Bool, nat_lt, nat_le, if◌then◌else◌, Option, Some, None, List}
use Rattle.std.specs.Prelude.{◌++◌, length, slice_index_or, slice_set, map}
use Rattle.std.specs.List.{fold}
use Rattle.std.specs.Int.{saturate_signed, w64}
use Rattle.std.specs.Option.{option_or}
use Rattle.rota_core.specs.declared.rule.Rule.{Rule}
use Rattle.rota_core.specs.InstanceTables.{InstanceTables, problem_of}
use Rattle.rota_core.specs.RosterTables.{RosterTables, HasShapeOf, set_of}
use Rattle.rota_core.specs.Problem.{Problem}
use Rattle.rota_core.specs.Roster.{Roster}
use Rattle.rota_core.specs.Rules.{soft_rules}
use Rattle.rota_items.specs.declared.part.Part.{Part}
use Rattle.rota_items.specs.declared.part.Part.TheVariants.{Objective, Hard, Soft}
use Rattle.rota_judge.specs.declared.judge.tallies.RowSums.{RowSums}
use Rattle.rota_judge.specs.declared.judge.tallies.Tally.{Tally}
use Rattle.rota_judge.specs.declared.judge.verdicts.Verdict.{Verdict}
use Rattle.rota_items.specs.Variables.{unit_number, roster_of}
use Rattle.rota_judge.specs.Truths.{truth_of}
use Rattle.rota_items.specs.MachineBounds.{max_count, max_sum}
use Rattle.rota_items.specs.Events.{Event, start_row, term, close_row, events}
use Rattle.rota_items.specs.Rows.{positive_part}
use Rattle.rota_items.specs.Objective.{objective_rows}
use Rattle.rota_items.specs.RuleItems.{constant_of_rule}
use Rattle.rota_judge.specs.Verdicts.{soft_index, ExtendsOrBreaks, IsMetOrNot}
use Rattle.rota_judge.specs.Extensions.{assignment_of, extension_of}
use Rattle.rota_items.specs.WeekModel.{model_of, rows_of, objective_terms}

-- the subject that a judge evaluates: the variables whose bit is true, or the extension of a roster
pub data Subject : Type 0 where
  assigned : List Bool → Subject
  extended : RosterTables → Subject

-- its assignment and its roster
abbrev pub assignment_in : Problem → Subject → ℕ → Bool
assignment_in problem (assigned bits) = truth_of bits
assignment_in problem (extended roster) = extension_of problem (set_of roster)

abbrev pub roster_in : Problem → Subject → Roster
roster_in problem (assigned bits) = roster_of problem (truth_of bits)
roster_in problem (extended roster) = set_of roster

-- the number of bits is the number of variables, or the roster has the week's nurses, shift types and skills
abbrev pub Fits : Problem → Subject → Type 0
Fits problem (assigned bits) = length bits ≡ (model_of problem).variables
Fits problem (extended roster) = HasShapeOf problem roster

-- the judge's knowledge before the first row: that its subject fits, and the numbers of the unit variable and of the last variable
pub record IsSetUp (problem : Problem) (subject : Subject) (unit last : ℕ) : Type 0 where
  pub fits : Fits problem subject
  pub unit_is : unit ≡ unit_number problem
  pub last_is : last ≡ (model_of problem).variables

-- the verdict about the model: whether the bits satisfy it, or whether the extension of the roster satisfies it
abbrev pub SettlesModel : Problem → Subject → Verdict → Type 0
SettlesModel problem (assigned bits) verdict = IsMetOrNot problem (truth_of bits) verdict
SettlesModel problem (extended roster) verdict = ExtendsOrBreaks problem (set_of roster) verdict

-- ---- sums that stay at the maximum

abbrev pub saturating_sum : ℤ → ℤ → ℤ
saturating_sum x y = saturate_signed w64 (x +ℤ y)

abbrev pub saturating_difference : ℤ → ℤ → ℤ
saturating_difference x y = saturate_signed w64 (x -ℤ y)

abbrev pub capped : ℕ → ℕ
capped n = min n max_sum

-- ---- terms

-- Whether a term at the variable counts. In a roster's extension all slacks count until the row is closed.
abbrev pub counts_for : Problem → Subject → ℕ → Bool
counts_for problem (assigned bits) v = truth_of bits v
counts_for problem (extended roster) v =
    if nat_lt (unit_number problem) v then nat_le v (model_of problem).variables else assignment_of problem (set_of roster) v

-- the sums of a row's terms: the sum of its slacks, and the sum of the other terms
abbrev pub no_sums : RowSums
no_sums = record { others = pos 0; slacks = pos 0 }

abbrev pub added : Problem → RowSums → ℤ → ℕ → RowSums
added problem sums coefficient v =
    if nat_lt (unit_number problem) v
    then record sums { slacks = saturating_sum sums.slacks coefficient }
    else record sums { others = saturating_sum sums.others coefficient }

-- ---- the end of a row

-- the shortage of a row: how far its terms without slacks are below the degree
abbrev pub lacking_in : RowSums → ℤ → ℕ
lacking_in sums degree = positive_part (saturating_difference degree sums.others)

-- the number of true slacks: in a roster's extension at most the shortage
abbrev pub true_slacks : Subject → RowSums → ℕ → ℕ
true_slacks (assigned bits) sums lacks = positive_part sums.slacks
true_slacks (extended roster) sums lacks = min (positive_part sums.slacks) lacks

-- the costs, with this much added at the index, if there is one
abbrev pub added_at : Option ℕ → ℕ → List ℕ → List ℕ
added_at None more costs = costs
added_at (Some index) more costs = slice_set costs index (capped (slice_index_or costs index 0 + more))

-- the costs of the soft rules, with this much added for this rule
abbrev pub with_cost : Rule → ℕ → List ℕ → List ℕ
with_cost rule more costs = added_at (soft_index rule) more costs

-- the costs, with the part of the constant added for each of these rules
abbrev pub with_constants : Problem → List Rule → List ℕ → List ℕ
with_constants problem rules costs = fold (λ charged rule. with_cost rule (constant_of_rule problem rule) charged) costs rules

-- the objective's row is closed: its slacks are charged when their own rows are closed
abbrev pub objective_closed : Tally → Tally
objective_closed tally =
    record tally { requests_and_constant = capped (tally.requests_and_constant + positive_part tally.sums.others) }

-- A constraint is closed: it is counted, and may be the first that is not satisfied. Its shortage is charged to its rule, and its true
-- slacks to the objective.
abbrev pub constraint_closed : Subject → Tally → Rule → ℕ → ℤ → Tally
constraint_closed subject tally rule weight degree =
    let lacks = lacking_in tally.sums degree in
    let slacks = true_slacks subject tally.sums lacks in
    let number = min (tally.constraints + 1) max_count in
    record tally {
      constraints = number;
      unmet = option_or tally.unmet (if nat_le lacks slacks then None else Some (number, rule));
      slacks = capped (tally.slacks + capped (weight * slacks));
      shortages = with_cost rule (capped (weight * lacks)) tally.shortages;
    }

abbrev pub closed : Subject → Tally → Part → ℤ → Tally
closed subject tally Objective degree = objective_closed tally
closed subject tally (Hard rule) degree = constraint_closed subject tally rule 0 degree
closed subject tally (Soft rule weight) degree = constraint_closed subject tally rule weight degree

-- ---- the judge

pub record JudgeState : Type 0 where
  pub instance : InstanceTables
  pub subject : Subject
  pub tally : Tally

-- the shortage of the open row: how far its terms without slacks are below the degree
abbrev pub lacking : JudgeState → ℤ → ℕ
lacking judge_state degree = lacking_in judge_state.tally.sums degree

abbrev pub no_tally : Tally
no_tally = record {
  part = Objective;
  sums = no_sums;
  constraints = 0;
  unmet = None;
  requests_and_constant = 0;
  slacks = 0;
  shortages = map (λ rule. 0) soft_rules;
}

-- a judge that has taken nothing
abbrev pub fresh : InstanceTables → Subject → JudgeState
fresh instance subject = record { instance = instance; subject = subject; tally = no_tally }

abbrev pub with_term : Problem → Subject → Tally → ℤ → ℕ → Tally
with_term problem subject tally coefficient v =
    if counts_for problem subject v then record tally { sums = added problem tally.sums coefficient v } else tally

-- the tally after one more event
abbrev pub tallied : Problem → Subject → Tally → Event → Tally
tallied problem subject tally (start_row part) = record tally { part = part; sums = no_sums }
tallied problem subject tally (term coefficient v) = with_term problem subject tally coefficient v
tallied problem subject tally (close_row degree) = closed subject tally tally.part degree

-- the judge after one more event
abbrev pub judged : JudgeState → Event → JudgeState
judged judge_state event =
    record judge_state { tally = tallied (problem_of judge_state.instance) judge_state.subject judge_state.tally event }

-- it took the objective and then the constraints of its week, and nothing else
abbrev pub WasDriven : JudgeState → Type 0
WasDriven judge_state =
    let problem = problem_of judge_state.instance in
    judge_state.tally ≡
    fold (tallied problem judge_state.subject) no_tally
    (events (objective_rows (objective_terms problem)) ++ events (rows_of problem))
