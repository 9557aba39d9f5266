-- The meaning of an answer for a week: its roster with the costs, or the reason why it has none.
use Rattle.std.specs.Prelude.{◌≡◌, ℕ, ◌≤◌, pos, Bool, map, sum, Some}
use Rattle.rota_pb.specs.Imports.{Cell, Fault, HasShapeOf, InWeek, KeepsHardRules, NoRoster, objective_value, roster_of, Rule}
use Rattle.rota_pb.specs.Imports.{SatisfiesModel, set_of, soft_rules, Unmet, Problem}
use Rattle.rota_rules.specs.Penalty.{penalty, rule_cost}
use Rattle.rota_judge.specs.FirstUnmet.{first_unmet}
use Rattle.rota_judge.specs.Truths.{truth_of}
use Rattle.rota_items.specs.WeekModel.{model_of, rows_of}
use Rattle.solver_text.specs.declared.outcome.Status.{Status}
use Rattle.solver_text.specs.declared.outcome.Status.TheVariants.{Satisfiable, Optimum}
use Rattle.solver_text.specs.declared.outcome.Solved.{Solved}
use Rattle.rota_pb.specs.declared.decoded.Decoded.{Decoded}
use Rattle.rota_pb.specs.Steps.{Step, check}

-- the statuses of an answer that gives an assignment
abbrev pub FindsRoster : Status → Type 0
FindsRoster Satisfiable = Unit {0}
FindsRoster Optimum = Unit {0}
FindsRoster _ = ⊥

-- The variables that the answer makes true satisfy the model of the week. The roster has exactly the cells whose variable is true, keeps
-- the hard rules, and costs the penalty, which is at most the objective.
pub record IsDecoded (problem : Problem) (solved : Solved) (decoded : Decoded) : Type 0 where
  pub finds : FindsRoster solved.status
  pub satisfies : SatisfiesModel (truth_of solved.bits) (model_of problem)
  pub shape : HasShapeOf problem decoded.roster
  pub cells : (cell : Cell) → InWeek problem cell → set_of decoded.roster cell ≡ roster_of problem (truth_of solved.bits) cell
  pub keeps : KeepsHardRules problem (set_of decoded.roster)
  pub objective : pos decoded.objective ≡ objective_value (truth_of solved.bits) (model_of problem)
  pub costs : decoded.costs ≡ map (rule_cost problem (set_of decoded.roster)) soft_rules
  pub sum_of_costs : decoded.penalty ≡ sum decoded.costs
  pub penalty_is : decoded.penalty ≡ penalty problem (set_of decoded.roster)
  pub penalty_at_most : decoded.penalty ≤ decoded.objective
  pub same_status : decoded.status ≡ solved.status
  pub same_last_o : decoded.last_o ≡ solved.last_o

-- the constraint with this number, from 1, is the first of the model that the assignment does not satisfy
pub record IsFirstUnmet (problem : Problem) (assignment : ℕ → Bool) (number : ℕ) : Type 0 where
  pub rule : Rule
  pub first : first_unmet assignment (rows_of problem) ≡ Some (number, rule)
  pub unsatisfied : SatisfiesModel assignment (model_of problem) → ⊥

-- Why an answer has no roster: its status says so, or its assignment does not satisfy the model.
abbrev pub LacksRoster : Problem → Solved → Fault → Type 0
LacksRoster problem solved (NoRoster status) = (status ≡ solved.status) × (FindsRoster solved.status → ⊥)
LacksRoster problem solved (Unmet number) = FindsRoster solved.status × IsFirstUnmet problem (truth_of solved.bits) number
LacksRoster problem solved _ = ⊥

-- the roster of an answer is found, or the reason why it has none
abbrev pub find_roster : Problem → Solved → Step Decoded
find_roster problem solved = check (IsDecoded problem solved) (LacksRoster problem solved)
