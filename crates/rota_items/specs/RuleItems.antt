-- The charges of the model for the soft rules: items, the constant, and terms on cells.
use Rattle.std.specs.Prelude.{◌++◌, ℕ, Bool, List, [], flat_map}
use Rattle.std.specs.List.{list_any}
use Rattle.rota_core.specs.Rules.{is_rule}
use Rattle.rota_items.specs.Imports.{sum_by, Rule, Cell, Problem, sum_below, soft_rules, Option, Some, None}
use Rattle.rota_items.specs.Rows.{concat_below, Item, Term}
use Rattle.rota_items.specs.rules.CompleteWeekends.{complete_weekends_of}
use Rattle.rota_items.specs.rules.ConsecutiveAssignments.{assignment_runs_of}
use Rattle.rota_items.specs.rules.ConsecutiveDaysOff.{days_off_runs_of}
use Rattle.rota_items.specs.rules.TotalAssignments.{assignment_constant_of, totals_of}
use Rattle.rota_items.specs.rules.WorkedWeekends.{weekend_constant_of, worked_weekends_of}
use Rattle.rota_items.specs.rules.OptimalCoverage.{optimum_items}
use Rattle.rota_items.specs.rules.ShiftOffRequests.{request_terms}

-- the parts that the model charges for a rule
pub record Charge : Type 0 where
  -- items of the days' demands, and items of each nurse: their shortages are charged
  pub day_items : Problem → List (Item Cell)
  pub nurse_items : Problem → ℕ → List (Item Cell)
  -- each nurse's part of the constant, which no roster that keeps H1 can avoid, because of the history
  pub nurse_constant : Problem → ℕ → ℕ
  -- the objective's terms on cells
  pub cell_terms : Problem → List (Term Cell)

-- no items, no constant and no terms
abbrev pub no_charge : Charge
no_charge = record {
  day_items = λ problem. [];
  nurse_items = λ problem n. [];
  nurse_constant = λ problem n. 0;
  cell_terms = λ problem. [];
}

-- the soft rules, each with its charge; no other rule has one
abbrev pub charge_of : Rule → Option Charge
charge_of Rule.S1 = Some (record no_charge { day_items = optimum_items })
charge_of Rule.S2 = Some (record no_charge { nurse_items = assignment_runs_of })
charge_of Rule.S3 = Some (record no_charge { nurse_items = days_off_runs_of })
charge_of Rule.S4 = Some (record no_charge { cell_terms = request_terms })
charge_of Rule.S5 = Some (record no_charge { nurse_items = complete_weekends_of })
charge_of Rule.S6 = Some (record no_charge { nurse_items = totals_of; nurse_constant = assignment_constant_of })
charge_of Rule.S7 = Some (record no_charge { nurse_items = worked_weekends_of; nurse_constant = weekend_constant_of })
charge_of _ = None

-- the charge if there is one, otherwise `no_charge`
abbrev pub or_no_charge : Option Charge → Charge
or_no_charge None = no_charge
or_no_charge (Some charge) = charge

-- the charge of a rule; of a hard rule: `no_charge`
abbrev pub charge_or_none : Rule → Charge
charge_or_none rule = or_no_charge (charge_of rule)

-- a nurse's items of a rule
abbrev pub nurse_items : Problem → Rule → ℕ → List (Item Cell)
nurse_items problem rule = (charge_or_none rule).nurse_items problem

-- a nurse's part of the constant for a rule
abbrev pub nurse_constant : Problem → Rule → ℕ → ℕ
nurse_constant problem rule = (charge_or_none rule).nurse_constant problem

-- the items of a rule: of the days, then of each nurse
abbrev pub items_of_rule : Problem → Rule → List (Item Cell)
items_of_rule problem rule = (charge_or_none rule).day_items problem ++ concat_below problem.nurses (nurse_items problem rule)

-- the part of the constant for a rule, over all nurses
abbrev pub constant_of_rule : Problem → Rule → ℕ
constant_of_rule problem rule = sum_below problem.nurses (nurse_constant problem rule)

-- a rule's terms on cells
abbrev pub cell_terms_of_rule : Problem → Rule → List (Term Cell)
cell_terms_of_rule problem rule = (charge_or_none rule).cell_terms problem

-- whether the rule is a soft rule
abbrev pub is_soft : Rule → Bool
is_soft rule = list_any (is_rule rule) soft_rules

-- the items of all soft rules, in their order
abbrev pub soft_items : Problem → List (Item Cell)
soft_items problem = flat_map (items_of_rule problem) soft_rules

-- the objective's constant: the parts of all soft rules
abbrev pub constant : Problem → ℕ
constant problem = sum_by (constant_of_rule problem) soft_rules

-- the objective's terms on cells, of all soft rules
abbrev pub cell_terms : Problem → List (Term Cell)
cell_terms problem = flat_map (cell_terms_of_rule problem) soft_rules
