-- The decoding of an answer.
use Rattle.std.proofs.Common.{◌≡◌, ℕ, ◌+◌, ◌≤◌, pos, Bool, false, List, [], ◌∷◌, map, refl, sym, ◌∙◌, subst, add-one}
use Rattle.std.specs.Prelude.{sum, slice_index_or}
use Rattle.rota_core.specs.Problem.{Problem}
use Rattle.rota_core.specs.declared.values.Cell.{Cell}
use Rattle.rota_core.specs.Roster.{InWeek, Roster}
use Rattle.rota_core.specs.RosterTables.{RosterTables, HasShapeOf, set_of}
use Rattle.rota_core.specs.CellIndex.{cell_index}
use Rattle.rota_rules.specs.AlikeRosters.{AreAlike, CostAlike}
use Rattle.rota_items.specs.Linear.{objective_value}
use Rattle.rota_core.specs.Rules.{soft_rules}
use Rattle.rota_rules.specs.Penalty.{penalty}
use Rattle.rota_judge.specs.Verdicts.{IsMet}
use Rattle.rota_items.specs.Variables.{roster_of}
use Rattle.rota_judge.specs.Truths.{truth_of}
use Rattle.rota_items.specs.WeekModel.{model_of}
use Rattle.rota_judge.specs.declared.judge.verdicts.Verdict.{Verdict}
use Rattle.solver_text.specs.declared.outcome.Solved.{Solved}
use Rattle.rota_pb.specs.Decoded.{FindsRoster, IsDecoded}

map-alike : {X Y : Type 0} (f g : X → Y) → ((x : X) → f x ≡ g x) → (xs : List X) → map f xs ≡ map g xs
map-alike f g same [] = refl
map-alike f g same (x ∷ xs) = rw (same x, map-alike f g same xs) refl

truth_after : (bits : List Bool) (index : ℕ) → truth_of bits (index + 1) ≡ slice_index_or bits index false
truth_after bits index = rw add-one refl

module _ (problem : Problem) (alike : (one other : Roster) → AreAlike problem one other → CostAlike problem one other)
    (solved : Solved) (verdict : Verdict) (roster : RosterTables) (total : ℕ)
    (finds : FindsRoster solved.status) (met : IsMet problem (truth_of solved.bits) verdict)
    (objective : pos verdict.objective ≡ objective_value (truth_of solved.bits) (model_of problem))
    (shape : HasShapeOf problem roster)
    (cells : (cell : Cell) → InWeek problem cell →
    set_of roster cell ≡ slice_index_or solved.bits (cell_index problem.shifts problem.skills cell) false)
    (is_total : total ≡ sum verdict.costs) where
  same : (cell : Cell) → InWeek problem cell → roster_of problem (truth_of solved.bits) cell ≡ set_of roster cell
  same cell in_week = truth_after solved.bits (cell_index problem.shifts problem.skills cell) ∙ sym (cells cell in_week)

  of_roster : total ≡ penalty problem (set_of roster)
  of_roster = is_total ∙ met.costs_rules.sum_is ∙ (alike _ _ same).penalties

  -- an assignment that satisfies the model is decoded
  pub is_decoded : IsDecoded problem solved (record {
    roster = roster;
    objective = verdict.objective;
    costs = verdict.costs;
    penalty = total;
    status = solved.status;
    last_o = solved.last_o;
  })
  is_decoded = record {
    finds = finds;
    satisfies = met.satisfies;
    shape = shape;
    cells = λ cell in_week. sym (same cell in_week);
    keeps = (alike _ _ same).keeps met.keeps;
    objective = objective;
    costs = met.costs_rules.costs ∙ map-alike _ _ (alike _ _ same).costs soft_rules;
    sum_of_costs = is_total;
    penalty_is = of_roster;
    penalty_at_most = subst (λ n. n ≤ verdict.objective) (sym (is_total ∙ met.costs_rules.sum_is)) met.penalty_at_most;
    same_status = refl;
    same_last_o = refl;
  }
