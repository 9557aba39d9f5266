-- The words that the proofs use, by subject.
-- of the logic that the lemmas use: numbers, truth values, lists, and their properties
pub use Rattle.std.proofs.Common.{arith, ◌≡◌, ℕ, [], List, refl, ◌∙◌, ◌∷◌, ap, ◌+◌, ◌≤◌, ◌<◌, true, Bool, ◌*◌, ◌++◌, map, sym, false}
pub use Rattle.std.proofs.Common.{length, cond, suc, rules, inl, zero, inr, ◌-◌, subst, w64, take, ◌↔◌, ◌&&◌, not, Result, None, Some, ◌⊎◌}
pub use Rattle.std.proofs.Common.{MatchResult, min, Option, append_assoc, ltb, add-zero, max, drop, ℤ, pos, negsuc, ◌+ℤ◌, ◌-ℤ◌, ◌≤ℤ◌, ◌<ℤ◌}
pub use Rattle.std.proofs.Common.{nat_abs, nat_lt, nat_le, int_le, ◌==◌, if◌then◌else◌, slice_index_or, Ok, Err, IfSome, IsSomeAnd}
pub use Rattle.std.proofs.Common.{MatchOption, mul-le-mul_left, mul-le-mul_right, one-mul, zero-mul}
pub use Rattle.std.proofs.lemmas.Bool.{cases_Bool, lt-ltb, true≢false, le-ltb, ltb-false, ltb-true, and_parts, eq-eqb, eqb-true}
pub use Rattle.std.proofs.lemmas.Bool.{false_from_ne_true, ne_eqb, not-true}
pub use Rattle.std.proofs.lemmas.Bool.Decides.{nat_tests, leb_tells}
pub use Rattle.std.proofs.lemmas.Int.{ints}
pub use Rattle.std.proofs.lemmas.List.{length-map, map-append, map-id, append-nil}
pub use Rattle.std.proofs.lemmas.List.Concat.{flat_map-append, length-flat_map}
pub use Rattle.std.proofs.lemmas.List.Elements.{All-from_recursion, recursion_from_All, All-head, All-tail}
pub use Rattle.std.proofs.lemmas.List.Folds.{Any-from_list_any}
pub use Rattle.std.proofs.lemmas.List.FromFn.{map-range_with_len_more, get_or-map-range_with_len, length-map-range_with_len}
pub use Rattle.std.proofs.lemmas.List.FromFn.{length-range_with_len}
pub use Rattle.std.proofs.lemmas.List.Sums.{sum_by-cons, sum_by-append, fold-append, count_by-le-length}
pub use Rattle.std.proofs.lemmas.Simd.{map-map}
pub use Rattle.std.specs.Int.{saturate_signed}
pub use Rattle.std.specs.List.{AllByRecursion, flat_map, count_by, sum_by, range_with_len, fold, All, list_any, sum, list_all}
pub use Rattle.std.specs.Option.{option_or}
pub use Rattle.rota_core.proofs.LogicWords.{AllByRecursion-append, AllByRecursion-singleton_if, AllByRecursion-back, concat_below-more}
unfoldable pub use Rattle.rota_core.specs.Lists.{concat_below}
-- of the model: weeks, rosters and rules, rows, items and their numbers
pub use Rattle.rota_judge.specs.Imports.{Cell, Rule, hard_rules, soft_rules, is_on, KeepsCompetitionRules, KeepsHardRules, KeepsHeld}
pub use Rattle.rota_judge.specs.Imports.{KeepsMinimum, KeepsOneCell, KeepsSkills, KeepsSuccession}
pub use Rattle.rota_core.specs.InstanceTables.{problem_of, InstanceTables, IsInstance}
pub use Rattle.rota_core.specs.Roster.{Roster, cell, InWeek, Has}
pub use Rattle.rota_core.specs.RosterCells.{cell_at}
unfoldable pub use Rattle.rota_core.specs.RosterCells.{cells_of}
pub use Rattle.rota_core.specs.RosterTables.{set_of, HasShapeOf, RosterTables}
pub use Rattle.rota_core.specs.CellIndex.{cell_index}
pub use Rattle.rota_core.specs.Problem.{Problem}
pub use Rattle.rota_items.specs.RuleItems.{soft_items, items_of_rule, constant, constant_of_rule, cell_terms, cell_terms_of_rule}
pub use Rattle.rota_items.specs.Coefficients.{IsUnit, HasUnitCoefficients}
pub use Rattle.rota_items.specs.Counting.{counted, counts_of, maximum, is_constraint, no_counts, variables_in, counts_of_model}
pub use Rattle.rota_judge.specs.FirstUnmet.{first_unmet, later, rule_of_part, FirstBroken, NamesFirstBroken}
pub use Rattle.rota_items.specs.HardRows.{rows_of_hard_rule, rule_rows, h5_row, h1_row, h1_rows, h2_row, h5_rows, h3_monday_row, h3_row}
pub use Rattle.rota_items.specs.HardRows.{h4_row}
pub use Rattle.rota_core.specs.Successions.{is_forbidden_after}
pub use Rattle.rota_judge.specs.ItemConstraints.{AreBelow, item_constraints, item_constraint}
pub use Rattle.rota_rules.specs.WithinLimits.{IsWithinLimits}
pub use Rattle.rota_items.specs.Linear.{Term, value_of, Satisfies, Constraint, SatisfiesModel, objective_value}
pub use Rattle.rota_items.specs.Rows.{Item, LinearRow, times, numbered, shortage, work_cells, linear_constraint, positive_part, on_cells}
pub use Rattle.rota_items.specs.Rows.{demand_cells, skill_cells, is_satisfied}
pub use Rattle.rota_items.specs.Objective.{objective_rows}
pub use Rattle.rota_rules.specs.Penalty.{rule_cost, penalty}
pub use Rattle.rota_judge.specs.RisingTerms.{HasRisingTerms, RisesFrom}
pub use Rattle.rota_items.specs.ModelCosts.{weighted_shortages, model_cost}
pub use Rattle.rota_judge.specs.Occurrence.{occurs_in, OccursInSome, without_held}
pub use Rattle.rota_judge.specs.Truths.{truth_of}
pub use Rattle.rota_items.specs.Variables.{cell_number, unit_number, roster_of}
pub use Rattle.rota_items.specs.WeekModel.{model_of, first_slack, numbered_items, numbered_terms, rows_of, slack_count, item_rows}
pub use Rattle.rota_items.specs.WeekModel.{numbered_row, objective_terms, slack_weights, hard_rows, slack_variables, item_row}
pub use Rattle.rota_items.specs.WeekModel.{cell_of_number, constant_terms, hard_constraints, unit_row}
pub use Rattle.rota_judge.specs.Extensions.{extension_of, assignment_of, extension, is_slack_needed}
-- of the rules: each by its name, its cost, its items, and the bounds on them
pub use Rattle.rota_core.specs.declared.rule.Rule.TheVariants.{H5, H1, H2, H3, H4}
pub use Rattle.rota_items.specs.Bounds.{max_weight, max_objective, max_coefficient}
pub use Rattle.rota_items.specs.MachineBounds.{signed_limit, max_count}
pub use Rattle.rota_rules.specs.ShiftOffRequests.{request_cost}
-- of takers: events, takers of events and of items, and the events and items that they took
unfoldable pub use Rattle.rota_items.specs.CellEvents.{cell_term_events}
pub use Rattle.rota_items.specs.Events.{row_events, close_row, start_row, Event}
unfoldable pub use Rattle.rota_items.specs.Events.{term_events, events}
unfoldable pub use Rattle.rota_items.specs.SentItems.{numbered_list}
pub use Rattle.rota_items.specs.Takes.{RefusedOne, TakesAll}
pub use Rattle.rota_judge.specs.LiteralTakes.{TookLiterals}
pub use Rattle.rota_items.proofs.ItemLemmas.{half_limit}
pub use Rattle.rota_items.specs.declared.part.Part.{Part}
pub use Rattle.rota_items.specs.declared.part.Part.TheVariants.{Objective, Hard, Soft}
-- of the judge: its subject, its tallies and sums, and its verdicts
pub use Rattle.rota_judge.specs.JudgeState.{Subject, fresh, judged, assigned, assignment_in, extended, tallied, capped, closed, counts_for}
pub use Rattle.rota_judge.specs.JudgeState.{no_sums, roster_in, with_constants, with_cost, JudgeState, SettlesModel, WasDriven}
pub use Rattle.rota_judge.specs.JudgeState.{constraint_closed, lacking_in, no_tally, true_slacks}
pub use Rattle.rota_items.specs.RuleItems.{is_soft}
pub use Rattle.rota_judge.specs.Verdicts.{CostsTheRules, ExtendsToModel, IsMet, Judges, JudgesTheRules, soft_index}
pub use Rattle.rota_judge.specs.declared.judge.tallies.RowSums.{RowSums}
pub use Rattle.rota_judge.specs.declared.judge.tallies.Tally.{Tally}
pub use Rattle.rota_judge.specs.declared.judge.verdicts.Verdict.{Verdict}
