-- The words that the proofs use, by subject.
-- of the logic that the lemmas use: numbers, truth values, lists, and their properties
pub use Rattle.std.proofs.Common.{arith, ◌≡◌, ℕ, [], List, refl, ◌∙◌, ◌∷◌, ap, ◌+◌, ◌≤◌, ◌<◌, true, Bool, ◌*◌, ◌++◌, map, sym, false}
pub use Rattle.std.proofs.Common.{length, cond, suc, rules, inl, zero, inr, ◌-◌, subst, w64, take, ◌&&◌, not, Result, ◌⊎◌, MatchResult, min}
pub use Rattle.std.proofs.Common.{append_assoc, get_or, ltb, add-one, max, drop, leb, zero-add, ℤ, pos, negsuc, ◌+ℤ◌, ◌-ℤ◌, ◌≤ℤ◌, ◌<ℤ◌}
pub use Rattle.std.proofs.Common.{nat_abs, nat_lt, nat_le, if◌then◌else◌, Ok, Err, IsErr, le_trans, mul-le-mul, mul-le-mul_left}
pub use Rattle.std.proofs.Common.{mul-le-mul_right}
pub use Rattle.std.proofs.Math.Bool.{or-false}
pub use Rattle.std.proofs.lemmas.Bool.{cases_Bool, lt-ltb, true≢false, ltb-true, and_parts, false_from_ne_true}
pub use Rattle.std.proofs.lemmas.Bool.Decides.{nat_tests}
pub use Rattle.std.proofs.lemmas.Grind.{take_at_read}
pub use Rattle.std.proofs.lemmas.Int.{ints, to_z-of_z, to_z_pos}
pub use Rattle.std.proofs.lemmas.List.{length-map, length-append, map-append, map-id, append-nil, take_all, take-append-drop}
pub use Rattle.std.proofs.lemmas.List.Concat.{flat_map-append, length-flat_map}
pub use Rattle.std.proofs.lemmas.List.Elements.{All-from_recursion}
pub use Rattle.std.proofs.lemmas.List.Folds.{fold-map, list_all-append, list_any-append}
pub use Rattle.std.proofs.lemmas.List.FromFn.{map-range_with_len_more, get_or-map-range_with_len, length-map-range_with_len}
pub use Rattle.std.proofs.lemmas.List.FromFn.{length-range_with_len, take-map-range_with_len}
pub use Rattle.std.proofs.lemmas.List.Sums.{sum_by-cons, sum_by-append, fold-append, sum_by-le-sum_by, count_by-le-length, sum_by-le}
pub use Rattle.std.proofs.lemmas.Nat.{mul-le, mul-add-lt}
pub use Rattle.std.proofs.lemmas.Result.{MatchResult-weaker, MatchResult-from_err}
pub use Rattle.std.proofs.lemmas.Simd.{map-map}
pub use Rattle.std.specs.List.{AllByRecursion, flat_map, count_by, sum_by, range_with_len, fold, list_any, list_all}
pub use borrow.Author.Differences.{down, up}
pub use mir.Val.{bool_byte}
pub use Rattle.rota_core.proofs.LogicWords.{AllByRecursion-append, AllByRecursion-concat_below, AllByRecursion-singleton_if}
pub use Rattle.rota_core.proofs.LogicWords.{singleton_if-holds, AllByRecursion-back, concat_below-more, length-singleton_if}
pub use Rattle.rota_core.proofs.LogicWords.{singleton_if-fails, AllByRecursion-at, concat_below-zero, length-concat_below, holds-where}
pub use Rattle.rota_core.proofs.LogicWords.{in_turn}
unfoldable pub use Rattle.rota_core.specs.SumsBelow.{sum_below, any_below}
unfoldable pub use Rattle.rota_core.specs.Lists.{concat_below, singleton_if}
-- of the model: weeks, rosters and rules, rows, items and their numbers
pub use Rattle.rota_items.specs.Imports.{Cell, Rule, Span, count_below, hard_rules, soft_rules, is_off, is_on, nurses_at, works}
pub use Rattle.rota_items.specs.Imports.{KeepsCompetitionRules, KeepsMinimum, KeepsOneCell}
pub use Rattle.rota_core.specs.InstanceTables.{problem_of, InstanceTables, IsInstance}
pub use Rattle.rota_core.specs.Roster.{Roster, cell, InWeek}
unfoldable pub use Rattle.rota_core.specs.RosterCells.{cells_of}
pub use Rattle.rota_core.specs.CellIndex.{cell_count}
pub use Rattle.rota_core.specs.Problem.{Problem}
pub use Rattle.rota_items.specs.RuleItems.{soft_items, items_of_rule, constant, constant_of_rule, cell_terms, nurse_constant, nurse_items}
pub use Rattle.rota_items.specs.RuleItems.{cell_terms_of_rule, is_soft}
pub use Rattle.rota_items.specs.Coefficients.{IsUnit}
pub use Rattle.rota_items.specs.HardRows.{rows_of_hard_rule, rule_rows, h5_row, h1_row, h3_rows_between, h3_rows_of, h2_rows_at}
pub use Rattle.rota_items.specs.HardRows.{h3_monday_rows, h3_monday_rows_at, h3_rows_at, h4_rows_at}
pub use Rattle.rota_items.specs.ItemCounting.{ItemNumbers, one_row_more, sum_within, with_one}
pub use Rattle.rota_rules.specs.WithinLimits.{IsWithinLimits}
pub use Rattle.rota_items.specs.Linear.{Term, value_of}
pub use Rattle.rota_items.specs.Rows.{Item, LinearRow, times, numbered, shortage, work_cells, linear_constraint, positive_part, on_cells}
pub use Rattle.rota_items.specs.Rows.{demand_cells, nurse_cells, skill_cells}
pub use Rattle.rota_items.specs.Objective.{objective_rows}
pub use Rattle.rota_rules.specs.Penalty.{rule_cost, penalty}
pub use Rattle.rota_items.specs.ModelCosts.{weighted_shortages}
pub use Rattle.rota_items.specs.Variables.{cell_number, unit_number}
pub use Rattle.rota_items.specs.WeekModel.{model_of, first_slack, numbered_items, numbered_terms, rows_of, slack_count, item_rows}
pub use Rattle.rota_items.specs.WeekModel.{numbered_row, objective_terms, slack_weights, slack_variables, constant_terms}
-- of the rules: each by its name, its cost, its items, and the bounds on them
pub use Rattle.rota_core.specs.declared.rule.Rule.TheVariants.{H5, H1, H2, H3, H4}
pub use Rattle.rota_rules.specs.CostBounds.{max_cells, max_cells_of_nurse, max_cells_of_day, max_unit_weight, penalty_limit}
pub use Rattle.rota_items.specs.Bounds.{max_constant, max_weight, max_items, max_constant_of_rule, max_run_items, count_limit}
pub use Rattle.rota_items.specs.Bounds.{max_constant_of_nurse, max_items_of_nurse}
pub use Rattle.rota_rules.specs.CountedTotals.{charged_excess}
pub use Rattle.rota_items.specs.CountedItems.{max_totals_count, excess_before_counts}
pub use Rattle.rota_core.specs.Limits.{max_skills, max_nurses, max_shifts, max_number}
pub use Rattle.rota_items.specs.MachineBounds.{word_limit, max_count}
pub use Rattle.rota_items.specs.rules.ConsecutiveAssignments.{shift_runs, work_runs}
pub use Rattle.rota_rules.specs.OptimalCoverage.{optimum_cost, optimum_weight}
pub use Rattle.rota_items.specs.rules.OptimalCoverage.{optimum_item, optimum_items_at, optimum_items}
pub use Rattle.rota_rules.specs.ShiftOffRequests.{request_cost, request_weight}
pub use Rattle.rota_items.specs.rules.ShiftOffRequests.{request_terms_on, request_terms}
-- of runs: their days, their windows and patterns, and the items that charge them
pub use Rattle.rota_items.specs.CellSums.{day_after, day_before, days_of, property_of, is_plain_of}
pub use Rattle.rota_items.specs.RunItemParts.{DaysFollow, has_property, pattern_items_on, window_items_on, AtMostOneADay, day_items}
pub use Rattle.rota_rules.specs.Runs.{day_cost, run_cost, is_over, missing_on, run_length, week_days}
pub use Rattle.rota_items.specs.RunItems.{run_items, Runs, Pattern, PatternDay, pattern_item, variables_on, Property, day_terms, Present}
pub use Rattle.rota_items.specs.RunItems.{patterns, windows, with_property, without_property, days_with, is_plain, patterns_on, windows_on}
pub use Rattle.rota_items.specs.RunItems.{closed_patterns_at, closed_patterns_on, edge_patterns_on, saturday, Absent, closed_pattern}
pub use Rattle.rota_items.specs.RunItems.{edge_pattern, only_sunday, weekend_items, window, pattern_items}
unfoldable pub use Rattle.rota_rules.specs.Runs.{run_over, run_under}
pub use Rattle.rota_items.specs.declared.cell_sum.DayPattern.{DayPattern}
pub use Rattle.rota_items.specs.declared.cell_sum.DayProperty.{DayProperty}
pub use Rattle.rota_items.specs.declared.cell_sum.DayProperty.TheVariants.{Shift}
-- of takers: events, takers of events and of items, and the events and items that they took
pub use Rattle.rota_items.specs.CellEvents.{coefficient_of, sum_events}
unfoldable pub use Rattle.rota_items.specs.CellEvents.{cell_term_events}
pub use Rattle.rota_items.specs.Events.{row_events, close_row, start_row, term, Event}
unfoldable pub use Rattle.rota_items.specs.Events.{term_events, events}
pub use Rattle.rota_items.specs.RowsOfItems.{row_of_item, RowsState, StopsAtRow, slacks_within, weights_of_item, with_item, with_row}
pub use Rattle.rota_items.specs.RowsOfItems.{within_numbers}
pub use Rattle.rota_items.specs.SentItems.{runs_of, item_of, charged_items}
unfoldable pub use Rattle.rota_items.specs.SentItems.{numbered_list, numbered_rows}
pub use Rattle.rota_items.specs.Takes.{Took, Refused, RefusedFrom, Takes, RefusedOne, TookAll, TakesAll, TakesItems}
pub use Rattle.rota_items.proofs.Common.Definitions.{TookItems, TookRows, closed_items_at, max_charge, max_slacks, max_terms}
pub use Rattle.rota_items.specs.declared.part.Part.{Part}
pub use Rattle.rota_items.specs.declared.part.Part.TheVariants.{Objective}
pub use Rattle.rota_items.specs.declared.sums.Sign.{Sign}
pub use Rattle.rota_items.specs.declared.sums.Sign.TheVariants.{Minus, Plus}
pub use Rattle.rota_items.specs.declared.takers.Taker.{Ghosts}
