-- The rows that mean the hard rules, over cells.
use Rattle.std.specs.Prelude.{◌∷◌, ◌+◌, ◌-◌, ◌++◌, ℕ, pos, negsuc, nat_lt, not}
use Rattle.rota_core.specs.Successions.{is_forbidden_after}
use Rattle.rota_items.specs.Imports.{DAYS, List, [], map, flat_map, Cell, Problem, Rule, hard_rules, H1, H2, H3, H4, H5}
use Rattle.rota_items.specs.Rows.{LinearRow, Hard, times, concat_below, singleton_if, on_cells, work_cells, demand_cells, skill_cells}
use Rattle.rota_items.specs.Rows.{cells_of}

-- H1: at most one cell of a nurse on a day is in the roster
abbrev pub h1_row : Problem → ℕ → ℕ → LinearRow Cell
h1_row problem n d = record { part = Hard H1; terms = times (negsuc 0) (work_cells problem n d); degree = negsuc 0 }

-- the rows of H1: one for each nurse and day
abbrev pub h1_rows : Problem → List (LinearRow Cell)
h1_rows problem = concat_below problem.nurses (λ n. concat_below DAYS (λ d. h1_row problem n d ∷ []))

-- H2: at least the minimum number of nurses for a day, shift type and skill
abbrev pub h2_row : Problem → (day shift skill : ℕ) → LinearRow Cell
h2_row problem d s k = record {
  part = Hard H2;
  terms = times (pos 1) (demand_cells problem d s k);
  degree = pos (problem.demand d s k).minimum;
}

-- the row of H2, if the minimum is above 0
abbrev pub h2_rows_at : Problem → (day shift skill : ℕ) → List (LinearRow Cell)
h2_rows_at problem d s k = singleton_if (nat_lt 0 (problem.demand d s k).minimum) (h2_row problem d s k)

-- the rows of H2, for all days, shift types and skills
abbrev pub h2_rows : Problem → List (LinearRow Cell)
h2_rows problem = concat_below DAYS (λ d. concat_below problem.shifts (λ s. concat_below problem.skills (h2_rows_at problem d s)))

-- H3: the nurse is not on t on Monday; it is a row of the model if t may not follow the last shift type of her history
abbrev pub h3_monday_row : Problem → ℕ → ℕ → LinearRow Cell
h3_monday_row problem n t = record { part = Hard H3; terms = times (negsuc 0) (on_cells problem n t 0); degree = pos 0 }

-- the row of H3 for Monday, if t may not follow the last shift type of the history
abbrev pub h3_monday_rows_at : Problem → ℕ → ℕ → List (LinearRow Cell)
h3_monday_rows_at problem n t = singleton_if (is_forbidden_after problem (problem.past n).last t) (h3_monday_row problem n t)

-- a nurse's rows of H3 for Monday
abbrev pub h3_monday_rows : Problem → ℕ → List (LinearRow Cell)
h3_monday_rows problem n = concat_below problem.shifts (h3_monday_rows_at problem n)

-- H3: if the roster keeps H1, the nurse is not both on s on day d and on t on the next day; it is a row of the model if t may not follow s
abbrev pub h3_row : Problem → (nurse day shift next : ℕ) → LinearRow Cell
h3_row problem n d s t = record {
  part = Hard H3;
  terms = times (negsuc 0) (on_cells problem n s d ++ on_cells problem n t (d + 1));
  degree = negsuc 0;
}

-- the row of H3, if t may not follow s
abbrev pub h3_rows_at : Problem → (nurse day shift next : ℕ) → List (LinearRow Cell)
h3_rows_at problem n d s t = singleton_if (problem.is_forbidden s t) (h3_row problem n d s t)

-- a nurse's rows of H3 for a day and the next day
abbrev pub h3_rows_between : Problem → ℕ → ℕ → List (LinearRow Cell)
h3_rows_between problem n d = concat_below problem.shifts (λ s. concat_below problem.shifts (h3_rows_at problem n d s))

-- a nurse's rows of H3: for Monday, then for each pair of days in the week
abbrev pub h3_rows_of : Problem → ℕ → List (LinearRow Cell)
h3_rows_of problem n = h3_monday_rows problem n ++ concat_below (DAYS - 1) (h3_rows_between problem n)

-- the rows of H3, nurse by nurse
abbrev pub h3_rows : Problem → List (LinearRow Cell)
h3_rows problem = concat_below problem.nurses (h3_rows_of problem)

-- H4: no cell of the nurse with the skill is in the roster
abbrev pub h4_row : Problem → ℕ → ℕ → LinearRow Cell
h4_row problem n k = record { part = Hard H4; terms = times (negsuc 0) (skill_cells problem n k); degree = pos 0 }

-- the row of H4, if the nurse does not have the skill
abbrev pub h4_rows_at : Problem → ℕ → ℕ → List (LinearRow Cell)
h4_rows_at problem n k = singleton_if (not (problem.has_skill n k)) (h4_row problem n k)

-- the rows of H4: one for each nurse and each skill that she does not have
abbrev pub h4_rows : Problem → List (LinearRow Cell)
h4_rows problem = concat_below problem.nurses (λ n. concat_below problem.skills (h4_rows_at problem n))

-- H5: the held cell is in the roster
abbrev pub h5_row : Cell → LinearRow Cell
h5_row one = record { part = Hard H5; terms = times (pos 1) (one ∷ []); degree = pos 1 }

-- the rows of H5, in ascending order of their variables
abbrev pub h5_rows : Problem → List (LinearRow Cell)
h5_rows problem = map h5_row (cells_of problem problem.is_held)

-- the rows of a hard rule; a soft rule has none
abbrev pub rows_of_hard_rule : Problem → Rule → List (LinearRow Cell)
rows_of_hard_rule problem H1 = h1_rows problem
rows_of_hard_rule problem H2 = h2_rows problem
rows_of_hard_rule problem H3 = h3_rows problem
rows_of_hard_rule problem H4 = h4_rows problem
rows_of_hard_rule problem H5 = h5_rows problem
rows_of_hard_rule problem _ = []

-- the rows of the hard rules, in the order of the rules
abbrev pub rule_rows : Problem → List (LinearRow Cell)
rule_rows problem = flat_map (rows_of_hard_rule problem) hard_rules
