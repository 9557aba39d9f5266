-- Names for the definitions of the model; rows, items, and the cells of their sums.
use Rattle.std.specs.Prelude.{◌-ℤ◌, ◌∷◌}
pub use Rattle.rota_core.specs.Lists.{concat_below, singleton_if}
pub use Rattle.rota_core.specs.RosterCells.{cell_at, cells_of}
pub use Rattle.rota_items.specs.declared.part.Part.{Part}
pub use Rattle.rota_items.specs.declared.part.Part.TheVariants.{Hard, Objective, Soft}
pub use Rattle.rota_items.specs.Linear.{Term, value_of, Constraint, Model}
pub use Rattle.rota_items.specs.Imports.{DAYS, ℕ, ℤ, Bool, int_le, List, pos, negsuc, Rule, [], Cell, Problem, cell, map, nat_lt, min}

-- a row of the model: its part (the objective, or the constraint's rule), its terms and its degree
pub record LinearRow (X : Type 0) : Type 0 where
  pub part : Part
  pub terms : List (Term X)
  pub degree : ℤ

-- the constraint of a row, without its part
abbrev pub linear_constraint : LinearRow ℕ → Constraint
linear_constraint row = record { terms = row.terms; degree = row.degree }

-- whether the assignment satisfies the row
abbrev pub is_satisfied : {X : Type 0} → (X → Bool) → LinearRow X → Bool
is_satisfied assignment row = int_le row.degree (value_of assignment row.terms)

-- a term for each of these, with this coefficient
abbrev pub times : {X : Type 0} → ℤ → List X → List (Term X)
times coefficient variables = map (λ v. (coefficient, v)) variables

-- a weighted linear constraint, whose slacks make up for a shortage
pub record Item (X : Type 0) : Type 0 where
  pub rule : Rule
  pub weight : ℕ
  pub slacks : ℕ
  pub terms : List (Term X)
  pub degree : ℤ

-- the number, or 0 if it is negative
abbrev pub positive_part : ℤ → ℕ
positive_part (pos n) = n
positive_part (negsuc n) = 0

-- the shortage: how far the terms are below the degree
abbrev pub shortage : {X : Type 0} → (X → Bool) → Item X → ℕ
shortage assignment item = positive_part (item.degree -ℤ value_of assignment item.terms)

-- the item with a number in each term instead of a cell
abbrev pub numbered : {X : Type 0} → (X → ℕ) → Item X → Item ℕ
numbered {X} number item = record {
  rule = item.rule;
  weight = item.weight;
  slacks = item.slacks;
  terms = map (λ (term : Term X). (term.0, number term.1)) item.terms;
  degree = item.degree;
}

-- the cells of a nurse's day on a shift type
abbrev pub on_cells : Problem → (nurse shift day : ℕ) → List Cell
on_cells problem n s d = concat_below problem.skills (λ k. cell n d s k ∷ [])

-- the cells of a nurse's day
abbrev pub work_cells : Problem → ℕ → ℕ → List Cell
work_cells problem n d = concat_below problem.shifts (λ s. on_cells problem n s d)

-- the cells of a nurse
abbrev pub nurse_cells : Problem → ℕ → List Cell
nurse_cells problem n = concat_below DAYS (λ d. work_cells problem n d)

-- the cells of all nurses for a day, shift type and skill
abbrev pub demand_cells : Problem → (day shift skill : ℕ) → List Cell
demand_cells problem d s k = concat_below problem.nurses (λ n. cell n d s k ∷ [])

-- the cells of a nurse that need the skill
abbrev pub skill_cells : Problem → ℕ → ℕ → List Cell
skill_cells problem n k = concat_below DAYS (λ d. concat_below problem.shifts (λ s. cell n d s k ∷ []))
