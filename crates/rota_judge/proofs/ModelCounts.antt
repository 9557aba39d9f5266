-- The counts of a counter for a list of rows, and for the rows of a week's model.
use Rattle.rota_judge.proofs.Common.Imports.{◌≡◌, ℕ, ◌+◌, ◌≤◌, min, max, Bool, true, cond, List, [], ◌∷◌, ◌++◌, map, length, refl, ap, ◌∙◌, arith}
use Rattle.rota_judge.proofs.Common.Imports.{fold-append, sum_by-cons, AllByRecursion, fold, count_by, Term, LinearRow, counted, counts_of, maximum}
use Rattle.rota_judge.proofs.Common.Imports.{is_constraint, no_counts, variables_in, max_count, start_row, close_row, term_events, row_events, events, Part}
use Rattle.rota_judge.proofs.Common.Imports.{Objective, Hard, Soft, ◌<◌, sym, pos, list_any, true≢false, length-map, nat_tests, Problem, objective_rows}
use Rattle.rota_judge.proofs.Common.Imports.{linear_constraint, rows_of, objective_terms, model_of, counts_of_model, occurs_in, IsWithinLimits}
use Rattle.rota_items.specs.declared.counting.counter.Counts.{Counts}
use Rattle.rota_judge.proofs.ModelRows.{each-model_row}
use Rattle.rota_core.specs.RisingLists.{RisesWithin}
use Rattle.rota_core.proofs.LogicWords.{length-rising}
use Rattle.rota_judge.proofs.ModelTerms.{RisesTo, variable_of, objective-to_last, rises-to_last}
use Rattle.rota_items.proofs.ItemLemmas.{rows-below}
use Rattle.rota_judge.proofs.Occurrence.{at_variable, occurs-exactly}

abbrev pub counts_row : LinearRow ℕ → Bool
counts_row row = is_constraint row.part

abbrev pub variables_of : List (Term ℕ) → List ℕ
variables_of terms = map (λ (term : Term ℕ). term.1) terms

pub maximum-append : (xs ys : List ℕ) → maximum (xs ++ ys) ≡ max (maximum xs) (maximum ys)
maximum-append [] ys = omega arith
maximum-append (x ∷ xs) ys = omega (arith, maximum-append xs ys)

pub same_counts : (a b m n : ℕ) → a ≡ b → m ≡ n →
    ◌≡◌ {A = Counts} (record { variables = a; constraints = m }) (record { variables = b; constraints = n })
same_counts a b m n e f = rw (e, f) refl

counted-terms : (counts : Counts) (ts : List (Term ℕ)) →
    fold counted counts (term_events ts) ≡ record counts { variables = max counts.variables (maximum (variables_of ts)) }
unfolding term_events
counted-terms counts [] = same_counts _ _ _ _ (omega arith) refl
counted-terms counts (t ∷ ts) =
    counted-terms (record counts { variables = max counts.variables t.1 }) ts ∙
    same_counts _ _ _ _ (omega arith) refl

abbrev pub one_if : Bool → ℕ
one_if test = cond test 1 0

pub count-more : (row : LinearRow ℕ) (rows : List (LinearRow ℕ)) →
    count_by counts_row (row ∷ rows) ≡ one_if (counts_row row) + count_by counts_row rows
count-more row rows = sum_by-cons (λ (r : LinearRow ℕ). one_if (counts_row r)) row rows

-- if each row is a constraint, all are counted
pub all-counted : (rows : List (LinearRow ℕ)) → AllByRecursion (λ row. counts_row row ≡ true) rows → count_by counts_row rows ≡ length rows
all-counted [] all = refl
all-counted (row ∷ rows) all = omega (arith, ap one_if all.0, count-more row rows, all-counted rows all.1)

-- the counts with a variable and some more constraints
abbrev counted_with : Counts → ℕ → ℕ → Counts
counted_with counts v more = record { variables = max counts.variables v; constraints = min (counts.constraints + more) max_count }

counted-start : (counts : Counts) (part : Part) → counts.constraints ≤ max_count → counted counts (start_row part) ≡
    record counts { constraints = min (counts.constraints + one_if (is_constraint part)) max_count }
counted-start counts Objective fits = same_counts _ _ _ _ refl (omega arith)
counted-start counts (Hard rule) fits = refl
counted-start counts (Soft rule weight) fits = refl

counted-row : (counts : Counts) (row : LinearRow ℕ) → counts.constraints ≤ max_count →
    fold counted counts (row_events row) ≡ counted_with counts (maximum (variables_of row.terms)) (one_if (counts_row row))
counted-row counts row fits =
    let started : Counts =
    record counts { constraints = min (counts.constraints + one_if (counts_row row)) max_count } in
    ap (λ (k : Counts). fold counted k (term_events row.terms ++ close_row row.degree ∷ [])) (counted-start counts row.part fits) ∙
    (fold-append counted started (term_events row.terms) (close_row row.degree ∷ []) ∙ counted-terms started row.terms)

counted-from : (counts : Counts) (rows : List (LinearRow ℕ)) → counts.constraints ≤ max_count →
    fold counted counts (events rows) ≡ counted_with counts (maximum (variables_in rows)) (count_by counts_row rows)
unfolding events
counted-from counts [] fits = same_counts _ _ _ _ (omega arith) (omega arith)
counted-from counts (row ∷ rows) fits =
    let after : Counts = counted_with counts (maximum (variables_of row.terms)) (one_if (counts_row row)) in
    fold-append counted counts (row_events row) (events rows) ∙
    (ap (λ (k : Counts). fold counted k (events rows)) (counted-row counts row fits) ∙
    (counted-from after rows (omega arith) ∙
    same_counts _ _ _ _
    (omega (arith, maximum-append (variables_of row.terms) (variables_in rows)))
    (omega (arith, count-more row rows))))

pub counted-rows : (rows : List (LinearRow ℕ)) → fold counted no_counts (events rows) ≡ counts_of rows
counted-rows rows = counted-from no_counts rows (omega arith) ∙ same_counts _ _ _ _ (omega arith) (omega arith)

-- ---- each row is a constraint

count-rows_of : (problem : Problem) → count_by counts_row (rows_of problem) ≡ length (rows_of problem)
count-rows_of problem =
    all-counted (rows_of problem)
    (each-model_row problem (λ row. counts_row row ≡ true) refl (λ rule row sound. ap is_constraint sound.part_is)
    (λ rule item first sound after up_to. refl))

-- ---- the maximum variable of the constraints is the model's last

maximum-rises : (first end : ℕ) (terms : List (Term ℕ)) → 0 < first → RisesWithin variable_of first end terms →
    maximum (variables_of terms) < end
maximum-rises first end [] some rises = omega (arith, rises)
maximum-rises first end (t ∷ ts) some rises =
    omega (arith, rises.0, length-rising variable_of (t.1 + 1) end ts rises.1, maximum-rises (t.1 + 1) end ts (omega arith) rises.1)

maximum-below : (end : ℕ) → 0 < end → (rows : List (LinearRow ℕ)) →
    AllByRecursion (RisesTo end) (map linear_constraint rows) → maximum (variables_in rows) < end
maximum-below end some [] rise = some
maximum-below end some (row ∷ rows) rise =
    omega (
      arith,
      maximum-append (variables_of row.terms) (variables_in rows),
      maximum-rises 1 end row.terms (omega arith) rise.0,
      maximum-below end some rows rise.1,
    )

maximum-occurs : (v : ℕ) (terms : List (Term ℕ)) → list_any (at_variable v) terms ≡ true → v ≤ maximum (variables_of terms)
maximum-occurs v [] occurs = absurd (true≢false (sym occurs))
maximum-occurs v (t ∷ ts) occurs = grind (arith, nat_tests, maximum-occurs v ts)

maximum-occurs_in : (v : ℕ) (rows : List (LinearRow ℕ)) → list_any (occurs_in v) (map linear_constraint rows) ≡ true →
    v ≤ maximum (variables_in rows)
maximum-occurs_in v [] occurs = absurd (true≢false (sym occurs))
maximum-occurs_in v (row ∷ rows) occurs =
    grind (arith, maximum-append (variables_of row.terms) (variables_in rows), maximum-occurs v row.terms, maximum-occurs_in v rows)

maximum-rows_of : (problem : Problem) → maximum (variables_in (rows_of problem)) ≡ (model_of problem).variables
maximum-rows_of problem =
    omega (
      arith,
      maximum-below ((model_of problem).variables + 1) (omega arith) (rows_of problem) (rises-to_last problem),
      maximum-occurs_in (model_of problem).variables (rows_of problem)
          ((occurs-exactly problem (model_of problem).variables).1 (omega arith, omega arith)),
    )

-- ---- both

module _ (problem : Problem) (limits : IsWithinLimits problem) where
  counts-constraints : counts_of (rows_of problem) ≡ counts_of_model (model_of problem)
  counts-constraints =
      same_counts _ _ _ _ (maximum-rows_of problem)
      (omega (arith, count-rows_of problem, rows-below problem limits, length-map (rows_of problem) linear_constraint))

  counts-objective : (terms : List (Term ℕ)) → maximum (variables_of terms) < (model_of problem).variables + 1 →
      counts_of (objective_rows terms ++ rows_of problem) ≡ counts_of_model (model_of problem)
  counts-objective [] below = counts-constraints
  counts-objective (first ∷ others) below =
      let row : LinearRow ℕ = record { part = Objective; terms = first ∷ others; degree = pos 0 } in
      same_counts _ _ _ _
      (omega (arith, maximum-append (variables_of (first ∷ others)) (variables_in (rows_of problem)), maximum-rows_of problem))
      (omega (
        arith,
        count-more row (rows_of problem),
        count-rows_of problem,
        rows-below problem limits,
        length-map (rows_of problem) linear_constraint,
      ))

  pub counted-constraints : fold counted no_counts (events (rows_of problem)) ≡ counts_of_model (model_of problem)
  counted-constraints = counted-rows (rows_of problem) ∙ counts-constraints

  pub counted-model :
      fold counted no_counts (events (objective_rows (objective_terms problem) ++ rows_of problem)) ≡
      counts_of_model (model_of problem)
  counted-model =
      counted-rows (objective_rows (objective_terms problem) ++ rows_of problem) ∙
      counts-objective (objective_terms problem) (maximum-rises 1 ((model_of problem).variables + 1) (objective_terms problem) (omega arith) (objective-to_last problem))
