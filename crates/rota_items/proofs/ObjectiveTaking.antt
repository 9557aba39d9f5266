-- How a taker takes the objective, term by term, and whether the objective has a term.
use Rattle.rota_items.proofs.Common.Imports.{◌≡◌, ℕ, zero, suc, ◌<◌, ◌+◌, Bool, true, false, cond, nat_lt, List, [], ◌∷◌, ◌++◌, length, length-append}
use Rattle.rota_items.proofs.Common.Imports.{refl, sym, ap, ◌∙◌, arith, lt-ltb, true≢false, length-map, length-map-range_with_len, pos}
use Rattle.rota_items.proofs.Common.Imports.{singleton_if-fails, singleton_if-holds, concat_below, concat_below-zero, concat_below-more, singleton_if}
use Rattle.rota_items.proofs.Common.Imports.{in_turn, Problem, Cell, Term, LinearRow, Item, objective_rows, cell_term_events, Took, Objective, Ghosts}
use Rattle.rota_items.proofs.Common.Imports.{request_terms_on, slack_weights, slack_count, slack_variables, times, objective_terms, cell_terms, constant}
use Rattle.rota_items.proofs.Common.Imports.{constant_terms, soft_items, unit_number, nat_tests, first_slack, numbered_items, numbered_terms, cell_number}
use Rattle.rota_items.proofs.Taking.{nothing, terms_join}
use Rattle.rota_items.proofs.LogicWords.{length-each-is}
use Rattle.rota_items.proofs.SlackBound.{slack_count-cons, slack_count-numbered}

-- the objective's row with these terms
abbrev pub row_of : List (Term ℕ) → LinearRow ℕ
row_of terms = record { part = Objective; terms = terms; degree = pos 0 }

concat_below-nowhere : {A : Type 0} (test : Bool) (n : ℕ) (f : ℕ → A) → test ≡ false → concat_below n (λ k. singleton_if test (f k)) ≡ []
unfolding concat_below
concat_below-nowhere test zero f fails = refl
concat_below-nowhere test (suc n) f fails = rw (concat_below-nowhere test n f fails, singleton_if-fails test (f n) fails) refl

-- ---- the terms of a day's requests

length-turns_if : {A : Type 0} (test : Bool) (n : ℕ) (f : ℕ → A) → length (concat_below n (λ k. singleton_if test (f k))) ≡ cond test n 0
length-turns_if true n f = omega (arith, length-each-is n 1 _ (λ i _. ap length (singleton_if-holds true (f i) refl)))
length-turns_if false n f = omega (arith, length-each-is n 0 _ (λ i _. ap length (singleton_if-fails false (f i) refl)))

-- a day has a term on a shift type for each skill, if a request row matches
pub length-request_terms_on : (problem : Problem) (n d s : ℕ) →
    length (request_terms_on problem n d s) ≡ cond (nat_lt 0 (problem.requests n d s)) problem.skills 0
length-request_terms_on problem n d s = length-turns_if (nat_lt 0 (problem.requests n d s)) problem.skills _

-- the rules that count the terms of requests, turn by turn
pub ruleset request_counting = (concat_below-zero, concat_below-more, length-append, nat_tests)

-- if a turn adds an element, the list of the loop is not empty
pub some_below : {A : Type 0} (i n : ℕ) (f : ℕ → List A) → i < n → 0 < length (f i) → 0 < length (concat_below n f)
some_below i n f below some =
    in_turn (λ xs. 0 < length xs) (λ xs ys has. omega (arith, length-append xs ys)) i n f below
    (omega (arith, length-append (concat_below i f) (f i)))

-- ---- the terms of the objective

length-slack_weights : (first : ℕ) (items : List (Item ℕ)) → length (slack_weights first items) ≡ slack_count items
length-slack_weights first [] = refl
length-slack_weights first (item ∷ items) =
    omega (
      arith,
      slack_count-cons item items,
      length-append (times (pos item.weight) (slack_variables item first)) (slack_weights (first + item.slacks) items),
      length-map-range_with_len {X = Term ℕ} (λ v. (pos item.weight, v)) first item.slacks,
      length-slack_weights (first + item.slacks) items,
    )

length-if : {A : Type 0} (test : Bool) (x : A) → length (singleton_if test x) ≡ cond test 1 0
unfolding singleton_if
length-if true x = refl
length-if false x = refl

pub length-objective_terms : (problem : Problem) →
    length (objective_terms problem) ≡
    length (cell_terms problem) + (cond (nat_lt 0 (constant problem)) 1 0 + slack_count (soft_items problem))
length-objective_terms problem =
    let slacks = slack_weights (first_slack problem) (numbered_items problem) in
    omega (
      arith,
      length-append (numbered_terms problem (cell_terms problem)) (constant_terms problem ++ slacks),
      length-map {B = Term ℕ} (cell_terms problem) (λ (t : Term Cell). (t.0, cell_number problem t.1)),
      length-append (constant_terms problem) slacks,
      length-if {A = Term ℕ} (nat_lt 0 (constant problem)) (pos (constant problem), unit_number problem),
      length-slack_weights (first_slack problem) (numbered_items problem),
      slack_count-numbered (cell_number problem) (soft_items problem),
    )

-- ---- the row, if the objective has a term

pub one_row : (terms : List (Term ℕ)) → nat_lt 0 (length terms) ≡ true → objective_rows terms ≡ row_of terms ∷ []
one_row [] some = absurd (true≢false (sym some))
one_row (first ∷ others) some = refl

pub no_row : (terms : List (Term ℕ)) → nat_lt 0 (length terms) ≡ false → objective_rows terms ≡ []
no_row [] none = refl
no_row (first ∷ others) none = absurd (true≢false (sym (lt-ltb 0 (length (first ∷ others)) (omega arith)) ∙ none))

module _ {S F : Type 0} (T : Ghosts S F) (problem : Problem) where
  pub cell_terms_nowhere : (test : Bool) (n : ℕ) (f : ℕ → Term Cell) (s : S) → test ≡ false →
      Took T (cell_term_events problem (concat_below n (λ k. singleton_if test (f k)))) s s
  cell_terms_nowhere test n f s fails = rw (concat_below-nowhere test n f fails) (nothing (terms_join problem) s)
