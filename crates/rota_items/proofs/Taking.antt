-- How the list taken by a taker grows, call by call and loop by loop.
use Rattle.rota_items.proofs.Common.Imports.{◌≡◌, ℕ, ◌<◌, List, [], ◌∷◌, ◌++◌, Result, MatchResult, refl, sym, ap, ◌∙◌, append_assoc, append-nil}
use Rattle.rota_items.proofs.Common.Imports.{map-append, flat_map-append, fold-append, MatchResult-from_err, MatchResult-weaker, fold, ℤ, IsErr}
use Rattle.rota_items.proofs.Common.Imports.{concat_below-zero, concat_below-more, concat_below, Problem, Cell, cell_number, Term, times, LinearRow}
use Rattle.rota_items.proofs.Common.Imports.{numbered_row, numbered_terms, cell_term_events, numbered_rows, coefficient_of, sum_events, start_row}
use Rattle.rota_items.proofs.Common.Imports.{term, close_row, row_events, term_events, events, TookAll, RefusedOne, TakesAll, Took, Refused, Takes}
use Rattle.rota_items.proofs.Common.Imports.{Sign, Ghosts, in_turn, Event, Part, suc, map, get_or, take, drop, length, subst, take-append-drop}
use Rattle.rota_items.proofs.Common.Imports.{flat_map, h5_row, numbered, numbered_list, zero, ◌+◌, arith, range_with_len, to_z-of_z}
use Rattle.rota_items.proofs.Common.Imports.{map-range_with_len_more, Pattern, DayPattern, charged_items, item_of, TakesItems, TookItems}
use Rattle.std.proofs.Math.Seq.{drop-cons}
use Rattle.rota_items.specs.CellSums.{pattern_of}
use Rattle.rota_items.specs.SentItems.{numbered_item}
use Rattle.rota_items.specs.declared.items.soft_item.RunCharge.{RunCharge}
use Rattle.rota_items.specs.declared.items.soft_item.SoftItem.{SoftItem}
use Rattle.rota_items.specs.declared.items.item_takers.ItemTaker as item_taker

-- ---- functions that make the events of a list, element by element

pub record Joins {A E : Type 0} (h : List A → List E) : Type 0 where
  pub none : h [] ≡ []
  pub append : (xs ys : List A) → h (xs ++ ys) ≡ h xs ++ h ys

pub numbers_join : Joins term_events
unfolding term_events
numbers_join = record { none = refl; append = map-append (λ (t : Term ℕ). term t.0 t.1) }

pub terms_join : (problem : Problem) → Joins (cell_term_events problem)
unfolding cell_term_events
terms_join problem = record {
  none = numbers_join.none;
  append = λ xs ys.
      ap term_events (map-append (λ (t : Term Cell). (t.0, cell_number problem t.1)) xs ys) ∙
      numbers_join.append (numbered_terms problem xs) (numbered_terms problem ys);
}

pub cells_join : (problem : Problem) (sign : Sign) → Joins (sum_events problem sign)
cells_join problem sign = record {
  none = (terms_join problem).none;
  append = λ xs ys.
      ap (cell_term_events problem) (map-append (λ cell. (coefficient_of sign, cell)) xs ys) ∙
      (terms_join problem).append (times (coefficient_of sign) xs) (times (coefficient_of sign) ys);
}

pub events_join : Joins events
unfolding events
events_join = record { none = refl; append = flat_map-append row_events }

pub rows_join : (problem : Problem) → Joins (numbered_rows problem)
unfolding numbered_rows
rows_join problem = record { none = refl; append = map-append (numbered_row problem) }

-- the rows of held cells, cell by cell
pub held_join : (problem : Problem) → Joins (λ cells. numbered_rows problem (map h5_row cells))
unfolding numbered_rows
held_join problem = record { none = refl; append = λ xs ys. simp map-append }

pub items_join : (problem : Problem) → Joins (numbered_list problem)
unfolding numbered_list
items_join problem = record { none = refl; append = map-append (numbered (cell_number problem)) }

-- the rules that a loop over rows, items, terms or cells needs, once the definition of their list is unfolded
pub ruleset taking = (concat_below-zero, concat_below-more, map-append, fold-append)

pub ruleset taking_held = (taking, append_assoc)

-- the list contains the events of one row: it starts, these terms follow, and the degree ends it
pub record IsRow (all : List Event) (part : Part) (terms : List Event) (degree : ℤ) : Type 0 where
  pub are : all ≡ start_row part ∷ (terms ++ close_row degree ∷ [])

pub row-is : (row : LinearRow ℕ) → IsRow (row_events row) row.part (term_events row.terms) row.degree
row-is row = record { are = refl }

pub lone_row : (row : LinearRow ℕ) → IsRow (events (row ∷ [])) row.part (term_events row.terms) row.degree
unfolding events
lone_row row = record { are = append-nil (row_events row) }

-- ---- a taker of anything: one list, then another

module _ {S V E : Type 0} {value : S → V} {step : V → E → V} {left : V → E → S → Type 0} where
  pub Took-one : (event : E) (s t : S) → value t ≡ step (value s) event → TookAll value step left (event ∷ []) s t
  Took-one event s t e = record { value_is = e }

  pub Took-then : (a b : List E) (s t u : S) → TookAll value step left a s t → TookAll value step left b t u → TookAll value step left (a ++ b) s u
  Took-then a b s t u p q = record {
    value_is = q.value_is ∙ (ap (λ v. fold step v b) p.value_is ∙ sym (fold-append step (value s) a b));
  }

  pub Refused-one : (event : E) (s t : S) → left (value s) event t → RefusedOne value step left (event ∷ []) s t
  Refused-one event s t h = record { taken = []; event = event; rest = []; are = refl; leaves = h }

  -- refused among the first events
  pub Refused-before : (a b : List E) (s t : S) → RefusedOne value step left a s t → RefusedOne value step left (a ++ b) s t
  Refused-before a b s t p = record {
    taken = p.taken;
    event = p.event;
    rest = p.rest ++ b;
    are = ap (λ xs. xs ++ b) p.are ∙ append_assoc p.taken (p.event ∷ p.rest) b;
    leaves = p.leaves;
  }

  -- refused after the first events
  pub Refused-after : (a b : List E) (s t u : S) → TookAll value step left a s t → RefusedOne value step left b t u → RefusedOne value step left (a ++ b) s u
  Refused-after a b s t u p q = record {
    taken = a ++ q.taken;
    event = q.event;
    rest = q.rest;
    are = ap (λ xs. a ++ xs) q.are ∙ sym (append_assoc a q.taken (q.event ∷ q.rest));
    leaves = rw (fold-append step (value s) a q.taken, ← p.value_is) q.leaves;
  }

  -- the exit of a `?`
  pub exits : {R F : Type 0} (all : List E) (s t : S) (r : Result R F) → IsErr r → RefusedOne value step left all s t → TakesAll value step left all s t r
  exits all s t r err refused = MatchResult-from_err r _ _ err (λ _. refused)

  pub Takes-then : {R F : Type 0} (a b : List E) (s t u : S) (r : Result R F) → TookAll value step left a s t →
      TakesAll value step left b t u r → TakesAll value step left (a ++ b) s u r
  Takes-then a b s t u r p q =
      MatchResult-weaker r q (λ _ taken. Took-then a b s t u p taken) (λ _ refused. Refused-after a b s t u p refused)

  -- ---- list by list

  module _ {A : Type 0} {h : List A → List E} (joins : Joins h) where
    pub stop : (xs ys : List A) (s t : S) → RefusedOne value step left (h xs) s t → RefusedOne value step left (h (xs ++ ys)) s t
    stop xs ys s t p = rw joins.append (Refused-before (h xs) (h ys) s t p)

    pub go_on : (xs ys : List A) (s t u : S) → TookAll value step left (h xs) s t → RefusedOne value step left (h ys) t u → RefusedOne value step left (h (xs ++ ys)) s u
    go_on xs ys s t u p q = rw joins.append (Refused-after (h xs) (h ys) s t u p q)

    pub loop_refused : (i n : ℕ) (f : ℕ → List A) (s t u : S) → i < n → TookAll value step left (h (concat_below i f)) s t → RefusedOne value step left (h (f i)) t u →
        RefusedOne value step left (h (concat_below n f)) s u
    loop_refused i n f s t u below p q =
        in_turn (λ xs. RefusedOne value step left (h xs) s u) (λ xs ys. stop xs ys s u) i n f below (go_on (concat_below i f) (f i) s t u p q)

    pub loop_ended : (i n : ℕ) (f : ℕ → List A) (s t : S) → i ≡ n → TookAll value step left (h (concat_below i f)) s t →
        TookAll value step left (h (concat_below n f)) s t
    loop_ended i n f s t e p = rw (← e) p

    -- refused at an element of a list: the elements before it were taken
    pub list_refused : {X : Type 0} (f : X → List A) (xs : List X) (i : ℕ) (other : X) (s t u : S) → i < length xs →
        TookAll value step left (h (flat_map f (take i xs))) s t → RefusedOne value step left (h (f (get_or xs i other))) t u →
        RefusedOne value step left (h (flat_map f xs)) s u
    list_refused f xs i other s t u below before here =
        let rest = flat_map f (drop (suc i) xs) in
        subst (λ ys. RefusedOne value step left (h (flat_map f ys)) s u) (take-append-drop i xs)
        (rw (drop-cons xs i other below, flat_map-append f (take i xs) (get_or xs i other ∷ drop (suc i) xs))
        (go_on _ (f (get_or xs i other) ++ rest) s t u before (stop _ rest t u here)))

    pub nothing : (s : S) → TookAll value step left (h []) s s
    nothing s = rw joins.none (record { value_is = refl })

    pub both : (xs ys : List A) (s t u : S) → TookAll value step left (h xs) s t → TookAll value step left (h ys) t u → TookAll value step left (h (xs ++ ys)) s u
    both xs ys s t u p q = rw joins.append (Took-then (h xs) (h ys) s t u p q)

    pub goes_on : {R F : Type 0} (xs ys : List A) (s t u : S) (r : Result R F) → TookAll value step left (h xs) s t → TakesAll value step left (h ys) t u r →
        TakesAll value step left (h (xs ++ ys)) s u r
    goes_on xs ys s t u r p q = rw joins.append (Takes-then (h xs) (h ys) s t u r p q)

pub takes_one : {S V E R F : Type 0} (value : S → V) (step : V → E → V) (left : V → E → S → Type 0) (event : E) (s t : S) (r : Result R F) →
    MatchResult r (λ _. value t ≡ step (value s) event) (λ _. left (value s) event t) → TakesAll value step left (event ∷ []) s t r
takes_one value step left event s t r takes = MatchResult-weaker r takes (λ _. Took-one event s t) (λ _. Refused-one event s t)

-- the exit of a call that is refused at the first element
pub refused_first : {S V E : Type 0} {value : S → V} {step : V → E → V} {left : V → E → S → Type 0} (event : E) (rest : List E) (s t : S) →
    left (value s) event t → RefusedOne value step left (event ∷ rest) s t
refused_first event rest s t refused = Refused-before (event ∷ []) rest s t (Refused-one event s t refused)

-- the rules that calls one after another need, once the definition of their list is unfolded
pub ruleset calling = (map-append, fold-append, refused_first, Refused-before, Refused-after, exits, Takes-then)

-- ---- a taker of rows

module _ {S F : Type 0} (T : Ghosts S F) where
  -- ---- the term of one cell

  pub cell_taken : (problem : Problem) (sign : Sign) (cell : Cell) (variable : ℕ) (s t : S) (r : Result (Unit {0}) F) →
      variable ≡ cell_number problem cell →
      MatchResult r (λ _. T.value t ≡ T.step (T.value s) (term (coefficient_of sign) variable))
      (λ _. T.left (T.value s) (term (coefficient_of sign) variable) t) →
      Takes T (sum_events problem sign (cell ∷ [])) s t r
  unfolding cell_term_events term_events
  cell_taken problem sign cell variable s t r same taken = takes_one _ _ _ _ s t r (rw same at taken)

  pub cell_refused : (problem : Problem) (sign : Sign) (cell : Cell) (variable : ℕ) (s t : S) → variable ≡ cell_number problem cell →
      T.left (T.value s) (term (coefficient_of sign) variable) t → Refused T (sum_events problem sign (cell ∷ [])) s t
  unfolding cell_term_events term_events
  cell_refused problem sign cell variable s t same refused = Refused-one _ s t (rw same at refused)

  -- ---- a list of one row

  module _ {all : List Event} {part : Part} {terms : List Event} {degree : ℤ} (is : IsRow all part terms degree) where
    pub row_unstarted : (s t : S) → T.left (T.value s) (start_row part) t → Refused T all s t
    row_unstarted s t h = rw is.are (Refused-before (start_row part ∷ []) _ s t (Refused-one _ s t h))

    module _ (s t : S) (started : T.value t ≡ T.step (T.value s) (start_row part)) where
      pub row_refused : (u : S) → Refused T terms t u → Refused T all s u
      row_refused u refused =
          rw is.are (Refused-after (start_row part ∷ []) _ s t u (Took-one _ s t started) (Refused-before terms _ t u refused))

      module _ (u v : S) (taken : Took T terms t u) where
        pub row_unclosed : T.left (T.value u) (close_row degree) v → Refused T all s v
        row_unclosed refused =
            rw is.are
            (Refused-after (start_row part ∷ []) _ s t v (Took-one _ s t started) (Refused-after terms _ t u v taken (Refused-one _ u v refused)))

        pub row_taken : T.value v ≡ T.step (T.value u) (close_row degree) → Took T all s v
        row_taken closed =
            rw is.are
            (Took-then (start_row part ∷ []) _ s t v (Took-one _ s t started) (Took-then terms _ t u v taken (Took-one _ u v closed)))

        pub row_closed : (r : Result (Unit {0}) F) →
            MatchResult r (λ _. T.value v ≡ T.step (T.value u) (close_row degree)) (λ _. T.left (T.value u) (close_row degree) v) →
            Takes T all s v r
        row_closed r closes = MatchResult-weaker r closes (λ _. row_taken) (λ _. row_unclosed)

-- ---- a taker of the terms of variables that follow one another

-- one variable, at this distance from the first
abbrev slack_term : ℤ → ℕ → ℕ → List (Term ℕ)
slack_term coefficient first i = (coefficient, first + i) ∷ []

slack_terms-are : (coefficient : ℤ) (first n : ℕ) →
    times coefficient (range_with_len first n) ≡ concat_below n (slack_term coefficient first)
unfolding concat_below
slack_terms-are coefficient first zero = refl
slack_terms-are coefficient first (suc n) =
    (let more : suc n ≡ n + 1 = omega arith in ap (λ m. times coefficient (range_with_len first m)) more) ∙
    map-range_with_len_more {X = Term ℕ} (λ v. (coefficient, v)) first n (first + n) refl ∙
    ap (λ xs. xs ++ slack_term coefficient first n) (slack_terms-are coefficient first n)

pub range_terms-more : (coefficient : ℤ) (first n : ℕ) →
    times coefficient (range_with_len first (n + 1)) ≡ times coefficient (range_with_len first n) ++ (coefficient, first + n) ∷ []
range_terms-more coefficient first n = map-range_with_len_more {X = Term ℕ} (λ v. (coefficient, v)) first n (first + n) refl

pub range_refused : {S F : Type 0} (T : Ghosts S F) (coefficient : ℤ) (first i n : ℕ) (s t u : S) →
    Took T (term_events (times coefficient (range_with_len first i))) s t → i < n →
    T.left (T.value t) (term coefficient (first + i)) u → Refused T (term_events (times coefficient (range_with_len first n))) s u
unfolding term_events
range_refused T coefficient first i n s t u taken below refused =
    rw (slack_terms-are coefficient first n)
    (loop_refused numbers_join i n (slack_term coefficient first) s t u below
    (rw (slack_terms-are coefficient first i) at taken) (Refused-one _ t u refused))

-- the rules that a loop over variables that follow one another needs
pub ruleset ranges = (range_terms-more, map-append, fold-append, to_z-of_z, range_refused, exits)

-- ---- a taker of items: the item of a pattern of days

module _ {S F : Type 0} (T : item_taker.Ghosts S F) (problem : Problem) (charge : RunCharge) where
  -- no pattern has no item
  pub no_pattern : (given : List Pattern) → [] ≡ given → (s : S) → TookItems T problem (charged_items problem charge given) s s
  no_pattern given none s = subst (λ ps. TookItems T problem (charged_items problem charge ps) s s) none (nothing (items_join problem) s)

  -- the item of the pattern that is given
  module _ (item : SoftItem) (pattern : DayPattern) (given : List Pattern) (is : item_of problem item ∷ [] ≡ charged_items problem charge (pattern_of pattern ∷ []))
      (are : pattern_of pattern ∷ [] ≡ given) (s t : S) where
    pub pattern_took : T.value t ≡ T.step (T.value s) (numbered_item problem item) → TookItems T problem (charged_items problem charge given) s t
    unfolding numbered_list
    pattern_took took = subst (λ items. TookItems T problem items s t) (is ∙ ap (charged_items problem charge) are) (Took-one _ s t took)

    pub pattern_refused : T.left (T.value s) (numbered_item problem item) t →
        RefusedOne T.value T.step T.left (numbered_list problem (charged_items problem charge given)) s t
    unfolding numbered_list
    pattern_refused refused =
        subst (λ items. RefusedOne T.value T.step T.left (numbered_list problem items) s t) (is ∙ ap (charged_items problem charge) are)
        (Refused-one _ s t refused)

    pub pattern_takes : (r : Result (Unit {0}) F) →
        MatchResult r (λ _. T.value t ≡ T.step (T.value s) (numbered_item problem item)) (λ _. T.left (T.value s) (numbered_item problem item) t) →
        TakesItems T problem (charged_items problem charge given) s t r
    pattern_takes r takes = MatchResult-weaker r takes (λ _. pattern_took) (λ _. pattern_refused)
