-- The rows that a taker of rows takes for the items sent to it.
use Rattle.rota_items.proofs.Common.Imports.{◌≡◌, ℕ, ◌+◌, ◌<◌, List, [], ◌∷◌, ◌++◌, Result, Ok, Err, refl, sym, ap, subst, ◌∙◌, arith}
use Rattle.rota_items.proofs.Common.Imports.{append_assoc, fold, fold-append, InstanceTables, IsInstance, problem_of, soft_items, Item}
use Rattle.rota_items.proofs.Common.Imports.{item_rows, slack_count, slack_weights, first_slack, numbered_items, cell_number, word_limit, Event}
use Rattle.rota_items.proofs.Common.Imports.{events, term_events, RowsState, StopsAtRow, row_of_item, slacks_within, weights_of_item, with_item}
use Rattle.rota_items.proofs.Common.Imports.{within_numbers, Took, Refused, Takes, TookAll, RefusedOne, TakesAll, Ghosts, sum_by-append}
use Rattle.rota_rules.proofs.CostLemmas.{instance-within_limits}
use Rattle.rota_items.proofs.SlackBound.{variables_fit, slack_count-cons, slack_count-numbered}
use Rattle.rota_items.proofs.Taking.{numbers_join, Refused-before, Refused-after}

-- the slacks of the items have numbers of variables, from this one on
abbrev pub SlacksFit : ℕ → List (Item ℕ) → Type 0
SlacksFit first items = first + slack_count items < word_limit

-- the events of a list are the events of each item, whose slacks follow one another
pub record GivesEach (events_of : Item ℕ → ℕ → List Event) (all : ℕ → List (Item ℕ) → List Event) : Type 0 where
  pub none : (first : ℕ) → all first [] ≡ []
  pub more : (first : ℕ) (item : Item ℕ) (items : List (Item ℕ)) → all first (item ∷ items) ≡ events_of item first ++ all (first + item.slacks) items

pub gives_rows : GivesEach row_of_item (λ first items. events (item_rows first items))
unfolding events
gives_rows = record { none = λ first. refl; more = λ first item items. refl }

pub gives_weights : GivesEach weights_of_item (λ first items. term_events (slack_weights first items))
gives_weights = record { none = λ first. numbers_join.none; more = λ first item items. numbers_join.append _ _ }

-- if its slacks fit, an item is sent on unchanged
slacks-all : (first slacks : ℕ) → first + slacks < word_limit → slacks_within first slacks ≡ slacks
slacks-all first slacks fit = omega arith

item-all : (first : ℕ) (item : Item ℕ) → first + item.slacks < word_limit → within_numbers first item ≡ item
item-all first item fit = ap (λ (n : ℕ). record item { slacks = n }) (slacks-all first item.slacks fit)

module _ {events_of : Item ℕ → ℕ → List Event} {all : ℕ → List (Item ℕ) → List Event} (each : GivesEach events_of all) where
  all-append : (first : ℕ) (xs ys : List (Item ℕ)) → all first (xs ++ ys) ≡ all first xs ++ all (first + slack_count xs) ys
  all-append first [] ys =
      let same : first + slack_count {X = ℕ} [] ≡ first = omega arith in
      rw (each.none first, same) refl
  all-append first (x ∷ xs) ys =
      let same : first + x.slacks + slack_count xs ≡ first + slack_count (x ∷ xs) = omega (arith, slack_count-cons x xs) in
      each.more first x (xs ++ ys) ∙
      ap (λ rest. events_of x first ++ rest) (all-append (first + x.slacks) xs ys ∙ ap (λ n. all (first + x.slacks) xs ++ all n ys) same) ∙
      sym (append_assoc (events_of x first) (all (first + x.slacks) xs) (all (first + slack_count (x ∷ xs)) ys)) ∙
      ap (λ front. front ++ all (first + slack_count (x ∷ xs)) ys) (sym (each.more first x xs))

  module _ {V : Type 0} (step : V → Event → V) where
    -- the value after the items
    abbrev pub after : RowsState V → List (Item ℕ) → RowsState V
    after rows_state items = record rows_state {
      value = fold step rows_state.value (all rows_state.next items);
      next = rows_state.next + slack_count items;
    }

    pub after-all : (items : List (Item ℕ)) (rows_state : RowsState V) → SlacksFit rows_state.next items →
        fold (with_item step events_of) rows_state items ≡ after rows_state items
    after-all [] rows_state fit =
        let same : rows_state.next ≡ rows_state.next + slack_count {X = ℕ} [] = omega arith in
        λ i. record rows_state { value = fold step rows_state.value (sym (each.none rows_state.next) i); next = same i }
    after-all (item ∷ items) rows_state fit =
        let counted = slack_count-cons item items in
        let here : rows_state.next + item.slacks < word_limit = omega (arith, counted) in
        let next : RowsState V = record rows_state {
          value = fold step rows_state.value (events_of item rows_state.next);
          next = rows_state.next + item.slacks;
        } in
        let here_is : with_item step events_of rows_state item ≡ next =
        λ i. record rows_state {
          value = fold step rows_state.value (events_of (item-all rows_state.next item here i) rows_state.next);
          next = rows_state.next + slacks-all rows_state.next item.slacks here i;
        } in
        let same : rows_state.next + item.slacks + slack_count items ≡ rows_state.next + slack_count (item ∷ items) = omega (arith, counted) in
        let values : fold step next.value (all next.next items) ≡ fold step rows_state.value (all rows_state.next (item ∷ items)) =
        sym (fold-append step rows_state.value (events_of item rows_state.next) (all (rows_state.next + item.slacks) items)) ∙
        ap (fold step rows_state.value) (sym (each.more rows_state.next item items)) in
        ap (λ h. fold (with_item step events_of) h items) here_is ∙
        after-all items next (omega (arith, counted)) ∙
        (λ i. record rows_state { value = values i; next = same i })

  -- ---- a taker of rows

  module _ {S F : Type 0} (T : Ghosts S F) {Self : Type 0} (old new : Self) (name_of : Self → ℕ) (taker_of : Self → S) (next_of : Self → ℕ) where
    abbrev rows_state_of : Self → RowsState T.Value
    rows_state_of self = record { name = name_of self; value = T.value (taker_of self); next = next_of self }

    abbrev stops_at : RowsState T.Value → Item ℕ → Self → Type 0
    stops_at before item self = StopsAtRow T events_of before item (name_of self) (taker_of self)

    module _ (items : List (Item ℕ)) (fit : SlacksFit (next_of old) items) where
      took_all : TookAll rows_state_of (with_item T.step events_of) stops_at items old new →
          (name_of new ≡ name_of old) × Took T (all (next_of old) items) (taker_of old) (taker_of new)
      took_all took =
          let is = took.value_is ∙ after-all T.step items (rows_state_of old) fit in
          (ap (λ (h : RowsState T.Value). h.name) is, record { value_is = ap (λ (h : RowsState T.Value). h.value) is })

      refused_one : RefusedOne rows_state_of (with_item T.step events_of) stops_at items old new →
          (name_of new ≡ name_of old) × Refused T (all (next_of old) items) (taker_of old) (taker_of new)
      refused_one refused =
          let taken = refused.taken in
          let item = refused.event in
          let rest = refused.rest in
          let first = next_of old in
          let joined = sum_by-append (λ (i : Item ℕ). i.slacks) taken (item ∷ rest) in
          let counted : slack_count items ≡ slack_count taken + (item.slacks + slack_count rest) =
          omega (arith, ap slack_count refused.are, slack_count-cons item rest) in
          let here : first + slack_count taken + item.slacks < word_limit = omega (arith, counted, fit) in
          let before : SlacksFit first taken = omega (arith, counted, fit) in
          let stops : StopsAtRow T events_of (after T.step (rows_state_of old) taken) item (name_of new) (taker_of new) =
          subst (λ h. StopsAtRow T events_of h item (name_of new) (taker_of new)) (after-all T.step taken (rows_state_of old) before) refused.leaves in
          let at_item : Refused T (events_of item (first + slack_count taken)) stops.1.old (taker_of new) =
          subst (λ one. Refused T (events_of one (first + slack_count taken)) stops.1.old (taker_of new)) (item-all (first + slack_count taken) item here)
          stops.1.refused in
          let lists : all first items ≡ all first taken ++ (events_of item (first + slack_count taken) ++ all (first + slack_count taken + item.slacks) rest) =
          ap (all first) refused.are ∙ all-append first taken (item ∷ rest) ∙
          ap (λ ys. all first taken ++ ys) (each.more (first + slack_count taken) item rest) in (
            stops.0,
            rw lists
                (Refused-after (all first taken) _ (taker_of old) stops.1.old (taker_of new) (record { value_is = stops.1.old_is })
                (Refused-before _ _ stops.1.old (taker_of new) at_item)),
          )

    -- from the number of the first slack of a week on, they fit
    module _ (tables : InstanceTables) (valid : IsInstance tables) (first : next_of old ≡ first_slack (problem_of tables)) where
      abbrev items : List (Item ℕ)
      items = numbered_items (problem_of tables)

      fit : SlacksFit (next_of old) items
      fit =
          let problem = problem_of tables in
          omega (arith, variables_fit problem (instance-within_limits tables valid), slack_count-numbered (cell_number problem) (soft_items problem), first)

      -- the taker of rows kept its name, and so is returned in its current state
      pub handed_on : {R : Type 0} (r : Result R F) (end : S) → (name_of old ≡ name_of new → end ≡ taker_of new) →
          TakesAll rows_state_of (with_item T.step events_of) stops_at items old new r →
          Takes T (all (first_slack (problem_of tables)) items) (taker_of old) end r
      handed_on (Ok x) end ends takes =
          let took = took_all items fit takes in
          rw (ends (sym took.0)) (subst (λ n. Took T (all n items) (taker_of old) (taker_of new)) first took.1)
      handed_on (Err e) end ends takes =
          let refused = refused_one items fit takes in
          rw (ends (sym refused.0)) (subst (λ n. Refused T (all n items) (taker_of old) (taker_of new)) first refused.1)

-- ---- the row of one item, handed on event by event

module _ {S F : Type 0} (T : Ghosts S F) (before : RowsState T.Value) (item : Item ℕ) (s t : S) (old_is : T.value s ≡ before.value) where
  abbrev row : List Event
  row = row_of_item (within_numbers before.next item) before.next

  pub row_handed : (next : ℕ) → next ≡ before.next + slacks_within before.next item.slacks → Took T row s t →
      let after : RowsState T.Value = record { name = before.name; value = T.value t; next = next } in after ≡ with_item T.step row_of_item before item
  row_handed next next_is took =
      let values = took.value_is ∙ ap (λ v. fold T.step v row) old_is in
      λ i. record { name = before.name; value = values i; next = next_is i }
