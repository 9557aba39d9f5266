-- How a judge changes with the model of a week.
use Rattle.rota_judge.proofs.Common.Imports.{mul-le-mul_right, ◌≡◌, ℕ, ◌+◌, ◌*◌, ◌<◌, ◌≤◌, Bool, true, List, [], ◌∷◌, ◌++◌, refl, ap, ◌∙◌, cond}
use Rattle.rota_judge.proofs.Common.Imports.{arith, pos, negsuc, nat_abs, if◌then◌else◌, AllByRecursion, fold, sum_by, ints, fold-append}
use Rattle.rota_judge.proofs.Common.Imports.{sum_by-cons, Roster, InWeek, set_of, soft_rules, Problem, Rule, Cell, cell_number, unit_number}
use Rattle.rota_judge.proofs.Common.Imports.{first_slack, Item, numbered, shortage, weighted_shortages, Term, value_of, LinearRow, objective_rows}
use Rattle.rota_judge.proofs.Common.Imports.{item_rows, cell_terms, constant, items_of_rule, soft_items, rule_rows, hard_rows, numbered_items}
use Rattle.rota_judge.proofs.Common.Imports.{numbered_row, numbered_terms, objective_terms, rows_of, first_unmet, IsWithinLimits, max_objective}
use Rattle.rota_judge.proofs.Common.Imports.{request_cost, signed_limit, Objective, events, row_events, RowSums, Tally, Subject, assigned, extended}
use Rattle.rota_judge.proofs.Common.Imports.{assignment_in, roster_in, capped, no_sums, no_tally, tallied, flat_map-append, positive_part, unit_row}
use Rattle.rota_core.specs.declared.rule.Rule.TheVariants.{Unit as UnitRule}
use Rattle.rota_judge.proofs.Extension.{extension-roster, shortage-of_item, terms-below, value_of-objective, value_of-of_terms}
use Rattle.rota_judge.proofs.HardRules.EachRule.{each-row}
use Rattle.rota_judge.proofs.ItemLaw.{extension-extends}
use Rattle.rota_judge.proofs.JudgedItems.{IsFit, charge_of, items-come, paid_for, paid_for-is, no-weights}
use Rattle.rota_items.proofs.ItemLemmas.{each-small, slack_count-numbered, rows-below, variables-below, spread, cell_terms-are}
use Rattle.rota_items.proofs.ItemLemmas.{sound-rule, in-cell_terms, value_of-request_terms, IsItemSound, spread-sound, OnCoefficients}
use Rattle.rota_judge.proofs.JudgedRows.{Comes, IsHardRow, rows-come, same, later-zero, hard-judged, counted-before, counted_other, others-before, row-tallied}
use Rattle.rota_items.proofs.LogicWords.{all-map, sum_by-flat_map, sum_by-map, all-weaker, sum_by-same}
use Rattle.rota_rules.proofs.LogicWords.{sum_by-each-same}
use Rattle.rota_judge.proofs.ObjectiveBound.{objective-below, IsPositive, coefficients-positive}

-- ---- the size of the rows

spread-numbered : (problem : Problem) (terms : List (Term Cell)) → spread (numbered_terms problem terms) ≡ spread terms
spread-numbered problem terms =
    sum_by-map (λ (term : Term ℕ). nat_abs term.0) (λ (term : Term Cell). (term.0, cell_number problem term.1)) terms

spread-positive : (terms : List (Term ℕ)) → OnCoefficients IsPositive terms → value_of (λ v. true) terms ≡ pos (spread terms)
spread-positive [] all = refl
spread-positive ((pos n, v) ∷ ts) all =
    omega (arith, ints, sum_by-cons (λ (term : Term ℕ). nat_abs term.0) (pos n, v) ts, spread-positive ts all.1)
spread-positive ((negsuc n, v) ∷ ts) all = absurd (omega (arith, ints, all.0))

sum_by-times : {X : Type 0} (w : ℕ) (f : X → ℕ) (xs : List X) → sum_by (λ x. w * f x) xs ≡ w * sum_by f xs
sum_by-times w f [] = omega arith
sum_by-times w f (x ∷ xs) = omega (arith, sum_by-cons (λ x. w * f x) x xs, ap (λ n. w * n) (sum_by-cons f x xs), sum_by-times w f xs)

-- the function's value at a soft rule, as a sum over all soft rules
abbrev pub of_rule : (Rule → ℕ) → Rule → ℕ
of_rule f rule = sum_by (λ own. same own rule * f own) soft_rules

pub agrees : (problem : Problem) (subject : Subject) (c : Cell) → InWeek problem c → assignment_in problem subject (cell_number problem c) ≡ roster_in problem subject c
agrees problem (assigned bits) c inside = refl
agrees problem (extended tables) c inside = extension-roster problem (set_of tables) c inside

module _ (problem : Problem) (subject : Subject) where
  abbrev A : ℕ → Bool
  A = assignment_in problem subject

  abbrev roster : Roster
  roster = roster_in problem subject

  -- ---- the objective

  -- the value of its row without its slacks, and the cost of its slacks
  abbrev pub given : ℕ
  given = request_cost problem roster + (if A (unit_number problem) then constant problem else 0)

  abbrev pub paid : ℕ
  paid = paid_for problem subject (first_slack problem) (numbered_items problem)

  abbrev requests : List (Term ℕ)
  requests = numbered_terms problem (cell_terms problem)

  requests-are : value_of A requests ≡ pos (request_cost problem roster)
  requests-are =
      value_of-of_terms problem A roster (agrees problem subject) (cell_terms problem) (in-cell_terms problem) ∙
      ap (value_of roster) (cell_terms-are problem) ∙ value_of-request_terms problem roster

  pub objective-judged : value_of A (objective_terms problem) ≡ pos (given + paid)
  objective-judged =
      omega (
        arith,
        ints,
        value_of-objective problem A,
        requests-are,
        paid_for-is problem subject (first_slack problem) (numbered_items problem),
      )

  given-is : value_of (counted_other problem subject) (objective_terms problem) ≡ pos given
  given-is =
      omega (
        arith,
        ints,
        value_of-objective problem (counted_other problem subject),
        others-before problem subject requests (terms-below problem (cell_terms problem) (in-cell_terms problem)),
        requests-are,
        ap (λ (b : Bool). cond b (constant problem) 0) (counted-before problem subject (unit_number problem) (omega arith)),
        no-weights problem subject (first_slack problem) (numbered_items problem) (omega arith),
      )

  -- ---- the charge of each rule

  abbrev pub charges : Rule → ℕ
  charges rule = sum_by (charge_of problem subject rule) (numbered_items problem)

  pub charges-are : (rule : Rule) → charges rule ≡ of_rule (λ own. weighted_shortages roster (items_of_rule problem own)) rule
  charges-are rule =
      sum_by-map (charge_of problem subject rule) (numbered (cell_number problem)) (soft_items problem) ∙
      sum_by-flat_map (λ item. charge_of problem subject rule (numbered (cell_number problem) item)) (items_of_rule problem) soft_rules ∙
      sum_by-each-same _ _ of_own soft_rules
    where
      of_own : (own : Rule) →
          sum_by (λ item. charge_of problem subject rule (numbered (cell_number problem) item)) (items_of_rule problem own) ≡
          same own rule * weighted_shortages roster (items_of_rule problem own)
      of_own own =
          sum_by-same _ (λ (item : Item Cell). same own rule * (item.weight * shortage roster item)) (items_of_rule problem own)
          (all-weaker (IsItemSound problem own) _ (λ item sound i.
          same (sound.rule_is i) rule * (item.weight * shortage-of_item problem A roster (agrees problem subject) item sound.terms.in_week i))
          (items_of_rule problem own) (sound-rule problem own).items) ∙
          sum_by-times (same own rule) (λ (item : Item Cell). item.weight * shortage roster item) (items_of_rule problem own)

module _ (problem : Problem) (subject : Subject) (limits : IsWithinLimits problem) where
  -- ---- each row is small

  pub hard-fit : AllByRecursion (IsHardRow problem subject) (hard_rows problem)
  hard-fit = (
    hard-judged problem subject (unit_row (unit_number problem)) UnitRule refl (omega arith, tt)
        (omega (arith, sum_by-cons (λ (term : Term ℕ). nat_abs term.0) (pos 1, unit_number problem) [])),
    all-map (IsHardRow problem subject) (numbered_row problem) (rule_rows problem)
        (each-row problem (λ row. IsHardRow problem subject (numbered_row problem row)) (λ rule row sound.
        hard-judged problem subject (numbered_row problem row) rule sound.part_is (terms-below problem row.terms sound.terms.in_week)
        (omega (arith, spread-numbered problem row.terms, spread-sound problem row.terms sound.terms, variables-below problem limits)))),
  )

  pub items-fit : AllByRecursion (IsFit problem subject) (numbered_items problem)
  items-fit =
      all-map (IsFit problem subject) (numbered (cell_number problem)) (soft_items problem)
      (each-small problem limits (λ item. IsFit problem subject (numbered (cell_number problem) item)) (λ rule item small sound. record {
        before = terms-below problem item.terms sound.terms.in_week;
        small =
            omega (
              arith,
              spread-numbered problem item.terms,
              spread-sound problem item.terms sound.terms,
              variables-below problem limits,
              mul-le-mul_right item.slacks sound.weighs,
              mul-le-mul_right (positive_part item.degree) sound.weighs,
            );
      }))

  -- ---- the judge's findings are correct

  pub few : given problem subject + paid problem subject ≤ max_objective
  few = omega (arith, ints, objective-judged problem subject, objective-below problem (assignment_in problem subject) limits)

  abbrev pub ComesTo : Tally → List (LinearRow ℕ) → ℕ → (Rule → ℕ) → Type 0
  ComesTo =
      Comes problem subject (first_unmet (assignment_in problem subject) (rows_of problem)) (paid problem subject) (charges problem subject)
      (given problem subject)

  -- no row was closed except the objective's
  none-closed : (sums : RowSums) (requests : ℕ) → requests ≡ given problem subject →
      ComesTo (record no_tally { sums = sums; requests_and_constant = requests }) (rows_of problem) (paid problem subject) (charges problem subject)
  none-closed sums requests is = record {
    few = omega (arith, rows-below problem limits);
    unmet = later-zero (first_unmet (assignment_in problem subject) (rows_of problem));
    slacks = omega arith;
    before = λ rule. 0;
    shortages = refl;
    totals = λ rule. omega arith;
    requests_are = is;
  }

  objective-comes : (terms : List (Term ℕ)) → spread terms < signed_limit → value_of (counted_other problem subject) terms ≡ pos (given problem subject) →
      ComesTo (fold (tallied problem subject) no_tally (events (objective_rows terms))) (rows_of problem) (paid problem subject) (charges problem subject)
  unfolding events
  objective-comes [] small is = none-closed no_sums 0 (omega (arith, ints, is))
  objective-comes (t ∷ ts) small is =
      let row : LinearRow ℕ = record { part = Objective; terms = t ∷ ts; degree = pos 0 } in
      rw (fold-append (tallied problem subject) no_tally (row_events row) [], row-tallied problem subject no_tally row small, is)
      (none-closed _ (capped (0 + given problem subject)) (omega (arith, few)))

  pub model-comes :
      ComesTo (fold (tallied problem subject) no_tally (events (objective_rows (objective_terms problem)) ++ events (rows_of problem))) [] 0 (λ rule. 0)
  unfolding events
  model-comes =
      let soft : List (LinearRow ℕ) = item_rows (first_slack problem) (numbered_items problem) in
      let small : spread (objective_terms problem) < signed_limit = omega (
        arith,
        ints,
        objective-below problem (λ v. true) limits,
        spread-positive (objective_terms problem) (coefficients-positive problem),
      ) in
      let start : Tally = fold (tallied problem subject) no_tally (events (objective_rows (objective_terms problem))) in
      rw (
        fold-append (tallied problem subject) no_tally (events (objective_rows (objective_terms problem))) (events (rows_of problem)),
        flat_map-append row_events (hard_rows problem) soft,
        fold-append (tallied problem subject) start (events (hard_rows problem)) (events soft),
      ) (items-come problem subject _ _ _ _ (fold (tallied problem subject) start (events (hard_rows problem))) (first_slack problem)
      (numbered_items problem) items-fit (omega arith)
      (omega (arith, slack_count-numbered (cell_number problem) (soft_items problem))) (extension-extends _ (first_slack problem) (numbered_items problem))
      (rows-come problem subject _ _ _ _ start (hard_rows problem) soft _ _ hard-fit
      (objective-comes (objective_terms problem) small (given-is problem subject))))
