-- How a judge changes with the terms of a row, and with rows, one after the other.
use Rattle.rota_judge.proofs.Common.Imports.{◌≡◌, ℕ, ◌+◌, ◌-◌, ◌*◌, ◌<◌, ◌≤◌, Bool, true, false, List, [], ◌∷◌, ◌++◌, map, length, refl, sym, ap}
use Rattle.rota_judge.proofs.Common.Imports.{◌∙◌, arith, min, w64, Option, Some, None, add-zero, inl, inr, ℤ, pos, negsuc, ◌+ℤ◌, ◌-ℤ◌, ◌==◌, int_le}
use Rattle.rota_judge.proofs.Common.Imports.{nat_le, if◌then◌else◌, fold, AllByRecursion, ints, fold-append, saturate_signed, option_or, leb_tells}
use Rattle.rota_judge.proofs.Common.Imports.{one-mul, zero-mul, soft_rules, Problem, Rule, positive_part, LinearRow, is_satisfied, first_unmet}
use Rattle.rota_judge.proofs.Common.Imports.{later, rule_of_part, max_count, half_limit, signed_limit, Hard, row_events, events, RowSums, Tally}
use Rattle.rota_judge.proofs.Common.Imports.{Subject, assigned, extended, assignment_in, capped, closed, constraint_closed, lacking_in, tallied}
use Rattle.rota_judge.proofs.Common.Imports.{true_slacks, with_cost, soft_index, ◌&&◌, not, nat_abs, nat_lt, le-ltb, sum_by-cons, unit_number}
use Rattle.rota_judge.proofs.Common.Imports.{first_slack, Term, value_of, set_of, close_row, start_row, term_events, counts_for, no_sums}
use Rattle.rota_core.specs.declared.rule.Rule.TheVariants.{Unit as UnitRule}
use Rattle.rota_judge.proofs.FirstUnmet.{Named}
use Rattle.rota_items.proofs.ItemLemmas.{positive_part-parts, spread, chosen-small, OnTerms, value_of-agree}
use Rattle.rota_judge.proofs.Extension.{extension-below}

-- ---- the terms of a row

abbrev chosen : Bool → ℤ → ℤ
chosen b c = if b then c else pos 0

abbrev with_sums : Tally → ℤ → ℤ → Tally
with_sums tally x y = record tally { sums = record { others = x; slacks = y } }

-- a small sum is not cut off
saturated : (z : ℤ) → nat_abs z < signed_limit → saturate_signed w64 z ≡ z
saturated (pos n) small = ap pos (omega arith)
saturated (negsuc n) small = ap negsuc (omega arith)

and_none : (z : ℤ) → z ≡ z +ℤ pos 0
and_none z = omega (arith, ints)

-- a term counts at a slack or at another variable, or it does not count
term-tallied : (above counts : Bool) (tally : Tally) (x y c : ℤ) → nat_abs x + nat_abs c < signed_limit → nat_abs y + nat_abs c < signed_limit →
    (if counts
    then record tally {
      sums = if above
          then record { others = x; slacks = saturate_signed w64 (y +ℤ c) }
          else record { others = saturate_signed w64 (x +ℤ c); slacks = y };
    }
    else with_sums tally x y) ≡
    with_sums tally (x +ℤ chosen (not above && counts) c) (y +ℤ chosen (above && counts) c)
term-tallied true true tally x y c x_small y_small = λ i. with_sums tally (and_none x i) (saturated (y +ℤ c) (omega (arith, ints)) i)
term-tallied false true tally x y c x_small y_small = λ i. with_sums tally (saturated (x +ℤ c) (omega (arith, ints)) i) (and_none y i)
term-tallied true false tally x y c x_small y_small = λ i. with_sums tally (and_none x i) (and_none y i)
term-tallied false false tally x y c x_small y_small = λ i. with_sums tally (and_none x i) (and_none y i)

-- below the slacks the values that count are the assignment's
pub counts-before : (problem : Problem) (subject : Subject) (v : ℕ) → v < first_slack problem → counts_for problem subject v ≡ assignment_in problem subject v
counts-before problem (assigned bits) v before = refl
counts-before problem (extended roster) v before =
    rw (le-ltb (unit_number problem) v (omega arith), extension-below problem (set_of roster) v before) refl

pub value_of-none : (terms : List (Term ℕ)) → value_of (λ v. false) terms ≡ pos 0
value_of-none [] = refl
value_of-none (t ∷ ts) = omega (arith, ints, value_of-none ts)

module _ (problem : Problem) (subject : Subject) where
  abbrev pub counts : ℕ → Bool
  counts = counts_for problem subject

  abbrev is_slack : ℕ → Bool
  is_slack v = nat_lt (unit_number problem) v

  -- the variables below the slacks that count, and the slacks that count
  abbrev pub counted_other : ℕ → Bool
  counted_other v = not (is_slack v) && counts v

  abbrev pub counted_slack : ℕ → Bool
  counted_slack v = is_slack v && counts v

  abbrev pub sums_of : List (Term ℕ) → RowSums
  sums_of terms = record { others = value_of counted_other terms; slacks = value_of counted_slack terms }

  -- the sums of small terms are exact
  terms-tallied : (tally : Tally) (x y : ℤ) (terms : List (Term ℕ)) → nat_abs x + spread terms < signed_limit → nat_abs y + spread terms < signed_limit →
      fold (tallied problem subject) (with_sums tally x y) (term_events terms) ≡
      with_sums tally (x +ℤ value_of counted_other terms) (y +ℤ value_of counted_slack terms)
  unfolding term_events
  terms-tallied tally x y [] x_small y_small = λ i. with_sums tally (and_none x i) (and_none y i)
  terms-tallied tally x y (t ∷ ts) x_small y_small =
      let more : spread (t ∷ ts) ≡ nat_abs t.0 + spread ts = sum_by-cons (λ (term : Term ℕ). nat_abs term.0) t ts in
      let other : ℤ = chosen (counted_other t.1) t.0 in
      let slack : ℤ = chosen (counted_slack t.1) t.0 in
      let others : (x +ℤ other) +ℤ value_of counted_other ts ≡ x +ℤ value_of counted_other (t ∷ ts) = omega (arith, ints) in
      let slacks : (y +ℤ slack) +ℤ value_of counted_slack ts ≡ y +ℤ value_of counted_slack (t ∷ ts) = omega (arith, ints) in
      ap (λ (j : Tally). fold (tallied problem subject) j (term_events ts))
      (term-tallied (is_slack t.1) (counts t.1) tally x y t.0 (omega (arith, more)) (omega (arith, more))) ∙
      terms-tallied tally (x +ℤ other) (y +ℤ slack) ts (omega (arith, more, chosen-small (counted_other t.1) x t.0))
      (omega (arith, more, chosen-small (counted_slack t.1) y t.0)) ∙
      (λ i. with_sums tally (others i) (slacks i))

  -- the tally just before a row is closed
  abbrev pub opened : Tally → LinearRow ℕ → Tally
  opened tally row = record tally { part = row.part; sums = sums_of row.terms }

  pub row-opened : (tally : Tally) (row : LinearRow ℕ) → spread row.terms < signed_limit →
      fold (tallied problem subject) tally (start_row row.part ∷ term_events row.terms) ≡ opened tally row
  row-opened tally row small =
      let others : pos 0 +ℤ value_of counted_other row.terms ≡ value_of counted_other row.terms = omega (arith, ints) in
      let slacks : pos 0 +ℤ value_of counted_slack row.terms ≡ value_of counted_slack row.terms = omega (arith, ints) in
      terms-tallied (record tally { part = row.part; sums = no_sums }) (pos 0) (pos 0) row.terms (omega arith) (omega arith) ∙
      (λ i. with_sums (record tally { part = row.part; sums = no_sums }) (others i) (slacks i))

  pub row-tallied : (tally : Tally) (row : LinearRow ℕ) → spread row.terms < signed_limit →
      fold (tallied problem subject) tally (row_events row) ≡ closed subject (opened tally row) row.part row.degree
  row-tallied tally row small =
      fold-append (tallied problem subject) tally (start_row row.part ∷ term_events row.terms) (close_row row.degree ∷ []) ∙
      ap (λ (j : Tally). closed subject j j.part row.degree) (row-opened tally row small)

  -- ---- terms below the slacks

  abbrev pub Before : List (Term ℕ) → Type 0
  Before terms = OnTerms (λ v. v < first_slack problem) terms

  pub counted-before : (v : ℕ) → v < first_slack problem → counted_other v ≡ assignment_in problem subject v
  counted-before v below = rw (le-ltb (unit_number problem) v (omega arith)) (counts-before problem subject v below)

  pub others-before : (terms : List (Term ℕ)) → Before terms → value_of counted_other terms ≡ value_of (assignment_in problem subject) terms
  others-before terms = value_of-agree counted_other (assignment_in problem subject) (λ v. v < first_slack problem) terms counted-before

  pub slacks-before : (terms : List (Term ℕ)) → Before terms → value_of counted_slack terms ≡ pos 0
  slacks-before terms before =
      value_of-agree counted_slack (λ v. false) (λ v. v < first_slack problem) terms
      (λ v below. rw (le-ltb (unit_number problem) v (omega arith)) refl) before ∙ value_of-none terms

-- ---- the charge of a rule, in sums that stay at the maximum

abbrev occurs_at : Option ℕ → Option ℕ → Bool
occurs_at (Some one) (Some other) = one == other
occurs_at _ _ = false

-- 1 if they are the same soft rule
abbrev pub same : Rule → Rule → ℕ
same one other = if occurs_at (soft_index one) (soft_index other) then 1 else 0

abbrev pub costs_of : (Rule → ℕ) → List ℕ
costs_of charges = map (λ rule. capped (charges rule)) soft_rules

capped-sum : (x more : ℕ) → capped (capped x + capped more) ≡ capped (x + more)
capped-sum x more = omega arith

pub cost-raised : (rule : Rule) (more : ℕ) (f : Rule → ℕ) →
    with_cost rule (capped more) (costs_of f) ≡ costs_of (λ other. f other + same rule other * more)
cost-raised UnitRule more f = simp (zero-mul, add-zero)
cost-raised _ more f = first_of (simp (zero-mul, add-zero), simp (capped-sum, one-mul, zero-mul, add-zero))

-- ---- the unsatisfied row

pub later-zero : (found : Named) → later 0 found ≡ found
later-zero None = refl
later-zero (Some (number, rule)) = let same : 0 + number ≡ number = omega arith in ap (λ (n : ℕ). Some (n, rule)) same

later-later : (m n : ℕ) (found : Named) → later m (later n found) ≡ later (m + n) found
later-later m n None = refl
later-later m n (Some (number, rule)) = let same : m + (n + number) ≡ m + n + number = omega arith in ap (λ (n : ℕ). Some (n, rule)) same

pub or_else-none : (found : Named) → option_or found None ≡ found
or_else-none (Some x) = refl
or_else-none None = refl

-- the first row, and then the others
unmet-next : (found : Named) (met : Bool) (c : ℕ) (rule : Rule) (rest : Named) →
    option_or (option_or found (if met then None else Some (c + 1, rule))) (later (c + 1) rest) ≡
    option_or found (later c (if met then later 1 rest else Some (1, rule)))
unmet-next found true c rule rest = λ i. option_or (or_else-none found i) (sym (later-later c 1 rest) i)
unmet-next None false c rule rest = refl
unmet-next (Some x) false c rule rest = refl

-- ---- the findings at the end of a row

pub positive-saturated : (z : ℤ) → positive_part (saturate_signed w64 z) ≡ min (positive_part z) (signed_limit - 1)
positive-saturated (pos n) = omega arith
positive-saturated (negsuc n) = refl

-- the shortage is at most a few slacks if and only if the sum with them reaches the degree
pub covers : (d v : ℤ) (slacks : ℕ) → slacks < half_limit →
    nat_le (positive_part (saturate_signed w64 (d -ℤ v))) slacks ≡ int_le d (v +ℤ pos slacks)
covers d v slacks few =
    elim (leb_tells (positive_part (saturate_signed w64 (d -ℤ v))) slacks) [
      | inl fits ↦ fits.0 ∙ omega (arith, ints, positive-saturated (d -ℤ v), positive_part-parts, fits.1)
      | inr many ↦ many.0 ∙ omega (arith, ints, positive-saturated (d -ℤ v), positive_part-parts, many.1)
    ]

module _ (problem : Problem) (subject : Subject) where
  abbrev pub assignment : ℕ → Bool
  assignment = assignment_in problem subject

  -- A constraint with this weight and small coefficients, with this shortage and this number of true slacks. The judge finds whether the
  -- assignment satisfies it.
  pub record IsJudged (row : LinearRow ℕ) (weight lacks slacks : ℕ) : Type 0 where
    pub closes : (tally : Tally) →
        closed subject tally row.part row.degree ≡ constraint_closed subject tally (rule_of_part row.part) weight row.degree
    pub small : spread row.terms < signed_limit
    pub lacks_is : lacking_in (sums_of problem subject row.terms) row.degree ≡ lacks
    pub slacks_are : true_slacks subject (sums_of problem subject row.terms) lacks ≡ slacks
    pub met : nat_le lacks slacks ≡ is_satisfied assignment row

  -- ---- rows without slacks

  abbrev pub IsHardRow : LinearRow ℕ → Type 0
  IsHardRow row = IsJudged row 0 (lacking_in (sums_of problem subject row.terms) row.degree) 0

  no-slacks : (given : Subject) (sums : RowSums) (lacks : ℕ) → sums.slacks ≡ pos 0 → true_slacks given sums lacks ≡ 0
  no-slacks (assigned bits) sums lacks none = ap positive_part none
  no-slacks (extended roster) sums lacks none = omega (arith, ap positive_part none)

  pub hard-judged : (row : LinearRow ℕ) (rule : Rule) → row.part ≡ Hard rule → Before problem subject row.terms →
      spread row.terms < signed_limit → IsHardRow row
  hard-judged row rule part_is before small = record {
    closes = λ tally. rw part_is refl;
    small = small;
    lacks_is = refl;
    slacks_are = no-slacks subject (sums_of problem subject row.terms) _ (slacks-before problem subject row.terms before);
    met =
        covers row.degree (sums_of problem subject row.terms).others 0 (omega arith) ∙
        ap (int_le row.degree) (omega (arith, ints, others-before problem subject row.terms before));
  }

  module _ (named : Named) (paid : ℕ) (total : Rule → ℕ) (requests : ℕ) where
    -- With these rows left, which pay and charge this, the judge finds the correct result. Its sums stay at the maximum.
    pub record Comes (tally : Tally) (rows : List (LinearRow ℕ)) (pays : ℕ) (charges : Rule → ℕ) : Type 0 where
      pub few : tally.constraints + length rows ≤ max_count
      pub unmet : option_or tally.unmet (later tally.constraints (first_unmet assignment rows)) ≡ named
      pub slacks : capped (tally.slacks + pays) ≡ capped paid
      pub before : Rule → ℕ
      pub shortages : tally.shortages ≡ costs_of before
      pub totals : (rule : Rule) → before rule + charges rule ≡ total rule
      pub requests_are : tally.requests_and_constant ≡ requests

    pub row-comes : (tally : Tally) (row : LinearRow ℕ) (weight lacks slacks : ℕ) (rows : List (LinearRow ℕ))
        (pays all_pay : ℕ) (charges all_charge : Rule → ℕ) → IsJudged row weight lacks slacks → all_pay ≡ weight * slacks + pays →
        ((other : Rule) → all_charge other ≡ same (rule_of_part row.part) other * (weight * lacks) + charges other) →
        Comes tally (row ∷ rows) all_pay all_charge → Comes (fold (tallied problem subject) tally (row_events row)) rows pays charges
    row-comes tally row weight lacks slacks rows pays all_pay charges all_charge judged pays_is charges_are comes =
        let here : Tally = opened problem subject tally row in
        let rule : Rule = rule_of_part row.part in
        let number : min (tally.constraints + 1) max_count ≡ tally.constraints + 1 = omega (arith, comes.few) in
        rw (row-tallied problem subject tally row judged.small, judged.closes here, judged.lacks_is, judged.slacks_are) (record {
          few = omega (arith, comes.few);
          unmet =
              (λ i. option_or (option_or tally.unmet (if judged.met i then None else Some (number i, rule)))
              (later (number i) (first_unmet assignment rows))) ∙
              unmet-next tally.unmet (is_satisfied assignment row) tally.constraints rule (first_unmet assignment rows) ∙ comes.unmet;
          slacks = omega (arith, pays_is, comes.slacks);
          before = λ other. comes.before other + same rule other * (weight * lacks);
          shortages = ap (with_cost rule (capped (weight * lacks))) comes.shortages ∙ cost-raised rule (weight * lacks) comes.before;
          totals = λ other. omega (arith, charges_are other, comes.totals other);
          requests_are = comes.requests_are;
        })

    pub rows-come : (tally : Tally) (done more : List (LinearRow ℕ)) (pays : ℕ) (charges : Rule → ℕ) → AllByRecursion IsHardRow done →
        Comes tally (done ++ more) pays charges → Comes (fold (tallied problem subject) tally (events done)) more pays charges
    unfolding events
    rows-come tally [] more pays charges all comes = comes
    rows-come tally (row ∷ rows) more pays charges all comes =
        rw (fold-append (tallied problem subject) tally (row_events row) (events rows))
        (rows-come (fold (tallied problem subject) tally (row_events row)) rows more pays charges all.1
        (row-comes tally row 0 _ 0 (rows ++ more) pays pays charges charges all.0 (omega arith) (λ other. omega arith) comes))
