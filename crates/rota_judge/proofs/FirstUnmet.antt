-- The first row that an assignment does not satisfy: there is none if and only if all are satisfied, and it names the first broken hard rule.
use Rattle.rota_judge.proofs.Common.Imports.{◌≡◌, ℕ, Bool, true, false, ◌⊎◌, inl, inr, List, [], ◌∷◌, ◌++◌, map, refl, subst, arith, Option, Some, None}
use Rattle.rota_judge.proofs.Common.Imports.{ℤ, ◌≤ℤ◌, int_le, ints, cases_Bool, append-nil, MatchOption, AllByRecursion, KeepsOneCell}
use Rattle.rota_judge.proofs.Common.Imports.{KeepsCompetitionRules, KeepsHardRules, FirstBroken, InWeek, Roster, Problem, Rule, Cell, cell_number}
use Rattle.rota_judge.proofs.Common.Imports.{unit_number, rows_of_hard_rule, Satisfies, value_of, LinearRow, linear_constraint, extension_of, hard_rows}
use Rattle.rota_judge.proofs.Common.Imports.{numbered_row, numbered_terms, roster_of, NamesFirstBroken, first_unmet, later, H1, H2, H3, H4, H5}
use Rattle.rota_judge.proofs.Extension.{extension-roster, extension-unit, value_of-of_terms}
use Rattle.rota_judge.proofs.HardRules.EachRule.{held, minimum, one_cell, skills}
use Rattle.rota_judge.proofs.HardRules.Sound.{AllHold, IsHardRuleSound, IsRowSound, Keeps}
use Rattle.rota_judge.proofs.HardRules.Succession.{succession}

abbrev pub Named : Type 0
Named = Option (ℕ × Rule)

le_or_not : (d v : ℤ) → ((int_le d v ≡ true) × (d ≤ℤ v)) ⊎ ((int_le d v ≡ false) × (d ≤ℤ v → ⊥))
le_or_not d v =
    elim (cases_Bool (int_le d v)) [
      | inl yes_it_is ↦ inl (yes_it_is, grind (arith, ints))
      | inr not_so ↦ inr (not_so, λ le. absurd (grind (arith, ints)))
    ]

-- ---- no row is named if and only if all are satisfied

abbrev pub AllSatisfied : (ℕ → Bool) → List (LinearRow ℕ) → Type 0
AllSatisfied assignment rows = AllByRecursion (Satisfies assignment) (map linear_constraint rows)

abbrev pub Decided : (ℕ → Bool) → List (LinearRow ℕ) → Named → Type 0
Decided assignment rows unmet = MatchOption unmet (AllSatisfied assignment rows) (λ _. AllSatisfied assignment rows → ⊥)

pub first_unmet-decides : (assignment : ℕ → Bool) (rows : List (LinearRow ℕ)) → Decided assignment rows (first_unmet assignment rows)
first_unmet-decides assignment [] = tt
first_unmet-decides assignment (row ∷ rows) =
    elim (le_or_not row.degree (value_of assignment row.terms)) [
      | inl here ↦ rw here.0 (one_more (first_unmet assignment rows) here.1 (first_unmet-decides assignment rows))
      | inr here ↦ rw here.0 (λ all. here.1 all.0)
    ]
  where
    one_more : (unmet : Named) → Satisfies assignment (linear_constraint row) → Decided assignment rows unmet →
        Decided assignment (row ∷ rows) (later 1 unmet)
    one_more None here rest = (here, rest)
    one_more (Some found) here rest = λ all. rest all.1

-- ---- the first rule that is broken

module _ (problem : Problem) (roster : Roster) (assignment : ℕ → Bool)
    (agree : (c : Cell) → InWeek problem c → assignment (cell_number problem c) ≡ roster c) where
  -- A property that does not depend on the row's number. It holds for the row named among the rows of the hard rules and more, if it
  -- holds whenever a rule is the first that is broken, and whenever all rules are kept.
  module _ (more : List (LinearRow ℕ)) (Q : Named → Type 0) (next : (named : Named) → Q named → Q (later 1 named))
      (broken : (rule : Rule) → FirstBroken problem roster rule → Q (Some (1, rule))) where
    abbrev QIn : List (LinearRow Cell) → Type 0
    QIn rows = Q (first_unmet assignment (map (numbered_row problem) rows ++ more))

    -- The rows of a rule leave the rest if it is kept, and decide if it is broken.
    step : (rule : Rule) (rest : List (LinearRow Cell)) → IsHardRuleSound problem rule →
        (Keeps problem roster rule → KeepsOneCell problem roster) → ((Keeps problem roster rule → ⊥) → FirstBroken problem roster rule) →
        (Keeps problem roster rule → QIn rest) → QIn (rows_of_hard_rule problem rule ++ rest)
    step rule rest sound one first kept =
        each (rows_of_hard_rule problem rule) sound.rows (λ hold. kept (sound.mean roster hold))
      where
        each : (rows : List (LinearRow Cell)) → AllByRecursion (IsRowSound problem rule) rows →
            (AllHold roster rows → QIn rest) → QIn (rows ++ rest)
        each [] all left = left tt
        each (row ∷ rows) all left =
            let same = value_of-of_terms problem assignment roster agree row.terms all.0.terms.in_week in
            elim (le_or_not row.degree (value_of assignment (numbered_terms problem row.terms))) [
              | inl here ↦ rw here.0 (next _ (each rows all.1 (λ hold. left (rw same at here.1, hold))))
              | inr here ↦
                  rw (here.0, all.0.part_is)
                  (broken rule (first (λ keeps. here.1 (rw same (all.0.holds roster (one keeps) keeps)))))
            ]

    -- the unit row holds, so the rows of the rules decide
    pub hard-first_broken : assignment (unit_number problem) ≡ true → (KeepsHardRules problem roster → Q (first_unmet assignment more)) →
        Q (first_unmet assignment (hard_rows problem ++ more))
    hard-first_broken unit kept_all =
        rw unit (next _
        (step H1 _ (one_cell problem) (λ one. one) (λ broken. broken) (λ one.
        step H2 _ (minimum problem) (λ _. one) (λ broken. (one, broken)) (λ met.
        step H3 _ (succession problem) (λ _. one) (λ broken. (one, met, broken)) (λ kept.
        step H4 _ (skills problem) (λ _. one) (λ broken. (one, met, kept, broken)) (λ skilled.
        let others : KeepsCompetitionRules problem roster = record { one_cell = one; minimum = met; succession = kept; skills = skilled } in
        step H5 [] (held problem) (λ _. one) (λ broken. (others, broken)) (λ has.
        kept_all (record { of_competition = others; held = has }))))))))

  pub names-first_broken : assignment (unit_number problem) ≡ true →
      NamesFirstBroken problem roster (first_unmet assignment (hard_rows problem))
  names-first_broken unit =
      subst (λ rows. NamesFirstBroken problem roster (first_unmet assignment rows)) (append-nil (hard_rows problem))
      (hard-first_broken [] (NamesFirstBroken problem roster) next (λ rule broken. broken) unit (λ keeps. keeps))
    where
      next : (named : Named) → NamesFirstBroken problem roster named → NamesFirstBroken problem roster (later 1 named)
      next None keeps = keeps
      next (Some row) broken = broken

pub first_broken : (problem : Problem) (assignment : ℕ → Bool) → assignment (unit_number problem) ≡ true →
    NamesFirstBroken problem (roster_of problem assignment) (first_unmet assignment (hard_rows problem))
first_broken problem assignment = names-first_broken problem (roster_of problem assignment) assignment (λ c inside. refl)

pub extension-first_broken : (problem : Problem) (roster : Roster) →
    NamesFirstBroken problem roster (first_unmet (extension_of problem roster) (hard_rows problem))
extension-first_broken problem roster =
    names-first_broken problem roster (extension_of problem roster) (extension-roster problem roster) (extension-unit problem roster)
