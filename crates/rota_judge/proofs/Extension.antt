-- Rosters extend to assignments at their penalty, and satisfying assignments represent rosters whose penalty is at most their objective.
use Rattle.rota_judge.proofs.Common.Imports.{◌≡◌, ℕ, ◌+◌, ◌*◌, ◌<◌, ◌≤◌, Bool, true, false, cond, List, [], ◌∷◌, ◌++◌, refl, sym, ap, ◌∙◌, arith, pos}
use Rattle.rota_judge.proofs.Common.Imports.{◌+ℤ◌, ◌-ℤ◌, ◌≤ℤ◌, nat_lt, All, AllByRecursion, ints, nat_tests, lt-ltb, All-from_recursion}
use Rattle.rota_judge.proofs.Common.Imports.{KeepsCompetitionRules, KeepsHardRules, Roster, InWeek, Problem, Cell, cell_number, unit_number, first_slack}
use Rattle.rota_judge.proofs.Common.Imports.{constant_terms, cell_terms, constant, penalty, soft_items, Item, positive_part, shortage}
use Rattle.rota_judge.proofs.Common.Imports.{weighted_shortages, numbered, Term, value_of, SatisfiesModel, AreBelow, Rule, slack_weights, numbered_terms}
use Rattle.rota_judge.proofs.Common.Imports.{numbered_items, objective_terms, roster_of, assignment_of, extension_of, model_of, request_cost}
use Rattle.rota_judge.proofs.AlikeRosters.{keeps-alike}
use Rattle.rota_judge.proofs.ItemLaw.{value_of-numbered, extension_satisfies, value_of-extension, weighted_shortages-le}
use Rattle.rota_items.proofs.LogicWords.{all-map, sum_by-map, sum_by-same}
use Rattle.rota_judge.proofs.Numbers.{assignment_of-cell, assignment_of-unit}
use Rattle.rota_items.proofs.ItemLemmas.{cell_number-below, value_of-append, ItemIn, cell_terms-are, charges-penalty, each-item}
use Rattle.rota_items.proofs.ItemLemmas.{in-cell_terms, IsItemSound, value_of-request_terms, value_of-singleton_if, OnTerms}
use Rattle.rota_items.proofs.ItemLemmas.{value_of-agree}
use Rattle.rota_judge.proofs.ModelMeaning.{model-means}

-- ---- the penalty in items

pub charges : (problem : Problem) (roster : Roster) → KeepsCompetitionRules problem roster →
    weighted_shortages roster (soft_items problem) + request_cost problem roster + constant problem ≡ penalty problem roster
charges problem roster keeps =
    omega (
      arith,
      ints,
      charges-penalty problem roster keeps,
      ap (value_of roster) (cell_terms-are problem),
      value_of-request_terms problem roster,
    )

-- ---- the objective in its parts

at_unit : (b : Bool) (n : ℕ) → cond (nat_lt 0 n) (cond b (pos n) (pos 0) +ℤ pos 0) (pos 0) ≡ pos (cond b n 0)
at_unit true n = grind (arith, ints, nat_tests)
at_unit false n = grind (arith, ints, nat_tests)

pub value_of-objective : (problem : Problem) (assignment : ℕ → Bool) → value_of assignment (objective_terms problem) ≡
    value_of assignment (numbered_terms problem (cell_terms problem)) +ℤ
    (pos (cond (assignment (unit_number problem)) (constant problem) 0) +ℤ
    value_of assignment (slack_weights (first_slack problem) (numbered_items problem)))
value_of-objective problem assignment =
    omega (
      arith,
      ints,
      value_of-append assignment (numbered_terms problem (cell_terms problem))
          (constant_terms problem ++ slack_weights (first_slack problem) (numbered_items problem)),
      value_of-append assignment (constant_terms problem) (slack_weights (first_slack problem) (numbered_items problem)),
      value_of-singleton_if assignment (nat_lt 0 (constant problem)) (pos (constant problem), unit_number problem),
      at_unit (assignment (unit_number problem)) (constant problem),
    )

-- ---- an assignment that agrees with a roster

module _ (problem : Problem) (assignment : ℕ → Bool) (roster : Roster)
    (agree : (c : Cell) → InWeek problem c → assignment (cell_number problem c) ≡ roster c) where
  pub value_of-of_terms : (terms : List (Term Cell)) → OnTerms (InWeek problem) terms →
      value_of assignment (numbered_terms problem terms) ≡ value_of roster terms
  value_of-of_terms terms inside =
      value_of-numbered (cell_number problem) assignment terms ∙
      value_of-agree (λ c. assignment (cell_number problem c)) roster (InWeek problem) terms agree inside

  pub shortage-of_item : (item : Item Cell) → ItemIn problem item →
      shortage assignment (numbered (cell_number problem) item) ≡ shortage roster item
  shortage-of_item item inside = ap (λ z. positive_part (item.degree -ℤ z)) (value_of-of_terms item.terms inside)

  weighted-of_items : weighted_shortages assignment (numbered_items problem) ≡ weighted_shortages roster (soft_items problem)
  weighted-of_items =
      sum_by-map (λ (item : Item ℕ). item.weight * shortage assignment item) (numbered (cell_number problem)) (soft_items problem) ∙
      sum_by-same _ (λ (item : Item Cell). item.weight * shortage roster item) (soft_items problem)
      (each-item problem _ (λ rule item soft sound. ap (λ n. item.weight * n) (shortage-of_item item sound.terms.in_week)))

-- ---- properties of each sound item, with the numbers of its variables

each-numbered : (problem : Problem) (P : Item ℕ → Type 0) →
    ((rule : Rule) (item : Item Cell) → IsItemSound problem rule item → P (numbered (cell_number problem) item)) → All P (numbered_items problem)
each-numbered problem P each =
    All-from_recursion P (numbered_items problem)
    (all-map P (numbered (cell_number problem)) (soft_items problem) (each-item problem _ (λ rule item soft sound. each rule item sound)))

-- ---- the items' variables are below the slacks

module _ (problem : Problem) where
  abbrev Below : Term ℕ → Type 0
  Below term = term.1 < first_slack problem

  pub terms-below : (terms : List (Term Cell)) → OnTerms (InWeek problem) terms → AllByRecursion Below (numbered_terms problem terms)
  terms-below [] inside = tt
  terms-below (term ∷ terms) inside = (omega (arith, cell_number-below problem term.1 inside.0), terms-below terms inside.1)

  stand-below : AreBelow (first_slack problem) (numbered_items problem)
  stand-below =
      each-numbered problem (λ (item : Item ℕ). All Below item.terms) (λ rule item sound.
      All-from_recursion Below (numbered_terms problem item.terms) (terms-below item.terms sound.terms.in_week))

-- ---- the extension

module _ (problem : Problem) (roster : Roster) where
  pub extension-below : (v : ℕ) → v < first_slack problem → extension_of problem roster v ≡ assignment_of problem roster v
  extension-below v below = rw (lt-ltb v (first_slack problem) below) refl

  pub extension-unit : extension_of problem roster (unit_number problem) ≡ true
  extension-unit = extension-below (unit_number problem) (omega arith) ∙ assignment_of-unit problem roster

  pub extension-roster : (c : Cell) → InWeek problem c → extension_of problem roster (cell_number problem c) ≡ roster c
  extension-roster c inside =
      extension-below (cell_number problem c) (omega (arith, cell_number-below problem c inside)) ∙ assignment_of-cell problem roster c inside

  -- ---- the law

  module _ (keeps : KeepsHardRules problem roster) where
    enough : All (λ (item : Item ℕ). shortage (assignment_of problem roster) item ≤ item.slacks) (numbered_items problem)
    enough =
        each-numbered problem (λ (item : Item ℕ). shortage (assignment_of problem roster) item ≤ item.slacks) (λ rule item sound.
        omega (
          arith,
          shortage-of_item problem (assignment_of problem roster) roster (assignment_of-cell problem roster) item sound.terms.in_week,
          sound.enough roster keeps.of_competition,
        ))

    pub extension-satisfies : SatisfiesModel (extension_of problem roster) (model_of problem)
    extension-satisfies =
        (model-means problem (extension_of problem roster)).1 (
          extension-unit,
          keeps-alike problem roster (roster_of problem (extension_of problem roster)) (λ c inside. sym (extension-roster c inside)) keeps,
          extension_satisfies (assignment_of problem roster) (first_slack problem) (numbered_items problem) (stand-below problem) enough,
        )

    pub extension-objective : value_of (extension_of problem roster) (objective_terms problem) ≡ pos (penalty problem roster)
    extension-objective =
        omega (
          arith,
          ints,
          value_of-objective problem (extension_of problem roster),
          ap (λ (b : Bool). cond b (constant problem) 0) extension-unit,
          value_of-of_terms problem (extension_of problem roster) roster extension-roster (cell_terms problem) (in-cell_terms problem),
          value_of-extension (assignment_of problem roster) (first_slack problem) (numbered_items problem) (stand-below problem) enough,
          weighted-of_items problem (assignment_of problem roster) roster (assignment_of-cell problem roster),
          charges-penalty problem roster keeps.of_competition,
        )

-- ---- satisfying assignments

module _ (problem : Problem) (assignment : ℕ → Bool) (all : SatisfiesModel assignment (model_of problem)) where
  pub satisfying-keeps : KeepsHardRules problem (roster_of problem assignment)
  satisfying-keeps = ((model-means problem assignment).0 all).1

  pub satisfying-objective : pos (penalty problem (roster_of problem assignment)) ≤ℤ value_of assignment (objective_terms problem)
  satisfying-objective =
      omega (
        arith,
        ints,
        value_of-objective problem assignment,
        ap (λ (b : Bool). cond b (constant problem) 0) ((model-means problem assignment).0 all).0,
        value_of-numbered (cell_number problem) assignment (cell_terms problem),
        weighted_shortages-le assignment (first_slack problem) (numbered_items problem) ((model-means problem assignment).0 all).2,
        weighted-of_items problem assignment (roster_of problem assignment) (λ c inside. refl),
        charges-penalty problem (roster_of problem assignment) satisfying-keeps.of_competition,
      )
