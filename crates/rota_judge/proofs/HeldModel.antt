-- Holding cells adds to the model only that each of them is true. If it can be satisfied, the held cells keep H1, H3 and H4.
use Rattle.rota_judge.proofs.Common.Imports.{◌≡◌, ◌↔◌, ℕ, ◌+◌, Bool, false, [], map, length, ap, arith, rules, length-map, length-flat_map}
use Rattle.rota_judge.proofs.Common.Imports.{KeepsCompetitionRules, KeepsHeld, Has, Roster, hard_rules, Problem, Cell, rows_of_hard_rule, SatisfiesModel}
use Rattle.rota_judge.proofs.Common.Imports.{model_of, roster_of, cells_of, h5_row, h5_rows, without_held, List, ◌∷◌, sym, refl, true≢false}
use Rattle.rota_judge.proofs.Common.Imports.{AllByRecursion, ◌<◌, true, KeepsHardRules, KeepsOneCell, KeepsSkills, KeepsSuccession, cell, is_on}
use Rattle.rota_rules.proofs.LogicWords.{any_below-more}
use Rattle.rota_items.proofs.ItemLemmas.{in-cell, length-constraints}
use Rattle.rota_judge.proofs.HardRules.EachRule.{cells-are}
use Rattle.rota_judge.proofs.ModelMeaning.{model-means}

nothing : {A : Type 0} (xs : List A) → AllByRecursion (λ _. ⊥) xs → xs ≡ []
nothing [] all = refl
nothing (x ∷ xs) all = absurd all.0

no-held_rows : (problem : Problem) → h5_rows (without_held problem) ≡ []
no-held_rows problem =
    let bare = without_held problem in
    let none = (cells-are bare).all (λ _. ⊥) (λ one has. true≢false (sym has.in_roster)) in
    ap (map h5_row) (nothing (cells_of bare bare.is_held) none)

-- the rules of the competition do not depend on the held cells
keeps-holding : (problem : Problem) (is_held : Cell → Bool) (roster : Roster) → KeepsCompetitionRules problem roster →
    KeepsCompetitionRules (record problem { is_held = is_held }) roster
keeps-holding problem is_held roster keeps =
    let has : (one : Cell) → Has (record problem { is_held = is_held }) roster one → Has problem roster one = λ one has. search rules in record {
      one_cell = λ one other one_has other_has. keeps.one_cell one other (has one one_has) (has other other_has);
      minimum = keeps.minimum;
      succession = record { from_history = keeps.succession.from_history; in_week = keeps.succession.in_week };
      skills = λ one one_has. keeps.skills one (has one one_has);
    }

module _ (problem : Problem) where
  pub held-add : (assignment : ℕ → Bool) → SatisfiesModel assignment (model_of problem) ↔
      (SatisfiesModel assignment (model_of (without_held problem)) × KeepsHeld problem (roster_of problem assignment))
  held-add assignment =
      let bare = without_held problem in
      let roster = roster_of problem assignment in (
        λ all.
            let (unit, keeps, soft) = (model-means problem assignment).0 all in
            let kept = keeps-holding problem (λ one. false) roster keeps.of_competition in
            ((model-means bare assignment).1 (unit, record { of_competition = kept; held = λ one has. absurd (true≢false (sym has.in_roster)) }, soft), keeps.held),
        λ both.
            let (unit, keeps, soft) = (model-means bare assignment).0 both.0 in
            let kept = keeps-holding bare problem.is_held roster keeps.of_competition in
            (model-means problem assignment).1 (unit, record { of_competition = kept; held = both.1 }, soft),
      )

  pub length-with_held :
      length (model_of problem).constraints ≡ length (model_of (without_held problem)).constraints + length (cells_of problem problem.is_held)
  length-with_held =
      omega (
        arith,
        length-constraints problem,
        length-constraints (without_held problem),
        length-flat_map (rows_of_hard_rule problem) hard_rules,
        length-flat_map (rows_of_hard_rule (without_held problem)) hard_rules,
        ap length (no-held_rows problem),
        length-map (cells_of problem problem.is_held) h5_row,
      )

  -- ---- the held cells of a week whose model is satisfied

  module _ (assignment : ℕ → Bool) (all : SatisfiesModel assignment (model_of problem)) where
    abbrev roster : Roster
    roster = roster_of problem assignment

    keeps : KeepsHardRules problem roster
    keeps = ((model-means problem assignment).0 all).1

    has : (one : Cell) → Has problem problem.is_held one → Has problem roster one
    has one held = record { in_week = held.in_week; in_roster = keeps.held one held }

    on : (n s d : ℕ) → n < problem.nurses → s < problem.shifts → d < 7 → is_on problem problem.is_held n s d ≡ true → is_on problem roster n s d ≡ true
    on n s d n_in s_in d_in =
        any_below-more problem.skills _ _ (λ k k_in held. keeps.held (cell n d s k) (record { in_week = in-cell problem n d s k n_in d_in s_in k_in; in_roster = held }))

    pub held-one_cell : KeepsOneCell problem problem.is_held
    held-one_cell one other one_held other_held = keeps.of_competition.one_cell one other (has one one_held) (has other other_held)

    pub held-succession : KeepsSuccession problem problem.is_held
    held-succession = record {
      from_history = λ n s t n_in t_in last held.
          keeps.of_competition.succession.from_history n s t n_in t_in last (on n t 0 n_in t_in (omega arith) held);
      in_week = λ n d s t n_in d_in s_in t_in held next_held.
          keeps.of_competition.succession.in_week n d s t n_in d_in s_in t_in (on n s d n_in s_in (omega arith) held)
          (on n t (d + 1) n_in t_in (omega arith) next_held);
    }

    pub held-skills : KeepsSkills problem problem.is_held
    held-skills one held = keeps.of_competition.skills one (has one held)
