-- The rows of each hard rule mean the rule: H1, H2, H4 and H5 one by one, and a property of each is a property of all their rows.
use Rattle.rota_judge.proofs.Common.Imports.{◌+◌, ◌≡◌, ◌∙◌, ℕ, ◌<◌, not, true, false, inl, inr, refl, sym, ap, arith, pos, negsuc, nat_lt}
use Rattle.rota_judge.proofs.Common.Imports.{cases_Bool, true≢false, ltb-false, not-true, false_from_ne_true, List, [], ◌∷◌}
use Rattle.rota_judge.proofs.Common.Imports.{AllByRecursion, flat_map, KeepsHardRules, InWeek, Roster, Has, cell, hard_rules, Problem}
use Rattle.rota_judge.proofs.Common.Imports.{Rule, Cell, cell_number, cells_of, demand_cells, skill_cells, work_cells, h1_row, h1_rows}
use Rattle.rota_judge.proofs.Common.Imports.{h2_row, h4_row, h5_row, h5_rows, rows_of_hard_rule, rule_rows, LinearRow, H1, H2, H3, H4, H5}
use Rattle.rota_items.proofs.ItemLemmas.{count-none, none-pass, one-work, the_one, in-cell, rises-skill_cells, rises-work_cells}
use Rattle.rota_items.proofs.ItemLemmas.{skill-are, work-are, in-work_cells, sound-cells, sound-demand}
use Rattle.rota_judge.proofs.HardRules.Sound.{at_least, at_most, one-where_true, AllHold, Holds, IsHardRuleSound, IsRowSound, Keeps}
use Rattle.rota_judge.proofs.HardRules.Succession.{succession}
use Rattle.rota_items.proofs.LogicWords.{all-weaker, count_by-each, Are, alone, in-parts, in-turns, listed, of-each, where-holds}

module _ (problem : Problem) where
  -- ---- H1: at most one cell of a nurse's day

  pub h1-are : Are (h1_rows problem) (λ P. (n : ℕ) → n < problem.nurses → (d : ℕ) → d < 7 → P (h1_row problem n d))
  h1-are = in-turns (λ n. in-turns (λ d. alone))

  pub one_cell : IsHardRuleSound problem H1
  one_cell = record {
    rows = h1-are.all (IsRowSound problem H1) (λ n n_in d d_in. record {
      part_is = refl;
      terms = sound-cells problem (negsuc 0) (inr refl) _ _ (work_cells problem n d) (in-work_cells problem n d n_in d_in)
          (rises-work_cells problem n d);
      holds = λ roster one _. (at_most roster (work_cells problem n d) 1).1 (one-work problem roster one n d n_in d_in);
    });
    mean = λ roster all one other has_one has_other nurse_same day_same.
        let this = has_one.in_week in
        let that = has_other.in_week in
        let few = (at_most roster (work_cells problem one.nurse one.day) 1).0 (h1-are.each (Holds roster) all one.nurse this.nurse_in one.day this.day_in) in
        let (it, same) = the_one roster one (work_cells problem one.nurse one.day) few in
        let each = (work-are problem one.nurse one.day).each (λ c. roster c ≡ true → c ≡ it) same in
        let moved : ◌≡◌ {A = Cell} (cell one.nurse one.day other.shift other.skill) other =
        λ i. cell (nurse_same i) (day_same i) other.shift other.skill in
        each one.shift this.shift_in one.skill this.skill_in has_one.in_roster ∙
        (sym (each other.shift that.shift_in other.skill that.skill_in (ap roster moved ∙ has_other.in_roster)) ∙ moved);
  }

  -- ---- H2: the minimum number of nurses, if it is above 0

  pub minimum : IsHardRuleSound problem H2
  minimum =
      let rows-are = in-turns {n = 7} (λ d. in-turns {n = problem.shifts} (λ s. in-turns {n = problem.skills} (λ k.
      where-holds {test = nat_lt 0 (problem.demand d s k).minimum} {x = h2_row problem d s k}))) in
      let count = λ (roster : Roster) (d s k : ℕ). count_by-each roster problem.nurses (λ n. cell n d s k) in record {
        rows = rows-are.all (IsRowSound problem H2) (λ d d_in s s_in k k_in _. record {
          part_is = refl;
          terms = sound-demand problem d s k d_in s_in k_in;
          holds = λ roster _ met.
              (at_least roster (demand_cells problem d s k) _).1 (omega (arith, count roster d s k, met d s k d_in s_in k_in));
        });
        mean = λ roster all d s k d_in s_in k_in.
            elim (cases_Bool (nat_lt 0 (problem.demand d s k).minimum)) [
              | inl asked ↦
                  omega (arith, count roster d s k, (at_least roster (demand_cells problem d s k) _).0 (rows-are.each (Holds roster) all d d_in s s_in k k_in asked))
              | inr none ↦ omega (arith, ltb-false 0 (problem.demand d s k).minimum none)
            ];
      }

  -- ---- H4: no cell that needs a skill that the nurse does not have

  pub skills : IsHardRuleSound problem H4
  skills =
      let rows-are = in-turns {n = problem.nurses} (λ n. in-turns {n = problem.skills} (λ k.
      where-holds {test = not (problem.has_skill n k)} {x = h4_row problem n k})) in record {
        rows = rows-are.all (IsRowSound problem H4) (λ n n_in k k_in lacks.
            let inside = λ (d : ℕ) (d_in : d < 7) (s : ℕ) (s_in : s < problem.shifts). in-cell problem n d s k n_in d_in s_in k_in in record {
              part_is = refl;
              terms = sound-cells problem (negsuc 0) (inr refl) _ _ (skill_cells problem n k)
                  ((skill-are problem n k).all (InWeek problem) inside) (rises-skill_cells problem n k k_in);
              holds = λ roster _ skilled.
                  let fails = (skill-are problem n k).all (λ c. roster c ≡ false) (λ d d_in s s_in. false_from_ne_true _ (λ has.
                  let skill = skilled (cell n d s k) (record { in_week = inside d d_in s s_in; in_roster = has }) in
                  true≢false (sym skill ∙ not-true (problem.has_skill n k) lacks))) in
                  (at_most roster (skill_cells problem n k) 0).1 (omega (arith, count-none roster (skill_cells problem n k) fails));
            });
        mean = λ roster all one has.
            elim (cases_Bool (problem.has_skill one.nurse one.skill)) [
              | inl skilled ↦ skilled
              | inr lacks ↦
                  let inside = has.in_week in
                  let none = (at_most roster (skill_cells problem one.nurse one.skill) 0).0
                  (rows-are.each (Holds roster) all one.nurse inside.nurse_in one.skill inside.skill_in (ap not lacks)) in
                  let fails = (skill-are problem one.nurse one.skill).each (λ c. roster c ≡ false) (none-pass roster _ (omega arith))
                  one.day inside.day_in one.shift inside.shift_in in
                  absurd (true≢false (sym has.in_roster ∙ fails))
            ];
      }

  -- ---- H5: each held cell is in the roster

  pub cells-are : Are (cells_of problem problem.is_held) (λ P. (one : Cell) → Has problem problem.is_held one → P one)
  unfolding cells_of
  cells-are =
      let turns = in-turns (λ n. in-turns (λ d. in-turns (λ s. in-turns (λ k. where-holds {test = problem.is_held (cell n d s k)} {x = cell n d s k})))) in
      record {
        all = λ P each. turns.all P (λ n n_in d d_in s s_in k k_in there.
            each (cell n d s k) (record { in_week = in-cell problem n d s k n_in d_in s_in k_in; in_roster = there }));
        each = λ P all one has.
            let inside = has.in_week in
            turns.each P all one.nurse inside.nurse_in one.day inside.day_in one.shift inside.shift_in one.skill inside.skill_in has.in_roster;
      }

  pub held : IsHardRuleSound problem H5
  held =
      let rows-are : Are (h5_rows problem) (λ P. (one : Cell) → Has problem problem.is_held one → P (h5_row one)) = of-each cells-are in record {
        rows = rows-are.all (IsRowSound problem H5) (λ one has. record {
          part_is = refl;
          terms = sound-cells problem (pos 1) (inl refl) (cell_number problem one) (cell_number problem one + 1) (one ∷ []) (has.in_week, tt) (omega arith, omega arith);
          holds = λ roster _ keeps. (one-where_true (roster one)).1 (keeps one has);
        });
        mean = λ roster all one has. (one-where_true (roster one)).0 (rows-are.each (Holds roster) all one has);
      }

  -- ---- each hard rule: the only place that lists them all

  each-rule : AllByRecursion (IsHardRuleSound problem) hard_rules
  each-rule = (one_cell, (minimum, (succession problem, (skills, (held, tt)))))

  keeps-rule : (roster : Roster) → KeepsHardRules problem roster → (rule : Rule) → Keeps problem roster rule
  keeps-rule roster keeps H1 = keeps.of_competition.one_cell
  keeps-rule roster keeps H2 = keeps.of_competition.minimum
  keeps-rule roster keeps H3 = keeps.of_competition.succession
  keeps-rule roster keeps H4 = keeps.of_competition.skills
  keeps-rule roster keeps H5 = keeps.held
  keeps-rule roster keeps _ = tt

  -- a property of the rows of each rule
  abbrev OnRules : List Rule → (LinearRow Cell → Type 0) → Type 0
  OnRules rules P = AllByRecursion (λ rule. AllByRecursion P (rows_of_hard_rule problem rule)) rules

  rows_of-are : (rules : List Rule) → Are (flat_map (rows_of_hard_rule problem) rules) (OnRules rules)
  rows_of-are [] = record { all = λ P each. tt; each = λ P all. tt }
  rows_of-are (rule ∷ rules) = in-parts (listed (rows_of_hard_rule problem rule)) (rows_of-are rules)

  pub rows-are : Are (rule_rows problem) (OnRules hard_rules)
  rows-are = rows_of-are hard_rules

  pub each-row : (P : LinearRow Cell → Type 0) → ((rule : Rule) (row : LinearRow Cell) → IsRowSound problem rule row → P row) →
      AllByRecursion P (rule_rows problem)
  each-row P from =
      rows-are.all P
      (all-weaker (IsHardRuleSound problem) (λ rule. AllByRecursion P (rows_of_hard_rule problem rule))
      (λ rule sound. all-weaker (IsRowSound problem rule) P (from rule) (rows_of_hard_rule problem rule) sound.rows) hard_rules each-rule)

  -- ---- the rows hold if and only if the rules are kept

  pub rule_rows-hold : (roster : Roster) → KeepsHardRules problem roster → AllHold roster (rule_rows problem)
  rule_rows-hold roster keeps =
      each-row (Holds roster) (λ rule row sound. sound.holds roster keeps.of_competition.one_cell (keeps-rule roster keeps rule))

  pub rule_rows-mean : (roster : Roster) → AllHold roster (rule_rows problem) → KeepsHardRules problem roster
  rule_rows-mean roster hold =
      let (one, (met, (kept, (skilled, (has, _))))) = rows-are.each (Holds roster) hold in record {
        of_competition = record {
          one_cell = one_cell.mean roster one;
          minimum = minimum.mean roster met;
          succession = (succession problem).mean roster kept;
          skills = skills.mean roster skilled;
        };
        held = held.mean roster has;
      }
