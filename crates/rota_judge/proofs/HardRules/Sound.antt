-- The conditions on a hard rule and its rows.
use Rattle.rota_judge.proofs.Common.Imports.{◌≡◌, ◌↔◌, ℕ, ◌≤◌, ◌≤ℤ◌, ◌-ℤ◌, pos, negsuc, ◌+ℤ◌, Bool, true, false, cond, refl, arith, ints, List}
use Rattle.rota_judge.proofs.Common.Imports.{AllByRecursion, count_by, times, KeepsOneCell, KeepsMinimum, KeepsSuccession, KeepsSkills, KeepsHeld}
use Rattle.rota_judge.proofs.Common.Imports.{Roster, Problem, Rule, Cell, rows_of_hard_rule, value_of, LinearRow, H1, H2, H3, H4, H5, Hard}
use Rattle.rota_items.proofs.ItemLemmas.{AreSound, value_of-sum}

-- the row holds on the roster
abbrev pub Holds : Roster → LinearRow Cell → Type 0
Holds roster row = row.degree ≤ℤ value_of roster row.terms

abbrev pub AllHold : Roster → List (LinearRow Cell) → Type 0
AllHold roster rows = AllByRecursion (Holds roster) rows

-- the roster keeps the rule
abbrev pub Keeps : Problem → Roster → Rule → Type 0
Keeps problem roster H1 = KeepsOneCell problem roster
Keeps problem roster H2 = KeepsMinimum problem roster
Keeps problem roster H3 = KeepsSuccession problem roster
Keeps problem roster H4 = KeepsSkills problem roster
Keeps problem roster H5 = KeepsHeld problem roster
Keeps problem roster _ = Unit {0}

-- The row belongs to the rule, its terms are sound, and it holds on the rosters that keep the rule, among the rosters with one cell a
-- day.
pub record IsRowSound (problem : Problem) (rule : Rule) (row : LinearRow Cell) : Type 0 where
  pub part_is : row.part ≡ Hard rule
  pub terms : AreSound problem row.terms
  pub holds : (roster : Roster) → KeepsOneCell problem roster → Keeps problem roster rule → Holds roster row

-- The rule's rows are sound, and hold only on the rosters that keep it.
pub record IsHardRuleSound (problem : Problem) (rule : Rule) : Type 0 where
  pub rows : AllByRecursion (IsRowSound problem rule) (rows_of_hard_rule problem rule)
  pub mean : (roster : Roster) → AllHold roster (rows_of_hard_rule problem rule) → Keeps problem roster rule

-- ---- a row's sum in terms of its cells

module _ (roster : Roster) (cells : List Cell) (n : ℕ) where
  pub at_least : (pos n ≤ℤ value_of roster (times (pos 1) cells)) ↔ (n ≤ count_by roster cells)
  at_least = let value = value_of-sum roster false cells in (λ holds. omega (arith, ints), λ enough. omega (arith, ints))

  pub at_most : ((pos 0 -ℤ pos n) ≤ℤ value_of roster (times (negsuc 0) cells)) ↔ (count_by roster cells ≤ n)
  at_most = let value = value_of-sum roster true cells in (λ holds. omega (arith, ints), λ few. omega (arith, ints))

-- a sum of one variable is at least 1 if and only if the variable is true
pub one-where_true : (b : Bool) → (pos 1 ≤ℤ (cond b (pos 1) (pos 0) +ℤ pos 0)) ↔ (b ≡ true)
one-where_true true = (λ holds. refl, λ is. omega (arith, ints))
one-where_true false = (λ holds. absurd (omega (arith, ints, holds)), λ is. cc)
