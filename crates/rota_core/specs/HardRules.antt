-- A nurse's days in a roster, and the hard rules that a roster must keep.
use Rattle.std.specs.Prelude.{◌≡◌, ℕ, ◌+◌, ◌-◌, ◌<◌, ◌≤◌, Bool, true, false, not, Some}
use Rattle.rota_core.specs.SumsBelow.{count_below, any_below}
use Rattle.rota_core.specs.Sizes.{DAYS}
use Rattle.rota_core.specs.declared.values.Cell.{Cell}
use Rattle.rota_core.specs.Problem.{Problem}
use Rattle.rota_core.specs.Roster.{Roster, Has, cell}

-- whether the nurse is on the shift type that day, with any skill
abbrev pub is_on : Problem → Roster → (nurse shift day : ℕ) → Bool
is_on problem roster n s d = any_below problem.skills (λ k. roster (cell n d s k))

-- whether the nurse works that day, on any shift type
abbrev pub works : Problem → Roster → ℕ → ℕ → Bool
works problem roster n d = any_below problem.shifts (λ s. is_on problem roster n s d)

-- whether the nurse is off that day
abbrev pub is_off : Problem → Roster → ℕ → ℕ → Bool
is_off problem roster n d = not (works problem roster n d)

-- the number of nurses who have a cell with this day, shift type and skill
abbrev pub nurses_at : Problem → Roster → (day shift skill : ℕ) → ℕ
nurses_at problem roster d s k = count_below problem.nurses (λ n. roster (cell n d s k))

-- H1: at most one cell for each nurse and day (two cells with the same nurse and day are the same cell)
abbrev pub KeepsOneCell : Problem → Roster → Type 0
KeepsOneCell problem roster =
    (one other : Cell) → Has problem roster one → Has problem roster other →
    one.nurse ≡ other.nurse → one.day ≡ other.day → one ≡ other

-- H2: each day has at least the minimum number of nurses for each shift type and skill
abbrev pub KeepsMinimum : Problem → Roster → Type 0
KeepsMinimum problem roster =
    (d s k : ℕ) → d < DAYS → s < problem.shifts → k < problem.skills → (problem.demand d s k).minimum ≤ nurses_at problem roster d s k

-- H3: no nurse has a shift type that may not follow her shift type of the day before; for Monday, that is the last one of her history
pub record KeepsSuccession (problem : Problem) (roster : Roster) : Type 0 where
  pub from_history : (n s t : ℕ) → n < problem.nurses → t < problem.shifts →
      (problem.past n).last ≡ Some s → is_on problem roster n t 0 ≡ true →
      problem.is_forbidden s t ≡ false
  pub in_week : (n d s t : ℕ) → n < problem.nurses → d < DAYS - 1 → s < problem.shifts → t < problem.shifts →
      is_on problem roster n s d ≡ true → is_on problem roster n t (d + 1) ≡ true →
      problem.is_forbidden s t ≡ false

-- H4: the nurse of each cell has the skill of the cell
abbrev pub KeepsSkills : Problem → Roster → Type 0
KeepsSkills problem roster = (one : Cell) → Has problem roster one → problem.has_skill one.nurse one.skill ≡ true

-- H5: each held cell of the week, a cell of the roster `is_held`, is in the roster
abbrev pub KeepsHeld : Problem → Roster → Type 0
KeepsHeld problem roster = (one : Cell) → Has problem problem.is_held one → roster one ≡ true

-- The roster keeps the hard rules of the competition, H1 to H4.
pub record KeepsCompetitionRules (problem : Problem) (roster : Roster) : Type 0 where
  pub one_cell : KeepsOneCell problem roster
  pub minimum : KeepsMinimum problem roster
  pub succession : KeepsSuccession problem roster
  pub skills : KeepsSkills problem roster

-- The roster keeps all hard rules: H1 to H4 of the competition, and H5.
pub record KeepsHardRules (problem : Problem) (roster : Roster) : Type 0 where
  pub of_competition : KeepsCompetitionRules problem roster
  pub held : KeepsHeld problem roster
