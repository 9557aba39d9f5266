-- Reading rows of requirements up to the word that ends them, as a loop does.
use Rattle.std.proofs.Common.{◌≡◌, ℕ, suc, ◌+◌, ◌-◌, ◌<◌, ◌≤◌, Option, Result, Ok, codes, refl, arith}
use Rattle.rota_core.specs.ScenarioTables.{ScenarioTables}
use Rattle.rota_core.specs.declared.values.Demand.{Demand}
use Rattle.rota_layout.specs.declared.fault.LayoutError.{LayoutError}
use Rattle.rota_layout.specs.declared.fault.LineFault.{LineFault}
use Rattle.rota_layout.specs.DayRows.{DayRows, day_row}
use Rattle.rota_layout.specs.Layout.{◌>>=◌, shift_or}
use Rattle.rota_layout.specs.Reading.{Reading, then_read, read_layout, Fails}
use Rattle.rota_read.specs.WeekLayout.{demand, part_or, requirement_rows}
use Rattle.rota_layout.proofs.ReadingLaws.{front_fails}

module _ (t : ScenarioTables) (rows : DayRows Demand) (count i : ℕ) (left : Reading) where
  -- the rows after a shift type, or none after the word
  abbrev pub more_rows : Option ℕ × Reading → Result (DayRows Demand × Reading) LineFault
  more_rows x = read_layout (part_or (λ shift. day_row demand t.skills shift rows >>= requirement_rows t (count - (i + 1))) x.0 rows) x.1

  pub next_requirement : i < count → read_layout (requirement_rows t (count - i) rows) left ≡
      then_read (read_layout (shift_or (codes "SHIFT_OFF_REQUESTS") t.shifts) left) more_rows
  unfolding requirement_rows read_layout
  next_requirement lt =
      let k : count - i ≡ suc (count - (i + 1)) = omega arith in
      rw k refl

  -- neither a shift type nor the word was read
  pub requirement_fails : (e : LayoutError) → i < count → Fails e (read_layout (shift_or (codes "SHIFT_OFF_REQUESTS") t.shifts) left) →
      Fails e (read_layout (requirement_rows t (count - i) rows) left)
  requirement_fails e lt h =
      rw (next_requirement lt) (front_fails (read_layout (shift_or (codes "SHIFT_OFF_REQUESTS") t.shifts) left) more_rows e h)

  -- the maximum number of rows was read
  pub no_requirement : count ≤ i → read_layout (requirement_rows t (count - i) rows) left ≡ Ok (rows, left)
  unfolding requirement_rows read_layout
  no_requirement le =
      let k : count - i ≡ 0 = omega arith in
      rw k refl
