-- Reading rows one after the other, as a loop does.
use Rattle.std.proofs.Common.{◌≡◌, ℕ, suc, ◌+◌, ◌-◌, ◌<◌, ◌≤◌, Ok, refl, arith}
use Rattle.rota_layout.specs.declared.fault.LayoutError.{LayoutError}
use Rattle.rota_layout.specs.Reading.{Reading, then_read, read_layout, Fails}
use Rattle.rota_layout.specs.Layout.{Layout, repeat}
use Rattle.rota_layout.proofs.EndLemmas.{front_fails}

module _ {S : Type 0} (row : S → Layout S) (state : S) (count i : ℕ) (left : Reading) where
  -- a row, and the rows after it
  pub next_row : i < count →
      read_layout (repeat (count - i) row state) left ≡ then_read (read_layout (row state) left) (λ x. read_layout (repeat (count - (i + 1)) row x.0) x.1)
  unfolding repeat read_layout
  next_row lt =
      let k : count - i ≡ suc (count - (i + 1)) = omega arith in
      rw k refl

  -- a row was not read
  pub row_fails : (e : LayoutError) → i < count → Fails e (read_layout (row state) left) → Fails e (read_layout (repeat (count - i) row state) left)
  row_fails e lt h =
      rw (next_row lt) (front_fails (read_layout (row state) left) (λ x. read_layout (repeat (count - (i + 1)) row x.0) x.1) e h)

  -- all rows were read
  pub no_row : count ≤ i → read_layout (repeat (count - i) row state) left ≡ Ok (state, left)
  unfolding repeat read_layout
  no_row le =
      let k : count - i ≡ 0 = omega arith in
      rw k refl

pub ruleset row_steps = (next_row, no_row, row_fails)
