-- Reading the rest of a row of days: its pair, and then its values.
use Rattle.std.proofs.Common.{◌≡◌, ℕ, Bool, List, Some, Result, Ok, Err, length, slice_set, refl}
use Rattle.rota_core.specs.Sizes.{DAYS}
use Rattle.rota_layout.specs.declared.fault.LineFault.{LineFault}
use Rattle.rota_layout.specs.Layout.{Layout, end, ◌>>=◌, has_row, known_name, many}
use Rattle.rota_layout.specs.DayPairs.{new_pair}
use Rattle.rota_layout.specs.DayRows.{DayRows, day_row, pair_index}
use Rattle.rota_layout.specs.Reading.{Reading, then_read, read_layout}

-- a value may be changed before the part that follows, or in it
then_changed : {X Y B : Type 0} (r : Result (X × Reading) LineFault) (f : X → Y) (after : Y → Reading → Result B LineFault) →
    then_read r (λ x. after (f x.0) x.1) ≡
    then_read {A = Y × Reading} (then_read {B = Y × Reading} r (λ x. Ok (f x.0, x.1))) (λ y. after y.0 y.1)
then_changed (Ok x) f after = refl
then_changed (Err e) f after = refl

module _ {A : Type 0} (value : Layout A) (skills : List (List ℕ)) (shift : ℕ) (rows : DayRows A) where
  -- the values of the row of a pair
  abbrev pub values_at : ℕ → Layout (DayRows A)
  values_at pair = many DAYS (λ _. value) >>= (λ values. end (slice_set rows pair (Some values)))

  pub day_by_pair : (left : Reading) → read_layout (day_row value skills shift rows) left ≡
      then_read (read_layout (new_pair skills shift rows) left) (λ x. read_layout (values_at x.0) x.1)
  unfolding day_row new_pair read_layout
  day_by_pair left =
      let taken : ℕ → Bool = λ skill. has_row rows (pair_index (length skills) shift skill) in
      then_changed (read_layout (known_name skills taken) left) (pair_index (length skills) shift) (λ pair. read_layout (values_at pair))
