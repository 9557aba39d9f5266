-- The slots that several files of a week share.
use Rattle.std.specs.Prelude.{ℕ, ◌==◌, Bool, Option, Some, None, Err, Ok, List, length, replicate, slice_set, codes, if◌then◌else◌}
use Rattle.std.specs.List.{list_any}
use Rattle.rota_core.specs.Limits.{max_number}
use Rattle.rota_core.specs.Words.{is_among}
use Rattle.rota_core.specs.declared.fault.Kind.TheVariants as kinds
use Rattle.rota_core.specs.declared.values.Span.{Span}
use Rattle.rota_layout.specs.Layout.{Layout, end, ◌>>=◌, exactly, number, word_slot, known_name, has_row, repeat}

-- a word that is none of these names
unfoldable pub new_name : List (List ℕ) → Layout (List ℕ)
new_name names = word_slot (λ word. if is_among names word then Err kinds.Repeated else Ok word)

-- whether an index is among these
abbrev pub is_one_of : List ℕ → ℕ → Bool
is_one_of indices index = list_any (λ p. p == index) indices

-- One more row: one of these names, which has no row yet, and its value. At the index of each name is its value, if a row has given it.
unfoldable pub known_row : {A : Type 0} → List (List ℕ) → Layout A → List (Option A) → Layout (List (Option A))
known_row names value rows = do
  index ← known_name names (has_row rows)
  one ← value
  end (slice_set rows index (Some one))

-- a row for each of these names, in any order, so that each has a value in the end
unfoldable pub value_of_each : {A : Type 0} → List (List ℕ) → Layout A → Layout (List (Option A))
value_of_each names value = repeat (length names) (known_row names value) (replicate (length names) None)

-- `(`, a minimum, `,`, a maximum and `)`
unfoldable pub pair : Layout Span
pair = do
  _ ← exactly (codes "(")
  min ← number 0 max_number
  _ ← exactly (codes ",")
  max ← number 0 max_number
  _ ← exactly (codes ")")
  end (record { min = min; max = max })
