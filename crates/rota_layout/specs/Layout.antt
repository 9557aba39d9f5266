-- Names for the layouts of files; a file as a list of slots, which its tokens fill in order; and the slots that several files share.
pub use Rattle.std.specs.Prelude.{ℕ, zero, suc, ◌+◌, ◌*◌, ◌==◌, Bool, true, false, ◌&&◌, Option, Some, None, is_some, unwrap_or}
pub use Rattle.std.specs.Prelude.{List, [], ◌∷◌, ◌++◌, length, map, flat_map, count_by, replicate, slice_index_or, slice_set, codes}
pub use Rattle.std.specs.List.{list_any, range_with_len}
pub use Rattle.std.specs.Option.{option_map_or}
pub use Rattle.rota_core.specs.Limits.{max_number}
pub use Rattle.rota_core.specs.Sizes.{DAYS}
pub use Rattle.rota_core.specs.ScenarioTables.{ScenarioTables, numbers_of}
use Rattle.std.specs.Prelude.{nat_le, bytes_eq, if◌then◌else◌, Result, Ok, Err}
use Rattle.rota_core.specs.Words.{index_of, is_sign}
use Rattle.rota_core.specs.Decimal.{is_decimal, decimal}
use Rattle.rota_core.specs.declared.fault.Kind.{Kind}
use Rattle.rota_core.specs.declared.fault.Kind.TheVariants as kinds
use Rattle.rota_layout.specs.Tokens.{Token}

-- whether a token is a sign
abbrev pub is_sign_token : List ℕ → Bool
is_sign_token [] = false
is_sign_token (b ∷ bytes) = is_sign b

-- The slots of a part of a file, one after the other, and the value that they spell. The slots that follow may depend on the value
-- spelled before them.
infixl 10 ◌>>=◌
-- A value without a slot; or one slot, which gives the value of its token, or says why the token does not fit; or a part, and then the
-- part that follows for its value.
pub data Layout : Type 0 → Type 1 where
  end : {V : Type 0} → V → Layout V
  slot : {V : Type 0} → (Token → Result V Kind) → Layout V
  ◌>>=◌ : {A B : Type 0} → Layout A → (A → Layout B) → Layout B

-- this word or sign
unfoldable pub exactly : List ℕ → Layout (List ℕ)
exactly wanted = slot (λ token. if bytes_eq wanted token.word then Ok token.word else Err kinds.OtherWord)

-- a number from low to high
unfoldable pub number : ℕ → ℕ → Layout ℕ
number low high = slot (λ token.
    if is_decimal token.word then
    (if nat_le low (decimal token.word) && nat_le (decimal token.word) high then Ok (decimal token.word) else Err kinds.Limit)
    else Err kinds.NoNumber)

-- a word, which is a token that is no sign, with this value or fault
abbrev pub word_slot : {V : Type 0} → (List ℕ → Result V Kind) → Layout V
word_slot read = slot (λ token. if is_sign_token token.word then Err kinds.OtherWord else read token.word)

-- any word
unfoldable pub any_word : Layout (List ℕ)
any_word = word_slot (λ word. Ok word)

-- no index is taken
abbrev pub none_taken : ℕ → Bool
none_taken index = false

-- one of these names, if its index is not taken; the value is the index
unfoldable pub known_name : List (List ℕ) → (ℕ → Bool) → Layout ℕ
known_name names is_taken = word_slot (λ word.
    option_map_or (λ index. if is_taken index then Err kinds.Repeated else Ok index) (index_of names word) (Err kinds.Unknown))

-- n rows, one after the other: each is given the state that the rows before it leave, and its value is the next state
unfoldable pub repeat : {S : Type 0} → ℕ → (S → Layout S) → S → Layout S
repeat zero row state = end state
repeat (suc n) row state = row state >>= repeat n row

-- these rows and one more
unfoldable pub one_more : {A : Type 0} → (List A → Layout A) → List A → Layout (List A)
one_more row rows = do
  next ← row rows
  end (rows ++ next ∷ [])

-- this number of rows, one after the other; each may depend on the rows before it
unfoldable pub many : {A : Type 0} → ℕ → (List A → Layout A) → Layout (List A)
many count row = repeat count (one_more row) []

-- whether an index has a row
abbrev pub has_row : {A : Type 0} → List (Option A) → ℕ → Bool
has_row rows index = is_some (slice_index_or rows index None)

-- a name, `=` and a number from low to high
unfoldable pub setting : List ℕ → ℕ → ℕ → Layout ℕ
setting name low high = do
  _ ← exactly name
  _ ← exactly (codes "=")
  number low high

-- a shift type, or `None` for this other word (which wins over a shift type of that name)
unfoldable pub shift_or : List ℕ → List (List ℕ) → Layout (Option ℕ)
shift_or other shifts = word_slot (λ word.
    if bytes_eq word other then Ok None
    else option_map_or (λ shift. Ok (Some shift)) (index_of shifts word) (Err kinds.Unknown))

-- the names of the days, from Monday to Sunday
abbrev pub day_names : List (List ℕ)
day_names = codes "Mon" ∷ codes "Tue" ∷ codes "Wed" ∷ codes "Thu" ∷ codes "Fri" ∷ codes "Sat" ∷ codes "Sun" ∷ []
