-- Reading a name: a word, and the index that it names.
use Rattle.std.proofs.Common.{◌≡◌, ℕ, Bool, true, false, if◌then◌else◌, refl}
use Rattle.std.proofs.Common.{List, [], ◌∷◌, Option, Some, None, Result, Ok, Err}
use Rattle.std.specs.Option.{option_map_or}
use Rattle.std.specs.Str.{bytes_eq}
use Rattle.rota_core.specs.Words.{index_of}
use Rattle.rota_core.specs.declared.fault.Kind.{Kind}
use Rattle.rota_core.specs.declared.fault.Kind.TheVariants as kinds
use Rattle.rota_layout.specs.declared.fault.LineFault.{LineFault}
use Rattle.rota_layout.specs.Tokens.{Token}
use Rattle.rota_layout.specs.Reading.{Reading, then_read, read_layout}
use Rattle.rota_layout.specs.Layout.{any_word, is_sign_token, known_name, none_taken, shift_or}

-- the fault of the previous token
abbrev pub refused : {V : Type 0} → Kind → Reading → Result V LineFault
refused kind left = Err (record { kind = kind; line = left.last })

-- an index, if it is not taken
abbrev pub unless_taken : (ℕ → Bool) → ℕ → Reading → Result (ℕ × Reading) LineFault
unless_taken taken index left = if taken index then refused kinds.Repeated left else Ok (index, left)

-- the index that a word names, if it is not taken
abbrev pub named : List (List ℕ) → (ℕ → Bool) → List ℕ × Reading → Result (ℕ × Reading) LineFault
named names taken x = option_map_or (λ index. unless_taken taken index x.1) (index_of names x.0) (refused kinds.Unknown x.1)

-- reading a known name is reading a word, and then the index that it names
abbrev KnownByWord : List (List ℕ) → (ℕ → Bool) → Reading → Type 0
KnownByWord names taken left = read_layout (known_name names taken) left ≡ then_read (read_layout any_word left) (named names taken)

known_some : (names : List (List ℕ)) (taken : ℕ → Bool) (last : ℕ) (t : Token) (rest : List Token) (index : ℕ) (is : Bool) →
    is_sign_token t.word ≡ false → index_of names t.word ≡ Some index → taken index ≡ is →
    KnownByWord names taken (record { last = last; rest = t ∷ rest })
unfolding known_name any_word read_layout
known_some names taken last t rest index true s p e = rw (s, p, e) refl
known_some names taken last t rest index false s p e = rw (s, p, e) refl

known_at : (names : List (List ℕ)) (taken : ℕ → Bool) (last : ℕ) (t : Token) (rest : List Token) (sign : Bool) (index : Option ℕ) →
    is_sign_token t.word ≡ sign → index_of names t.word ≡ index → KnownByWord names taken (record { last = last; rest = t ∷ rest })
unfolding known_name any_word read_layout
known_at names taken last t rest true index s p = rw s refl
known_at names taken last t rest false None s p = rw (s, p) refl
known_at names taken last t rest false (Some index) s p = known_some names taken last t rest index (taken index) s p refl

known_from : (names : List (List ℕ)) (taken : ℕ → Bool) (last : ℕ) (rest : List Token) →
    KnownByWord names taken (record { last = last; rest = rest })
unfolding known_name any_word read_layout
known_from names taken last [] = refl
known_from names taken last (t ∷ rest) = known_at names taken last t rest (is_sign_token t.word) (index_of names t.word) refl refl

pub known_by_word : (names : List (List ℕ)) (taken : ℕ → Bool) (left : Reading) →
    read_layout (known_name names taken) left ≡ then_read (read_layout any_word left) (named names taken)
known_by_word names taken left = known_from names taken left.last left.rest

-- a known name that is not taken
taken_after : (names : List (List ℕ)) (taken : ℕ → Bool) (word : Result (List ℕ × Reading) LineFault) →
    then_read word (named names taken) ≡ then_read (then_read word (named names none_taken)) (λ x. unless_taken taken x.0 x.1)
taken_after names taken (Err e) = refl
taken_after names taken (Ok x) = at (index_of names x.0)
  where
    at : (index : Option ℕ) →
        option_map_or (λ p. unless_taken taken p x.1) index (refused kinds.Unknown x.1) ≡
        then_read (option_map_or (λ p. unless_taken none_taken p x.1) index (refused kinds.Unknown x.1)) (λ y. unless_taken taken y.0 y.1)
    at None = refl
    at (Some index) = refl

pub known_taken : (names : List (List ℕ)) (taken : ℕ → Bool) (left : Reading) →
    read_layout (known_name names taken) left ≡ then_read (read_layout (known_name names none_taken) left) (λ x. unless_taken taken x.0 x.1)
known_taken names taken left =
    rw (known_by_word names taken left, known_by_word names none_taken left) (taken_after names taken (read_layout any_word left))

-- the shift type that a word names, or `None` for this word
abbrev pub shift_named : List ℕ → List (List ℕ) → List ℕ × Reading → Result (Option ℕ × Reading) LineFault
shift_named none shifts x =
    if bytes_eq x.0 none then Ok (None, x.1)
    else option_map_or (λ shift. Ok (Some shift, x.1)) (index_of shifts x.0) (refused kinds.Unknown x.1)

-- reading a shift type or this word is reading a word, and then the shift type that it names
abbrev ShiftByWord : List ℕ → List (List ℕ) → Reading → Type 0
ShiftByWord none shifts left = read_layout (shift_or none shifts) left ≡ then_read (read_layout any_word left) (shift_named none shifts)

shift_at : (none : List ℕ) (shifts : List (List ℕ)) (last : ℕ) (t : Token) (rest : List Token) (sign is : Bool) (index : Option ℕ) →
    is_sign_token t.word ≡ sign → bytes_eq t.word none ≡ is → index_of shifts t.word ≡ index →
    ShiftByWord none shifts (record { last = last; rest = t ∷ rest })
unfolding shift_or any_word read_layout
shift_at none shifts last t rest true is index s e p = rw s refl
shift_at none shifts last t rest false true index s e p = rw (s, e) refl
shift_at none shifts last t rest false false None s e p = rw (s, e, p) refl
shift_at none shifts last t rest false false (Some index) s e p = rw (s, e, p) refl

shift_from : (none : List ℕ) (shifts : List (List ℕ)) (last : ℕ) (rest : List Token) →
    ShiftByWord none shifts (record { last = last; rest = rest })
unfolding shift_or any_word read_layout
shift_from none shifts last [] = refl
shift_from none shifts last (t ∷ rest) =
    shift_at none shifts last t rest (is_sign_token t.word) (bytes_eq t.word none) (index_of shifts t.word) refl refl refl

pub shift_by_word : (none : List ℕ) (shifts : List (List ℕ)) (left : Reading) →
    read_layout (shift_or none shifts) left ≡ then_read (read_layout any_word left) (shift_named none shifts)
shift_by_word none shifts left = shift_from none shifts left.last left.rest
