-- Reading a new name: a word that is not among the names.
use Rattle.std.proofs.Common.{◌≡◌, ℕ, Bool, true, false, if◌then◌else◌, List, [], ◌∷◌, Result, Ok, refl}
use Rattle.rota_core.specs.Words.{is_among}
use Rattle.rota_core.specs.declared.fault.Kind.TheVariants as kinds
use Rattle.rota_layout.specs.declared.fault.LineFault.{LineFault}
use Rattle.rota_layout.specs.Tokens.{Token}
use Rattle.rota_layout.specs.Reading.{Reading, then_read, read_layout}
use Rattle.rota_layout.specs.Layout.{any_word, is_sign_token}
use Rattle.rota_read.specs.SharedSlots.{new_name}
use Rattle.rota_layout.proofs.ReadingLaws.{refused}

-- the word, if it is not among the names
abbrev pub unnamed : List (List ℕ) → List ℕ × Reading → Result (List ℕ × Reading) LineFault
unnamed names x = if is_among names x.0 then refused kinds.Repeated x.1 else Ok x

-- reading a new name is reading a word that is not among the names
abbrev NewByWord : List (List ℕ) → Reading → Type 0
NewByWord names left = read_layout (new_name names) left ≡ then_read (read_layout any_word left) (unnamed names)

new_at : (names : List (List ℕ)) (last : ℕ) (t : Token) (rest : List Token) (sign among : Bool) → is_sign_token t.word ≡ sign →
    is_among names t.word ≡ among → NewByWord names (record { last = last; rest = t ∷ rest })
unfolding new_name any_word read_layout
new_at names last t rest true among s a = rw s refl
new_at names last t rest false true s a = rw (s, a) refl
new_at names last t rest false false s a = rw (s, a) refl

new_from : (names : List (List ℕ)) (last : ℕ) (rest : List Token) → NewByWord names (record { last = last; rest = rest })
unfolding new_name any_word read_layout
new_from names last [] = refl
new_from names last (t ∷ rest) = new_at names last t rest (is_sign_token t.word) (is_among names t.word) refl refl

pub new_by_word : (names : List (List ℕ)) (left : Reading) → read_layout (new_name names) left ≡ then_read (read_layout any_word left) (unnamed names)
new_by_word names left = new_from names left.last left.rest
