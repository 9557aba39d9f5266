-- The meaning of a token that fits a slot.
use Rattle.std.proofs.Common.{◌≡◌, ℕ, suc, ◌<◌, ◌≤◌, nat_le, Bool, true, false, ◌&&◌, if◌then◌else◌}
use Rattle.std.proofs.Common.{List, [], ◌∷◌, ◌++◌, length, Option, Some, None, Result, Ok, Err, refl, ap, ◌∙◌, subst, arith}
use Rattle.std.specs.List.{AllByRecursion}
use Rattle.std.specs.Option.{ForSome, option_map_or}
use Rattle.std.proofs.lemmas.Bool.{and_parts}
use Rattle.std.proofs.lemmas.Bool.Decides.{nat_tests}
use Rattle.std.proofs.lemmas.List.{length-append}
use Rattle.std.proofs.lemmas.List.Quantifiers.{position-Some}
use Rattle.std.specs.Str.{bytes_eq}
use Rattle.rota_core.proofs.LogicWords.{AllByRecursion-append}
use Rattle.rota_core.specs.Words.{index_of}
use Rattle.rota_core.specs.declared.fault.Kind.{Kind}
use Rattle.rota_core.specs.declared.fault.Kind.TheVariants as kinds
use Rattle.rota_layout.specs.Tokens.{Token}
use Rattle.rota_core.specs.Decimal.{decimal, is_decimal}
use Rattle.rota_layout.specs.Layout.{is_sign_token, number, known_name, setting, shift_or}
use Rattle.rota_layout.specs.Files.{Fills}

pub all_push : {X : Type 0} (P : X → Type 0) (xs : List X) (x : X) → AllByRecursion P xs → P x →
    AllByRecursion P (xs ++ x ∷ [])
all_push P xs x h p = AllByRecursion-append P xs (x ∷ []) h (p, tt)

pub length_push : {X : Type 0} (xs : List X) (x : X) (n : ℕ) → length xs ≡ n → length (xs ++ x ∷ []) ≡ suc n
length_push xs x n h = length-append xs (x ∷ []) ∙ omega arith

in_limits : (b c : Bool) (v n : ℕ) → (if b then (if c then Ok v else Err kinds.Limit) else Err kinds.NoNumber) ≡ Ok n → (c ≡ true) × (v ≡ n)
in_limits true true v n h = (refl, cc)
in_limits true false v n h = absurd (cc)
in_limits false c v n h = absurd (cc)

le_from : (m n : ℕ) → nat_le m n ≡ true → m ≤ n
le_from m n h = grind (arith, nat_tests)

-- the index of a known name, or why a token is none: it is a sign, it names nothing, or its index is taken
abbrev known_or_not : Bool → Option ℕ → (ℕ → Bool) → Result ℕ Kind
known_or_not sign index is_taken =
    if sign then Err kinds.OtherWord
    else option_map_or (λ p. if is_taken p then Err kinds.Repeated else Ok p) index (Err kinds.Unknown)

is_known : (sign : Bool) (index : Option ℕ) (is_taken : ℕ → Bool) (p : ℕ) → known_or_not sign index is_taken ≡ Ok p →
    (index ≡ Some p) × (is_taken p ≡ false)
is_known true index is_taken p h = absurd (cc)
is_known false None is_taken p h = absurd (cc)
is_known false (Some q) is_taken p h =
    let e = free (is_taken q) h in
    (ap Some e.1, subst (λ k. is_taken k ≡ false) e.1 e.0)
  where
    free : (taken : Bool) → (if taken then Err kinds.Repeated else Ok q) ≡ Ok p → (taken ≡ false) × (q ≡ p)
    free true e = absurd (cc)
    free false e = (refl, cc)

pub number-within : (low high : ℕ) (front : List Token) (n : ℕ) → Fills (number low high) front n → (low ≤ n) × (n ≤ high)
unfolding Fills number
number-within low high front n h =
    let value = decimal h.0.word in
    let e = in_limits (is_decimal h.0.word) (nat_le low value && nat_le value high) value n h.2 in
    let parts = and_parts (nat_le low value) (nat_le value high) e.0 in
    rw (← e.1) (le_from low value parts.0, le_from value high parts.1)

-- a known name is a word that names the index, which is not taken
known_name-names : (names : List (List ℕ)) (is_taken : ℕ → Bool) (front : List Token) (index : ℕ) →
    Fills (known_name names is_taken) front index →
    (word : List ℕ) × (index_of names word ≡ Some index) × (is_taken index ≡ false)
unfolding Fills known_name
known_name-names names is_taken front index h =
    let known = is_known (is_sign_token h.0.word) (index_of names h.0.word) is_taken index h.2 in
    (h.0.word, known.0, known.1)

pub known_name-below : (names : List (List ℕ)) (is_taken : ℕ → Bool) (front : List Token) (index : ℕ) →
    Fills (known_name names is_taken) front index → index < length names
known_name-below names is_taken front index h =
    let known = known_name-names names is_taken front index h in
    (position-Some (bytes_eq known.0) names index [] known.1).0

-- a known name has an index that is not taken
pub known_name-free : (names : List (List ℕ)) (is_taken : ℕ → Bool) (front : List Token) (index : ℕ) →
    Fills (known_name names is_taken) front index → is_taken index ≡ false
known_name-free names is_taken front index h = (known_name-names names is_taken front index h).2

-- the shift type that a token names, `None` for the word, or why it is neither
abbrev shift_or_not : Bool → Bool → Option ℕ → Result (Option ℕ) Kind
shift_or_not sign none index =
    if sign then Err kinds.OtherWord
    else (if none then Ok None else option_map_or (λ shift. Ok (Some shift)) index (Err kinds.Unknown))

is_shift : (sign none : Bool) (index shift : Option ℕ) (s : ℕ) → shift_or_not sign none index ≡ Ok shift → shift ≡ Some s → index ≡ Some s
is_shift true none index shift s h e = absurd (cc)
is_shift false true index shift s h e = absurd (cc)
is_shift false false None shift s h e = absurd (cc)
is_shift false false (Some p) shift s h e = cc

-- a shift type in the position of the word is a known shift type
pub shift_or-below : (word : List ℕ) (shifts : List (List ℕ)) (front : List Token) (shift : Option ℕ) →
    Fills (shift_or word shifts) front shift → ForSome shift (λ s. s < length shifts)
unfolding Fills shift_or
shift_or-below word shifts front shift h s is =
    let token = h.0.word in
    let found = is_shift (is_sign_token token) (bytes_eq token word) (index_of shifts token) shift s h.2 is in
    (position-Some (bytes_eq token) shifts s [] found).0

pub setting-within : (name : List ℕ) (low high : ℕ) (front : List Token) (n : ℕ) → Fills (setting name low high) front n →
    (low ≤ n) × (n ≤ high)
unfolding Fills setting
setting-within name low high front n h = number-within low high h.5.2 n h.5.5
