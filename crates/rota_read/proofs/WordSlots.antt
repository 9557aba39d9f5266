-- The meaning of a word that fits a slot, and of rows whose tokens are words.
use Rattle.std.proofs.Common.{◌≡◌, ℕ, zero, suc, ◌+◌, Bool, true, false, if◌then◌else◌, List, [], ◌∷◌, Ok, Err, refl, subst, arith}
use Rattle.rota_core.proofs.LogicWords.{AllByRecursion-back}
use Rattle.rota_core.specs.Words.{IsWord, is_among}
use Rattle.rota_core.specs.declared.fault.Kind.TheVariants as kinds
use Rattle.rota_layout.specs.Tokens.{Token}
use Rattle.rota_layout.specs.Layout.{Layout, is_sign_token, any_word, repeat}
use Rattle.rota_layout.specs.Files.{Fills}
use Rattle.rota_read.specs.SharedSlots.{new_name}
use Rattle.rota_read.proofs.WordLaws.{IsToken, AreTokens}

is_new : (b c : Bool) (w v : List ℕ) → (if b then Err kinds.OtherWord else (if c then Err kinds.Repeated else Ok w)) ≡ Ok v →
    (b ≡ false) × (c ≡ false) × (w ≡ v)
is_new true c w v h = absurd (cc)
is_new false true w v h = absurd (cc)
is_new false false w v h = (refl, refl, cc)

any_fits : (b : Bool) (w v : List ℕ) → (if b then Err kinds.OtherWord else Ok w) ≡ Ok v → (b ≡ false) × (w ≡ v)
any_fits true w v h = absurd (cc)
any_fits false w v h = (refl, cc)

one_token : (t : Token) (front : List Token) → front ≡ t ∷ [] → AreTokens front → IsToken t
one_token t front e all = (subst AreTokens e all).0

pub any_word-is_word : (front : List Token) (word : List ℕ) → AreTokens front → Fills any_word front word → IsWord word
unfolding Fills any_word
any_word-is_word front word all h =
    let e = any_fits (is_sign_token h.0.word) h.0.word word h.2 in
    subst IsWord e.1 (one_token h.0 front h.1 all e.0)

pub new_name-is_new : (names : List (List ℕ)) (front : List Token) (word : List ℕ) → AreTokens front →
    Fills (new_name names) front word → IsWord word × (is_among names word ≡ false)
unfolding Fills new_name
new_name-is_new names front word all h =
    let e = is_new (is_sign_token h.0.word) (is_among names h.0.word) h.0.word word h.2 in
    subst (λ w. IsWord w × (is_among names w ≡ false)) e.2 (one_token h.0 front h.1 all e.0, e.1)

-- a property that each row keeps holds after all of them
pub repeat-keeps : {S : Type 0} (row : S → Layout S) (Keeps : ℕ → S → Type 0) →
    ((i : ℕ) (s : S) (front : List Token) (next : S) → AreTokens front → Fills (row s) front next → Keeps i s → Keeps (suc i) next) →
    (n i : ℕ) (s : S) (front : List Token) (last : S) → AreTokens front → Fills (repeat n row s) front last → Keeps i s → Keeps (n + i) last
unfolding Fills repeat
repeat-keeps row Keeps step zero i s front last all h k =
    let e : i ≡ 0 + i = omega arith in
    subst (λ j. Keeps j last) e (rw h.1 k)
repeat-keeps row Keeps step (suc n) i s front last all h k =
    let split = AllByRecursion-back IsToken h.1 h.2 (subst AreTokens h.3 all) in
    let one = step i s h.1 h.0 split.0 h.4 k in
    let e : n + suc i ≡ suc n + i = omega arith in
    subst (λ j. Keeps j last) e (repeat-keeps row Keeps step n (suc i) h.0 h.2 last split.1 h.5 one)
