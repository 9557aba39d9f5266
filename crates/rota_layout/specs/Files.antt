-- The value that a file spells, or its fault if it spells none.
use Rattle.std.specs.Prelude.{◌≡◌, ℕ, ◌≤◌, ◌<◌, List, [], ◌∷◌, ◌++◌, length, Ok, Err, ◌⊎◌}
use Rattle.rota_core.specs.Limits.{max_file_len}
use Rattle.rota_core.specs.declared.fault.Kind.TheVariants as kinds
use Rattle.rota_layout.specs.declared.fault.LineFault.{LineFault}
use Rattle.rota_layout.specs.Tokens.{Token, tokens}
use Rattle.rota_layout.specs.Layout.{Layout, end, slot, ◌>>=◌}

-- The tokens fill the slots of the layout, one for one and in order, and spell the value.
unfoldable pub Fills : {V : Type 0} → Layout V → List Token → V → Type 0
Fills (end v) front value = (front ≡ []) × (value ≡ v)
Fills (slot read) front value = (t : Token) × (front ≡ t ∷ []) × (read t ≡ Ok value)
Fills {V} (◌>>=◌ {A} l f) front value =
    (a : A) × (first : List Token) × (second : List Token) × (front ≡ first ++ second) × Fills l first a × Fills (f a) second value

-- the line of the last token, or this line if there is no token
abbrev pub last_line_from : ℕ → List Token → ℕ
last_line_from line [] = line
last_line_from line (t ∷ tokens) = last_line_from t.line tokens

-- The first of these tokens fill the slots of the layout before a slot, and that slot has the fault: the next token does not fit it, or
-- no token is left (then the fault is `Ended`, on the last line).
unfoldable pub Misses : {V : Type 0} → Layout V → List Token → ℕ → LineFault → Type 0
Misses (end v) tokens last fault = ⊥
Misses (slot read) [] last fault = fault ≡ record { kind = kinds.Ended; line = last }
Misses (slot read) (t ∷ tokens) last fault = (read t ≡ Err fault.kind) × (fault.line ≡ t.line)
Misses (◌>>=◌ {A} l f) tokens last fault =
    Misses l tokens last fault
    ⊎ ((a : A) × (first : List Token) × (rest : List Token) × (tokens ≡ first ++ rest) × Fills l first a × Misses (f a) rest last fault)

-- the first tokens fill all slots, and another token follows: the fault is `Trailing`, on its line
pub record GoesOn {V : Type 0} (layout : Layout V) (tokens : List Token) (fault : LineFault) : Type 0 where
  pub front : List Token
  pub next : Token
  pub rest : List Token
  pub value : V
  pub split : tokens ≡ front ++ next ∷ rest
  pub filled : Fills layout front value
  pub trailing : fault ≡ record { kind = kinds.Trailing; line = next.line }

-- the text is not too long, and its tokens fill the slots and spell the value
pub record Spells {V : Type 0} (layout : Layout V) (text : List ℕ) (value : V) : Type 0 where
  pub short : length text ≤ max_file_len
  pub filled : Fills layout (tokens text) value

-- The text has the fault. A text that is too long has the fault `Limit` on line 0, and no other.
pub data HasFault {V : Type 0} (layout : Layout V) (text : List ℕ) (fault : LineFault) : Type 0 where
  too_long : max_file_len < length text → fault ≡ record { kind = kinds.Limit; line = 0 } → HasFault layout text fault
  misses_slot : length text ≤ max_file_len → Misses layout (tokens text) (last_line_from 1 (tokens text)) fault → HasFault layout text fault
  goes_on : length text ≤ max_file_len → GoesOn layout (tokens text) fault → HasFault layout text fault
