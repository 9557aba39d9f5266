-- Reading a layout from left to right, up to the first fault.
use Rattle.std.specs.Prelude.{◌≡◌, ℕ, List, [], ◌∷◌, Result, Ok, Err, length, nat_lt, if◌then◌else◌}
use Rattle.rota_core.specs.Limits.{max_file_len}
use Rattle.rota_core.specs.declared.fault.Kind.{Kind}
use Rattle.rota_core.specs.declared.fault.Kind.TheVariants as kinds
use Rattle.rota_layout.specs.declared.fault.LayoutError.{LayoutError}
use Rattle.rota_layout.specs.declared.fault.LayoutError.TheVariants as stops
use Rattle.rota_layout.specs.declared.fault.LineFault.{LineFault}
use Rattle.rota_layout.specs.Tokens.{Token, tokens}
use Rattle.rota_layout.specs.Layout.{Layout, end, slot, ◌>>=◌}

abbrev pub then_read : {A B : Type 0} → Result A LineFault → (A → Result B LineFault) → Result B LineFault
then_read (Ok a) f = f a
then_read (Err e) f = Err e

-- the rest to read: the tokens, and the line of the token before them
pub record Reading : Type 0 where
  pub last : ℕ
  pub rest : List Token

-- the value of a token and the rest after it, or the token's fault
abbrev pub filled_by : {V : Type 0} → Result V Kind → Token → List Token → Result (V × Reading) LineFault
filled_by (Ok value) t rest = Ok (value, record { last = t.line; rest = rest })
filled_by (Err kind) t rest = Err (record { kind = kind; line = t.line })

-- the value of the next token, and the rest after it, or a fault
abbrev pub fill : {V : Type 0} → (Token → Result V Kind) → ℕ → List Token → Result (V × Reading) LineFault
fill read last [] = Err (record { kind = kinds.Ended; line = last })
fill read last (t ∷ tokens) = filled_by (read t) t tokens

unfoldable pub read_layout : {V : Type 0} → Layout V → Reading → Result (V × Reading) LineFault
read_layout (end v) left = Ok (v, left)
read_layout (slot read) left = fill read left.last left.rest
read_layout (l >>= f) left = then_read (read_layout l left) (λ x. read_layout (f x.0) x.1)

-- a function stops with the fault that reading finds, unless memory ran out
abbrev pub Fails : {V : Type 0} → LayoutError → Result V LineFault → Type 0
Fails stops.Memory result = Unit {0}
Fails (stops.Fault f) result = result ≡ Err f

-- The result of a function, seen by view, and the rest that it left are the result of reading, unless memory ran out.
abbrev pub Reads : {X V : Type 0} → (X → V) → Result X LayoutError → Reading → Result (V × Reading) LineFault → Type 0
Reads view (Ok x) left result = result ≡ Ok (view x, left)
Reads view (Err e) left result = Fails e result

-- after the last slot the file ends
abbrev pub check_end : List Token → Result (Unit {0}) LineFault
check_end [] = Ok tt
check_end (t ∷ tokens) = Err (record { kind = kinds.Trailing; line = t.line })

abbrev pub begin : List ℕ → Reading
begin text = record { last = 1; rest = tokens text }

-- A text that is too long has the fault `Limit` on line 0, whatever its contents.
unfoldable pub opened : List ℕ → Result Reading LineFault
opened text = if nat_lt max_file_len (length text) then Err (record { kind = kinds.Limit; line = 0 }) else Ok (begin text)

-- all of a text
unfoldable pub read_text : {V : Type 0} → Layout V → List ℕ → Result V LineFault
read_text layout text =
    then_read (opened text) (λ start. then_read (read_layout layout start) (λ x. then_read (check_end x.1.rest) (λ _. Ok x.0)))

abbrev pub ReadsFile : {X V : Type 0} → (X → V) → Result X LayoutError → Result V LineFault → Type 0
ReadsFile view (Ok x) result = result ≡ Ok (view x)
ReadsFile view (Err e) result = Fails e result
