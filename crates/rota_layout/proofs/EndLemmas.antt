-- The start and the end of a file.
use Rattle.std.proofs.Common.{◌≡◌, ℕ, ◌≤◌, ◌<◌, true, false, nat_lt, List, Result, Ok, Err, length, refl, ap, arith}
use Rattle.std.proofs.lemmas.Bool.Decides.{nat_tests}
use Rattle.rota_core.specs.Limits.{max_file_len}
use Rattle.rota_core.specs.declared.fault.Kind.TheVariants as kinds
use Rattle.rota_layout.specs.declared.fault.LayoutError.{LayoutError}
use Rattle.rota_layout.specs.declared.fault.LayoutError.TheVariants as stops
use Rattle.rota_layout.specs.declared.fault.LineFault.{LineFault}
use Rattle.rota_layout.specs.Layout.{Layout}
use Rattle.rota_layout.specs.Reading.{then_read, read_layout, check_end, begin, opened, read_text, Fails}

pub not_longer : (n : ℕ) → n ≤ max_file_len → nat_lt max_file_len n ≡ false
not_longer n h = grind (arith, nat_tests)

pub longer : (n : ℕ) → max_file_len < n → nat_lt max_file_len n ≡ true
longer n h = grind (arith, nat_tests)

pub is_longer : (n : ℕ) → nat_lt max_file_len n ≡ true → max_file_len < n
is_longer n h = grind (arith, nat_tests)

pub is_not_longer : (n : ℕ) → nat_lt max_file_len n ≡ false → n ≤ max_file_len
is_not_longer n h = grind (arith, nat_tests)

-- the result of reading a short text
pub read_short : {V : Type 0} (l : Layout V) (text : List ℕ) → length text ≤ max_file_len →
    read_text l text ≡ then_read (read_layout l (begin text)) (λ x. then_read (check_end x.1.rest) (λ _. Ok x.0))
unfolding read_text opened
read_short l text short = rw (not_longer (length text) short) refl

pub read_long : {V : Type 0} (l : Layout V) (text : List ℕ) → max_file_len < length text →
    read_text l text ≡ Err (record { kind = kinds.Limit; line = 0 })
unfolding read_text opened
read_long l text long = rw (longer (length text) long) refl

-- the part after the first one may be replaced
pub then_read-same : {A B : Type 0} (r : Result A LineFault) (f g : A → Result B LineFault) → ((a : A) → r ≡ Ok a → f a ≡ g a) →
    then_read r f ≡ then_read r g
then_read-same (Ok a) f g same = same a refl
then_read-same (Err e) f g same = refl

-- reading the first part fails
pub front_fails : {A B : Type 0} (front : Result A LineFault) (after : A → Result B LineFault) (e : LayoutError) → Fails e front →
    Fails e (then_read front after)
front_fails front after stops.Memory h = tt
front_fails front after (stops.Fault f) h = ap (λ r. then_read r after) h
