-- Reading returns the value that a text spells, or its fault.
use Rattle.std.proofs.Common.{◌≡◌, ℕ, ◌≤◌, Bool, true, false, nat_lt, ◌⊎◌, inl, inr, refl, sym, ap, ◌∙◌, subst, append_assoc}
use Rattle.std.proofs.Common.{length, List, [], ◌∷◌, ◌++◌, Result, Ok, Err}
use Rattle.rota_core.specs.Limits.{max_file_len}
use Rattle.rota_layout.proofs.EndLemmas.{read_short, read_long, is_longer, is_not_longer}
use Rattle.std.proofs.lemmas.List.{append-nil}
use Rattle.rota_core.specs.declared.fault.Kind.{Kind}
use Rattle.rota_core.specs.declared.fault.Kind.TheVariants as kinds
use Rattle.rota_core.specs.declared.fault.FileName.{FileName}
use Rattle.rota_layout.specs.declared.fault.LayoutError.{LayoutError}
use Rattle.rota_layout.specs.declared.fault.LayoutError.TheVariants as stops
use Rattle.rota_layout.specs.declared.fault.LineFault.{LineFault}
use Rattle.rota_layout.specs.FileFaults.{fault_in}
use Rattle.rota_layout.specs.Tokens.{Token, tokens}
use Rattle.rota_layout.specs.Reading.{Reading, then_read, filled_by, fill, read_layout, check_end, begin, read_text, Fails}
use Rattle.rota_layout.specs.Layout.{Layout, end, slot, ◌>>=◌}
use Rattle.rota_layout.specs.Files.{Fills, last_line_from, Misses, Spells, HasFault, too_long, misses_slot, goes_on}
use Rattle.rota_layout.specs.OneMeaning.{OneMeaning}
use Rattle.rota_layout.specs.FileAnswers.{IsFaultOf}

-- a reading with a given rest
abbrev at : ℕ → List Token → Reading
at last rest = record { last = last; rest = rest }

last_line-append : (line : ℕ) (xs ys : List Token) → last_line_from line (xs ++ ys) ≡ last_line_from (last_line_from line xs) ys
last_line-append line [] ys = refl
last_line-append line (t ∷ xs) ys = last_line-append t.line xs ys

-- ---- tokens that fill a layout are read

-- the result of a first part, and then of the parts that follow it
read-bind : {A B : Type 0} (l : Layout A) (f : A → Layout B) (left : Reading) (r : Result (A × Reading) LineFault) → read_layout l left ≡ r →
    read_layout (l >>= f) left ≡ then_read r (λ x. read_layout (f x.0) x.1)
unfolding read_layout
read-bind l f left r h = ap (λ r. then_read r (λ x. read_layout (f x.0) x.1)) h

read-split : {V : Type 0} (l : Layout V) (front : List Token) (last : ℕ) (rest first second : List Token) → front ≡ first ++ second →
    read_layout l (at last (front ++ rest)) ≡ read_layout l (at last (first ++ (second ++ rest)))
read-split l front last rest first second e = ap (λ xs. read_layout l (at last xs)) (ap (λ xs. xs ++ rest) e ∙ append_assoc first second rest)

-- tokens that fill a layout are read, and the tokens after them are left
pub read-fills : {V : Type 0} (l : Layout V) (front rest : List Token) (last : ℕ) (value : V) → Fills l front value →
    read_layout l (at last (front ++ rest)) ≡ Ok (value, at (last_line_from last front) rest)
unfolding Fills read_layout
read-fills (end v) front rest last value h =
    ap (λ xs. Ok (v, at last (xs ++ rest))) h.0
    ∙ ap (λ w. Ok (w, at last rest)) (sym h.1)
    ∙ ap (λ xs. Ok (value, at (last_line_from last xs) rest)) (sym h.0)
read-fills (slot read) front rest last value h =
    let t = h.0 in
    ap (λ xs. fill read last (xs ++ rest)) h.1
    ∙ ap (λ r. filled_by r t rest) h.2
    ∙ ap (λ xs. Ok (value, at (last_line_from last xs) rest)) (sym h.1)
read-fills (l >>= f) front rest last value h =
    let a = h.0 in
    let first = h.1 in
    let second = h.2 in
    read-split (l >>= f) front last rest first second h.3
    ∙ read-bind l f (at last (first ++ (second ++ rest))) (Ok (a, at (last_line_from last first) (second ++ rest)))
    (read-fills l first (second ++ rest) last a h.4)
    ∙ read-fills (f a) second rest (last_line_from last first) value h.5
    ∙ ap (λ n. Ok (value, at n rest)) (sym (last_line-append last first second) ∙ ap (last_line_from last) (sym h.3))

-- ---- a token that misses a slot is the fault

misses-fill : {V : Type 0} (read : Token → Result V Kind) (last : ℕ) (all : List Token) (fault : LineFault) →
    Misses (slot read) all (last_line_from last all) fault → fill read last all ≡ Err fault
unfolding Misses
misses-fill read last [] fault h = ap Err (sym h)
misses-fill read last (t ∷ rest) fault h =
    ap (λ r. filled_by r t rest) h.0 ∙ ap (λ n. Err (record { kind = fault.kind; line = n })) (sym h.1)

-- the first slot that is missed is the fault that reading finds
pub read-misses : {V : Type 0} (l : Layout V) (all : List Token) (last : ℕ) (fault : LineFault) →
    Misses l all (last_line_from last all) fault → read_layout l (at last all) ≡ Err fault
unfolding Misses read_layout
read-misses (end v) all last fault h = absurd h
read-misses (slot read) all last fault h = misses-fill read last all fault h
read-misses {V} (◌>>=◌ {A} l f) all last fault h =
    elim h as (λ _. read_layout (l >>= f) (at last all) ≡ Err fault) [
      | inl here ↦ read-bind l f (at last all) (Err fault) (read-misses l all last fault here)
      | inr later ↦
          let a = later.0 in
          let first = later.1 in
          let rest = later.2 in
          let same_line = ap (last_line_from last) later.3 ∙ last_line-append last first rest in
          ap (λ xs. read_layout (l >>= f) (at last xs)) later.3
          ∙ read-bind l f (at last (first ++ rest)) (Ok (a, at (last_line_from last first) rest)) (read-fills l first rest last a later.4)
          ∙ read-misses (f a) rest (last_line_from last first) fault (subst (λ n. Misses (f a) rest n fault) same_line later.5)
    ]

-- ---- the tokens that are read fill the layout

and_then-ok : {A B : Type 0} (r : Result A LineFault) (f : A → Result B LineFault) (b : B) → then_read r f ≡ Ok b →
    (a : A) × (r ≡ Ok a) × (f a ≡ Ok b)
and_then-ok (Ok a) f b h = (a, refl, h)
and_then-ok (Err e) f b h = absurd (cc)

and_then-err : {A B : Type 0} (r : Result A LineFault) (f : A → Result B LineFault) (e : LineFault) → then_read r f ≡ Err e →
    (r ≡ Err e) ⊎ ((a : A) × (r ≡ Ok a) × (f a ≡ Err e))
and_then-err (Ok a) f e h = inr (a, refl, h)
and_then-err (Err d) f e h = let same : d ≡ e = cc in inl (ap Err same)

abbrev ok : {A : Type 0} → A → Result A LineFault
ok x = Ok x

ok_same : {A : Type 0} (x y : A) → ok x ≡ ok y → x ≡ y
ok_same x y h = cc

-- the tokens before the rest fill the layout
abbrev pub Found : {V : Type 0} → Layout V → ℕ → List Token → V → Reading → Type 0
Found l last all value after =
    (front : List Token) × (all ≡ front ++ after.rest) × (after.last ≡ last_line_from last front) × Fills l front value

filled-ok : {V : Type 0} (r : Result V Kind) (t : Token) (rest : List Token) (value : V) (after : Reading) →
    filled_by r t rest ≡ Ok (value, after) → (r ≡ Ok value) × (after ≡ at t.line rest)
filled-ok {V} (Ok v) t rest value after h =
    let e = ok_same (v, at t.line rest) (value, after) h in
    (ap (λ (p : V × Reading). Ok p.0) e, sym (ap (λ (p : V × Reading). p.1) e))
filled-ok (Err kind) t rest value after h = absurd (cc)

fill-ok : {V : Type 0} (read : Token → Result V Kind) (last : ℕ) (all : List Token) (value : V) (after : Reading) →
    fill read last all ≡ Ok (value, after) → Found (slot read) last all value after
unfolding Fills
fill-ok read last [] value after h = absurd (cc)
fill-ok read last (t ∷ rest) value after h =
    let e = filled-ok (read t) t rest value after h in
    (t ∷ [], ap (λ (r : Reading). t ∷ r.rest) (sym e.1), ap (λ (r : Reading). r.last) e.1, (t, refl, e.0))

pub fills-read : {V : Type 0} (l : Layout V) (last : ℕ) (all : List Token) (value : V) (after : Reading) →
    read_layout l (at last all) ≡ Ok (value, after) → Found l last all value after
unfolding Fills read_layout
fills-read {V} (end v) last all value after h =
    let e = ok_same (v, at last all) (value, after) h in
    ([], ap (λ (p : V × Reading). p.1.rest) e, sym (ap (λ (p : V × Reading). p.1.last) e), (refl, sym (ap (λ (p : V × Reading). p.0) e)))
fills-read (slot read) last all value after h = fill-ok read last all value after h
fills-read {V} (◌>>=◌ {A} l f) last all value after h =
    let x = and_then-ok (read_layout l (at last all)) (λ x. read_layout (f x.0) x.1) (value, after) h in
    let a = x.0.0 in
    let middle = x.0.1 in
    let one = fills-read l last all a middle x.1 in
    let two = fills-read (f a) middle.last middle.rest value after x.2 in (
      one.0 ++ two.0,
      one.1 ∙ ap (λ xs. one.0 ++ xs) two.1 ∙ sym (append_assoc one.0 two.0 after.rest),
      two.2 ∙ ap (λ n. last_line_from n two.0) one.2 ∙ sym (last_line-append last one.0 two.0),
      (a, one.0, two.0, refl, one.3, two.3),
    )

-- ---- the fault that reading finds misses a slot

filled-err : {V : Type 0} (r : Result V Kind) (t : Token) (rest : List Token) (fault : LineFault) → filled_by r t rest ≡ Err fault →
    (r ≡ Err fault.kind) × (fault.line ≡ t.line)
filled-err (Ok v) t rest fault h = absurd (cc)
filled-err (Err kind) t rest fault h =
    let e : record { kind = kind; line = t.line } ≡ fault = cc in
    (ap (λ (d : LineFault). Err d.kind) e, sym (ap (λ (d : LineFault). d.line) e))

fill-err : {V : Type 0} (read : Token → Result V Kind) (last : ℕ) (all : List Token) (fault : LineFault) → fill read last all ≡ Err fault →
    Misses (slot read) all (last_line_from last all) fault
unfolding Misses
fill-err read last [] fault h = cc
fill-err read last (t ∷ rest) fault h = filled-err (read t) t rest fault h

pub misses-read : {V : Type 0} (l : Layout V) (last : ℕ) (all : List Token) (fault : LineFault) → read_layout l (at last all) ≡ Err fault →
    Misses l all (last_line_from last all) fault
unfolding Misses read_layout
misses-read (end v) last all fault h = absurd (cc)
misses-read (slot read) last all fault h = fill-err read last all fault h
misses-read {V} (◌>>=◌ {A} l f) last all fault h =
    elim (and_then-err (read_layout l (at last all)) (λ x. read_layout (f x.0) x.1) fault h) as
    (λ _. Misses (l >>= f) all (last_line_from last all) fault) [
      | inl here ↦ inl (misses-read l last all fault here)
      | inr later ↦
          let a = later.0.0 in
          let middle = later.0.1 in
          let one = fills-read l last all a middle later.1 in
          let same_line =
          ap (λ (n : ℕ). last_line_from n middle.rest) one.2
          ∙ sym (last_line-append last one.0 middle.rest)
          ∙ ap (last_line_from last) (sym one.1) in
          let m = misses-read (f a) middle.last middle.rest fault later.2 in
          inr (a, one.0, middle.rest, one.1, one.3, subst (λ n. Misses (f a) middle.rest n fault) same_line m)
    ]

-- ---- whole files

-- the tokens after the last slot
end-ok : {V : Type 0} (value v : V) (rest : List Token) → then_read (check_end rest) (λ _. ok value) ≡ Ok v → (rest ≡ []) × (value ≡ v)
end-ok value v [] h = (refl, ok_same value v h)
end-ok value v (t ∷ rest) h = absurd (cc)

end-err : {V : Type 0} (value : V) (rest : List Token) (fault : LineFault) → then_read (check_end rest) (λ _. ok value) ≡ Err fault
    → (t : Token) × (more : List Token) × (rest ≡ t ∷ more) × (fault ≡ record { kind = kinds.Trailing; line = t.line })
end-err value [] fault h = absurd (cc)
end-err value (t ∷ rest) fault h = (t, rest, refl, cc)

abbrev Whole : {V : Type 0} → Layout V → List ℕ → Result V LineFault
Whole l text = then_read (read_layout l (begin text)) (λ x. then_read (check_end x.1.rest) (λ _. Ok x.0))

module _ {V : Type 0} (l : Layout V) (text : List ℕ) where
  short-spells : length text ≤ max_file_len → (value : V) → Whole l text ≡ Ok value → Spells l text value
  short-spells short value h =
      let x = and_then-ok (read_layout l (begin text)) (λ x. then_read (check_end x.1.rest) (λ _. Ok x.0)) value h in
      let one = fills-read l 1 (tokens text) x.0.0 x.0.1 x.1 in
      let e = end-ok x.0.0 value x.0.1.rest x.2 in
      let all = one.1 ∙ ap (λ (xs : List Token). one.0 ++ xs) e.0 ∙ append-nil one.0 in
      let filled = subst (λ (xs : List Token). Fills l xs x.0.0) (sym all) one.3 in
      record { short = short; filled = subst (λ v. Fills l (tokens text) v) e.1 filled }

  short-fault : length text ≤ max_file_len → (fault : LineFault) → Whole l text ≡ Err fault → HasFault l text fault
  short-fault short fault h =
      elim (and_then-err (read_layout l (begin text)) (λ x. then_read (check_end x.1.rest) (λ _. Ok x.0)) fault h) as (λ _. HasFault l text fault) [
        | inl here ↦
            misses_slot short (misses-read l 1 (tokens text) fault here)
        | inr later ↦
            let one = fills-read l 1 (tokens text) later.0.0 later.0.1 later.1 in
            let e = end-err later.0.0 later.0.1.rest fault later.2 in
            goes_on short (record {
              front = one.0;
              next = e.0;
              rest = e.1;
              value = later.0.0;
              split = one.1 ∙ ap (λ xs. one.0 ++ xs) e.2;
              filled = one.3;
              trailing = e.3;
            })
      ]

  -- a text spells the value that is read from it
  pub spells-read : (value : V) → read_text l text ≡ Ok value → Spells l text value
  spells-read value h = by (nat_lt max_file_len (length text)) refl
    where
      by : (b : Bool) → nat_lt max_file_len (length text) ≡ b → Spells l text value
      by true e = absurd (let g = sym (read_long l text (is_longer (length text) e)) ∙ h in cc g)
      by false e = let short = is_not_longer (length text) e in short-spells short value (sym (read_short l text short) ∙ h)

  -- a text has the fault that reading finds
  pub has_fault-read : (fault : LineFault) → read_text l text ≡ Err fault → HasFault l text fault
  has_fault-read fault h = by (nat_lt max_file_len (length text)) refl
    where
      by : (b : Bool) → nat_lt max_file_len (length text) ≡ b → HasFault l text fault
      by true e =
          let long = is_longer (length text) e in
          let g = sym (read_long l text long) ∙ h in
          too_long long (cc g)
      by false e = let short = is_not_longer (length text) e in short-fault short fault (sym (read_short l text short) ∙ h)

  -- the value that a text spells is read
  pub read-spells : (value : V) → Spells l text value → read_text l text ≡ Ok value
  read-spells value s =
      let whole : read_layout l (begin text) ≡ Ok (value, at (last_line_from 1 (tokens text)) []) =
      ap (λ xs. read_layout l (at 1 xs)) (sym (append-nil (tokens text))) ∙ read-fills l (tokens text) [] 1 value s.filled in
      read_short l text s.short ∙ ap (λ r. then_read r (λ x. then_read (check_end x.1.rest) (λ _. ok x.0))) whole

  -- reading finds the fault of a text
  pub read-has_fault : (fault : LineFault) → HasFault l text fault → read_text l text ≡ Err fault
  read-has_fault fault (too_long long e) = read_long l text long ∙ ap Err (sym e)
  read-has_fault fault (misses_slot short m) =
      let met : read_layout l (begin text) ≡ Err fault = read-misses l (tokens text) 1 fault m in
      read_short l text short ∙ ap (λ r. then_read r (λ x. then_read (check_end x.1.rest) (λ _. ok x.0))) met
  read-has_fault fault (goes_on short g) =
      let met : read_layout l (begin text) ≡ Ok (g.value, at (last_line_from 1 g.front) (g.next ∷ g.rest)) =
      ap (λ xs. read_layout l (at 1 xs)) g.split ∙ read-fills l g.front (g.next ∷ g.rest) 1 g.value g.filled in
      read_short l text short ∙ ap (λ r. then_read r (λ x. then_read (check_end x.1.rest) (λ _. ok x.0))) met ∙ ap Err (sym g.trailing)

-- every text spells one value or has one fault, and never both
pub one_meaning : {V : Type 0} (l : Layout V) → OneMeaning l
one_meaning {V} l = record {
  some = λ text. by text (read_text l text) refl;
  one_value = λ text v w s t. ok_same v w (sym (read-spells l text v s) ∙ read-spells l text w t);
  one_fault = λ text e f s t. let g = sym (read-has_fault l text e s) ∙ read-has_fault l text f t in cc g;
  never_both = λ text value fault s t. let g = sym (read-spells l text value s) ∙ read-has_fault l text fault t in cc g;
}
  where
    by : (text : List ℕ) (r : Result V LineFault) → read_text l text ≡ r →
        ((value : V) × Spells l text value) ⊎ ((fault : LineFault) × HasFault l text fault)
    by text (Ok value) h = inl (value, spells-read l text value h)
    by text (Err fault) h = inr (fault, has_fault-read l text fault h)

-- if reading stops, the text has the fault, or memory ran out
pub fault_in-read : {V : Type 0} (l : Layout V) (text : List ℕ) (file : FileName) (e : LayoutError) → Fails e (read_text l text) →
    IsFaultOf file l text (fault_in file e)
fault_in-read l text file stops.Memory h = tt
fault_in-read l text file (stops.Fault f) h = (refl, has_fault-read l text f h)

-- the results of a whole file's reader, by the results of reading
pub ruleset file_steps = (spells-read, fault_in-read)
