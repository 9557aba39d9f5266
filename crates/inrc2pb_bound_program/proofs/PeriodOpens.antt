-- The files of a list, opened one after the other.
use Rattle.std.proofs.Common.{◌≡◌, ◌∙◌, ◌+◌, ◌<◌, ◌≤◌, ℕ, ap, sym, refl, subst, List, [], ◌∷◌, ◌++◌, append_assoc, drop, get_or, length}
use Rattle.std.proofs.Common.{suc, Result, Ok, Err}
use Rattle.std.proofs.lemmas.List.{append-nil, drop_all, drop_more}
use Rattle.byte_ports.specs.declared.ports.Source.{Ghosts as SourceGhosts}
use Rattle.byte_ports.specs.declared.open_files.OpenFault.{OpenFault}
use Rattle.byte_ports.specs.declared.open_files.OpenFault.TheVariants.{Memory}
use Rattle.byte_ports.specs.Openers.{OpensAs, opener_at}
use Rattle.byte_ports.specs.Opening.{Opening, ◌>>=◌, end_as}
use Rattle.byte_ports.specs.Paths.{FileAt, Path}
use Rattle.byte_ports.specs.declared.paths.Opens.{Ghosts as OpensGhosts}
use Rattle.byte_ports.proofs.OpenedFiles.{went}
use Rattle.byte_ports.proofs.OpeningLemmas.{opens_none, opens_stopped, opens_then}
use Rattle.inrc2pb_bound_program.specs.PeriodOpening.{open_each, open_in_order}

-- the result with these before what was found
abbrev after : {B : Type 0} → List B → Result (List B) OpenFault → Result (List B) OpenFault
after first (Ok later) = Ok (first ++ later)
after first (Err fault) = Err fault

after-none : {B : Type 0} (result : Result (List B) OpenFault) → after [] result ≡ result
after-none (Ok later) = refl
after-none (Err fault) = refl

after-both : {B : Type 0} (first second : List B) (result : Result (List B) OpenFault) → after first (after second result) ≡ after (first ++ second) result
after-both first second (Ok later) = ap Ok (sym (append_assoc first second later))
after-both first second (Err fault) = refl

module _ {O F A B : Type 0} (opens : OpensGhosts O F) (source : SourceGhosts F) (one_of : A → Opening B) where
  abbrev Opened : {V : Type 0} → O → O → Opening V → Result V OpenFault → Type 0
  Opened old new step result = OpensAs (opener_at opens source old new) step result

  -- there was memory for the files
  with_room : (old new : O) (xs : List A) (result : Result (List B) OpenFault) → Opened old new (open_in_order one_of xs) result →
      Opened old new (open_each one_of xs) result
  unfolding open_in_order
  with_room old new [] result opened = opened
  with_room old new (x ∷ xs) result opened = opens_then (opens_none tt) opened

  -- there was none
  pub opens_no_room : (start : O) (xs : List A) → (length xs ≡ 0 → ⊥) → Opened start start (open_each one_of xs) (Err Memory)
  opens_no_room start [] some = absurd (some refl)
  opens_no_room start (x ∷ xs) some = opens_stopped (Err Memory) refl (opens_none refl)

  module _ (xs : List A) where
    -- the files of the first i were opened, and these were found: each end of the rest is an end of the whole
    pub record HasOpened (start now : O) (i : ℕ) (found : List B) : Type 0 where
      pub goes_on : (end : O) (result : Result (List B) OpenFault) → Opened now end (open_in_order one_of (drop i xs)) result →
          Opened start end (open_in_order one_of xs) (after found result)

    pub opens_first : (start : O) → HasOpened start start 0 []
    opens_first start = record {
      goes_on = λ end result opened. subst (Opened start end (open_in_order one_of xs)) (sym (after-none result)) opened;
    }

    -- the whole, after the first
    one_more : (one : B) (later : List A) (now end : O) (result : Result (List B) OpenFault) → Opened now end (open_in_order one_of later) result →
        Opened now end (open_in_order one_of later >>= λ more. end_as (λ found. found ≡ one ∷ more)) (after (one ∷ []) result)
    one_more one later now end (Ok more) opened = opens_then opened (opens_none refl)
    one_more one later now end (Err fault) opened = opens_stopped (Err fault) refl opened

    module _ (start now : O) (i : ℕ) (found : List B) (done : HasOpened start now i found) where
      -- all were opened
      pub opens_all : length xs ≤ i → Opened start now (open_each one_of xs) (Ok found)
      unfolding open_in_order
      opens_all past =
          with_room start now xs (Ok found)
          (subst (λ (list : List B). Opened start now (open_in_order one_of xs) (Ok list)) (append-nil found)
          (done.goes_on now (Ok []) (subst (λ (rest : List A). Opened now now (open_in_order one_of rest) (Ok [])) (sym (drop_all i xs past))
          (opens_none refl))))

      module _ (x : A) (inside : i < length xs) (is : x ≡ get_or xs i x) (next : O) where
        rest-is : drop i xs ≡ (x ∷ drop (i + 1) xs)
        rest-is = drop_more xs i x inside ∙ ap (λ (y : A). y ∷ drop (i + 1) xs) (sym is)

        -- the next one was opened
        pub opens_next : (one : B) → Opened now next (one_of x) (Ok one) → HasOpened start next (i + 1) (found ++ one ∷ [])
        unfolding open_in_order
        opens_next one opened = record {
          goes_on = λ end result later.
              let here = opens_then opened (one_more one (drop (i + 1) xs) next end result later) in
              subst (Opened start end (open_in_order one_of xs)) (after-both found (one ∷ []) result)
              (done.goes_on end (after (one ∷ []) result)
              (subst (λ (rest : List A). Opened now end (open_in_order one_of rest) (after (one ∷ []) result)) (sym rest-is) here));
        }

        -- the next one was not opened
        pub stops_next : (fault : OpenFault) → Opened now next (one_of x) (Err fault) → Opened start next (open_each one_of xs) (Err fault)
        unfolding open_in_order
        stops_next fault stops =
            with_room start next xs (Err fault)
            (done.goes_on next (Err fault) (subst (λ (rest : List A). Opened now next (open_in_order one_of rest) (Err fault)) (sym rest-is)
            (opens_stopped (Err fault) refl stops)))

-- ---- what was opened

order-length : {A B : Type 0} (one_of : A → Opening B) (xs : List A) (ys : List B) (at : Path → FileAt) (asked : List Path) →
    (open_in_order one_of xs).ends at asked (Ok ys) → length ys ≡ length xs
unfolding open_in_order
order-length one_of [] ys at asked ends = ap length ends.1
order-length one_of (x ∷ xs) ys at asked ends =
    let after_one = went ends in
    let after_all = went after_one.4 in
    ap length after_all.4.1 ∙ ap suc (order-length one_of xs after_all.0 at after_all.1 after_all.3)

-- as many were opened as were asked for
pub each-length : {A B : Type 0} (one_of : A → Opening B) (xs : List A) (ys : List B) (at : Path → FileAt) (asked : List Path) →
    (open_each one_of xs).ends at asked (Ok ys) → length ys ≡ length xs
each-length one_of [] ys at asked ends = ap length ends.1
each-length one_of (x ∷ xs) ys at asked ends =
    let after_room = went ends in
    order-length one_of (x ∷ xs) ys at after_room.2 after_room.4
