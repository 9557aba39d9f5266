-- A property of each value that a row of days spells is a property of each value in the table.
use Rattle.std.proofs.Common.{◌≡◌, ℕ, zero, suc, ◌+◌, ◌*◌, ◌∙◌, arith}
use Rattle.std.proofs.Common.{List, [], ◌∷◌, Option, Some, None, length, get_or, map, replicate, set}
use Rattle.std.specs.List.{All, AllByRecursion, flat_map, range_with_len}
use Rattle.std.proofs.lemmas.List.{length-map, length-replicate, length-set}
use Rattle.std.proofs.lemmas.List.Elements.{All-replicate, All-set, recursion_from_All}
use Rattle.rota_core.specs.Sizes.{DAYS}
use Rattle.rota_core.proofs.LogicWords.{AllByRecursion-append}
use Rattle.rota_layout.specs.Tokens.{Token}
use Rattle.rota_layout.specs.Layout.{Layout, repeat, one_more, many}
use Rattle.rota_layout.specs.DayRows.{day_table, value_on}
use Rattle.rota_layout.specs.Files.{Fills}
use Rattle.rota_layout.proofs.SlotLaws.{all_push}
use Rattle.rota_layout.proofs.TableLemmas.{rows_length}

all_map : {X Y : Type 0} (P : X → Type 0) (Q : Y → Type 0) (f : X → Y) → ((x : X) → P x → Q (f x)) →
    (xs : List X) → AllByRecursion P xs → AllByRecursion Q (map f xs)
all_map P Q f each [] h = tt
all_map P Q f each (x ∷ xs) h = (each x h.0, all_map P Q f each xs h.1)

pub all_rows : {X : Type 0} (P : X → Type 0) (row : ℕ → List X) → ((k : ℕ) → AllByRecursion P (row k)) →
    (first n : ℕ) → AllByRecursion P (flat_map row (range_with_len first n))
all_rows P row each first zero = tt
all_rows P row each first (suc n) =
    AllByRecursion-append P (row first) (flat_map row (range_with_len (first + 1) n)) (each first) (all_rows P row each (first + 1) n)

at_or : {X : Type 0} (P : X → Type 0) (xs : List X) (k : ℕ) (d : X) → AllByRecursion P xs → P d → P (get_or xs k d)
at_or P [] k d h p = p
at_or P (x ∷ xs) zero d h p = h.0
at_or P (x ∷ xs) (suc k) d h p = at_or P xs k d h.1 p

module _ {A : Type 0} (value : Layout A) (P : A → Type 0) (each : (front : List Token) (a : A) → Fills value front a → P a) where
  -- values that are read one after the other
  values-all : (n : ℕ) (before : List A) (front : List Token) (values : List A) →
      Fills (repeat n (one_more (λ _. value)) before) front values → AllByRecursion P before → AllByRecursion P values
  unfolding Fills repeat one_more
  values-all zero before front values h k = rw h.1 k
  values-all (suc n) before front values h k =
      let one = h.4 in
      values-all n h.0 h.2 values h.5 (rw one.5.1 (all_push P before one.0 k (each one.1 one.0 one.4)))

  pub days-all : (front : List Token) (values : List A) → Fills (many DAYS (λ _. value)) front values → AllByRecursion P values
  unfolding many
  days-all front values h = values-all 7 [] front values h tt

module _ {A : Type 0} (P : A → Type 0) where
  -- the values of a row have the property, if it exists
  abbrev RowAll : Option (List A) → Type 0
  RowAll None = Unit {0}
  RowAll (Some values) = AllByRecursion P values

  -- there is a row or none for each of this number of pairs, and the values have the property
  abbrev pub RowsAll : ℕ → List (Option (List A)) → Type 0
  RowsAll pairs rows = (length rows ≡ pairs) × All RowAll rows

  pub no_rows-all : (pairs : ℕ) → RowsAll pairs (replicate pairs None)
  no_rows-all pairs = (length-replicate pairs None, All-replicate RowAll pairs None tt)

  pub row_set-all : (pairs : ℕ) (rows : List (Option (List A))) (pair : ℕ) (values : List A) → AllByRecursion P values →
      RowsAll pairs rows → RowsAll pairs (set rows pair (Some values))
  row_set-all pairs rows pair values all k = (length-set rows pair (Some values) ∙ k.0, All-set RowAll rows pair (Some values) all k.1)

  module _ (absent : A) (holds : P absent) where
    value_on-all : (day : ℕ) (row : Option (List A)) → RowAll row → P (value_on absent day row)
    value_on-all day None h = holds
    value_on-all day (Some values) h = at_or P values day absent h holds

    -- the table has an index for each day, shift type and skill
    pub day_table-all : (shifts skills : ℕ) (rows : List (Option (List A))) → RowsAll (shifts * skills) rows →
        (length (day_table absent rows) ≡ 7 * shifts * skills) × AllByRecursion P (day_table absent rows)
    day_table-all shifts skills rows k =
        let e : 7 * (shifts * skills) ≡ 7 * shifts * skills = omega arith in (
          rows_length (λ day. map (value_on absent day) rows) (shifts * skills) (λ day. length-map rows (value_on absent day) ∙ k.0)
              (range_with_len 0 7) ∙ e,
          all_rows P (λ day. map (value_on absent day) rows)
              (λ day. all_map RowAll P (value_on absent day) (value_on-all day) rows (recursion_from_All RowAll rows k.1)) 0 7,
        )
