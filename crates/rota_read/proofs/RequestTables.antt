-- The table of requests by nurse, day and shift type is the table by index.
use Rattle.std.proofs.Common.{◌≡◌, ◌==◌, ℕ, zero, suc, ◌+◌, ◌*◌, ◌<◌, Bool, true, ◌&&◌, refl, sym, ap, ◌∙◌, arith}
use Rattle.std.proofs.Common.{List, [], ◌∷◌, ◌++◌, map, if◌then◌else◌}
use Rattle.std.specs.List.{AllByRecursion, count_by, flat_map, range_with_len}
use Rattle.std.specs.Option.{option_map_or}
use Rattle.std.proofs.lemmas.Bool.Decides.{nat_tests}
use Rattle.std.proofs.lemmas.List.Sums.{sum_by-cons}
use Rattle.std.proofs.lemmas.Nat.{div-mul-add, mod-mul-add}
use Rattle.rota_read.specs.declared.week.RequestRow.{RequestRow}
use Rattle.rota_read.specs.WeekLayout.{asks, request_table}
use Rattle.rota_read.specs.WeekRows.{asks_at, index_table}
use Rattle.rota_read.proofs.IndexLemmas.{same_bools}

-- ---- tables over ranges

map-same : {X : Type 0} (f g : ℕ → X) (first n : ℕ) → ((k : ℕ) → k < first + n → f k ≡ g k) →
    map f (range_with_len first n) ≡ map g (range_with_len first n)
map-same f g first zero same = refl
map-same f g first (suc n) same =
    let one = same first (omega arith) in
    let rest = map-same f g (first + 1) n (λ k lt. same k (omega (arith, lt))) in
    λ i. one i ∷ rest i

rows-same : {X : Type 0} (f g : ℕ → List X) (first n : ℕ) → ((k : ℕ) → k < first + n → f k ≡ g k) →
    flat_map f (range_with_len first n) ≡ flat_map g (range_with_len first n)
rows-same f g first zero same = refl
rows-same f g first (suc n) same =
    let one = same first (omega arith) in
    let rest = rows-same f g (first + 1) n (λ k lt. same k (omega (arith, lt))) in
    λ i. one i ++ rest i

-- a range that begins later
range_later : {X : Type 0} (f : ℕ → X) (a first n : ℕ) →
    map (λ k. f (a + k)) (range_with_len first n) ≡ map f (range_with_len (a + first) n)
range_later f a first zero = refl
range_later f a first (suc n) =
    let e : a + (first + 1) ≡ a + first + 1 = omega arith in
    let rest = range_later f a (first + 1) n ∙ ap (λ m. map f (range_with_len m n)) e in
    λ i. f (a + first) ∷ rest i

range_split : {X : Type 0} (f : ℕ → X) (first m n : ℕ) →
    map f (range_with_len first (m + n)) ≡ map f (range_with_len first m) ++ map f (range_with_len (first + m) n)
range_split f first zero n =
    let e : zero + n ≡ n = omega arith in
    let same : first ≡ first + zero = omega arith in
    λ i. map f (range_with_len (same i) (e i))
range_split f first (suc m) n =
    let e : suc m + n ≡ suc (m + n) = omega arith in
    let later : first + 1 + m ≡ first + suc m = omega arith in
    let rest =
    range_split f (first + 1) m n ∙ ap (λ k. map f (range_with_len (first + 1) m) ++ map f (range_with_len k n)) later in
    ap (λ k. map f (range_with_len first k)) e ∙ (λ i. f first ∷ rest i)

-- a table of rows of the given width
table_rows : {X : Type 0} (f : ℕ → X) (width first n : ℕ) →
    flat_map (λ row. map (λ k. f (row * width + k)) (range_with_len 0 width)) (range_with_len first n) ≡
    map f (range_with_len (first * width) (n * width))
table_rows f width first zero =
    let e : 0 ≡ 0 * width = omega arith in
    ap (λ k. map f (range_with_len (first * width) k)) e
table_rows f width first (suc n) =
    let start : first * width + 0 ≡ first * width = omega arith in
    let next : (first + 1) * width ≡ first * width + width = omega arith in
    let size : width + n * width ≡ suc n * width = omega arith in
    let one = range_later f (first * width) 0 width ∙ ap (λ k. map f (range_with_len k width)) start in
    let rest = table_rows f width (first + 1) n ∙ ap (λ k. map f (range_with_len k (n * width))) next in
    (λ i. one i ++ rest i)
    ∙ sym (range_split f (first * width) width (n * width))
    ∙ ap (λ k. map f (range_with_len (first * width) k)) size

-- ---- the requests

count-same : {X : Type 0} (p q : X → Bool) (xs : List X) → AllByRecursion (λ x. p x ≡ q x) xs → count_by p xs ≡ count_by q xs
count-same p q [] all = refl
count-same p q (x ∷ xs) all =
    let one : (if p x then 1 else 0) ≡ (if q x then 1 else 0) = ap (λ b. if b then 1 else 0) all.0 in
    let rest = count-same p q xs all.1 in
    sum_by-cons (λ y. if p y then 1 else 0) x xs
    ∙ (λ i. one i + rest i)
    ∙ sym (sum_by-cons (λ y. if q y then 1 else 0) x xs)

asks-same : (shifts nurse day shift : ℕ) (row : RequestRow) → day < 7 → shift < shifts → row.day < 7 →
    asks nurse day shift row ≡ asks_at shifts ((nurse * 7 + day) * shifts + shift) row
asks-same shifts nurse day shift row d s r =
    let e : (row.nurse == nurse && row.day == day) ≡ (row.nurse * 7 + row.day == nurse * 7 + day) = same_bools _ _ there back in
    ap (λ b. b && option_map_or (λ s. s == shift) row.shift true) e
    ∙ (λ i. row.nurse * 7 + row.day == sym (div-mul-add (nurse * 7 + day) shifts shift s) i
    && option_map_or (λ t. t == sym (mod-mul-add (nurse * 7 + day) shifts shift s) i) row.shift true)
  where
    there : (row.nurse == nurse && row.day == day) ≡ true → (row.nurse * 7 + row.day == nurse * 7 + day) ≡ true
    there h = grind (arith, nat_tests)

    back : (row.nurse * 7 + row.day == nurse * 7 + day) ≡ true → (row.nurse == nurse && row.day == day) ≡ true
    back h = grind (arith, nat_tests)

module _ (nurses shifts : ℕ) (rows : List RequestRow) (valid : AllByRecursion (λ row. row.day < 7) rows) where
  abbrev at : ℕ → ℕ
  at index = count_by (asks_at shifts index) rows

  cell-same : (nurse day shift : ℕ) → day < 7 → shift < shifts →
      count_by (asks nurse day shift) rows ≡ at (nurse * (7 * shifts) + (day * shifts + shift))
  cell-same nurse day shift d s =
      let e : (nurse * 7 + day) * shifts + shift ≡ nurse * (7 * shifts) + (day * shifts + shift) = omega arith in
      count-same (asks nurse day shift) (asks_at shifts ((nurse * 7 + day) * shifts + shift)) rows (each rows valid) ∙ ap at e
    where
      each : (rows : List RequestRow) → AllByRecursion (λ row. row.day < 7) rows →
          AllByRecursion (λ row. asks nurse day shift row ≡ asks_at shifts ((nurse * 7 + day) * shifts + shift) row) rows
      each [] all = tt
      each (row ∷ rows) all = (asks-same shifts nurse day shift row d s all.0, each rows all.1)

  nurse-same : (nurse : ℕ) →
      flat_map (λ day. map (λ shift. count_by (asks nurse day shift) rows) (range_with_len 0 shifts)) (range_with_len 0 7) ≡
      map (λ k. at (nurse * (7 * shifts) + k)) (range_with_len 0 (7 * shifts))
  nurse-same nurse =
      let of_nurse : ℕ → ℕ = λ k. at (nurse * (7 * shifts) + k) in
      let start : 0 * shifts ≡ 0 = omega arith in
      rows-same (λ day. map (λ shift. count_by (asks nurse day shift) rows) (range_with_len 0 shifts))
      (λ day. map (λ shift. of_nurse (day * shifts + shift)) (range_with_len 0 shifts)) 0 7
      (λ day d. map-same (λ shift. count_by (asks nurse day shift) rows) (λ shift. of_nurse (day * shifts + shift)) 0 shifts
      (λ shift s. cell-same nurse day shift (omega (arith, d)) (omega (arith, s))))
      ∙ table_rows of_nurse shifts 0 7
      ∙ ap (λ k. map of_nurse (range_with_len k (7 * shifts))) start

  pub request_table-by_index : request_table nurses shifts rows ≡ index_table nurses shifts rows
  request_table-by_index =
      let start : 0 * (7 * shifts) ≡ 0 = omega arith in
      let size : nurses * (7 * shifts) ≡ nurses * 7 * shifts = omega arith in
      rows-same (λ nurse. flat_map (λ day. map (λ shift. count_by (asks nurse day shift) rows) (range_with_len 0 shifts)) (range_with_len 0 7))
      (λ nurse. map (λ k. at (nurse * (7 * shifts) + k)) (range_with_len 0 (7 * shifts))) 0 nurses
      (λ nurse _. nurse-same nurse)
      ∙ table_rows at (7 * shifts) 0 nurses
      ∙ (λ i. map at (range_with_len (start i) (size i)))
