-- Tables that are rows of the same length, one after the other.
use Rattle.std.proofs.Common.{◌≡◌, ℕ, suc, ◌+◌, ◌*◌, List, [], ◌∷◌, ◌++◌, length, map, refl, sym, ap, ◌∙◌, arith}
use Rattle.std.specs.List.{flat_map, range_with_len}
use Rattle.std.proofs.lemmas.List.{append-nil, length-append}
use Rattle.std.proofs.lemmas.List.Concat.{flat_map-append}
use Rattle.std.proofs.lemmas.List.FromFn.{map-range_with_len_more}

map-id : (xs : List ℕ) → map (λ x. x) xs ≡ xs
map-id [] = refl
map-id (x ∷ xs) = ap (λ ys. x ∷ ys) (map-id xs)

range_more : (n : ℕ) → range_with_len 0 (n + 1) ≡ range_with_len 0 n ++ n ∷ []
range_more n =
    sym (map-id (range_with_len 0 (n + 1)))
    ∙ map-range_with_len_more (λ k. k) 0 n n (omega arith)
    ∙ ap (λ xs. xs ++ n ∷ []) (map-id (range_with_len 0 n))

pub one_more_row : {X : Type 0} (row : ℕ → List X) (n : ℕ) →
    flat_map row (range_with_len 0 (n + 1)) ≡ flat_map row (range_with_len 0 n) ++ row n
one_more_row row n =
    ap (flat_map row) (range_more n)
    ∙ flat_map-append row (range_with_len 0 n) (n ∷ [])
    ∙ ap (λ xs. flat_map row (range_with_len 0 n) ++ xs) (append-nil (row n))

-- rows of the same length, one after the other
pub rows_length : {X Y : Type 0} (row : X → List Y) (len : ℕ) → ((x : X) → length (row x) ≡ len) →
    (xs : List X) → length (flat_map row xs) ≡ length xs * len
rows_length row len each [] = let e : 0 ≡ 0 * len = omega arith in e
rows_length row len each (x ∷ xs) =
    let e : suc (length xs) * len ≡ len + length xs * len = omega arith in
    length-append (row x) (flat_map row xs) ∙ omega (arith, each x, rows_length row len each xs, e)
