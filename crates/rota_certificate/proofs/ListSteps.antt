-- A list from an index on: its first element and the rest; a property of each element.
use Rattle.std.proofs.Common.{◌≡◌, ℕ, zero, suc, ◌+◌, ◌<◌, ap, sym, ◌∙◌, subst, arith, List, [], ◌∷◌, ◌++◌, length, drop, reverse, slice_index_or}
use Rattle.std.specs.List.{AllByRecursion}
use Rattle.std.proofs.lemmas.List.{drop_more, reverse-append}

module _ {X : Type 0} where
  pub list-more : (xs : List X) (i : ℕ) (x : X) → i < length xs → x ≡ slice_index_or xs i x → drop i xs ≡ (x ∷ drop (i + 1) xs)
  list-more xs i x inside is = drop_more xs i x inside ∙ ap (λ (y : X). y ∷ drop (i + 1) xs) (sym is)

  pub all-of : (P : X → Type 0) (xs : List X) (i : ℕ) (d : X) → AllByRecursion P xs → i < length xs → P (slice_index_or xs i d)
  all-of P [] i d all inside = absurd (omega (arith, inside))
  all-of P (x ∷ xs) zero d all inside = all.0
  all-of P (x ∷ xs) (suc i) d all inside = all-of P xs i d all.1 (omega (arith, inside))

  pub each-at : (P : X → Type 0) (xs : List X) (i : ℕ) (x : X) → AllByRecursion P xs → i < length xs → x ≡ slice_index_or xs i x → P x
  each-at P xs i x all inside is = subst P (sym is) (all-of P xs i x all inside)

-- a property of each element
module _ {X : Type 0} (P : X → Type 0) where
  pub all-append : (xs ys : List X) → AllByRecursion P xs → AllByRecursion P ys → AllByRecursion P (xs ++ ys)
  all-append [] ys all more = more
  all-append (x ∷ xs) ys all more = (all.0, all-append xs ys all.1 more)

  pub all-reverse : (xs : List X) → AllByRecursion P xs → AllByRecursion P (reverse xs)
  all-reverse [] all = tt
  all-reverse (x ∷ xs) all =
      subst (λ (list : List X). AllByRecursion P list) (sym (reverse-append (x ∷ []) xs))
      (all-append (reverse xs) (x ∷ []) (all-reverse xs all.1) (all.0, tt))
