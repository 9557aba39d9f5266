-- Words of the logic: sums and tests over the numbers below a number.
use Rattle.std.proofs.Common.{◌≡◌, ℕ, zero, suc, ◌+◌, ◌*◌, ◌<◌, ◌≤◌, Bool, true, List, refl, ap, arith}
use Rattle.std.specs.List.{sum_by}
use Rattle.std.proofs.lemmas.Nat.{mul-le}
use Rattle.rota_core.specs.SumsBelow.{any_below, sum_below}

pub sum_below-same : (n : ℕ) (f g : ℕ → ℕ) → ((i : ℕ) → i < n → f i ≡ g i) → sum_below n f ≡ sum_below n g
unfolding sum_below
sum_below-same zero f g same = refl
sum_below-same (suc n) f g same = rw (sum_below-same n f g (λ i below. same i (omega arith)), same n (omega arith)) refl

pub sum_below-plus : (n : ℕ) (f g : ℕ → ℕ) → sum_below n (λ i. f i + g i) ≡ sum_below n f + sum_below n g
unfolding sum_below
sum_below-plus zero f g = refl
sum_below-plus (suc n) f g = omega (arith, sum_below-plus n f g)

pub sum_below-within : (n m : ℕ) (f : ℕ → ℕ) → ((i : ℕ) → i < n → f i ≤ m) → sum_below n f ≤ n * m
unfolding sum_below
sum_below-within zero m f small = omega arith
sum_below-within (suc n) m f small = grind (arith, small, sum_below-within n m f)

pub sum_below-zero : (n : ℕ) (f : ℕ → ℕ) → ((i : ℕ) → i < n → f i ≡ 0) → sum_below n f ≡ 0
sum_below-zero n f none = omega (arith, sum_below-within n 0 f (λ i below. omega (arith, none i below)))

pub sum_below-at_most : (n maximum m : ℕ) (f : ℕ → ℕ) → n ≤ maximum → ((i : ℕ) → f i ≤ m) → sum_below n f ≤ maximum * m
sum_below-at_most n maximum m f few small = omega (arith, sum_below-within n m f (λ i _. small i), mul-le n m maximum m few (omega arith))

pub sum_by-each-same : {X : Type 0} (f g : X → ℕ) → ((x : X) → f x ≡ g x) → (xs : List X) → sum_by f xs ≡ sum_by g xs
sum_by-each-same f g each xs = ap (λ h. sum_by h xs) (λ i x. each x i)

pub any_below-same : (n : ℕ) (p q : ℕ → Bool) → ((i : ℕ) → i < n → p i ≡ q i) → any_below n p ≡ any_below n q
unfolding any_below
any_below-same zero p q same = refl
any_below-same (suc n) p q same = rw (any_below-same n p q (λ i below. same i (omega arith)), same n (omega arith)) refl

-- a test that holds of more
pub any_below-more : (n : ℕ) (p q : ℕ → Bool) → ((i : ℕ) → i < n → p i ≡ true → q i ≡ true) → any_below n p ≡ true → any_below n q ≡ true
unfolding any_below
any_below-more zero p q more some = some
any_below-more (suc n) p q more some = grind (arith, any_below-more n p q (λ i below. more i (omega arith)), more n (omega arith))
