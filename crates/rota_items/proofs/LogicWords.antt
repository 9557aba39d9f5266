-- Words of the logic: properties of each element of a list, sums and lengths of lists, and the results of loops.
use Rattle.rota_items.proofs.Common.Imports.{List, [], ◌∷◌, map, AllByRecursion, flat_map, AllByRecursion-append, AllByRecursion-concat_below}
use Rattle.rota_items.proofs.Common.Imports.{AllByRecursion-singleton_if, length-singleton_if, ◌≡◌, ℕ, ◌+◌, Bool, true, false, cond, refl, ap}
use Rattle.rota_items.proofs.Common.Imports.{arith, zero-add, sum_by, fold-map, sum_by-append, sum_by-cons, singleton_if, zero, suc, ◌*◌, ◌<◌}
use Rattle.rota_items.proofs.Common.Imports.{◌≤◌, length, ◌∙◌, count_by, list_any, list_any-append, mul-le, sum_below, count_below, any_below}
use Rattle.rota_items.proofs.Common.Imports.{length-concat_below, concat_below, ◌++◌, length-append, add-one, append-nil, take_all}
use Rattle.rota_items.proofs.Common.Imports.{flat_map-append, take_at_read, map-append, AllByRecursion-at, AllByRecursion-back, holds-where}
pub use Rattle.rota_core.proofs.LogicWords.{all-weaker}
use Rattle.rota_rules.proofs.LogicWords.{sum_below-same}
use Rattle.std.proofs.lemmas.List.Concat.{flat_map-cons}
use Rattle.std.proofs.lemmas.List.Sums.{sum_by_push}

-- ---- properties of each element of a list

pub all-map : {X Y : Type 0} (P : Y → Type 0) (f : X → Y) (xs : List X) → AllByRecursion (λ x. P (f x)) xs → AllByRecursion P (map f xs)
all-map P f [] all = tt
all-map P f (x ∷ xs) all = (all.0, all-map P f xs all.1)

pub all-back : {X Y : Type 0} (P : Y → Type 0) (f : X → Y) (xs : List X) → AllByRecursion P (map f xs) → AllByRecursion (λ x. P (f x)) xs
all-back P f [] all = tt
all-back P f (x ∷ xs) all = (all.0, all-back P f xs all.1)

pub all-both : {X : Type 0} (P Q R : X → Type 0) → ((x : X) → P x → Q x → R x) → (xs : List X) → AllByRecursion P xs →
    AllByRecursion Q xs → AllByRecursion R xs
all-both P Q R both [] p q = tt
all-both P Q R both (x ∷ xs) p q = (both x p.0 q.0, all-both P Q R both xs p.1 q.1)

pub all-flat_map : {X Y : Type 0} (P : Y → Type 0) (f : X → List Y) (xs : List X) → ((x : X) → AllByRecursion P (f x)) →
    AllByRecursion P (flat_map f xs)
all-flat_map P f [] each = tt
all-flat_map P f (x ∷ xs) each = AllByRecursion-append P (f x) (flat_map f xs) (each x) (all-flat_map P f xs each)

-- the length is at most the maximum, and P holds for each element
pub record AreFew {X : Type 0} (P : X → Type 0) (maximum : ℕ) (xs : List X) : Type 0 where
  pub each : AllByRecursion P xs
  pub few : length xs ≤ maximum

module _ {X : Type 0} {P : X → Type 0} where
  pub few-append : {a b maximum : ℕ} {xs ys : List X} → a + b ≤ maximum → AreFew P a xs → AreFew P b ys → AreFew P maximum (xs ++ ys)
  few-append {xs} {ys} within one other = record {
    each = AllByRecursion-append P xs ys one.each other.each;
    few = omega (arith, length-append xs ys);
  }

  pub few-concat_below : {n m : ℕ} (maximum : ℕ) → n ≤ maximum → (f : ℕ → List X) → ((i : ℕ) → i < n → AreFew P m (f i)) →
      AreFew P (maximum * m) (concat_below n f)
  few-concat_below {n} {m} maximum within f all = record {
    each = AllByRecursion-concat_below P n f (λ i below. (all i below).each);
    few = omega (arith, length-concat_below n m f (λ i below. (all i below).few), mul-le n m maximum m within (omega arith));
  }

  pub few-singleton_if : (test : Bool) (x : X) → (test ≡ true → P x) → AreFew P 1 (singleton_if test x)
  few-singleton_if test x holds = record { each = AllByRecursion-singleton_if P test x holds; few = length-singleton_if test x }

-- ---- sums and tests over lists

pub sum_by-map : {X Y : Type 0} (f : Y → ℕ) (g : X → Y) (xs : List X) → sum_by f (map g xs) ≡ sum_by (λ x. f (g x)) xs
sum_by-map f g xs = fold-map (λ sum y. sum + f y) g 0 xs

-- two sums whose terms are the same
pub sum_by-same : {X : Type 0} (f g : X → ℕ) (xs : List X) → AllByRecursion (λ x. f x ≡ g x) xs → sum_by f xs ≡ sum_by g xs
sum_by-same f g [] same = refl
sum_by-same f g (x ∷ xs) same = omega (arith, sum_by-cons f x xs, sum_by-cons g x xs, same.0, sum_by-same f g xs same.1)

pub sum_by-singleton_if : {X : Type 0} (f : X → ℕ) (test : Bool) (x : X) → sum_by f (singleton_if test x) ≡ cond test (f x) 0
unfolding singleton_if
sum_by-singleton_if f true x = zero-add (f x)
sum_by-singleton_if f false x = refl

pub sum_by-flat_map : {X Y : Type 0} (f : Y → ℕ) (g : X → List Y) (xs : List X) →
    sum_by f (flat_map g xs) ≡ sum_by (λ x. sum_by f (g x)) xs
sum_by-flat_map f g [] = refl
sum_by-flat_map f g (x ∷ xs) =
    omega (arith, sum_by-append f (g x) (flat_map g xs), sum_by-cons (λ x. sum_by f (g x)) x xs, sum_by-flat_map f g xs)

-- ---- sizes

-- the length of the lists that loops make
pub length-at_most : {A : Type 0} {n m : ℕ} (maximum : ℕ) → n ≤ maximum → (f : ℕ → List A) → ((i : ℕ) → length (f i) ≤ m) →
    length (concat_below n f) ≤ maximum * m
length-at_most {A} {n} {m} maximum few f small =
    omega (arith, length-concat_below n m f (λ i _. small i), mul-le n m maximum m few (omega arith))

-- ---- lists made by loops

pub sum_by-each : {X : Type 0} (f : X → ℕ) (n : ℕ) (g : ℕ → List X) → sum_by f (concat_below n g) ≡ sum_below n (λ i. sum_by f (g i))
unfolding concat_below sum_below
sum_by-each f zero g = refl
sum_by-each f (suc n) g = omega (arith, sum_by-append f (concat_below n g) (g n), sum_by-each f n g)

pub sum_by-each-is : {X : Type 0} (f : X → ℕ) (n : ℕ) (g : ℕ → List X) (h : ℕ → ℕ) →
    ((i : ℕ) → i < n → sum_by f (g i) ≡ h i) → sum_by f (concat_below n g) ≡ sum_below n h
sum_by-each-is f n g h each = sum_by-each f n g ∙ sum_below-same n (λ i. sum_by f (g i)) h each

-- and the same with a factor
pub sum_by-each-times : {X : Type 0} (f : X → ℕ) (n w : ℕ) (g : ℕ → List X) (h : ℕ → ℕ) →
    ((i : ℕ) → i < n → sum_by f (g i) ≡ w * h i) → sum_by f (concat_below n g) ≡ w * sum_below n h
unfolding concat_below sum_below
sum_by-each-times f zero w g h each = omega arith
sum_by-each-times f (suc n) w g h each =
    omega (arith, sum_by-append f (concat_below n g) (g n), each n (omega arith), sum_by-each-times f n w g h (λ i below. each i (omega arith)))

pub count_by-each : {X : Type 0} (test : X → Bool) (n : ℕ) (x : ℕ → X) →
    count_by test (concat_below n (λ i. x i ∷ [])) ≡ count_below n (λ i. test (x i))
count_by-each test n x =
    sum_by-each-is (λ y. cond (test y) 1 0) n (λ i. x i ∷ []) (λ i. cond (test (x i)) 1 0)
    (λ i _. zero-add (cond (test (x i)) 1 0))

pub list_any-each : {X : Type 0} (p : X → Bool) (n : ℕ) (g : ℕ → List X) →
    list_any p (concat_below n g) ≡ any_below n (λ i. list_any p (g i))
unfolding concat_below any_below
list_any-each p zero g = refl
list_any-each p (suc n) g = rw (list_any-append, list_any-each p n g) refl

-- ---- the count or sum of a loop

-- the sum of numbers, one for each turn
abbrev pub SumOfEach : ℕ → ℕ → (ℕ → ℕ) → ℕ → Type 0
SumOfEach turns maximum number sum = (sum ≡ sum_below turns number) × (sum ≤ turns * maximum)

pub sum_below-none : (number : ℕ → ℕ) → sum_below 0 number ≡ 0
unfolding sum_below
sum_below-none number = refl

pub sum_below-more : (n : ℕ) (number : ℕ → ℕ) → sum_below (n + 1) number ≡ sum_below n number + number n
unfolding sum_below
sum_below-more n number = rw add-one refl

pub ruleset counting = (sum_below-none, sum_below-more)

-- ---- lengths

-- the same length for each turn
pub length-each-is : {A : Type 0} (n long : ℕ) (f : ℕ → List A) → ((i : ℕ) → i < n → length (f i) ≡ long) →
    length (concat_below n f) ≡ n * long
unfolding concat_below
length-each-is zero long f each = omega arith
length-each-is (suc n) long f each = grind (arith, length-append, each, length-each-is n long f)

-- the two parts that each turn of a loop adds
pub length-each_below_both : {A : Type 0} (n : ℕ) (f g : ℕ → List A) →
    length (concat_below n (λ i. f i ++ g i)) ≡ length (concat_below n f) + length (concat_below n g)
unfolding concat_below
length-each_below_both zero f g = refl
length-each_below_both (suc n) f g = simp length-append (omega (arith, length-each_below_both n f g))

-- ---- the sum of a loop over a list

-- the rules that a loop over a list needs
pub ruleset listing = (take_at_read, take_all, flat_map-append, flat_map-cons, append-nil, sum_by_push)

pub map-concat_below : {A B : Type 0} (f : A → B) (n : ℕ) (g : ℕ → List A) → map f (concat_below n g) ≡ concat_below n (λ i. map f (g i))
unfolding concat_below
map-concat_below f zero g = refl
map-concat_below f (suc n) g = map-append f (concat_below n g) (g n) ∙ ap (λ xs. xs ++ map f (g n)) (map-concat_below f n g)

-- ---- the elements of lists made by loops, with properties of each element, turn by turn

-- a property of each element of a family is a property of each element of the list, and the other way round
pub record Are {A : Type 0} (xs : List A) (Each : (A → Type 0) → Type 0) : Type 1 where
  pub all : (P : A → Type 0) → Each P → AllByRecursion P xs
  pub each : (P : A → Type 0) → AllByRecursion P xs → Each P

module _ {A : Type 0} where
  -- the elements of the turns of a loop
  pub in-turns : {n : ℕ} {f : ℕ → List A} {Each : ℕ → (A → Type 0) → Type 0} → ((i : ℕ) → Are (f i) (Each i)) →
      Are (concat_below n f) (λ P. (i : ℕ) → i < n → Each i P)
  in-turns {n} {f} {Each} turns = record {
    all = λ P each. AllByRecursion-concat_below P n f (λ i i_in. (turns i).all P (each i i_in));
    each = λ P all i i_in. (turns i).each P (AllByRecursion-at P n f all i i_in);
  }

  pub where-holds : {test : Bool} {x : A} → Are (singleton_if test x) (λ P. test ≡ true → P x)
  where-holds {test} {x} = record { all = λ P each. AllByRecursion-singleton_if P test x each; each = λ P all. holds-where P test x all }

  pub listed : (xs : List A) → Are xs (λ P. AllByRecursion P xs)
  listed xs = record { all = λ P each. each; each = λ P all. all }

  pub alone : {x : A} → Are (x ∷ []) (λ P. P x)
  alone {x} = record { all = λ P each. (each, tt); each = λ P all. all.0 }

  pub in-parts : {xs ys : List A} {Each Other : (A → Type 0) → Type 0} → Are xs Each → Are ys Other →
      Are (xs ++ ys) (λ P. Each P × Other P)
  in-parts {xs} {ys} {Each} {Other} first second = record {
    all = λ P each. AllByRecursion-append P xs ys (first.all P each.0) (second.all P each.1);
    each = λ P all. let parts = AllByRecursion-back P xs ys all in (first.each P parts.0, second.each P parts.1);
  }

  pub of-each : {B : Type 0} {f : B → A} {xs : List B} {Each : (B → Type 0) → Type 0} → Are xs Each →
      Are (map f xs) (λ P. Each (λ x. P (f x)))
  of-each {B} {f} {xs} elements = record {
    all = λ P each. all-map P f xs (elements.all (λ x. P (f x)) each);
    each = λ P all. elements.each (λ x. P (f x)) (all-back P f xs all);
  }
