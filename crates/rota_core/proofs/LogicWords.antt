-- Words of the logic: lists made by loops, properties of each element of a list, and lists whose numbers rise.
use Rattle.std.proofs.Common.{◌≡◌, ℕ, zero, suc, ◌+◌, ◌*◌, ◌<◌, ◌≤◌, Bool, true, false, ◌⊎◌, inl, inr, refl, sym, subst, arith, add-one}
use Rattle.std.proofs.Common.{List, [], ◌∷◌, ◌++◌, map, length}
use Rattle.std.specs.List.{AllByRecursion, range_with_len}
use Rattle.std.proofs.Math.Nat.{suc-mul}
use Rattle.std.proofs.lemmas.List.{append-nil, append_assoc, length-append}
use Rattle.rota_core.specs.Lists.{concat_below, singleton_if}
use Rattle.rota_core.specs.RisingLists.{RisesWithin}

pub concat_below-zero : {A : Type 0} (f : ℕ → List A) → concat_below 0 f ≡ []
unfolding concat_below
concat_below-zero f = refl

pub concat_below-more : {A : Type 0} (n : ℕ) (f : ℕ → List A) → concat_below (n + 1) f ≡ concat_below n f ++ f n
unfolding concat_below
concat_below-more n f = rw add-one refl

pub singleton_if-holds : {A : Type 0} (test : Bool) (x : A) → test ≡ true → singleton_if test x ≡ x ∷ []
unfolding singleton_if
singleton_if-holds test x e = rw e refl

pub singleton_if-fails : {A : Type 0} (test : Bool) (x : A) → test ≡ false → singleton_if test x ≡ []
unfolding singleton_if
singleton_if-fails test x e = rw e refl

concat_below-join : {A : Type 0} (m n : ℕ) (f : ℕ → List A) → concat_below (m + n) f ≡ concat_below m f ++ concat_below n (λ j. f (m + j))
unfolding concat_below
concat_below-join m zero f = let e : m + 0 ≡ m = omega arith in rw e (sym (append-nil (concat_below m f)))
concat_below-join m (suc n) f =
    let e : m + suc n ≡ suc (m + n) = omega arith in
    rw (e, concat_below-join m n f, append_assoc) refl

-- a loop over the indices of a grid is a loop over its rows and columns
pub concat_below-grid : {A : Type 0} (m n : ℕ) (f : ℕ → List A) →
    concat_below (m * n) f ≡ concat_below m (λ i. concat_below n (λ j. f (i * n + j)))
unfolding concat_below
concat_below-grid zero n f = let e : 0 * n ≡ 0 = omega arith in rw e refl
concat_below-grid (suc m) n f = rw (suc-mul m n, concat_below-join (m * n) n f, concat_below-grid m n f) refl

-- lists whose turns are the same
pub concat_below-same : {A : Type 0} (n : ℕ) (f g : ℕ → List A) → ((i : ℕ) → i < n → f i ≡ g i) → concat_below n f ≡ concat_below n g
unfolding concat_below
concat_below-same zero f g same = refl
concat_below-same (suc n) f g same =
    rw (concat_below-same n f g (λ i below. same i (omega arith)), same n (omega arith)) refl

-- a turn is the last one, or one before it
pub last_or_before : (i n : ℕ) → i < suc n → (i ≡ n) ⊎ (i < n)
last_or_before i n below = grind arith

-- if a property of the turns before one also holds with that turn, and for each longer list, it holds for all the turns
pub in_turn : {A : Type 0} (P : List A → Type 0) → ((xs ys : List A) → P xs → P (xs ++ ys)) → (i n : ℕ) (f : ℕ → List A) →
    i < n → P (concat_below i f ++ f i) → P (concat_below n f)
unfolding concat_below
in_turn P longer i zero f below here = absurd (omega arith)
in_turn P longer i (suc n) f below here =
    elim (last_or_before i n below) [
      | inl last ↦ subst (λ k. P (concat_below k f ++ f k)) last here
      | inr before ↦ longer (concat_below n f) (f n) (in_turn P longer i n f before here)
    ]

-- ---- lengths

pub length-concat_below : {A : Type 0} (n maximum : ℕ) (f : ℕ → List A) → ((i : ℕ) → i < n → length (f i) ≤ maximum) →
    length (concat_below n f) ≤ n * maximum
unfolding concat_below
length-concat_below zero maximum f few = omega arith
length-concat_below (suc n) maximum f few =
    rw length-append (omega (arith, length-concat_below n maximum f (λ i below. few i (omega arith)), few n (omega arith)))

pub length-singleton_if : {A : Type 0} (test : Bool) (x : A) → length (singleton_if test x) ≤ 1
unfolding singleton_if
length-singleton_if true x = omega arith
length-singleton_if false x = omega arith

-- ---- properties of each element

pub AllByRecursion-append : {X : Type 0} (P : X → Type 0) (xs ys : List X) →
    AllByRecursion P xs → AllByRecursion P ys → AllByRecursion P (xs ++ ys)
AllByRecursion-append P [] ys all_xs all_ys = all_ys
AllByRecursion-append P (x ∷ xs) ys all_xs all_ys = (all_xs.0, AllByRecursion-append P xs ys all_xs.1 all_ys)

pub AllByRecursion-back : {X : Type 0} (P : X → Type 0) (xs ys : List X) → AllByRecursion P (xs ++ ys) →
    AllByRecursion P xs × AllByRecursion P ys
AllByRecursion-back P [] ys all = (tt, all)
AllByRecursion-back P (x ∷ xs) ys all =
    let rest : AllByRecursion P xs × AllByRecursion P ys = AllByRecursion-back P xs ys all.1 in
    ((all.0, rest.0), rest.1)

pub AllByRecursion-concat_below : {X : Type 0} (P : X → Type 0) (n : ℕ) (f : ℕ → List X) →
    ((i : ℕ) → i < n → AllByRecursion P (f i)) → AllByRecursion P (concat_below n f)
unfolding concat_below
AllByRecursion-concat_below P zero f each = tt
AllByRecursion-concat_below P (suc n) f each =
    AllByRecursion-append P (concat_below n f) (f n)
    (AllByRecursion-concat_below P n f (λ i below. each i (omega arith))) (each n (omega arith))

pub AllByRecursion-at : {X : Type 0} (P : X → Type 0) (n : ℕ) (f : ℕ → List X) →
    AllByRecursion P (concat_below n f) → (i : ℕ) → i < n → AllByRecursion P (f i)
unfolding concat_below
AllByRecursion-at P zero f all i below = absurd (omega arith)
AllByRecursion-at P (suc n) f all i below =
    elim (last_or_before i n below) [
      | inl last ↦ subst (λ j. AllByRecursion P (f j)) (sym last) (AllByRecursion-back P (concat_below n f) (f n) all).1
      | inr before ↦ AllByRecursion-at P n f (AllByRecursion-back P (concat_below n f) (f n) all).0 i before
    ]

-- an element that is in the list only if a test holds
pub AllByRecursion-singleton_if : {X : Type 0} (P : X → Type 0) (test : Bool) (x : X) → (test ≡ true → P x) →
    AllByRecursion P (singleton_if test x)
unfolding singleton_if
AllByRecursion-singleton_if P true x holds = (holds refl, tt)
AllByRecursion-singleton_if P false x holds = tt

pub holds-where : {X : Type 0} (P : X → Type 0) (test : Bool) (x : X) → AllByRecursion P (singleton_if test x) → test ≡ true → P x
unfolding singleton_if
holds-where P true x all test_is = all.0
holds-where P false x all test_is = cc

pub all-weaker : {X : Type 0} (P Q : X → Type 0) → ((x : X) → P x → Q x) → (xs : List X) → AllByRecursion P xs → AllByRecursion Q xs
all-weaker P Q weaker [] all = tt
all-weaker P Q weaker (x ∷ xs) all = (weaker x all.0, all-weaker P Q weaker xs all.1)

-- ---- numbers that rise

module _ {X : Type 0} (number : X → ℕ) where
  pub weaken : (first later end : ℕ) (xs : List X) → first ≤ later → RisesWithin number later end xs → RisesWithin number first end xs
  weaken first later end [] before rises = omega (arith, rises)
  weaken first later end (x ∷ xs) before rises = (omega (arith, rises.0), rises.1)

  pub widen : (first end further : ℕ) (xs : List X) → end ≤ further → RisesWithin number first end xs → RisesWithin number first further xs
  widen first end further [] after rises = omega (arith, rises)
  widen first end further (x ∷ xs) after rises = (rises.0, widen (number x + 1) end further xs after rises.1)

  pub rises-append : (first middle end : ℕ) (xs ys : List X) → RisesWithin number first middle xs → RisesWithin number middle end ys →
      RisesWithin number first end (xs ++ ys)
  rises-append first middle end [] ys one other = weaken first middle end ys one other
  rises-append first middle end (x ∷ xs) ys one other =
      (one.0, rises-append (number x + 1) middle end xs ys one.1 other)

  pub rises-in : (first from end up_to : ℕ) (xs : List X) → first ≤ from → end ≤ up_to → RisesWithin number from end xs →
      RisesWithin number first up_to xs
  rises-in first from end up_to xs before after rises = weaken first from up_to xs before (widen from end up_to xs after rises)

  -- the turns of a loop rise if each keeps to its own block of numbers
  pub rises-blocks : (first end n : ℕ) (g : ℕ → List X) (block : ℕ → ℕ) → first ≤ block 0 → block n ≤ end →
      ((i : ℕ) → i < n → RisesWithin number (block i) (block (i + 1)) (g i)) → RisesWithin number first end (concat_below n g)
  unfolding concat_below
  rises-blocks first end zero g block from up_to each = omega arith
  rises-blocks first end (suc n) g block from up_to each =
      rises-append first (block n) end (concat_below n g) (g n)
      (rises-blocks first (block n) n g block from (omega arith) (λ i below. each i (omega arith)))
      (widen (block n) (block (n + 1)) end (g n) (rw add-one up_to) (each n (omega arith)))

  pub rises-each : (n : ℕ) (g : ℕ → List X) (block : ℕ → ℕ) →
      ((i : ℕ) → i < n → RisesWithin number (block i) (block (i + 1)) (g i)) →
      RisesWithin number (block 0) (block n) (concat_below n g)
  rises-each n g block each = rises-blocks (block 0) (block n) n g block (omega arith) (omega arith) each

  pub rises-singleton_if : (first end : ℕ) (test : Bool) (x : X) → first ≤ number x → number x + 1 ≤ end →
      RisesWithin number first end (singleton_if test x)
  unfolding singleton_if
  rises-singleton_if first end true x from up_to = (from, up_to)
  rises-singleton_if first end false x from up_to = omega arith

  -- rising elements are no more than the numbers between the ends; if there are equally many, their numbers are these numbers
  pub length-rising : (first end : ℕ) (xs : List X) → RisesWithin number first end xs → first + length xs ≤ end
  length-rising first end [] rises = omega (arith, rises)
  length-rising first end (x ∷ xs) rises = omega (arith, rises.0, length-rising (number x + 1) end xs rises.1)

  pub numbers-rising : (first from end : ℕ) (xs : List X) → RisesWithin number from end xs → first ≤ from →
      end ≤ first + length xs → map number xs ≡ range_with_len first (length xs)
  numbers-rising first from end [] rises low high = refl
  numbers-rising first from end (x ∷ xs) rises low high =
      let here : number x ≡ first = omega (arith, rises.0, length-rising (number x + 1) end xs rises.1) in
      rw (numbers-rising (first + 1) (number x + 1) end xs rises.1 (omega arith) (omega arith), here) refl

pub rises-map : {X Y : Type 0} (number : Y → ℕ) (f : X → Y) (first end : ℕ) (xs : List X) →
    RisesWithin (λ x. number (f x)) first end xs → RisesWithin number first end (map f xs)
rises-map number f first end [] rises = rises
rises-map number f first end (x ∷ xs) rises = (rises.0, rises-map number f (number (f x) + 1) end xs rises.1)
