-- Sums, tests and minimums over the numbers below a number.
use Rattle.std.proofs.Common.{◌≡◌, ℕ, zero, suc, ◌+◌, ◌*◌, ◌<◌, ◌≤◌, ◌≢◌, ◌⊎◌, inl, inr, Bool, true, false, ◌||◌, refl, ap, sym, ◌∙◌, arith, min, add-one}
use Rattle.std.proofs.lemmas.Bool.{cases_Bool}
use Rattle.rota_core.specs.SumsBelow.{sum_below, any_below}
pub use Rattle.rota_rules.proofs.LogicWords.{sum_below-plus, sum_below-same, sum_below-zero}
use Rattle.rota_certificate.specs.Minimums.{least_below}

-- ---- sums

pub sum-le : (n : ℕ) (f g : ℕ → ℕ) → ((i : ℕ) → i < n → f i ≤ g i) → sum_below n f ≤ sum_below n g
unfolding sum_below
sum-le zero f g le = omega arith
sum-le (suc n) f g le = omega (arith, sum-le n f g (λ i below. le i (omega arith)), le n (omega arith))

pub sum-times : (n w : ℕ) (f : ℕ → ℕ) → sum_below n (λ i. w * f i) ≡ w * sum_below n f
unfolding sum_below
sum-times zero w f = omega arith
sum-times (suc n) w f = omega (arith, sum-times n w f)

pub sum-each : (n c : ℕ) → sum_below n (λ i. c) ≡ n * c
unfolding sum_below
sum-each zero c = omega arith
sum-each (suc n) c = omega (arith, sum-each n c)

-- the order of two sums does not matter
pub sum-swap : (m n : ℕ) (f : ℕ → ℕ → ℕ) → sum_below m (λ i. sum_below n (λ j. f i j)) ≡ sum_below n (λ j. sum_below m (λ i. f i j))
unfolding sum_below
sum-swap zero n f = sym (sum_below-zero n (λ j. 0) (λ i below. refl))
sum-swap (suc m) n f = omega (arith, sum-swap m n f, sum_below-plus n (λ j. sum_below m (λ i. f i j)) (f m))

-- a number below n + 1 is n, or below n
pub last_or_before : (i n : ℕ) → i < suc n → (i ≡ n) ⊎ (i < n)
last_or_before i n below = grind arith

-- a sum with only one term that is not 0
pub sum-at : (n i : ℕ) (f : ℕ → ℕ) → i < n → ((j : ℕ) → j < n → j ≢ i → f j ≡ 0) → sum_below n f ≡ f i
unfolding sum_below
sum-at zero i f below none = absurd (omega arith)
sum-at (suc n) i f below none =
    elim (last_or_before i n below) [
      | inl last ↦
          let rest : sum_below n f ≡ 0 = sum_below-zero n f (λ j j_below. none j (omega arith) (λ same. omega arith)) in
          omega (arith, rest, ap f last)
      | inr before ↦ omega (arith, sum-at n i f before (λ j j_below other. none j (omega arith) other), none n (omega arith) (λ same. omega arith))
    ]

-- a sum with only two terms that are not 0
pub sum-two : (n i j : ℕ) (f : ℕ → ℕ) → i < n → j < n → i ≢ j → ((m : ℕ) → m < n → m ≢ i → m ≢ j → f m ≡ 0) → sum_below n f ≡ f i + f j
unfolding sum_below
sum-two zero i j f i_in j_in differ none = absurd (omega arith)
sum-two (suc n) i j f i_in j_in differ none =
    elim (last_or_before i n i_in) [
      | inl last ↦
          let below : j < n = grind (arith, last, differ, j_in) in
          let rest = sum-at n j f below (λ m m_in other. none m (omega arith) (λ same. omega (arith, same, last, m_in)) other) in
          omega (arith, rest, ap f last)
      | inr before ↦
          elim (last_or_before j n j_in) [
            | inl last ↦
                let rest = sum-at n i f before (λ m m_in other. none m (omega arith) other (λ same. omega (arith, same, last, m_in))) in
                omega (arith, rest, ap f last)
            | inr also ↦
                omega (
                  arith,
                  sum-two n i j f before also differ (λ m m_in one other. none m (omega arith) one other),
                  none n (omega arith) (λ same. omega (arith, same, before)) (λ same. omega (arith, same, also)),
                )
          ]
    ]

-- ---- sums over days, shift types and skills

module _ (D S K : ℕ) where
  -- the sum over all places
  abbrev pub cube : (ℕ → ℕ → ℕ → ℕ) → ℕ
  cube f = sum_below D (λ d. sum_below S (λ s. sum_below K (λ k. f d s k)))

  pub cube-same : (f g : ℕ → ℕ → ℕ → ℕ) → ((d s k : ℕ) → d < D → s < S → k < K → f d s k ≡ g d s k) → cube f ≡ cube g
  cube-same f g same =
      sum_below-same D _ _ (λ d d_in. sum_below-same S _ _ (λ s s_in. sum_below-same K (f d s) (g d s) (λ k k_in. same d s k d_in s_in k_in)))

  pub cube-le : (f g : ℕ → ℕ → ℕ → ℕ) → ((d s k : ℕ) → d < D → s < S → k < K → f d s k ≤ g d s k) → cube f ≤ cube g
  cube-le f g le =
      sum-le D _ _ (λ d d_in. sum-le S _ _ (λ s s_in. sum-le K (f d s) (g d s) (λ k k_in. le d s k d_in s_in k_in)))

  pub cube-plus : (f g : ℕ → ℕ → ℕ → ℕ) → cube (λ d s k. f d s k + g d s k) ≡ cube f + cube g
  cube-plus f g =
      sum_below-same D _ _ (λ d _. sum_below-same S _ _ (λ s _. sum_below-plus K (f d s) (g d s)) ∙
      sum_below-plus S (λ s. sum_below K (f d s)) (λ s. sum_below K (g d s))) ∙
      sum_below-plus D (λ d. sum_below S (λ s. sum_below K (f d s))) (λ d. sum_below S (λ s. sum_below K (g d s)))

  pub cube-times : (w : ℕ) (f : ℕ → ℕ → ℕ → ℕ) → cube (λ d s k. w * f d s k) ≡ w * cube f
  cube-times w f =
      sum_below-same D _ _ (λ d _. sum_below-same S _ _ (λ s _. sum-times K w (f d s)) ∙ sum-times S w (λ s. sum_below K (f d s))) ∙
      sum-times D w (λ d. sum_below S (λ s. sum_below K (f d s)))

  -- the sum over all places and nurses, in either order
  pub cube-swap : (N : ℕ) (f : ℕ → ℕ → ℕ → ℕ → ℕ) →
      cube (λ d s k. sum_below N (λ n. f n d s k)) ≡ sum_below N (λ n. cube (f n))
  cube-swap N f =
      sum_below-same D _ _ (λ d _.
      sum_below-same S _ _ (λ s _. sum-swap K N (λ k n. f n d s k)) ∙ sum-swap S N (λ s n. sum_below K (λ k. f n d s k))) ∙
      sum-swap D N (λ d n. sum_below S (λ s. sum_below K (λ k. f n d s k)))

-- ---- loops

-- facts for the loops that sum, test or take a minimum
pub sum-none : (f : ℕ → ℕ) → sum_below 0 f ≡ 0
unfolding sum_below
sum-none f = refl

pub sum-more : (n : ℕ) (f : ℕ → ℕ) → sum_below (n + 1) f ≡ sum_below n f + f n
unfolding sum_below
sum-more n f = rw add-one refl

pub any-empty : (p : ℕ → Bool) → any_below 0 p ≡ false
unfolding any_below
any-empty p = refl

pub any-more : (n : ℕ) (p : ℕ → Bool) → any_below (n + 1) p ≡ (any_below n p || p n)
unfolding any_below
any-more n p = rw add-one refl

pub least-none : (start : ℕ) (f : ℕ → ℕ) → least_below 0 start f ≡ start
unfolding least_below
least-none start f = refl

pub least-more : (n start : ℕ) (f : ℕ → ℕ) → least_below (n + 1) start f ≡ min (least_below n start f) (f n)
unfolding least_below
least-more n start f = rw add-one refl

pub ruleset looping = (sum-none, sum-more, any-empty, any-more, least-none, least-more)

-- ---- tests

pub any-none : (n : ℕ) (p : ℕ → Bool) → ((i : ℕ) → i < n → p i ≡ false) → any_below n p ≡ false
unfolding any_below
any-none zero p none = refl
any-none (suc n) p none = rw (any-none n p (λ i below. none i (omega arith)), none n (omega arith)) refl

pub any-at : (n i : ℕ) (p : ℕ → Bool) → i < n → p i ≡ true → any_below n p ≡ true
unfolding any_below
any-at zero i p below holds = absurd (omega arith)
any-at (suc n) i p below holds =
    elim (last_or_before i n below) [
      | inl last ↦ let here : p n ≡ true = sym (ap p last) ∙ holds in grind (arith, here)
      | inr before ↦ grind (arith, any-at n i p before holds)
    ]

-- the test fails at each number, or holds at one
pub find-below : (n : ℕ) (p : ℕ → Bool) → ((i : ℕ) → i < n → p i ≡ false) ⊎ ((i : ℕ) × (i < n) × (p i ≡ true))
find-below zero p = inl (λ i below. absurd (omega arith))
find-below (suc n) p =
    elim (find-below n p) [
      | inr found ↦ inr (found.0, omega (arith, found.1), found.2)
      | inl none ↦
          elim (cases_Bool (p n)) [
            | inl holds ↦ inr (n, omega arith, holds)
            | inr fails ↦
                inl (λ i below. elim (last_or_before i n below) [ inl last ↦ ap p last ∙ fails | inr before ↦ none i before ])
          ]
    ]

pub any-some : (n : ℕ) (p : ℕ → Bool) → any_below n p ≡ true → (i : ℕ) × (i < n) × (p i ≡ true)
any-some n p some =
    elim (find-below n p) [
      | inl none ↦ absurd (cc (any-none n p none))
      | inr found ↦ found
    ]

-- ---- minimums

pub least-same : (n start : ℕ) (f g : ℕ → ℕ) → ((i : ℕ) → f i ≡ g i) → least_below n start f ≡ least_below n start g
unfolding least_below
least-same zero start f g same = refl
least-same (suc n) start f g same = ap (λ (m : ℕ). min m (f n)) (least-same n start f g same) ∙ ap (λ (v : ℕ). min (least_below n start g) v) (same n)

pub least-start : (n start : ℕ) (f : ℕ → ℕ) → least_below n start f ≤ start
unfolding least_below
least-start zero start f = omega arith
least-start (suc n) start f = omega (arith, least-start n start f)

pub least-at : (n start i : ℕ) (f : ℕ → ℕ) → i < n → least_below n start f ≤ f i
unfolding least_below
least-at zero start i f below = absurd (omega arith)
least-at (suc n) start i f below =
    elim (last_or_before i n below) [
      | inl last ↦ omega (arith, ap f last)
      | inr before ↦ omega (arith, least-at n start i f before)
    ]
