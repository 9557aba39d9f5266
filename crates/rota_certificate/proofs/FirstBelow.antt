-- The first of the numbers below n that passes a test.
use Rattle.std.proofs.Common.{◌≡◌, ℕ, zero, suc, ◌+◌, ◌<◌, inl, inr, Bool, true, false, refl, ap, sym, ◌∙◌, arith, add-one}
use Rattle.std.specs.Prelude.{IfSome, Option, Some, None, is_some, not, ◌||◌}
use Rattle.rota_core.specs.SumsBelow.{any_below}
use Rattle.std.proofs.lemmas.Bool.{eq-eqb, eqb-true}
use Rattle.rota_certificate.specs.FirstBelow.{first_below, or_this}
use Rattle.rota_certificate.specs.DayCharges.{is_shift}
use Rattle.rota_certificate.proofs.Sums.{last_or_before}

pub first-empty : (test : ℕ → Bool) → first_below 0 test ≡ None
unfolding first_below
first-empty test = refl

pub first-more : (n : ℕ) (test : ℕ → Bool) → first_below (n + 1) test ≡ or_this (first_below n test) n (test n)
unfolding first_below
first-more n test = rw add-one refl

pub ruleset searching = (first-empty, first-more)

-- the meaning of the found number for the test
abbrev pub FirstIs : ℕ → (ℕ → Bool) → Option ℕ → Type 0
FirstIs n test None = (i : ℕ) → i < n → test i ≡ false
FirstIs n test (Some i) = (i < n) × (test i ≡ true) × ((j : ℕ) → j < i → test j ≡ false)

next : (n : ℕ) (test : ℕ → Bool) (found : Option ℕ) (passes : Bool) → test n ≡ passes → FirstIs n test found →
    FirstIs (suc n) test (or_this found n passes)
next n test (Some i) passes is first = (omega (arith, first.0), first.1, first.2)
next n test None true is none = (omega arith, is, none)
next n test None false is none = λ i below. elim (last_or_before i n below) [ inl last ↦ ap test last ∙ is | inr before ↦ none i before ]

pub first-is : (n : ℕ) (test : ℕ → Bool) → FirstIs n test (first_below n test)
unfolding first_below
first-is zero test = λ i below. absurd (omega arith)
first-is (suc n) test = next n test (first_below n test) (test n) refl (first-is n test)

-- a search that has found nothing yet finds the next number that passes
pub first-at : (n i : ℕ) (test : ℕ → Bool) → i < n → first_below i test ≡ None → test i ≡ true → first_below n test ≡ Some i
unfolding first_below
first-at zero i test below none passes = absurd (omega arith)
first-at (suc n) i test below none passes =
    elim (last_or_before i n below) [
      | inl last ↦
          ap (λ (found : Option ℕ). or_this found n (test n)) (ap (λ (m : ℕ). first_below m test) (sym last) ∙ none) ∙
          ap (λ (b : Bool). or_this None n b) (ap test (sym last) ∙ passes) ∙ ap (λ (m : ℕ). Some m) (sym last)
      | inr before ↦ ap (λ (found : Option ℕ). or_this found n (test n)) (first-at n i test before none passes)
    ]

-- a choice that is the only number to pass is the first
chosen-found : (n : ℕ) (test : ℕ → Bool) (choice found : Option ℕ) → IfSome choice (λ s. s < n) → ((i : ℕ) → i < n → test i ≡ is_shift choice i) →
    FirstIs n test found → choice ≡ found
chosen-found n test None None inside is first = refl
chosen-found n test None (Some i) inside is first = absurd (cc (is i first.0, first.1))
chosen-found n test (Some s) None inside is first = absurd (cc (first s inside, is s inside, eq-eqb s s refl))
chosen-found n test (Some s) (Some i) inside is first = ap (λ (m : ℕ). Some m) (eqb-true s i (sym (is i first.0) ∙ first.1))

pub first-chosen : (n : ℕ) (test : ℕ → Bool) (choice : Option ℕ) → IfSome choice (λ s. s < n) →
    ((i : ℕ) → i < n → test i ≡ is_shift choice i) → choice ≡ first_below n test
first-chosen n test choice inside is = chosen-found n test choice (first_below n test) inside is (first-is n test)

inside-found : (n s : ℕ) (test : ℕ → Bool) (found : Option ℕ) → found ≡ Some s → FirstIs n test found → s < n
inside-found n s test None is first = absurd (cc is)
inside-found n s test (Some i) is first = let e : i ≡ s = cc is in omega (arith, first.0)

-- the number found is below n
pub first-inside : (n : ℕ) (test : ℕ → Bool) (s : ℕ) → first_below n test ≡ Some s → s < n
first-inside n test s is = inside-found n s test (first_below n test) is (first-is n test)

found-any : (found : Option ℕ) (n : ℕ) (passes : Bool) → is_some (or_this found n passes) ≡ (is_some found || passes)
found-any (Some i) n passes = refl
found-any None n true = refl
found-any None n false = refl

-- a number is found if any passes
pub first-any : (n : ℕ) (test : ℕ → Bool) → is_some (first_below n test) ≡ any_below n test
unfolding first_below any_below
first-any zero test = refl
first-any (suc n) test = found-any (first_below n test) n (test n) ∙ ap (λ (b : Bool). b || test n) (first-any n test)

-- if a test is the opposite of another one, the other one is its opposite
pub none-found : (none found : Bool) → found ≡ not none → none ≡ not found
none-found true found e = sym (ap not e)
none-found false found e = sym (ap not e)
