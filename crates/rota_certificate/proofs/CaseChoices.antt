-- The choices of a nurse in a plan of a case: the case allows each of them.
use Rattle.std.proofs.Common.{◌≡◌, ℕ, suc, ◌<◌, ◌==◌, ◌&&◌, Bool, true, false, ap, sym, ◌∙◌, inl, inr, refl, [], ◌∷◌}
use Rattle.std.specs.Prelude.{IfSome, Option, Some, None, slice_get, ⊤}
use Rattle.std.specs.List.{AllByRecursion}
use Rattle.std.specs.Option.{ForSome}
use Rattle.std.proofs.lemmas.Bool.{cases_Bool, eqb-true, eq-eqb}
use Rattle.rota_core.specs.Certificates.{AreConditionsFor, IsFactFor}
use Rattle.rota_core.specs.Sizes.{DAYS, Numbers}
use Rattle.rota_core.specs.HardRules.{KeepsHardRules, KeepsOneCell, is_on, works}
use Rattle.rota_core.specs.Roster.{Roster, cell}
use Rattle.rota_core.specs.Problem.{Problem}
use Rattle.rota_core.specs.declared.certificate.DayChoice.{DayChoice}
use Rattle.rota_core.specs.declared.certificate.Fact.{Fact}
use Rattle.rota_core.specs.declared.certificate.Fact.TheVariants.{Charges, Choice, EvenShiftRuns, Nurses}
use Rattle.rota_core.specs.declared.values.Cell.{Cell}
use Rattle.rota_certificate.specs.Facts.{Case, IsIn, has_choice, is_fact}
use Rattle.rota_certificate.specs.LeafBounds.{allows, is_about, is_choice, may_choose}
use Rattle.rota_certificate.specs.Plans.{Plan, PlannedWeek}
use Rattle.rota_certificate.proofs.PlacePart.{both}
use Rattle.rota_certificate.proofs.Sums.{any-at, any-some}

-- ---- a nurse has one choice on a day

module _ (problem : Problem) (roster : Roster) (n d : ℕ) (keeps : KeepsOneCell problem roster) (n_in : n < problem.nurses) (d_in : d < DAYS) where
  on-same : (s t : ℕ) → s < problem.shifts → t < problem.shifts → is_on problem roster n s d ≡ true → is_on problem roster n t d ≡ true → s ≡ t
  on-same s t s_in t_in one other =
      let first = any-some problem.skills (λ k. roster (cell n d s k)) one in
      let second = any-some problem.skills (λ k. roster (cell n d t k)) other in
      let same = keeps (cell n d s first.0) (cell n d t second.0)
      (record { in_week = record { nurse_in = n_in; day_in = d_in; shift_in = s_in; skill_in = first.1 }; in_roster = first.2 })
      (record { in_week = record { nurse_in = n_in; day_in = d_in; shift_in = t_in; skill_in = second.1 }; in_roster = second.2 })
      refl refl in
      ap (λ (one : Cell). one.shift) same

  on-works : (s : ℕ) → s < problem.shifts → is_on problem roster n s d ≡ true → works problem roster n d ≡ true
  on-works s s_in on = any-at problem.shifts s (λ t. is_on problem roster n t d) s_in on

  choice-same : (one other : Option ℕ) → IfSome one (λ s. s < problem.shifts) → IfSome other (λ s. s < problem.shifts) →
      has_choice problem roster n d one ≡ true → has_choice problem roster n d other ≡ true → is_choice one other ≡ true
  choice-same None None one_in other_in one_is other_is = refl
  choice-same None (Some t) one_in other_in one_is other_is = absurd (cc (one_is, on-works t other_in other_is))
  choice-same (Some s) None one_in other_in one_is other_is = absurd (cc (other_is, on-works s one_in one_is))
  choice-same (Some s) (Some t) one_in other_in one_is other_is = eq-eqb s t (on-same s t one_in other_in one_is other_is)

is-same-choice : (one other : Option ℕ) → is_choice one other ≡ true → one ≡ other
is-same-choice None None same = refl
is-same-choice None (Some t) same = absurd (cc same)
is-same-choice (Some s) None same = absurd (cc same)
is-same-choice (Some s) (Some t) same = ap (λ (x : ℕ). Some x) (eqb-true s t same)

-- a property of the content, if there is one
content : {P : ℕ → Type 0} (one : Option ℕ) → ForSome one P → IfSome one P
content None each = tt
content (Some s) each = each s refl

-- ---- a case allows the choices of its plans

module _ (plan : Plan) (weeks w : ℕ) (planned : PlannedWeek) (here : slice_get plan w ≡ Some planned) (keeps : KeepsHardRules planned.week planned.roster)
    (n d : ℕ) (n_in : n < planned.week.nurses) (d_in : d < DAYS) where
  abbrev has : Option ℕ → Bool
  has choice = has_choice planned.week planned.roster n d choice

  fact-here : (one : DayChoice) → is_about one w n d ≡ true → is_fact plan (Choice one) ≡ has one.choice
  fact-here one about =
      let day = both (one.week == w && one.nurse == n) (one.day == d) about in
      let nurse = both (one.week == w) (one.nurse == n) day.0 in
      rw (eqb-true one.week w nurse.0, eqb-true one.nurse n nurse.1, eqb-true one.day d day.1, here) refl

  differs : (one choice : Option ℕ) → has one ≡ false → has choice ≡ true → is_choice one choice ≡ false
  differs one choice not_one is_choice_here =
      elim (cases_Bool (is_choice one choice)) [
        | inl same ↦ absurd (cc (ap has (is-same-choice one choice same), not_one, is_choice_here))
        | inr other ↦ other
      ]

  allowed-step : (fact : Fact) (holds : Bool) (choice : Option ℕ) → IsFactFor planned.week.numbers weeks fact → is_fact plan fact ≡ holds →
      IfSome choice (λ s. s < planned.week.shifts) → has choice ≡ true → allows fact holds w n d choice ≡ true
  allowed-step (Choice one) true choice is_for meets choice_in chosen =
      elim (cases_Bool (is_about one w n d)) [
        | inl about ↦
            let is_here : has one.choice ≡ true = sym (fact-here one about) ∙ meets in
            rw about (choice-same planned.week planned.roster n d keeps.of_competition.one_cell n_in d_in one.choice choice (content one.choice is_for.choice) choice_in is_here chosen)
        | inr other ↦ rw other refl
      ]
  allowed-step (Choice one) false choice is_for meets choice_in chosen =
      elim (cases_Bool (is_about one w n d)) [
        | inl about ↦
            let is_not : has one.choice ≡ false = sym (fact-here one about) ∙ meets in
            rw (about, differs one.choice choice is_not chosen) refl
        | inr other ↦ rw other refl
      ]
  allowed-step (Nurses limit) holds choice is_for meets choice_in chosen = refl
  allowed-step (Charges limit) holds choice is_for meets choice_in chosen = refl
  allowed-step EvenShiftRuns holds choice is_for meets choice_in chosen = refl

  both-true : {a b : Bool} → a ≡ true → b ≡ true → (a && b) ≡ true
  both-true {a} {b} e f = rw (e, f) refl

  pub all-allowed : (case : Case) (choice : Option ℕ) → AreConditionsFor planned.week.numbers weeks case → IsIn plan case →
      IfSome choice (λ s. s < planned.week.shifts) → has choice ≡ true → may_choose case w n d choice ≡ true
  all-allowed [] choice are_for is_in choice_in chosen = refl
  all-allowed (condition ∷ case) choice are_for is_in choice_in chosen =
      both-true (allowed-step condition.fact condition.holds choice are_for.0 is_in.0 choice_in chosen)
      (all-allowed case choice are_for.1 is_in.1 choice_in chosen)

-- the rest of a plan begins at the week with this number
unfoldable pub BeginsAt : Plan → (number : ℕ) → (rest : Plan) → Type 0
BeginsAt plan w [] = ⊤
BeginsAt plan w (planned ∷ rest) = (slice_get plan w ≡ Some planned) × BeginsAt plan (suc w) rest

begins-later : (first : PlannedWeek) (plan rest : Plan) (w : ℕ) → BeginsAt plan w rest → BeginsAt (first ∷ plan) (suc w) rest
unfolding BeginsAt
begins-later first plan [] w begins = tt
begins-later first plan (planned ∷ rest) w begins = (begins.0, begins-later first plan rest (suc w) begins.1)

pub begins-at : (plan : Plan) → BeginsAt plan 0 plan
unfolding BeginsAt
begins-at [] = tt
begins-at (first ∷ rest) = (refl, begins-later first rest rest 0 (begins-at rest))

-- each planned week keeps the hard rules, and has these numbers
abbrev pub KeepEach : Numbers → Plan → Type 0
KeepEach numbers plan = AllByRecursion (λ planned. KeepsHardRules planned.week planned.roster × (planned.week.numbers ≡ numbers)) plan
