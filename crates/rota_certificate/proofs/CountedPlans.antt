-- The weeks of a plan one after another, as its charges are counted.
use Rattle.std.proofs.Common.{◌≡◌, ℕ, zero, suc, ◌+◌, ◌<◌, ◌≤◌, refl, ap, sym, ◌∙◌, subst, arith, List, [], ◌∷◌, ◌==◌, length, map, drop, slice_index_or}
use Rattle.std.specs.Prelude.{Option, Some, None, false, nat_le, slice_get}
use Rattle.std.specs.Option.{option_map_or}
use Rattle.std.specs.List.{AllByRecursion, sum_by}
use Rattle.std.proofs.lemmas.List.{drop_all, drop_more, get_or-map, length-map}
use Rattle.std.proofs.lemmas.List.Sums.{sum_by-cons}
use Rattle.rota_core.specs.HardRules.{KeepsHardRules, nurses_at}
use Rattle.rota_core.specs.InstanceTables.{InstanceTables, problem_of}
use Rattle.rota_core.specs.Problem.{Problem}
use Rattle.rota_core.specs.Roster.{Roster}
use Rattle.rota_core.specs.RosterTables.{RosterTables, set_of}
use Rattle.rota_core.specs.Sizes.{Numbers}
use Rattle.rota_core.specs.declared.certificate.ChargeKind.{ChargeKind}
use Rattle.rota_core.specs.WeekTables.{IsPast}
use Rattle.rota_core.specs.declared.values.Past.{Past}
use Rattle.rota_certificate.specs.CountedCharges.{numbers_in}
use Rattle.rota_certificate.specs.Plans.{Pasts, KeepRules, Plan, PlannedWeek, after, history_after, plan_after, plan_from, plan_of}
use Rattle.rota_certificate.specs.Periods.{ArePeriod, Continue}
use Rattle.rota_certificate.specs.Facts.{charges_in_week, charges_of_all, charges_of_nurse, has_choice, nurses_of, week_passes}
use Rattle.rota_certificate.specs.Nearness.{IsNear}
use Rattle.rota_certificate.proofs.Sums.{sum-none}
use Rattle.rota_certificate.proofs.Tables.{near-past}

-- ---- week after week

-- the charges of a week of a plan
abbrev charges_of : ChargeKind → (nurse : ℕ) → PlannedWeek → ℕ
charges_of kind n one = charges_in_week kind one.week one.roster n

-- the sum counts the charges of the weeks before week i, and the past is the nurse's before week i
pub record CountsFrom (kind : ChargeKind) (weeks : List Problem) (rosters : List Roster) (n i sum : ℕ) (past : Past) : Type 0 where
  pub history : Pasts
  pub here : history n ≡ past
  pub keep : AllByRecursion (λ one. KeepsHardRules one.week one.roster) (plan_after history (drop i weeks) (drop i rosters))
  pub sum_is : sum + sum_by (charges_of kind n) (plan_after history (drop i weeks) (drop i rosters)) ≡ charges_of_nurse kind (plan_of weeks rosters) n

pub counts-start : (kind : ChargeKind) (first : Problem) (later : List Problem) (rosters : List Roster) (n : ℕ) → KeepRules (first ∷ later) rosters →
    CountsFrom kind (first ∷ later) rosters n 0 0 (first.past n)
counts-start kind first later rosters n keep = record { history = first.past; here = refl; keep = keep.keep; sum_is = omega arith }

module _ (kind : ChargeKind) (weeks : List Problem) (rosters : List Roster) (n i sum : ℕ) (past : Past) (from : CountsFrom kind weeks rosters n i sum past) where
  pub counts-next : (week : Problem) (roster : Roster) (charges : ℕ) (left : Past) → drop i weeks ≡ (week ∷ drop (i + 1) weeks) →
      drop i rosters ≡ (roster ∷ drop (i + 1) rosters) →
      ((history : Pasts) → history n ≡ past → KeepsHardRules (after week history) roster →
      (charges ≡ charges_in_week kind (after week history) roster n) × (left ≡ history_after (after week history) roster n)) →
      CountsFrom kind weeks rosters n (i + 1) (sum + charges) left
  unfolding plan_after
  counts-next week roster charges left of_weeks of_rosters counted =
      let now = after week from.history in
      let rest = plan_after (history_after now roster) (drop (i + 1) weeks) (drop (i + 1) rosters) in
      let e : plan_after from.history (drop i weeks) (drop i rosters) ≡ (record { week = now; roster = roster } ∷ rest) =
      ap (λ (w : List Problem). plan_after from.history w (drop i rosters)) of_weeks ∙
      ap (λ (r : List Roster). plan_after from.history (week ∷ drop (i + 1) weeks) r) of_rosters in
      let keep = subst (AllByRecursion (λ one. KeepsHardRules one.week one.roster)) e from.keep in
      let is = counted from.history from.here keep.0 in
      let same = ap (sum_by (charges_of kind n)) e in
      let more = sum_by-cons (charges_of kind n) (record { week = now; roster = roster }) rest in
      record {
        history = history_after now roster;
        here = sym is.1;
        keep = keep.1;
        sum_is = omega (arith, from.sum_is, same, more, is.0);
      }

  pub counts-end : length weeks ≤ i → sum ≡ charges_of_nurse kind (plan_of weeks rosters) n
  unfolding plan_after
  counts-end all =
      let none : plan_after from.history (drop i weeks) (drop i rosters) ≡ [] =
      ap (λ (w : List Problem). plan_after from.history w (drop i rosters)) (drop_all i weeks all) in
      omega (arith, from.sum_is, ap (sum_by (charges_of kind n)) none)

-- ---- weeks and rosters of tables

numbers-continue : (first : InstanceTables) (later : List InstanceTables) (i : ℕ) (d : InstanceTables) → Continue (problem_of first) (map problem_of later) →
    i < length (first ∷ later) → (problem_of (slice_index_or (first ∷ later) i d)).numbers ≡ (problem_of first).numbers
unfolding Continue
numbers-continue first later zero d period inside = refl
numbers-continue first [] (suc i) d period inside = absurd (omega (arith, inside))
numbers-continue first (next ∷ later) (suc i) d period inside =
    numbers-continue next later i d period.2 (omega (arith, inside)) ∙ sym period.1.numbers

pub numbers-at : (weeks : List InstanceTables) (i : ℕ) (d : InstanceTables) → ArePeriod (map problem_of weeks) → i < length weeks →
    (problem_of (slice_index_or weeks i d)).numbers ≡ numbers_in weeks
numbers-at [] i d period inside = absurd (omega (arith, inside))
numbers-at (first ∷ later) i d period inside = numbers-continue first later i d period inside

pub drop-mapped : {X Y : Type 0} (f : X → Y) (xs : List X) (i : ℕ) (d : X) → i < length xs →
    drop i (map f xs) ≡ (f (slice_index_or xs i d) ∷ drop (i + 1) (map f xs))
drop-mapped {X} {Y} f xs i d inside =
    drop_more (map f xs) i (f d) (omega (arith, inside, length-map xs f)) ∙
    ap (λ (one : Y). one ∷ drop (i + 1) (map f xs)) (get_or-map f xs i d (f d) inside)

pub nurses-of : (weeks : List InstanceTables) (rosters : List RosterTables) → length rosters ≡ length weeks →
    nurses_of (plan_from weeks rosters) ≡ (numbers_in weeks).nurses
unfolding plan_after
nurses-of [] rosters count = refl
nurses-of (week ∷ weeks) [] count = absurd (omega (arith, count))
nurses-of (week ∷ weeks) (roster ∷ rosters) count = refl

-- ---- an element at an index

module _ (weeks : List InstanceTables) (i : ℕ) (one : InstanceTables) (inside : i < length weeks) (is : one ≡ slice_index_or weeks i one) where
  pub numbers-of : ArePeriod (map problem_of weeks) → (problem_of one).numbers ≡ numbers_in weeks
  numbers-of period = ap (λ (week : InstanceTables). (problem_of week).numbers) is ∙ numbers-at weeks i one period inside

pub drop-of : {X Y : Type 0} (f : X → Y) (xs : List X) (i : ℕ) (one : X) → i < length xs → one ≡ slice_index_or xs i one →
    drop i (map f xs) ≡ (f one ∷ drop (i + 1) (map f xs))
drop-of {X} {Y} f xs i one inside is = drop-mapped f xs i one inside ∙ ap (λ (x : X). f x ∷ drop (i + 1) (map f xs)) (sym is)

-- there is a week, if there is a nurse
pub some-weeks : (weeks : List InstanceTables) (n : ℕ) → n < (numbers_in weeks).nurses → 0 < length weeks
some-weeks [] n n_in = absurd (omega (arith, n_in))
some-weeks (week ∷ weeks) n n_in = omega arith

-- the first week has the numbers of all weeks
pub first-numbers : (weeks : List InstanceTables) (one : InstanceTables) → one ≡ slice_index_or weeks 0 one → (length weeks == 0) ≡ false →
    (problem_of one).numbers ≡ numbers_in weeks
first-numbers [] one is some = absurd (cc some)
first-numbers (week ∷ weeks) one is some = ap (λ (w : InstanceTables). (problem_of w).numbers) is

-- the past is near, for the same number of shift types
pub near-as : (one other : Numbers) (day : ℕ) (past : Past) → one ≡ other → IsNear one.shifts day past → IsNear other.shifts day past
near-as one other day past same near = subst (λ (numbers : Numbers). IsNear numbers.shifts day past) same near

pub counts-begin : (kind : ChargeKind) (weeks : List InstanceTables) (rosters : List RosterTables) (n : ℕ) (one : InstanceTables) (past : Past) →
    0 < length weeks → one ≡ slice_index_or weeks 0 one → past ≡ (problem_of one).past n → KeepRules (map problem_of weeks) (map set_of rosters) →
    CountsFrom kind (map problem_of weeks) (map set_of rosters) n 0 0 past
counts-begin kind [] rosters n one past some is past_is keep = absurd (omega (arith, some))
counts-begin kind (first ∷ later) rosters n one past some is past_is keep =
    subst (λ (p : Past). CountsFrom kind (map problem_of (first ∷ later)) (map set_of rosters) n 0 0 p)
    (sym (past_is ∙ ap (λ (week : InstanceTables). (problem_of week).past n) is))
    (counts-start kind (problem_of first) (map problem_of later) (map set_of rosters) n keep)

pub near-begin : (weeks : List InstanceTables) (one : InstanceTables) (past : Past) → 0 < length weeks → one ≡ slice_index_or weeks 0 one →
    ArePeriod (map problem_of weeks) → IsPast (problem_of one).shifts past → IsNear (numbers_in weeks).shifts 0 past
near-begin weeks one past some is period within =
    near-as (problem_of one).numbers (numbers_in weeks) 0 past (numbers-of weeks 0 one some is period)
    (near-past (problem_of one).shifts past within)

-- without a week there are no charges
pub none-of-all : (kind : ChargeKind) (weeks : List InstanceTables) (rosters : List RosterTables) → length weeks ≡ 0 →
    0 ≡ charges_of_all kind (plan_from weeks rosters)
none-of-all kind [] rosters none = sym (sum-none (charges_of_nurse kind []))
none-of-all kind (week ∷ weeks) rosters none = absurd (omega (arith, none))

-- ---- a week of a plan

-- the planned week with this number has the numbers of the week, and its roster
pub record IsPlannedAt (plan : Plan) (w : ℕ) (week : Problem) (roster : Roster) : Type 0 where
  pub history : Pasts
  pub is : slice_get plan w ≡ Some (record { week = after week history; roster = roster })

pub planned-after : (history : Pasts) (weeks : List InstanceTables) (rosters : List RosterTables) (w : ℕ) (week : InstanceTables)
    (roster : RosterTables) → length rosters ≡ length weeks → w < length weeks → week ≡ slice_index_or weeks w week →
    roster ≡ slice_index_or rosters w roster →
    IsPlannedAt (plan_after history (map problem_of weeks) (map set_of rosters)) w (problem_of week) (set_of roster)
unfolding plan_after
planned-after history [] rosters w week roster count inside is roster_is = absurd (omega (arith, inside))
planned-after history (first ∷ weeks) [] w week roster count inside is roster_is = absurd (omega (arith, count))
planned-after history (first ∷ weeks) (one ∷ rosters) zero week roster count inside is roster_is = record {
  history = history;
  is =
      ap (λ (w : InstanceTables). Some (record { week = after (problem_of w) history; roster = set_of one })) (sym is) ∙
      ap (λ (r : RosterTables). Some (record { week = after (problem_of week) history; roster = set_of r })) (sym roster_is);
}
planned-after history (first ∷ weeks) (one ∷ rosters) (suc w) week roster count inside is roster_is =
    let now = after (problem_of first) history in
    let rest = planned-after (history_after now (set_of one)) weeks rosters w week roster (omega (arith, count)) (omega (arith, inside)) is roster_is in
    record { history = rest.history; is = rest.is }

pub planned-at : (weeks : List InstanceTables) (rosters : List RosterTables) (w : ℕ) (week : InstanceTables) (roster : RosterTables) →
    length rosters ≡ length weeks → w < length weeks → week ≡ slice_index_or weeks w week → roster ≡ slice_index_or rosters w roster →
    IsPlannedAt (plan_from weeks rosters) w (problem_of week) (set_of roster)
planned-at [] rosters w week roster count inside is roster_is = absurd (omega (arith, inside))
planned-at (first ∷ later) rosters w week roster count inside is roster_is =
    planned-after (problem_of first).past (first ∷ later) rosters w week roster count inside is roster_is

-- the plan and its week agree on a choice of a day
pub choice-at : (plan : Plan) (w n d : ℕ) (choice : Option ℕ) (week : Problem) (roster : Roster) → IsPlannedAt plan w week roster →
    has_choice week roster n d choice ≡ week_passes plan w (λ one. has_choice one.week one.roster n d choice)
choice-at plan w n d None week roster at =
    sym (ap (λ (one : Option PlannedWeek). option_map_or (λ p. has_choice p.week p.roster n d None) one false) at.is)
choice-at plan w n d (Some s) week roster at =
    sym (ap (λ (one : Option PlannedWeek). option_map_or (λ p. has_choice p.week p.roster n d (Some s)) one false) at.is)

-- and on a limit of nurses
pub nurses-in : (plan : Plan) (w d s k most : ℕ) (week : Problem) (roster : Roster) → IsPlannedAt plan w week roster →
    nat_le (nurses_at week roster d s k) most ≡ week_passes plan w (λ one. nat_le (nurses_at one.week one.roster d s k) most)
nurses-in plan w d s k most week roster at =
    sym (ap (λ (one : Option PlannedWeek). option_map_or (λ p. nat_le (nurses_at p.week p.roster d s k) most) one false) at.is)
