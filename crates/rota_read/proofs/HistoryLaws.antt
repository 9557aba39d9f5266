-- The history that a text spells is within the limits, and each nurse has her past.
use Rattle.std.proofs.Common.{◌≡◌, ℕ, zero, suc, ◌+◌, ◌<◌, Bool, false, cond, refl, sym, ap, ◌∙◌, subst, arith}
use Rattle.std.proofs.Common.{List, [], ◌∷◌, length, codes, map, set, replicate, Option, Some, None, unwrap_or, is_some}
use Rattle.std.specs.List.{AllByRecursion, count_by}
use Rattle.std.proofs.lemmas.List.{length-set, length-map, length-replicate}
use Rattle.std.proofs.lemmas.List.Sums.{sum_by-cons, sum_by-set, count_by-le-length}
use Rattle.rota_core.specs.Limits.{AreLimited, max_number}
use Rattle.rota_core.specs.declared.values.Past.{Past}
use Rattle.rota_core.specs.ScenarioTables.{ScenarioTables, numbers_of}
use Rattle.rota_core.specs.Defaults.{no_past}
use Rattle.rota_core.specs.WeekTables.{HistoryTables, IsHistory, IsPast}
use Rattle.rota_layout.specs.Tokens.{Token, tokens}
use Rattle.rota_layout.specs.Layout.{has_row, repeat}
use Rattle.rota_read.specs.SharedSlots.{known_row, value_of_each}
use Rattle.rota_read.specs.HistoryLayout.{past, history}
use Rattle.rota_read.specs.HistoryRows.{GivesEachPast}
use Rattle.rota_layout.specs.Files.{Fills, Spells}
use Rattle.rota_layout.proofs.ReadingLaws.{number-within, known_name-below, known_name-free, shift_or-below}

-- ---- one past

past-is_past : (shifts : List (List ℕ)) (front : List Token) (one : Past) → Fills (past shifts) front one → IsPast (length shifts) one
unfolding Fills past
past-is_past shifts front one h =
    -- assignments, weekends, the last shift type, three runs
    let weekends = h.5 in
    let last = weekends.5 in
    let shift_run = last.5 in
    let work_run = shift_run.5 in
    let off_run = work_run.5 in
    rw off_run.5.1 (record {
      totals = ((number-within 0 max_number h.1 h.0 h.4).1, (number-within 0 max_number weekends.1 weekends.0 weekends.4).1);
      last = shift_or-below (codes "None") shifts last.1 last.0 last.4;
      runs = (
        (number-within 0 max_number shift_run.1 shift_run.0 shift_run.4).1,
        (number-within 0 max_number work_run.1 work_run.0 work_run.4).1,
        (number-within 0 max_number off_run.1 off_run.0 off_run.4).1,
      );
    })

-- ---- all pasts

all_set : {X : Type 0} (P : X → Type 0) (xs : List X) (i : ℕ) (x : X) → AllByRecursion P xs → P x → AllByRecursion P (set xs i x)
all_set P [] i x all p = tt
all_set P (y ∷ xs) zero x all p = (p, all.1)
all_set P (y ∷ xs) (suc i) x all p = (all.0, all_set P xs i x all.1 p)

-- the pasts of the nurses, if i nurses have one
abbrev Kept : ℕ → ℕ → ℕ → List (Option Past) → Type 0
Kept nurses shifts i pasts =
    (length pasts ≡ nurses)
    × AllByRecursion (λ one. IsPast shifts (unwrap_or one no_past)) pasts
    × (count_by is_some pasts ≡ i)

abbrev number_of : Bool → ℕ
number_of b = cond b 1 0

one_more : (pasts : List (Option Past)) (nurse : ℕ) (one : Past) → nurse < length pasts → has_row pasts nurse ≡ false →
    count_by is_some (set pasts nurse (Some one)) ≡ suc (count_by is_some pasts)
one_more pasts nurse one lt free =
    let e = sum_by-set (λ (o : Option Past). number_of (is_some o)) pasts nurse (Some one) None lt in
    let none = ap (λ (b : Bool). number_of b) free in
    omega (arith, e, none)

past_row-keeps : (tables : ScenarioTables) (i : ℕ) (pasts : List (Option Past)) (front : List Token) (next : List (Option Past)) →
    Fills (known_row tables.nurses (past tables.shifts) pasts) front next →
    Kept (length tables.nurses) (length tables.shifts) i pasts → Kept (length tables.nurses) (length tables.shifts) (suc i) next
unfolding Fills known_row
past_row-keeps tables i pasts front next h k =
    let nurse = h.0 in
    let one = h.5.0 in
    let below = known_name-below tables.nurses (has_row pasts) h.1 nurse h.4 in
    let free = known_name-free tables.nurses (has_row pasts) h.1 nurse h.4 in
    rw h.5.5.1 (
      length-set pasts nurse (Some one) ∙ k.0,
      all_set (λ one. IsPast (length tables.shifts) (unwrap_or one no_past)) pasts nurse (Some one) k.1
          (past-is_past tables.shifts h.5.1 one h.5.4),
      one_more pasts nurse one (omega (arith, below, k.0)) free ∙ ap suc k.2,
    )

no_past-is_past : (shifts : ℕ) → IsPast shifts no_past
no_past-is_past shifts = record {
  totals = (omega arith, omega arith);
  last = λ s e. absurd (cc);
  runs = (omega arith, omega arith, omega arith);
}

none_yet : (shifts n : ℕ) → AllByRecursion (λ one. IsPast shifts (unwrap_or one no_past)) (replicate n None)
none_yet shifts zero = tt
none_yet shifts (suc n) = (no_past-is_past shifts, none_yet shifts n)

none_counted : (n : ℕ) → count_by (is_some {T = Past}) (replicate n None) ≡ 0
none_counted zero = refl
none_counted (suc n) = none_counted n

-- a property that each row keeps holds after all of them
rows-keep : (tables : ScenarioTables) (n i : ℕ) (pasts : List (Option Past)) (front : List Token) (last : List (Option Past)) →
    Fills (repeat n (known_row tables.nurses (past tables.shifts)) pasts) front last →
    Kept (length tables.nurses) (length tables.shifts) i pasts → Kept (length tables.nurses) (length tables.shifts) (n + i) last
unfolding Fills repeat
rows-keep tables zero i pasts front last h k =
    let e : i ≡ 0 + i = omega arith in
    subst (λ j. Kept (length tables.nurses) (length tables.shifts) j last) e (rw h.1 k)
rows-keep tables (suc n) i pasts front last h k =
    let one = past_row-keeps tables i pasts h.1 h.0 h.4 k in
    let e : n + suc i ≡ suc n + i = omega arith in
    subst (λ j. Kept (length tables.nurses) (length tables.shifts) j last) e (rows-keep tables n (suc i) h.0 h.2 last h.5 one)

past_rows-kept : (tables : ScenarioTables) (front : List Token) (pasts : List (Option Past)) →
    Fills (value_of_each tables.nurses (past tables.shifts)) front pasts →
    Kept (length tables.nurses) (length tables.shifts) (length tables.nurses) pasts
unfolding value_of_each
past_rows-kept tables front pasts h =
    let nurses = length tables.nurses in
    let shifts = length tables.shifts in
    let kept =
    rows-keep tables nurses 0 (replicate nurses None) front pasts h
    (length-replicate nurses None, none_yet shifts nurses, none_counted nurses) in
    let e : nurses + 0 ≡ nurses = omega arith in
    subst (λ n. Kept nurses shifts n pasts) e kept

-- if the number of nurses with a past is the number of nurses, each has one
all_given : (pasts : List (Option Past)) → count_by is_some pasts ≡ length pasts → pasts ≡ map Some (map (λ past. unwrap_or past no_past) pasts)
all_given [] h = refl
all_given (None ∷ pasts) h =
    let few = count_by-le-length (is_some {T = Past}) pasts in
    let e : count_by is_some pasts ≡ suc (length pasts) = h in
    absurd (omega (arith, e, few))
all_given (Some one ∷ pasts) h =
    let e = sym (sum_by-cons (λ (o : Option Past). number_of (is_some o)) (Some one) pasts) ∙ h in
    ap (λ rest. Some one ∷ rest) (all_given pasts (omega (arith, e)))

-- ---- whole histories

all_past : (shifts : ℕ) (pasts : List (Option Past)) → AllByRecursion (λ one. IsPast shifts (unwrap_or one no_past)) pasts →
    AllByRecursion (IsPast shifts) (map (λ past. unwrap_or past no_past) pasts)
all_past shifts [] h = tt
all_past shifts (one ∷ pasts) h = (h.0, all_past shifts pasts h.1)

-- the rows give the past of each nurse
pub gives_each_past : (tables : ScenarioTables) → GivesEachPast tables
gives_each_past tables front pasts h =
    let kept = past_rows-kept tables front pasts h in
    all_given pasts (kept.2 ∙ sym kept.0)

history-is_history : (tables : ScenarioTables) (front : List Token) (spelled : HistoryTables) →
    AreLimited (numbers_of tables) → Fills (history tables) front spelled → IsHistory spelled
unfolding Fills history
history-is_history tables front spelled numbers h =
    let week = h.5 in
    let rows = week.5.5.5 in
    let kept = past_rows-kept tables rows.1 rows.0 rows.4 in
    rw rows.5.1 (record {
      numbers = numbers;
      week = (number-within 0 max_number week.1 week.0 week.4).1;
      past = (length-map rows.0 (λ past. unwrap_or past no_past) ∙ kept.0, all_past (length tables.shifts) rows.0 kept.1);
    })

-- a text spells histories only
pub spells-is_history : (tables : ScenarioTables) (text : List ℕ) (spelled : HistoryTables) →
    AreLimited (numbers_of tables) → Spells (history tables) text spelled → IsHistory spelled
spells-is_history tables text spelled numbers h = history-is_history tables (tokens text) spelled numbers h.filled

-- a history has the numbers of its scenario
pub spells-numbers : (tables : ScenarioTables) (text : List ℕ) (spelled : HistoryTables) →
    Spells (history tables) text spelled → spelled.numbers ≡ numbers_of tables
unfolding Fills history
spells-numbers tables text spelled h = rw h.filled.5.5.5.5.5.1 refl
