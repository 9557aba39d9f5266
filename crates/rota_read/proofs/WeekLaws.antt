-- The week that a text spells is within the limits.
use Rattle.std.proofs.Common.{◌≡◌, ℕ, zero, suc, ◌+◌, ◌*◌, ◌≤◌, refl, ap, ◌∙◌, arith}
use Rattle.std.proofs.Common.{List, [], Option, Some, None, length, map}
use Rattle.std.specs.List.{AllByRecursion, count_by, flat_map, range_with_len}
use Rattle.std.proofs.lemmas.List.FromFn.{length-map-range_with_len, length-range_with_len}
use Rattle.std.proofs.lemmas.List.Sums.{count_by-le-length}
use Rattle.rota_core.specs.Limits.{AreLimited, max_number}
use Rattle.rota_core.specs.Sizes.{DAYS}
use Rattle.rota_core.specs.ScenarioTables.{ScenarioTables, numbers_of}
use Rattle.rota_core.specs.Defaults.{no_demand}
use Rattle.rota_core.specs.WeekTables.{WeekTables, IsWeek, IsDemand}
use Rattle.rota_core.specs.declared.values.Demand.{Demand}
use Rattle.rota_read.specs.declared.week.RequestRow.{RequestRow}
use Rattle.rota_layout.specs.Tokens.{Token, tokens}
use Rattle.rota_layout.specs.Layout.{◌>>=◌, one_more, many}
use Rattle.rota_layout.specs.DayRows.{DayRows, no_day_rows, day_row, pair_index}
use Rattle.rota_read.specs.WeekLayout.{demand, part_or, max_rows, requirement_rows}
use Rattle.rota_read.specs.WeekLayout.{request, asks, request_table, week}
use Rattle.rota_layout.specs.Files.{Fills, Spells}
use Rattle.rota_read.proofs.WordLaws.{AreTokens, tokens-are_tokens}
use Rattle.rota_read.proofs.WordSlots.{repeat-keeps}
use Rattle.rota_read.proofs.ScenarioLaws.{left, right, pair-limits}
use Rattle.rota_layout.proofs.ReadingLaws.{length_push, number-within, all_rows, days-all, RowsAll, no_rows-all, row_set-all, day_table-all}
use Rattle.rota_layout.proofs.ReadingLaws.{rows_length}

-- ---- the requirements

demand-limits : (front : List Token) (d : Demand) → Fills demand front d → IsDemand d
unfolding Fills demand
demand-limits front d h = rw h.5.1 (pair-limits h.1 h.0 h.4)

demands_of_days-limits : (front : List Token) (days : List Demand) → Fills (many DAYS (λ _. demand)) front days →
    AllByRecursion IsDemand days
demands_of_days-limits = days-all demand IsDemand demand-limits

-- the demands of the rows are within the limits, and there is a row or none for each of this number of pairs
abbrev RowsKept : ℕ → DayRows Demand → Type 0
RowsKept = RowsAll IsDemand

requirement-keeps : (pairs : ℕ) (skills : List (List ℕ)) (shift : ℕ) (rows : DayRows Demand) (front : List Token) (next : DayRows Demand) →
    Fills (day_row demand skills shift rows) front next → RowsKept pairs rows → RowsKept pairs next
unfolding Fills day_row
requirement-keeps pairs skills shift rows front next h k =
    let days = h.5 in
    rw days.5.1 (row_set-all IsDemand pairs rows (pair_index (length skills) shift h.0) days.0 (demands_of_days-limits days.1 days.0 days.4) k)

requirement_rows-keep : (pairs : ℕ) (t : ScenarioTables) (n : ℕ) (rows : DayRows Demand) (front : List Token) (last : DayRows Demand) →
    Fills (requirement_rows t n rows) front last → RowsKept pairs rows → RowsKept pairs last
unfolding Fills requirement_rows
requirement_rows-keep pairs t zero rows front last h k = rw h.1 k
requirement_rows-keep pairs t (suc n) rows front last h k =
    by (λ rows front h k. requirement_rows-keep pairs t n rows front last h k) h.0 h.2 h.5
  where
    by : ((rows : DayRows Demand) (front : List Token) → Fills (requirement_rows t n rows) front last → RowsKept pairs rows → RowsKept pairs last) →
        (shift : Option ℕ) (front : List Token) →
        Fills (part_or (λ shift. day_row demand t.skills shift rows >>= requirement_rows t n) shift rows) front last →
        RowsKept pairs last
    by later None front h = rw h.1 k
    by later (Some shift) front h = later h.0 h.2 h.5 (requirement-keeps pairs t.skills shift rows h.1 h.0 h.4 k)

requirements-kept : (t : ScenarioTables) (front : List Token) (rows : DayRows Demand) →
    Fills (requirement_rows t (max_rows t) (no_day_rows t)) front rows → RowsKept (length t.shifts * length t.skills) rows
requirements-kept t front rows h =
    let pairs = length t.shifts * length t.skills in
    requirement_rows-keep pairs t (max_rows t) (no_day_rows t) front rows h
    (no_rows-all IsDemand pairs)

-- ---- the requests

request_table-length : (nurses shifts : ℕ) (rows : List RequestRow) → length (request_table nurses shifts rows) ≡ nurses * 7 * shifts
request_table-length nurses shifts rows =
    let e : nurses * (7 * shifts) ≡ nurses * 7 * shifts = omega arith in
    rows_length (λ nurse. flat_map (λ day. map (λ shift. count_by (asks nurse day shift) rows) (range_with_len 0 shifts)) (range_with_len 0 7))
    (7 * shifts)
    (λ nurse. rows_length (λ day. map (λ shift. count_by (asks nurse day shift) rows) (range_with_len 0 shifts)) shifts
    (λ day. length-map-range_with_len (λ shift. count_by (asks nurse day shift) rows) 0 shifts) (range_with_len 0 7))
    (range_with_len 0 nurses)
    ∙ ap (λ n. n * (7 * shifts)) (length-range_with_len 0 nurses)
    ∙ e

all_counts : (maximum : ℕ) (f : ℕ → ℕ) → ((k : ℕ) → f k ≤ maximum) → (first n : ℕ) →
    AllByRecursion (λ n. n ≤ maximum) (map f (range_with_len first n))
all_counts maximum f each first zero = tt
all_counts maximum f each first (suc n) = (each first, all_counts maximum f each (first + 1) n)

-- no count is above the number of rows
request_table-maximum : (nurses shifts : ℕ) (rows : List RequestRow) (maximum : ℕ) → length rows ≤ maximum →
    AllByRecursion (λ n. n ≤ maximum) (request_table nurses shifts rows)
request_table-maximum nurses shifts rows maximum few =
    all_rows (λ n. n ≤ maximum)
    (λ nurse. flat_map (λ day. map (λ shift. count_by (asks nurse day shift) rows) (range_with_len 0 shifts)) (range_with_len 0 7))
    (λ nurse. all_rows (λ n. n ≤ maximum) (λ day. map (λ shift. count_by (asks nurse day shift) rows) (range_with_len 0 shifts))
    (λ day. all_counts maximum (λ shift. count_by (asks nurse day shift) rows)
    (λ shift. let few_ask = count_by-le-length (asks nurse day shift) rows in omega arith) 0 shifts) 0 7)
    0 nurses

request_row-keeps : (t : ScenarioTables) (i : ℕ) (rows : List RequestRow) (front : List Token) (next : List RequestRow) →
    AreTokens front → Fills (one_more (λ _. request t) rows) front next → length rows ≡ i → length next ≡ suc i
unfolding Fills one_more
request_row-keeps t i rows front next all h k = rw h.5.1 (length_push rows h.0 i k)

requests-counted : (t : ScenarioTables) (count : ℕ) (front : List Token) (rows : List RequestRow) → AreTokens front →
    Fills (many count (λ _. request t)) front rows → length rows ≡ count + 0
unfolding many
requests-counted t count front rows all h =
    repeat-keeps (one_more (λ _. request t)) (λ i rows. length rows ≡ i) (request_row-keeps t) count 0 [] front rows all h refl

-- ---- the week

-- tokens that fill the slots of a week's file give a week
week-is_week : (t : ScenarioTables) (front : List Token) (tables : WeekTables) → AreLimited (numbers_of t) → AreTokens front →
    Fills (week t) front tables → IsWeek tables
unfolding Fills week
week-is_week t front tables counts all h =
    -- the word, any word, the word, the requirements, `=`, the number of requests, the requests
    let name = h.5 in
    let word = name.5 in
    let rows = word.5 in
    let equals = rows.5 in
    let count = equals.5 in
    let requests = count.5 in
    let after_name = right h.2 name.1 name.2 name.3 (right front h.1 h.2 h.3 all) in
    let after_rows = right word.2 rows.1 rows.2 rows.3 (right name.2 word.1 word.2 word.3 after_name) in
    let after_count = right equals.2 count.1 count.2 count.3 (right rows.2 equals.1 equals.2 equals.3 after_rows) in
    let counted = requests-counted t count.0 requests.1 requests.0 (left count.2 requests.1 requests.2 requests.3 after_count) requests.4 in
    let maximum = (number-within 0 max_number count.1 count.0 count.4).1 in
    let few : length requests.0 ≤ max_number = omega (arith, counted, maximum) in
    rw requests.5.1 (record {
      numbers = counts;
      demands = day_table-all IsDemand no_demand (omega arith, omega arith) (length t.shifts) (length t.skills) rows.0 (requirements-kept t rows.1 rows.0 rows.4);
      requests = (
        request_table-length (length t.nurses) (length t.shifts) requests.0,
        request_table-maximum (length t.nurses) (length t.shifts) requests.0 max_number few,
      );
    })

-- a text spells weeks only
pub spells-is_week : (t : ScenarioTables) (text : List ℕ) (tables : WeekTables) → AreLimited (numbers_of t) → Spells (week t) text tables →
    IsWeek tables
spells-is_week t text tables counts h = week-is_week t (tokens text) tables counts (tokens-are_tokens text) h.filled

-- a week has the numbers of its scenario
pub spells-numbers : (t : ScenarioTables) (text : List ℕ) (tables : WeekTables) → Spells (week t) text tables →
    tables.numbers ≡ numbers_of t
unfolding Fills week
spells-numbers t text tables h = rw h.filled.5.5.5.5.5.5.5.1 refl
