-- Each row of requirements uses a pair of a shift type and a skill that had none, so a larger bound on the rows changes nothing.
use Rattle.std.proofs.Common.{◌≡◌, ℕ, zero, suc, ◌+◌, ◌*◌, ◌<◌, ◌≤◌, Bool, true, false, if◌then◌else◌, refl, ◌∙◌, arith}
use Rattle.std.proofs.Common.{List, Option, Some, None, length, get_or, is_some, slice_set, codes}
use Rattle.std.specs.List.{count_by}
use Rattle.std.proofs.lemmas.List.{length-replicate, length-set}
use Rattle.std.proofs.lemmas.List.Sums.{count_by-le-length, sum_by-set}
use Rattle.std.proofs.lemmas.Nat.{mul-add-lt}
use Rattle.rota_core.specs.ScenarioTables.{ScenarioTables}
use Rattle.rota_core.specs.declared.values.Demand.{Demand}
use Rattle.rota_layout.specs.Tokens.{Token}
use Rattle.rota_layout.specs.Reading.{Reading, read_layout}
use Rattle.rota_layout.specs.Layout.{◌>>=◌, has_row, shift_or, known_name}
use Rattle.rota_layout.specs.Files.{Fills}
use Rattle.rota_read.specs.WeekLayout.{demand, part_or, max_rows, requirement_rows}
use Rattle.rota_layout.specs.DayRows.{DayRows, no_day_rows, day_row, pair_index}
use Rattle.rota_read.specs.WeekBound.{BoundEndsNoRows}
use Rattle.rota_layout.proofs.ReadingLaws.{then_read-same, Found, fills-read, known_name-below, known_name-free, shift_or-below}

-- ---- the number of pairs without a row

abbrev is_vacant : Option (List Demand) → Bool
is_vacant None = true
is_vacant (Some days) = false

abbrev vacant : DayRows Demand → ℕ
vacant rows = count_by is_vacant rows

abbrev as_number : Option (List Demand) → ℕ
as_number row = if is_vacant row then 1 else 0

vacant_at : (row : Option (List Demand)) → is_some row ≡ false → as_number row ≡ 1
vacant_at None h = refl
vacant_at (Some days) h = absurd (cc)

-- a row was put at an index that had none
one_less : (rows : DayRows Demand) (index : ℕ) (days : List Demand) → index < length rows → has_row rows index ≡ false →
    vacant rows ≡ suc (vacant (slice_set rows index (Some days)))
one_less rows index days lt free =
    let e = sum_by-set as_number rows index (Some days) None lt in
    let one = vacant_at (get_or rows index None) free in
    omega arith

-- a row leaves one fewer pair without a row
abbrev OneLess : DayRows Demand → DayRows Demand → Type 0
OneLess rows next = (length next ≡ length rows) × (vacant rows ≡ suc (vacant next))

-- the index of a pair is the index of a row that does not exist
pair-free : (shifts skills : List (List ℕ)) (shift : ℕ) (rows : DayRows Demand) (front : List Token) (skill : ℕ) →
    shift < length shifts → length rows ≡ length shifts * length skills →
    Fills (known_name skills (λ k. has_row rows (pair_index (length skills) shift k))) front skill →
    (pair_index (length skills) shift skill < length rows) × (has_row rows (pair_index (length skills) shift skill) ≡ false)
pair-free shifts skills shift rows front skill lt size h =
    let index = pair_index (length skills) shift skill in
    let listed : ℕ → Bool = λ k. has_row rows (pair_index (length skills) shift k) in
    let below = known_name-below skills listed front skill h in
    let turned : index < length skills * length shifts = mul-add-lt shift (length skills) skill (length shifts) lt below in
    let same : length skills * length shifts ≡ length shifts * length skills = omega arith in
    let within : index < length rows = omega (arith, turned, same, size) in
    (within, known_name-free skills listed front skill h)

requirement-takes : (shifts skills : List (List ℕ)) (shift : ℕ) (rows : DayRows Demand) (front : List Token) (next : DayRows Demand) →
    shift < length shifts → length rows ≡ length shifts * length skills →
    Fills (day_row demand skills shift rows) front next → OneLess rows next
unfolding Fills day_row
requirement-takes shifts skills shift rows front next lt size h =
    let index = pair_index (length skills) shift h.0 in
    let free = pair-free shifts skills shift rows h.1 h.0 lt size h.4 in
    rw h.5.5.1 (length-set rows index (Some h.5.0), one_less rows index h.5.0 free.0 free.1)

-- ---- two bounds

-- two bounds above the number of pairs without a row give the same result
bounds_agree : (t : ScenarioTables) (n m : ℕ) (rows : DayRows Demand) (left : Reading) →
    length rows ≡ length t.shifts * length t.skills → vacant rows < n → vacant rows < m →
    read_layout (requirement_rows t n rows) left ≡ read_layout (requirement_rows t m rows) left
unfolding read_layout requirement_rows
bounds_agree t zero m rows left size few few' = absurd (omega arith)
bounds_agree t (suc n) zero rows left size few few' = absurd (omega arith)
bounds_agree t (suc n) (suc m) rows left size few few' =
    let word = shift_or (codes "SHIFT_OFF_REQUESTS") t.shifts in
    then_read-same (read_layout word left) _ _ (λ x is.
    by (λ rows left size few few'. bounds_agree t n m rows left size few few') x.0 x.1
    (fills-read word left.last left.rest x.0 x.1 is))
  where
    by : ((rows : DayRows Demand) (left : Reading) → length rows ≡ length t.shifts * length t.skills → vacant rows < n → vacant rows < m →
        read_layout (requirement_rows t n rows) left ≡ read_layout (requirement_rows t m rows) left) →
        (shift : Option ℕ) (middle : Reading) → Found (shift_or (codes "SHIFT_OFF_REQUESTS") t.shifts) left.last left.rest shift middle →
        read_layout (part_or (λ shift. day_row demand t.skills shift rows >>= requirement_rows t n) shift rows) middle ≡
        read_layout (part_or (λ shift. day_row demand t.skills shift rows >>= requirement_rows t m) shift rows) middle
    by later None middle found = refl
    by later (Some shift) middle found =
        then_read-same (read_layout (day_row demand t.skills shift rows) middle) _ _ (λ x is.
        let below = shift_or-below (codes "SHIFT_OFF_REQUESTS") t.shifts found.0 (Some shift) found.3 shift refl in
        let fills = fills-read (day_row demand t.skills shift rows) middle.last middle.rest x.0 x.1 is in
        let less = requirement-takes t.shifts t.skills shift rows fills.0 x.0 below size fills.3 in
        later x.0 x.1 (less.0 ∙ size) (omega (arith, less.1)) (omega (arith, less.1)))

pub bound_ends_no_rows : BoundEndsNoRows
bound_ends_no_rows t more left =
    let pairs = length t.shifts * length t.skills in
    let size = length-replicate {A = Option (List Demand)} pairs None in
    let few : vacant (no_day_rows t) ≤ pairs = omega (arith, count_by-le-length is_vacant (no_day_rows t), size) in
    bounds_agree t (max_rows t + more) (max_rows t) (no_day_rows t) left size (omega (arith, few)) (omega (arith, few))
