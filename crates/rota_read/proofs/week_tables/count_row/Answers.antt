use Rattle.std.proofs.Common.{◌≡◌, ◌==◌, ℕ, ◌+◌, ◌*◌, ◌/◌, ◌%◌, ◌<◌, nat_le, nat_lt, Bool, true, ◌&&◌, if◌then◌else◌}
use Rattle.std.proofs.Common.{Option, get_or, refl, sym, ap, ◌∙◌}
use Rattle.std.specs.Option.{option_map_or}
use Rattle.rota_read.specs.WeekRows.{asks_at}
use Rattle.rota_read.proofs.IndexLemmas.{one_index, whole_row}
use Rattle.rota_read.proofs.week_tables.count_row.Goals as goal

-- one more at the indices that are requested
counted : (new old k first count given : ℕ) (asked : Bool) → new ≡ old + (if nat_le given k && nat_lt k (given + count) then 1 else 0) →
    given ≡ first → asked ≡ (nat_le first k && nat_lt k (first + count)) → new ≡ old + (if asked then 1 else 0)
counted new old k first count given asked h e a =
    h
    ∙ ap (λ n. old + (if nat_le n k && nat_lt k (n + count) then 1 else 0)) e
    ∙ ap (λ b. old + (if b then 1 else 0)) (sym a)

-- whether a row for a nurse's day asks for the request at index k, with the shift type that it names
abbrev asks : ℕ → ℕ → ℕ → Option ℕ → Bool
asks k shifts row shift = row == k / shifts && option_map_or (λ s. s == k % shifts) shift true

-- the row asks for one shift type
pub returns-in-Some-clause-sums : goal.returns-in-Some-clause-sums
returns-in-Some-clause-sums c = λ k.
    let row = c.args.row.nurse * 7 + c.args.row.day in
    let first = row * c.args.shifts + c.in-Some.shift in
    let lt : c.in-Some.shift < c.args.shifts = c.requires.within.1 c.in-Some.shift c.in-Some.is in
    let asked = ap (asks k c.args.shifts row) c.in-Some.is ∙ one_index row c.args.shifts c.in-Some.shift k lt in
    let same : (c.from.result * 7 + c.from-2.result) * c.from-shifts.result + c.from-in-Some.result ≡ first =
    rw (c.from-shifts.ensures, c.from.ensures, c.from-2.ensures, c.from-in-Some.ensures) refl in
    counted (get_or c.add_one.new.table.items k 0) (get_or c.args.table.now.items k 0) k first 1 _
    (asks_at c.args.shifts k c.args.row) (c.add_one.ensures.sums k) same asked

-- the row asks for each shift type
pub returns-in-None-clause-sums : goal.returns-in-None-clause-sums
returns-in-None-clause-sums c = λ k.
    let row = c.args.row.nurse * 7 + c.args.row.day in
    let asked = ap (asks k c.args.shifts row) c.in-None.is ∙ whole_row row c.args.shifts k c.requires.shifts in
    let same : (c.from.result * 7 + c.from-2.result) * c.args.shifts ≡ row * c.args.shifts = rw (c.from.ensures, c.from-2.ensures) refl in
    let sums = rw c.from-shifts.ensures at (c.add_one-in-None.ensures.sums k) in
    counted (get_or c.add_one-in-None.new.table.items k 0) (get_or c.args.table.now.items k 0) k (row * c.args.shifts) c.args.shifts _
    (asks_at c.args.shifts k c.args.row) sums same asked
