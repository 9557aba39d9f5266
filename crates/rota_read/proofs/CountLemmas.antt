-- Tables of the number of request rows for each index.
use Rattle.std.proofs.Common.{◌≡◌, ℕ, ◌+◌, ◌*◌, ◌<◌, ◌≤◌, List, [], length, take, get_or, replicate, if◌then◌else◌, sym, ap, ◌∙◌, arith}
use Rattle.std.specs.List.{All, count_by, range_with_len}
use Rattle.std.proofs.lemmas.List.{length-replicate, get_or-replicate}
use Rattle.std.proofs.lemmas.List.Elements.{All-map}
use Rattle.std.proofs.lemmas.List.FromFn.{fill_by_all, get_or-map-range_with_len, length-map-range_with_len}
use Rattle.std.proofs.lemmas.List.Sums.{count_by-le-length, sum_by_more}
use Rattle.rota_read.specs.declared.week.RequestRow.{RequestRow}
use Rattle.rota_read.specs.WeekRows.{asks_at, index_table}

module _ (nurses shifts : ℕ) where
  -- no rows give a table of zeros
  pub no_rows_counted : replicate (nurses * 7 * shifts) 0 ≡ index_table nurses shifts []
  no_rows_counted =
      let size = nurses * 7 * shifts in
      fill_by_all (λ index. count_by (asks_at shifts index) []) (replicate size 0) size 0 (length-replicate size 0)
      (λ k lt. get_or-replicate size k 0 0 lt)

  pub index_table-length : (rows : List RequestRow) → length (index_table nurses shifts rows) ≡ nurses * 7 * shifts
  index_table-length rows = length-map-range_with_len (λ index. count_by (asks_at shifts index) rows) 0 (nurses * 7 * shifts)

  -- no count is above the number of rows
  pub index_table-maximum : (rows : List RequestRow) (maximum : ℕ) → length rows ≤ maximum → All (λ n. n ≤ maximum) (index_table nurses shifts rows)
  index_table-maximum rows maximum few =
      All-map (λ n. n ≤ maximum) (λ index. count_by (asks_at shifts index) rows) (range_with_len 0 (nurses * 7 * shifts))
      (λ k d lt. let e = count_by-le-length (asks_at shifts (get_or (range_with_len 0 (nurses * 7 * shifts)) k d)) rows in omega arith)

  -- one more row was counted
  pub row_counted : (rows : List RequestRow) (i : ℕ) (d : RequestRow) (old new : List ℕ) → i < length rows →
      old ≡ index_table nurses shifts (take i rows) → length new ≡ length old →
      ((k : ℕ) → get_or new k 0 ≡ get_or old k 0 + (if asks_at shifts k (get_or rows i d) then 1 else 0)) →
      new ≡ index_table nurses shifts (take (i + 1) rows)
  row_counted rows i d old new lt is_old same sums =
      let size = nurses * 7 * shifts in
      fill_by_all (λ index. count_by (asks_at shifts index) (take (i + 1) rows)) new size 0
      (same ∙ ap (λ (ns : List ℕ). length ns) is_old ∙ index_table-length (take i rows))
      (λ k below.
      let one : ℕ = if asks_at shifts k (get_or rows i d) then 1 else 0 in
      sums k
      ∙ ap (λ (ns : List ℕ). get_or ns k 0 + one) is_old
      ∙ ap (λ n. n + one)
      (get_or-map-range_with_len (λ index. count_by (asks_at shifts index) (take i rows)) 0 size k k 0 below (omega arith))
      ∙ sym (sum_by_more (λ r. if asks_at shifts k r then 1 else 0) rows i d lt))
