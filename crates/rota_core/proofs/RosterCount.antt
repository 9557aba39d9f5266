-- The number of cells in a roster.
use Rattle.std.proofs.Common.{◌≡◌, ℕ, ◌<◌, ◌≤◌, Bool, false, List, [], ◌∷◌, length, get_or, refl, sym, ap, ◌∙◌, arith}
use Rattle.std.specs.Prelude.{count_by}
use Rattle.std.specs.List.{AllByRecursion, range_with_len}
use Rattle.std.proofs.lemmas.Bool.{true≢false}
use Rattle.std.proofs.lemmas.List.{length-map}
use Rattle.std.proofs.lemmas.List.Folds.{fold-map}
use Rattle.std.proofs.lemmas.List.FromFn.{fill_by_all, length-range_with_len}
use Rattle.std.proofs.lemmas.List.Sums.{count_by-le-length, length-filter}
use Rattle.rota_core.specs.Bits.{true_from}
use Rattle.rota_core.specs.RosterTables.{RosterTables, HasShapeOf, IsRoster, set_of}
use Rattle.rota_core.specs.CellIndex.{cell_count}
use Rattle.rota_core.specs.RosterCells.{cell_at, cells_of}
use Rattle.rota_core.specs.RosterCalls.{cells_in, count_of}
use Rattle.rota_core.specs.Problem.{Problem}
use Rattle.rota_core.proofs.CellLists.{all-cells_of}
use Rattle.rota_core.proofs.CellsByIndex.{cells_in-is, cells-at_indices}

-- the number of true values in a list is the number of their indices in any list that begins with it
pub count-truths : (list truths : List Bool) (n : ℕ) → length list ≡ n → ((p : ℕ) → p < n → get_or list p false ≡ get_or truths p false) →
    count_by (λ is_in. is_in) list ≡ length (true_from truths 0 n)
count-truths list truths n long same =
    let truth : ℕ → Bool = λ p. get_or truths p false in
    ap (count_by (λ is_in. is_in)) (fill_by_all truth list n false long same) ∙
    fold-map _ truth 0 (range_with_len 0 n) ∙
    sym (length-filter truth (range_with_len 0 n))

pub length-true_from : (truths : List Bool) (n : ℕ) → length (true_from truths 0 n) ≤ n
length-true_from truths n =
    let truth : ℕ → Bool = λ p. get_or truths p false in
    let range = range_with_len 0 n in
    omega (arith, length-filter truth range, count_by-le-length truth range, length-range_with_len 0 n)

-- the number of cells in a roster is the length of its list
pub count-cells_in : (t : RosterTables) → IsRoster t → count_of t ≡ length (cells_in t)
count-cells_in t is =
    let count = cell_count t.nurses t.shifts t.skills in
    count-truths t.cells t.cells count is.cells (λ p _. refl) ∙
    sym (length-map (true_from t.cells 0 count) (cell_at t.shifts t.skills)) ∙
    ap length (cells-at_indices t t.cells (λ p _. refl))

-- it is also the length of its list in a week of its shape
pub count-cells_of : (problem : Problem) (t : RosterTables) → HasShapeOf problem t → IsRoster t → count_of t ≡ length (cells_of problem (set_of t))
count-cells_of problem t shape is = count-cells_in t is ∙ ap length (cells_in-is problem t shape)

length-none : {A : Type 0} (xs : List A) → AllByRecursion (λ _. ⊥) xs → length xs ≡ 0
length-none [] all = refl
length-none (x ∷ xs) all = absurd all.0

-- a roster with no cell has an empty list
pub cells_of-none : (problem : Problem) → length (cells_of problem (λ one. false)) ≡ 0
cells_of-none problem =
    length-none (cells_of problem (λ one. false)) (all-cells_of problem (λ one. false) (λ _. ⊥) (λ one has. true≢false (sym has.in_roster)))
