-- The list of a roster's cells is the list of the cells at its true indices.
use Rattle.std.proofs.Common.{◌≡◌, ℕ, zero, suc, ◌+◌, ◌*◌, ◌<◌, ◌≤◌, Bool, true, false, refl, sym, ap, ◌∙◌, arith, zero-add, add-one}
use Rattle.std.proofs.Common.{List, ◌++◌, map, get_or}
use Rattle.std.specs.List.{range_with_len}
use Rattle.std.proofs.Math.Nat.{mul_comm, mul-le-mul_left, mul-le-mul_right}
use Rattle.std.proofs.lemmas.List.{map-append, map-id}
use Rattle.std.proofs.lemmas.List.Elements.{All-filter, recursion_from_All}
use Rattle.std.proofs.lemmas.List.FromFn.{filter_of_map_range_with_len_more, get_or-range_with_len, length-range_with_len}
use Rattle.rota_core.specs.Bits.{true_from}
use Rattle.rota_core.specs.Lists.{concat_below, singleton_if}
use Rattle.rota_core.specs.Roster.{Roster, cell}
use Rattle.rota_core.specs.declared.values.Cell.{Cell}
use Rattle.rota_core.specs.RosterCells.{cells_of, cell_at}
use Rattle.rota_core.specs.RosterCalls.{cells_in, AreIndices, HoldsRoster}
use Rattle.rota_core.specs.RosterTables.{RosterTables, HasShapeOf, set_of}
use Rattle.rota_core.specs.CellIndex.{cell_count}
use Rattle.rota_core.specs.Problem.{Problem}
use Rattle.rota_core.proofs.CellIndices.{cell_at-index, index-cell_at}
use Rattle.rota_core.proofs.LogicWords.{concat_below-grid, concat_below-same}

-- the cell at an index, if it is in the set
abbrev pub cell_if_in : ℕ → ℕ → Roster → ℕ → List Cell
cell_if_in shifts skills set p = singleton_if (set (cell_at shifts skills p)) (cell_at shifts skills p)

-- a loop over the indices is a loop over the nurses, days, shift types and skills
by_index : (nurses shifts skills : ℕ) (set : Roster) →
    concat_below (cell_count nurses shifts skills) (cell_if_in shifts skills set) ≡
    concat_below nurses (λ n. concat_below 7 (λ d. concat_below shifts (λ s. concat_below skills (λ k. singleton_if (set (cell n d s k)) (cell n d s k)))))
by_index nurses shifts skills set =
    let turn = cell_if_in shifts skills set in
    rw (mul_comm 7 nurses) (
    concat_below-grid (nurses * 7 * shifts) skills turn ∙
    concat_below-grid (nurses * 7) shifts (λ row. concat_below skills (λ k. turn (row * skills + k))) ∙
    concat_below-grid nurses 7 (λ day. concat_below shifts (λ s. concat_below skills (λ k. turn ((day * shifts + s) * skills + k)))) ∙
    concat_below-same nurses _ _ (λ n _. concat_below-same 7 _ _ (λ d d_in. concat_below-same shifts _ _ (λ s s_in. concat_below-same skills _ _ (λ k k_in.
    ap (λ one. singleton_if (set one) one) (cell_at-index shifts skills n d s k d_in s_in k_in)))))
    )

pub cells_of-by_index : (problem : Problem) (roster : Roster) →
    concat_below (cell_count problem.nurses problem.shifts problem.skills) (cell_if_in problem.shifts problem.skills roster) ≡ cells_of problem roster
unfolding cells_of
cells_of-by_index problem roster = by_index problem.nurses problem.shifts problem.skills roster

map-singleton_if : {A B : Type 0} (g : A → B) (test : Bool) (x : A) → map g (singleton_if test x) ≡ singleton_if test (g x)
unfolding singleton_if
map-singleton_if g true x = refl
map-singleton_if g false x = refl

-- the true indices as the turns of a loop
map-true_from : {A : Type 0} (g : ℕ → A) (truths : List Bool) (n : ℕ) →
    map g (true_from truths 0 n) ≡ concat_below n (λ p. singleton_if (get_or truths p false) (g p))
unfolding concat_below singleton_if
map-true_from g truths zero = refl
map-true_from g truths (suc n) =
    let truth : ℕ → Bool = λ p. get_or truths p false in
    let more = simp map-id at (filter_of_map_range_with_len_more truth (λ p. p) 0 n n (zero-add n)) in
    ap (map g) (rw add-one at more) ∙ map-append g (true_from truths 0 n) (singleton_if (truth n) n) ∙
    (λ i. map-true_from g truths n i ++ map-singleton_if g (truth n) n i)

-- if these truth values are the roster's own up to its last index, its list is the list of the cells at the true indices
pub cells-at_indices : (t : RosterTables) (truths : List Bool) →
    ((p : ℕ) → p < cell_count t.nurses t.shifts t.skills → get_or truths p false ≡ get_or t.cells p false) →
    map (cell_at t.shifts t.skills) (true_from truths 0 (cell_count t.nurses t.shifts t.skills)) ≡ cells_in t
unfolding cells_in
cells-at_indices t truths same =
    map-true_from (cell_at t.shifts t.skills) truths (cell_count t.nurses t.shifts t.skills) ∙
    concat_below-same (cell_count t.nurses t.shifts t.skills) _ _ (λ p p_in.
    ap (λ truth. singleton_if truth (cell_at t.shifts t.skills p))
    (same p p_in ∙ ap (λ q. get_or t.cells q false) (sym (index-cell_at t.shifts t.skills p)))) ∙
    by_index t.nurses t.shifts t.skills (set_of t)

-- they are the cells of a week of the roster's shape
pub cells_in-is : (problem : Problem) (t : RosterTables) → HasShapeOf problem t → cells_in t ≡ cells_of problem (set_of t)
unfolding cells_in cells_of
cells_in-is problem t shape = rw shape refl

pub indices-within : (nurses shifts skills : ℕ) (bits : List Bool) → HoldsRoster nurses shifts skills bits
    → AreIndices shifts skills (true_from bits 0 (cell_count nurses shifts skills))
indices-within nurses shifts skills bits holds =
    let count = cell_count nurses shifts skills in
    let fewer : count ≤ cell_count 1000 shifts skills =
    mul-le-mul_right skills (mul-le-mul_right shifts (mul-le-mul_left 7 holds.nurses_in.1)) in
    record {
      shifts_in = holds.shifts_in;
      skills_in = holds.skills_in;
      below = recursion_from_All _ _ (All-filter _ (λ index. index < cell_count 1000 shifts skills) (range_with_len 0 count) (λ k d lt.
          let below : k < count = omega (arith, length-range_with_len 0 count) in
          omega (arith, get_or-range_with_len 0 count k d below)));
    }
