-- The cells of a roster, by rising index.
use Rattle.std.specs.Prelude.{ℕ, ◌/◌, ◌%◌, List}
use Rattle.rota_core.specs.Sizes.{DAYS}
use Rattle.rota_core.specs.declared.values.Cell.{Cell}
use Rattle.rota_core.specs.Lists.{concat_below, singleton_if}
use Rattle.rota_core.specs.Roster.{Roster, cell}
use Rattle.rota_core.specs.Problem.{Problem}

-- the cells of the week that are in the roster, in the order of nurse, day, shift type and skill
unfoldable pub cells_of : Problem → Roster → List Cell
cells_of problem roster =
    concat_below problem.nurses (λ n. concat_below DAYS (λ d. concat_below problem.shifts (λ s. concat_below problem.skills (λ k.
    singleton_if (roster (cell n d s k)) (cell n d s k)))))

-- the cell with this index, for these numbers of shift types and skills
abbrev pub cell_at : (shifts skills index : ℕ) → Cell
cell_at shifts skills index =
    cell (index / skills / shifts / DAYS) (index / skills / shifts % DAYS) (index / skills % shifts) (index % skills)
