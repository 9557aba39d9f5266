-- The index of each cell, and the number of cells.
use Rattle.std.specs.Prelude.{ℕ, ◌+◌, ◌*◌}
use Rattle.rota_core.specs.Sizes.{DAYS}
use Rattle.rota_core.specs.declared.values.Cell.{Cell}
use Rattle.rota_core.specs.Roster.{cell}

-- the index of a cell in the order of nurse, day, shift type and skill, for these numbers of shift types and skills
abbrev pub cell_index : ℕ → ℕ → Cell → ℕ
cell_index shifts skills cell = ((cell.nurse * DAYS + cell.day) * shifts + cell.shift) * skills + cell.skill

-- the number of cells that a week has for these numbers of nurses, shift types and skills
abbrev pub cell_count : (nurses shifts skills : ℕ) → ℕ
cell_count nurses shifts skills = DAYS * nurses * shifts * skills
