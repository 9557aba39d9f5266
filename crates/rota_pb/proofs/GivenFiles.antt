-- A solution file that was read whole, or up to one byte more than it may have.
use Rattle.std.proofs.Common.{ℕ, ◌+◌, List}
use Rattle.rota_core.specs.InstanceTables.{InstanceTables, problem_of}
use Rattle.rota_core.specs.Limits.{max_file_len}
use Rattle.rota_core.specs.RosterTables.{HasShapeOf, RosterTables}
use Rattle.rota_core.specs.declared.fault.FileName.TheVariants as names
use Rattle.rota_read.specs.SolutionLayout.{solution, SpellsRoster}
use Rattle.rota_pb.specs.RunPorts.{IsRead, IsReadUpTo, Reader}
use Rattle.rota_pb.proofs.WholeFiles.{is-read}

-- the roster that its text spells is read
pub roster-read : (tables : InstanceTables) (reader : Reader) (text : List ℕ) → IsReadUpTo (max_file_len + 1) reader text →
    (roster : RosterTables) → SpellsRoster tables text roster →
    IsRead (SpellsRoster tables) reader roster × HasShapeOf (problem_of tables) roster
roster-read tables reader text read roster spells =
    let rows = is-read names.Solution (solution tables.scenario) reader text read spells.rows spells.spelled in
    ((λ bytes known. record { rows = spells.rows; spelled = rows.0 bytes known; cells = spells.cells }, rows.1), spells.cells.shape)
