-- The meaning of a solution file's text.
use Rattle.std.proofs.Common.{ℕ, List, Ok}
use Rattle.rota_core.specs.InstanceTables.{InstanceTables, problem_of}
use Rattle.rota_core.specs.RosterTables.{RosterTables}
use Rattle.rota_layout.specs.Reading.{read_text}
use Rattle.rota_read.specs.RosterReading.{ReadsRosterFile}
use Rattle.rota_read.specs.SolutionLayout.{solution, SpellsRoster}
use Rattle.rota_layout.proofs.ReadingLaws.{spells-read, fault_in-read}

-- a roster that is read is the roster that the text spells
pub roster-read : (tables : InstanceTables) (text : List ℕ) (roster : RosterTables)
    → ReadsRosterFile (problem_of tables) (Ok roster) (read_text (solution tables.scenario) text) → SpellsRoster tables text roster
roster-read tables text roster h = record { rows = h.0; spelled = spells-read (solution tables.scenario) text h.0 h.2; cells = h.1 }

-- the results of the reader of a solution, by the results of reading
pub ruleset roster_steps = (roster-read, fault_in-read)
