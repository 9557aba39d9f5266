use Rattle.rota_core.specs.InstanceTables.{problem_of}
use Rattle.rota_read.proofs.RosterTexts.{roster_text-spelled}
use Rattle.rota_read.proofs.laws.each_roster_has_its_text.Goals as goal

pub returns : goal.returns
returns c = λ tables roster valid.
    roster_text-spelled c.numerals_read_back.ensures tables valid
    (λ roster. c.rosters_list_their_cells.ensures.cells (problem_of tables) roster) roster
