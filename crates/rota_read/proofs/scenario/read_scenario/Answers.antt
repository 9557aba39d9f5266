use Rattle.rota_layout.proofs.ReadingLaws.{spells-read}
use Rattle.rota_read.proofs.ScenarioLaws.{spells-is_scenario}
use Rattle.rota_read.proofs.scenario.read_scenario.Goals as goal

pub of_parts-requires : goal.of_parts-requires
of_parts-requires c = spells-is_scenario _ _ (spells-read _ _ _ c.in-Ok.ensures)

pub returns-in-Ok-clause-spelled : goal.returns-in-Ok-clause-spelled
returns-in-Ok-clause-spelled c = rw c.of_parts.ensures (spells-read _ _ _ c.in-Ok.ensures)
