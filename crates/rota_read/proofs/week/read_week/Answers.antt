use Rattle.rota_layout.proofs.ReadingLaws.{spells-read}
use Rattle.rota_read.proofs.WeekLaws.{spells-is_week, spells-numbers}
use Rattle.rota_read.proofs.week.read_week.Goals as goal

pub of_parts-requires : goal.of_parts-requires
of_parts-requires c = spells-is_week _ _ _ c.in-Ok.ensures.within (spells-read _ _ _ c.in-Ok.ensures.read)

pub returns-in-Ok-clause-spelled : goal.returns-in-Ok-clause-spelled
returns-in-Ok-clause-spelled c = rw c.of_parts.ensures (spells-read _ _ _ c.in-Ok.ensures.read)

pub returns-in-Ok-clause-numbers : goal.returns-in-Ok-clause-numbers
returns-in-Ok-clause-numbers c = rw c.of_parts.ensures (spells-numbers _ _ _ (spells-read _ _ _ c.in-Ok.ensures.read))
