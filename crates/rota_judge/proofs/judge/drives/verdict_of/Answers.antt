use Rattle.rota_judge.proofs.JudgedVerdict.{driven-is, was-driven}
use Rattle.rota_judge.proofs.judge.drives.verdict_of.Goals as goal

pub verdict-requires : goal.verdict-requires
verdict-requires c =
    record { driven = was-driven _ _ _ (driven-is c.args.instance.now c.args.judge.subject _ _ c.requires.begun c.drive_both.ensures) }

pub returns-clause-judges : goal.returns-clause-judges
returns-clause-judges c =
    rw (driven-is c.args.instance.now c.args.judge.subject _ _ c.requires.begun c.drive_both.ensures) at c.verdict.ensures.judges

pub returns-clause-rules : goal.returns-clause-rules
returns-clause-rules c =
    rw (driven-is c.args.instance.now c.args.judge.subject _ _ c.requires.begun c.drive_both.ensures) at c.verdict.ensures.rules

pub returns-clause-model : goal.returns-clause-model
returns-clause-model c =
    rw (driven-is c.args.instance.now c.args.judge.subject _ _ c.requires.begun c.drive_both.ensures) at c.verdict.ensures.model
