use Rattle.std.proofs.Common.{arith}
use Rattle.rota_core.specs.InstanceTables.{problem_of}
use Rattle.rota_certificate.proofs.ShiftRuns.{shift_charges-are}
use Rattle.rota_certificate.proofs.charges.shift_charges.Goals as goal

pub returns-clause-charges : goal.returns-clause-charges
returns-clause-charges c =
    let both = shift_charges-are (problem_of c.args.instance.now) c.args.past c.args.choice c.requires.choice_in c.requires.last_in in
    omega (arith, both, c.from.ensures, c.from-2.ensures, c.going_charge.ensures, c.ended_charge.ensures)
