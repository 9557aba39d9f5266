use Rattle.std.proofs.Common.{refl, sym}
use Rattle.rota_core.proofs.RosterLemmas.{set_of-seen}
use Rattle.rota_core.proofs.roster.Roster.of_bits.Goals as goal

pub returns-clause-cells : goal.returns-clause-cells
returns-clause-cells c = λ cell h.
    rw (c.nurses.ensures.count, c.shifts.ensures.count, c.skills.ensures.count)
    (sym (set_of-seen _ _ _ c.args.bits _ refl cell
    (record { nurse_in = h.nurse_in; day_in = h.day_in; shift_in = h.shift_in; skill_in = h.skill_in })))
