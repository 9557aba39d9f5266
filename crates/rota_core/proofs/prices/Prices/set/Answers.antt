use Rattle.std.proofs.Common.{◌<◌, sym, subst}
use Rattle.rota_core.specs.PriceTables.{PriceTables}
use Rattle.rota_core.proofs.PriceLemmas.{SetsPrice-set}
use Rattle.rota_core.proofs.prices.Prices.set.Goals as goal

pub returns : goal.returns
returns c =
    let r = c.self.inside in
    let t : PriceTables = record { shifts = r.shifts; skills = r.skills; prices = r.prices.items } in
    let shift_in = subst (λ (t : PriceTables). c.args.shift < t.shifts) (sym c.self.view_is) c.requires.shift_in in
    let skill_in = subst (λ (t : PriceTables). c.args.skill < t.skills) (sym c.self.view_is) c.requires.skill_in in
    rw (c.index-index.ensures.index, sym c.self.view_is)
    (SetsPrice-set t c.self.invariant c.args.day c.args.shift c.args.skill c.args.price c.requires.day_in shift_in skill_in)
