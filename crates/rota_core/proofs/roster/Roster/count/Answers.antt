use Rattle.std.proofs.Common.{ℕ, inl, false, length, take, sym, ap, ◌∙◌, arith}
use Rattle.std.proofs.lemmas.Iterator.Consumers.{YieldsList-from_first, count_from_yields_List}
use Rattle.std.proofs.lemmas.List.{get_or-take, length-take-le}
use Rattle.rota_core.specs.Bits.{true_from}
use Rattle.rota_core.specs.RosterCalls.{count_of}
use Rattle.rota_core.proofs.RosterCount.{count-truths, length-true_from}
use Rattle.rota_core.proofs.roster.Roster.count.Goals as goal

pub count-requires-clause-fits : goal.count-requires-clause-fits
count-requires-clause-fits c =
    inl (omega (arith, length-true_from c.self.inside.bits c.count_of_cells-end.result, ap length c.true_indices_below.ensures))

pub overflow_cast-result : goal.overflow_cast-result
overflow_cast-result c =
    let few = length-true_from c.self.inside.bits c.count_of_cells-end.result in
    omega (arith, few, ap length c.true_indices_below.ensures, c.count.ensures.bound)

pub returns-clause-count : goal.returns-clause-count
returns-clause-count c =
    let r = c.self.inside in
    count_from_yields_List c.true_indices_below.result _ c.count.ensures.ran (YieldsList-from_first (λ x. x) (λ left. left) _ c.true_indices_below.ensures) ∙
    ap (λ (n : ℕ). length (true_from r.bits 0 n)) c.count_of_cells-end.ensures ∙
    sym (
    count-truths (take _ r.bits) r.bits _ (length-take-le _ r.bits c.self.invariant.enough)
    (λ p below. get_or-take _ r.bits p false below)) ∙
    ap count_of c.self.view_is
