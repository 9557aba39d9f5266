use Rattle.std.proofs.Common.{◌≡◌, ◌<◌, sym, ◌∙◌, arith, length}
use Rattle.std.specs.Prelude.{slice_index_or}
use Rattle.std.proofs.lemmas.List.{get_or_default}
use Rattle.rota_core.specs.Defaults.{no_past}
use Rattle.rota_bound_run.proofs.PastLists.{one-more-after}
use Rattle.rota_bound_run.proofs.pasts.pasts_after.Goals as goal

pub loop-nurse-preserved : goal.loop-nurse-preserved
loop-nurse-preserved c =
    let before = c.args.pasts.items in
    let now = c.loop-nurse.pasts.items in
    let i = c.loop-nurse.nurse in
    let inv = c.loop-nurse.invariant in
    let inside : i < length before = omega (arith, c.loop-nurse-test.true, c.nurses-nurse-end.ensures.count, c.requires.pasts.count) in
    let here : c.index.result.now ≡ slice_index_or before i no_past =
    (rw c.from-index.ensures at c.index.ensures) ∙ get_or_default now i c.index.result.now no_past (omega (arith, inside, inv.count)) ∙
    inv.others i (omega arith) in
    rw c.from-index.ensures
    (one-more-after _ before now i c.past_after_week-past.result inv inside
    (c.past_after_week-past.ensures.past (λ n. slice_index_or before n no_past) (sym here) c.requires.keeps))
