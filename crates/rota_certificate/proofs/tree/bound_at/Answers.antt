use Rattle.std.proofs.Common.{◌≡◌, ◌<◌, length, ap, sym, ◌∙◌, subst, List, map, reverse, slice_index_or, []}
use Rattle.std.proofs.lemmas.Result.{IfOk-weaker}
use Rattle.rota_core.specs.InstanceTables.{problem_of}
use Rattle.rota_core.specs.PriceTables.{PriceTables, prices_of}
use Rattle.rota_core.specs.TreeNodes.{leaf_of}
use Rattle.rota_certificate.specs.CaseLimits.{IsLimitedCase}
use Rattle.rota_certificate.specs.CertificateBounds.{case_of, lists_of, prices_of_leaf}
use Rattle.rota_certificate.specs.Evidence.{AreLent}
use Rattle.rota_certificate.specs.EvidenceFields.{evidence_of}
use Rattle.rota_certificate.specs.LentLeaves.{LentTables, prices_lent, week_lent}
use Rattle.rota_certificate.specs.declared.stages.LentWeek.{LentWeek}
use Rattle.rota_certificate.proofs.LentWeeks.{bound-same, lent-leaf, lent-prices, lent-problems, list-at, some-weeks}
use Rattle.rota_certificate.proofs.PeriodProofs.{given-limited}
use Rattle.rota_certificate.proofs.TreePaths.{case-forward, case-limited}
use Rattle.rota_certificate.proofs.tree.bound_at.Goals as goal

pub invariant_of-lent : goal.invariant_of-lent
invariant_of-lent c =
    let evidence = evidence_of c.evidence.inside in
    let weeks = evidence.weeks in
    let certificate = evidence.certificate in
    let i = c.args.leaf.now.prices in
    let i_in : i < length certificate.prices.items = rw (← c.evidence.view_is) at c.requires.leaf.number in
    let list = c.deref.result.now in
    let is_list : list ≡ slice_index_or (lists_of certificate) i [] =
    c.deref.ensures.value ∙
    list-at (λ one. one.items) certificate.prices.items i c.index-prices.result.now i_in c.index-prices.ensures in
    lent-leaf (record { weeks = c.deref-2.result.now; case = c.deref-3.result.now }) weeks list
    (subst (λ (lent : List LentWeek). AreLent lent weeks list) (sym c.deref-2.ensures.value) c.in_ok-weeks.ensures)
    c.evidence.invariant.period
    (some-weeks weeks certificate c.evidence.invariant.is_for)
    (subst IsLimitedCase (sym (c.deref-3.ensures.value ∙ c.in_ok-case.ensures))
    (case-limited c.args.path.now evidence.given c.requires.path c.evidence.invariant.given_for.few
    (given-limited _ _ evidence.given c.evidence.invariant.given_for.each)))

pub returns-clause-bound : goal.returns-clause-bound
returns-clause-bound c =
    let evidence = evidence_of c.evidence.inside in
    let certificate = evidence.certificate in
    let i = c.args.leaf.now.prices in
    let i_in : i < length certificate.prices.items = rw (← c.evidence.view_is) at c.requires.leaf.number in
    let list = c.deref.result.now in
    let is_list : list ≡ slice_index_or (lists_of certificate) i [] =
    c.deref.ensures.value ∙
    list-at (λ one. one.items) certificate.prices.items i c.index-prices.result.now i_in c.index-prices.ensures in
    let lent : AreLent c.deref-2.result.now evidence.weeks list =
    subst (λ (lent : List LentWeek). AreLent lent evidence.weeks list) (sym c.deref-2.ensures.value) c.in_ok-weeks.ensures in
    let leaf : LentTables = record { weeks = c.deref-2.result.now; case = c.deref-3.result.now } in
    let same = bound-same evidence.rules (map week_lent c.deref-2.result.now) (map problem_of evidence.weeks) c.deref-3.result.now
    (case_of (reverse c.args.path.now) evidence.given) (map prices_lent c.deref-2.result.now) (prices_of_leaf certificate (leaf_of c.args.leaf.now))
    c.deref-4.result.now c.args.leaf.now.surcharges.items
    (lent-problems leaf evidence.weeks list lent)
    (c.deref-3.ensures.value ∙ c.in_ok-case.ensures ∙ sym (case-forward c.args.path.now evidence.given))
    (lent-prices leaf evidence.weeks list lent ∙ ap (λ (ts : List PriceTables). map prices_of ts) is_list) c.deref-4.ensures.value in
    rw (← c.evidence.view_is) (IfOk-weaker c.bound_by.result _ _ (λ bound is. is ∙ same) c.bound_by.ensures.bound)
