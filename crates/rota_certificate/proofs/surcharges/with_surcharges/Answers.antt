use Rattle.std.proofs.Common.{ap, sym, ◌∙◌, arith, ◌++◌, ◌∷◌, [], List, drop, subst, ℕ, ◌+◌}
use Rattle.std.proofs.lemmas.List.{append-nil, append_assoc}
use Rattle.rota_certificate.specs.CaseLimits.{AreLimitedCharges}
use Rattle.rota_certificate.specs.Tariffs.{surcharged}
use Rattle.rota_certificate.specs.declared.surcharges.Surcharged.{Surcharged}
use Rattle.rota_certificate.proofs.SurchargeLists.{surcharged-end, surcharged-limited, surcharged-more}
use Rattle.rota_certificate.proofs.surcharges.with_surcharges.Goals as goal

pub loop-index-preserved : goal.loop-index-preserved
loop-index-preserved c =
    let case = c.args.case.now in
    let list = c.args.surcharges.now in
    let i = c.loop-index.index in
    let condition = c.condition_at-condition.result in
    let more = surcharged-more case list i condition c.loop-index-test.true c.condition_at-condition.ensures in
    let rest = surcharged (drop (i + 1) case) (drop (i + 1) list) in
    let one : Surcharged = record { condition = condition; surcharge = c.surcharge_at-surcharge.result } in
    ap (λ (all : List Surcharged). all ++ rest) c.in_ok-push.ensures.items ∙
    append_assoc c.loop-index.charges.items (one ∷ []) rest ∙
    ap (λ (m : ℕ). c.loop-index.charges.items ++ (record { condition = condition; surcharge = m } ∷ rest)) c.surcharge_at-surcharge.ensures ∙
    ap (λ (all : List Surcharged). c.loop-index.charges.items ++ all) (sym more) ∙ c.loop-index.invariant

pub returns-clause-charges : goal.returns-clause-charges
returns-clause-charges c =
    let end = surcharged-end c.args.case.now c.args.surcharges.now c.loop-index.index (omega (arith, c.loop-index-test.false)) in
    sym (append-nil c.loop-index.charges.items) ∙ ap (λ (all : List Surcharged). c.loop-index.charges.items ++ all) (sym end) ∙ c.loop-index.invariant

pub returns-clause-limited : goal.returns-clause-limited
returns-clause-limited c =
    subst AreLimitedCharges (sym (returns-clause-charges c)) (surcharged-limited c.args.case.now c.args.surcharges.now c.requires.case c.requires.small)
