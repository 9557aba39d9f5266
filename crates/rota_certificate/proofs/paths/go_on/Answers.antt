use Rattle.std.proofs.Common.{ap, sym, ◌∙◌, reverse, ◌∷◌, arith}
use Rattle.std.specs.Prelude.{Some}
use Rattle.rota_core.specs.declared.certificate.Condition.{Condition}
use Rattle.rota_certificate.proofs.TreePaths.{next-after, next-of_root, next-turned, reverse-push}
use Rattle.rota_certificate.proofs.paths.go_on.Goals as goal

pub returns-then-last : goal.returns-then-last
returns-then-last c =
    let pushed = reverse-push c.push.new.self.items c.pop.new.self.items c.without.result c.in_ok-push.ensures.items ∙
    ap (λ (one : Condition). one ∷ reverse c.pop.new.self.items) c.without.ensures in
    c.loop-last.invariant ∙
    next-turned c.loop-last.path.items c.pop.new.self.items c.in-Some.last c.in-Some.ensures.items c.if-last.true ∙ ap Some (sym pushed)

pub loop-last-preserved : goal.loop-last-preserved
loop-last-preserved c =
    c.loop-last.invariant ∙
    next-after c.loop-last.path.items c.pop.new.self.items c.in-Some.last c.in-Some.ensures.items c.if-last.false

pub returns : goal.returns
returns c = c.loop-last.invariant ∙ next-of_root c.loop-last.path.items (omega (arith, c.in_default.ensures.cases))
