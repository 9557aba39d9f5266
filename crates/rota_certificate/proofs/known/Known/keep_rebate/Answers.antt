use Rattle.std.proofs.Common.{IfSome, subst, sym}
use Rattle.std.specs.Prelude.{Some}
use Rattle.std.proofs.lemmas.List.Elements.{All-set}
use Rattle.rota_certificate.specs.KnownCosts.{AreRightFor, IsRightRebate}
use Rattle.rota_certificate.proofs.known.Known.keep_rebate.Goals as goal

pub returns : goal.returns
returns c = λ terms weeks nurse right is.
    let before = subst (AreRightFor terms weeks nurse) (sym c.self.view_is) right in
    record {
      costs = before.costs;
      rebates = All-set (λ one. IfSome one (IsRightRebate weeks nurse)) c.self.inside.rebates.items c.rebate_entry-entry.result
          (Some c.args.known) is before.rebates;
    }
