use Rattle.rota_judge.proofs.Common.{refl, subst, sym, problem_of, WasDriven}
use Rattle.rota_judge.proofs.JudgedModel.{agrees}
use Rattle.rota_judge.proofs.JudgedVerdict.{driven-judges}
use Rattle.rota_judge.proofs.VerdictMeaning.{rules-judged, settles_model}
use Rattle.rota_judge.proofs.judge.taker.Judge.verdict.Goals as goal

pub returns-clause-judges : goal.returns-clause-judges
returns-clause-judges c =
    rw (← c.self.view_is)
    (driven-judges _ c.self.invariant.0 (subst WasDriven (sym c.self.view_is) c.requires.driven) _ _ c.saturating_add.ensures
    (rw (c.charge_constants.ensures, c.charge.ensures, c.saturating_sub-requests.ensures, c.at_unit.ensures, ← c.self.view_is) refl))

pub returns-clause-rules : goal.returns-clause-rules
returns-clause-rules c = rules-judged _ _ _ _ (returns-clause-judges c) (agrees (problem_of c.args.self.now.instance) c.args.self.now.subject)

pub returns-clause-model : goal.returns-clause-model
returns-clause-model c = settles_model (problem_of c.args.self.now.instance) c.args.self.now.subject _ (returns-clause-judges c)
