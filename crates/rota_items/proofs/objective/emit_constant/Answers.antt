use Rattle.rota_items.proofs.Common.{to_z_pos, singleton_if-fails, singleton_if-holds, ◌≡◌, pos, nat_lt, true, false, ap}
use Rattle.rota_items.proofs.Common.{◌∙◌, w64, arith, problem_of, nothing, numbers_join, takes_one, term_events, constant}
use Rattle.rota_items.proofs.RuleSizes.{few-constant}
use Rattle.rota_items.proofs.objective.emit_constant.Goals as goal

pub returns-then-constant-eq0 : goal.returns-then-constant-eq0
returns-then-constant-eq0 g c =
    let none : nat_lt 0 (constant (problem_of c.args.instance.now)) ≡ false = grind (arith, c.constant-constant.ensures) in
    rw (singleton_if-fails _ _ none) (nothing numbers_join _)

pub returns : goal.returns
unfolding term_events
returns g c =
    let problem = problem_of c.args.instance.now in
    let few = few-constant c.args.instance.now c.unit_var-unit.ensures.limits in
    let exact = to_z_pos w64 c.constant-constant.result (omega (arith, c.constant-constant.ensures, few)) ∙ ap pos c.constant-constant.ensures in
    let some : nat_lt 0 (constant problem) ≡ true = grind (arith, c.constant-constant.ensures) in
    rw (singleton_if-holds _ _ some) (takes_one _ _ _ _ _ _ _ (rw (exact, c.unit_var-unit.ensures.number) at c.term.ensures))
