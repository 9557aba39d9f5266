use Rattle.rota_judge.proofs.Common.{◌≡◌, ◌+◌, ◌∙◌, ap, sym, refl, true, arith, exits, unit_number, problem_of, taking, set_of, assignment_of}
use Rattle.rota_judge.proofs.Numbers.{assignment_of-unit, index-assigned}
use Rattle.rota_judge.proofs.LiteralTaking.{literals_end, literals_refused}
use Rattle.rota_judge.proofs.literals.extension.emit_assigned.Goals as goal

pub has_index-requires : goal.has_index-requires
has_index-requires g c =
    let shape = c.requires.shape in rw shape (omega (arith, c.cell_count-index-end.ensures.count))

pub returns-in_err-literal-clause-takes : goal.returns-in_err-literal-clause-takes
returns-in_err-literal-clause-takes g c =
    let is = index-assigned (problem_of c.args.instance.now) c.args.roster.now c.loop-index.index _ c.requires.shape refl (omega arith) in
    exits _ _ _ _ c.from_residual.ensures.0
    (literals_refused g.T.LiteralTaker (λ index. assignment_of (problem_of c.args.instance.now) (set_of c.args.roster.now) (index + 1)) _ _ _ _ _ _
    (c.has_index.ensures ∙ is) c.loop-index.invariant (omega arith) c.in_err-literal.ensures)

pub loop-index-preserved : goal.loop-index-preserved
loop-index-preserved g c =
    grind (arith, taking, index-assigned (problem_of c.args.instance.now) c.args.roster.now c.loop-index.index _ c.requires.shape refl (omega arith))

pub returns-clause-takes : goal.returns-clause-takes
returns-clause-takes g c =
    let problem = problem_of c.args.instance.now in
    let assigned = assignment_of problem (set_of c.args.roster.now) in
    let all : unit_number problem ≡ c.loop-index.index + 1 = omega (arith, c.cell_count-index-end.ensures.count) in
    let unit = sym (ap assigned (sym all) ∙ assignment_of-unit problem (set_of c.args.roster.now)) in
    literals_end g.T.LiteralTaker (λ index. assigned (index + 1)) c.loop-index.index _ true _ _ _ unit c.loop-index.invariant _ all c.literal-2.ensures
