use Rattle.std.proofs.lemmas.Result.{err_from_is_err_and}
use Rattle.rota_pb.proofs.Feeding.{fails_answer, fails_at_end, is_solved}
use Rattle.rota_pb.proofs.answer_pieces.read_answer.Goals as goal

pub returns-in_err-feed_all : goal.returns-in_err-feed_all
returns-in_err-feed_all g c =
    let p = err_from_is_err_and c.from_residual-in_err-feed_all.result c.from_residual-in_err-feed_all.ensures.1 in
    rw (p.1, p.2) (fails_answer _ _ _ c.in_ok-answer.ensures c.fault_of_a_beginning_stays.ensures _ c.in_err-feed_all.ensures.fault)

pub returns-in_err-finish : goal.returns-in_err-finish
returns-in_err-finish g c =
    let p = err_from_is_err_and c.from_residual-in_err-finish.result c.from_residual-in_err-finish.ensures.1 in
    rw (p.1, p.2)
    (fails_at_end _ _ _ c.in_ok-answer.ensures _ c.in_ok-feed_all.ensures.taken _ (λ text leads. c.in_err-finish.ensures.outcome _ text leads))

pub returns : goal.returns
returns g c =
    is_solved _ _ _ c.in_ok-answer.ensures _ c.in_ok-feed_all.ensures.taken _ (λ text leads. c.in_ok-finish.ensures.outcome _ text leads)
    (λ text leads. c.in_ok-finish.ensures.bits _ text leads)
