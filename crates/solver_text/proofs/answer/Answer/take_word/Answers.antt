use Rattle.std.proofs.Common.{◌∙◌, ap, sym}
use Rattle.std.proofs.lemmas.Result.{err_from_is_err_and}
use Rattle.solver_text.specs.LineStates.{LineState, take_bytes}
use Rattle.solver_text.specs.States.{known_of, line_of}
use Rattle.solver_text.proofs.ReadLaws.{taken_on, taken_err}
use Rattle.solver_text.proofs.WordBytes.{take_bytes-in_word, take_bytes-blank}
use Rattle.solver_text.proofs.answer.Answer.take_word.Goals as goal

pub returns-in_err-check_front-in-Some-clause-taken : goal.returns-in_err-check_front-in-Some-clause-taken
returns-in_err-check_front-in-Some-clause-taken c =
    let p = err_from_is_err_and c.from_residual.result c.from_residual.ensures.1 in
    let read = take_bytes-in_word (known_of c.args.self.now.known) (line_of c.args.self.now) c.args.front
    c.read_on-front.result.0 c.args.bytes.now c.read_on-front.result.1.now c.requires.values c.read_on-front.ensures.reads in
    rw (p.1, p.2)
    (read
    ∙ rw c.in-Some.ensures.cases.0
    (take_bytes-blank _ _ _ _ _ _ (sym c.is_blank.ensures ∙ c.if-is_blank.true) c.in_err-check_front-in-Some.ensures))

pub returns-in_ok-check_front-in-Some-clause-taken : goal.returns-in_ok-check_front-in-Some-clause-taken
returns-in_ok-check_front-in-Some-clause-taken c =
    let read = take_bytes-in_word (known_of c.args.self.now.known) (line_of c.args.self.now) c.args.front
    c.read_on-front.result.0 c.args.bytes.now c.read_on-front.result.1.now c.requires.values c.read_on-front.ensures.reads in
    rw c.go_to.ensures
    (read
    ∙ rw c.in-Some.ensures.cases.0
    (take_bytes-blank _ _ _ _ _ _ (sym c.is_blank.ensures ∙ c.if-is_blank.true) c.in_ok-check_front-in-Some.ensures))

pub returns-in_err-take_byte-in-Some-2-clause-taken : goal.returns-in_err-take_byte-in-Some-2-clause-taken
returns-in_err-take_byte-in-Some-2-clause-taken c =
    let p = err_from_is_err_and c.from_residual-in_err-take_byte-in-Some-2.result c.from_residual-in_err-take_byte-in-Some-2.ensures.1 in
    let read = take_bytes-in_word (known_of c.args.self.now.known) (line_of c.args.self.now) c.args.front
    c.read_on-front.result.0 c.args.bytes.now c.read_on-front.result.1.now c.requires.values c.read_on-front.ensures.reads
    ∙ ap (λ (kept : LineState). take_bytes (known_of c.args.self.now.known) kept c.read_on-front.result.1.now)
    (sym c.go_to-in-Some-2.ensures) in
    rw (p.1, p.2) (read ∙ rw c.in-Some.ensures.cases.0 (taken_err _ _ _ _ _ c.in_err-take_byte-in-Some-2.ensures))

pub returns-in_ok-take_byte-in-Some-2-clause-taken : goal.returns-in_ok-take_byte-in-Some-2-clause-taken
returns-in_ok-take_byte-in-Some-2-clause-taken c =
    let read = take_bytes-in_word (known_of c.args.self.now.known) (line_of c.args.self.now) c.args.front
    c.read_on-front.result.0 c.args.bytes.now c.read_on-front.result.1.now c.requires.values c.read_on-front.ensures.reads
    ∙ ap (λ (kept : LineState). take_bytes (known_of c.args.self.now.known) kept c.read_on-front.result.1.now)
    (sym c.go_to-in-Some-2.ensures) in
    read ∙ rw c.in-Some.ensures.cases.0 (taken_on _ _ _ _ _ c.in_ok-take_byte-in-Some-2.ensures)
