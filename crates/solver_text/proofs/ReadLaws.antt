-- The states and results of the calls of an answer.
use Rattle.std.proofs.Common.{◌≡◌, ℕ, zero, suc, ◌+◌, ◌<◌, ◌≤◌, ◌^◌, Bool, true, false, List, [], ◌∷◌, ◌++◌}
use Rattle.std.proofs.Common.{Option, Some, None, Result, Ok, Err, refl, ap, sym, ◌∙◌, subst}
use Rattle.std.proofs.Common.{length, drop, take, ◌-◌, get_or, length-drop, arith, true≢false}
use Rattle.std.proofs.Math.Seq.{drop-cons}
use Rattle.std.proofs.lemmas.List.{take_all, drop_all, length-replicate}
use Rattle.std.specs.Result.{result_err}
use Rattle.solver_text.specs.Lines.{is_blank, is_line_feed, cut, lines}
use Rattle.solver_text.specs.Answers.{AnswerState, keyword_of, and_then, at_end, outcome, checked_within}
use Rattle.solver_text.specs.Answers.{nothing_known, check_all, judgements, fault_within}
use Rattle.solver_text.specs.LineStates.{LineState, MAX_VARIABLE, line_after, skipped, start, take_byte, take_bytes, end_line}
use Rattle.solver_text.specs.States.{known_of, line_of, HasState, LeadsTo, state_after, line_state_in, Moves}
use Rattle.solver_text.specs.declared.outcome.AnswerFault.{AnswerFault}
use Rattle.solver_text.specs.declared.outcome.AnswerFault.TheVariants as faults
use Rattle.solver_text.specs.declared.outcome.Status.{Status}
use Rattle.std.specs.Option.{option_map_or}
use Rattle.std.specs.Prelude.{IfOk, IsTrue, is_some, not}
use Rattle.solver_text.proofs.JudgeLaws.{HasLength, length-check_all}
use Rattle.solver_text.specs.declared.outcome.Solved.{Solved}
use Rattle.solver_text.specs.declared.answer.Answer.{Answer}
use Rattle.solver_text.specs.declared.line_state.Keyword.{Keyword}
use Rattle.solver_text.specs.declared.line_state.Line.{Line}
use Rattle.solver_text.specs.declared.line_state.Line.TheVariants as at
use Rattle.solver_text.proofs.TextLaws.{state_after-append, outcome-state}

abbrev at_skipped : List ℕ → LineState
at_skipped word = record { line = at.Skipped; word = word }

-- one byte of a line that is skipped
skipped_at : (known : AnswerState) (word : List ℕ) (b : ℕ) (feed blank : Bool) → is_line_feed b ≡ feed → is_blank b ≡ blank →
    feed ≡ false → take_byte known (at_skipped word) b ≡ Ok (known, at_skipped word)
skipped_at known word b true blank e g not = absurd (true≢false not)
skipped_at known word b false true e g not = rw (e, g) refl
skipped_at known word b false false e g not = rw (e, g) refl

skipped_byte : (known : AnswerState) (word : List ℕ) (b : ℕ) (bytes : List ℕ) → is_line_feed b ≡ false →
    take_bytes known (at_skipped word) (b ∷ bytes) ≡ take_bytes known (at_skipped word) bytes
unfolding take_bytes
skipped_byte known word b bytes not =
    ap (λ (next : Result (AnswerState × LineState) AnswerFault). and_then next (λ s. take_bytes s.0 s.1 bytes))
    (skipped_at known word b (is_line_feed b) (is_blank b) refl refl not)

not_true : (t : Bool) → (t ≡ true → ⊥) → t ≡ false
not_true true h = absurd (h refl)
not_true false h = refl

pub skipped-front : (known : AnswerState) (word : List ℕ) (bytes : List ℕ) (n : ℕ) → n ≤ length bytes →
    ((k : ℕ) → k < n → is_line_feed (get_or bytes k 0) ≡ true → ⊥) →
    take_bytes known (at_skipped word) bytes ≡ take_bytes known (at_skipped word) (drop n bytes)
skipped-front known word bytes zero le none = refl
skipped-front known word [] (suc n) le none = absurd (omega arith)
skipped-front known word (b ∷ bytes) (suc n) le none =
    skipped_byte known word b bytes (not_true (is_line_feed b) (none 0 (omega arith)))
    ∙ skipped-front known word bytes n (omega arith) (λ k lt. none (suc k) (omega arith))

-- the byte that ends a line that is skipped
line_feed : (known : AnswerState) (word : List ℕ) (b : ℕ) (bytes : List ℕ) → is_line_feed b ≡ true →
    take_bytes known (at_skipped word) (b ∷ bytes) ≡ take_bytes known start bytes
unfolding take_bytes
line_feed known word b bytes e = rw e refl

pub skipped-line : (known : AnswerState) (word : List ℕ) (bytes : List ℕ) (n : ℕ) → n < length bytes →
    ((k : ℕ) → k < n → is_line_feed (get_or bytes k 0) ≡ true → ⊥) → is_line_feed (get_or bytes n 0) ≡ true →
    take_bytes known (at_skipped word) bytes ≡ take_bytes known start (drop (suc n) bytes)
skipped-line known word bytes n lt none is =
    skipped-front known word bytes n (omega arith) none
    ∙ ap (λ (rest : List ℕ). take_bytes known (at_skipped word) rest) (drop-cons bytes n 0 lt)
    ∙ line_feed known word (get_or bytes n 0) (drop (suc n) bytes) is

-- a line that begins with a byte other than s, o and v is skipped from its start
starts_skipped : (known : AnswerState) (word : List ℕ) (b : ℕ) (feed blank : Bool) → is_line_feed b ≡ feed → is_blank b ≡ blank →
    keyword_of b ≡ None →
    take_byte known (record { line = at.Start; word = word }) b ≡ take_byte known (at_skipped word) b
starts_skipped known word b true blank e g none = rw e refl
starts_skipped known word b false blank e g none =
    let state : Line → Result (AnswerState × LineState) AnswerFault = λ line. Ok (known, record { line = line; word = word }) in
    let line_is : line_after at.Start b ≡ at.Skipped =
    ap (λ (k : Option Keyword). option_map_or (λ (keyword : Keyword). at.Alone keyword) k at.Skipped) none in
    not_fed blank g ∙ ap state line_is ∙ sym (skipped_at known word b false blank e g refl)
  where
    not_fed : (t : Bool) → is_blank b ≡ t →
        take_byte known (record { line = at.Start; word = word }) b ≡ Ok (known, record { line = line_after at.Start b; word = word })
    not_fed true h = rw (e, h) refl
    not_fed false h = rw (e, h) refl

pub begins-skipped : (known : AnswerState) (b : ℕ) (rest : List ℕ) (keyword : Option Keyword) (none : Bool) → keyword ≡ keyword_of b →
    is_some keyword ≡ not none → IsTrue none → take_bytes known start (b ∷ rest) ≡ take_bytes known skipped (b ∷ rest)
unfolding take_bytes
begins-skipped known b rest None none is same holds =
    ap (λ (next : Result (AnswerState × LineState) AnswerFault). and_then next (λ s. take_bytes s.0 s.1 rest))
    (starts_skipped known [] b (is_line_feed b) (is_blank b) refl refl (sym is))
begins-skipped known b rest (Some keyword) true is same holds = absurd cc
begins-skipped known b rest (Some keyword) false is same holds = absurd cc

-- the end of a line without bytes
pub empty-line : (known : AnswerState) (kept : LineState) (b : ℕ) (rest : List ℕ) → kept.line ≡ at.Start → b ≡ 10 →
    take_bytes known kept (b ∷ rest) ≡ take_bytes known start rest
unfolding take_bytes
empty-line known kept b rest starts feed = rw (feed, starts) refl

-- the end of a line
pub line-ended : (known : AnswerState) (kept : LineState) (b : ℕ) (rest : List ℕ) (after : AnswerState) → b ≡ 10 →
    end_line known kept.line kept.word ≡ Ok after → take_bytes known kept (b ∷ rest) ≡ take_bytes after start rest
unfolding take_bytes
line-ended known kept b rest after feed checked = rw (feed, checked) refl

pub line-failed : (known : AnswerState) (kept : LineState) (b : ℕ) (rest : List ℕ) (fault : AnswerFault) → b ≡ 10 →
    end_line known kept.line kept.word ≡ Err fault → take_bytes known kept (b ∷ rest) ≡ Err fault
unfolding take_bytes
line-failed known kept b rest fault feed checked = rw (feed, checked) refl

-- one more byte of a piece
pub taken_on : (known : AnswerState) (kept : LineState) (b : ℕ) (bytes : List ℕ) (next : AnswerState × LineState) →
    take_byte known kept b ≡ Ok next → take_bytes known kept (b ∷ bytes) ≡ take_bytes next.0 next.1 bytes
unfolding take_bytes
taken_on known kept b bytes next e = ap (λ (n : Result (AnswerState × LineState) AnswerFault). and_then n (λ s. take_bytes s.0 s.1 bytes)) e

pub taken_err : (known : AnswerState) (kept : LineState) (b : ℕ) (bytes : List ℕ) (fault : AnswerFault) →
    take_byte known kept b ≡ Err fault → take_bytes known kept (b ∷ bytes) ≡ Err fault
unfolding take_bytes
taken_err known kept b bytes fault e = ap (λ (n : Result (AnswerState × LineState) AnswerFault). and_then n (λ s. take_bytes s.0 s.1 bytes)) e

pub taken_none : (known : AnswerState) (kept : LineState) → take_bytes known kept [] ≡ Ok (known, kept)
unfolding take_bytes
taken_none known kept = refl

-- the abstract state of an answer without a fault
abbrev stated : Answer → Result (AnswerState × LineState) AnswerFault
stated answer = Ok (known_of answer.known, line_of answer)

abbrev as_state : AnswerState → LineState → Result (AnswerState × LineState) AnswerFault
as_state known kept = Ok (known, kept)

none≢some : {A : Type 0} {x : A} → None ≡ Some x → ⊥
none≢some e = cc

stated_as : (answer : Answer) (state : Result (AnswerState × LineState) AnswerFault) → answer.fault ≡ None → HasState answer state →
    state ≡ stated answer
stated_as answer (Ok state) e h =
    ap (λ (known : AnswerState). as_state known state.1) (sym h.1) ∙ ap (λ (kept : LineState). as_state (known_of answer.known) kept) (sym h.2)
stated_as answer (Err fault) e h = absurd (none≢some (sym e ∙ h))

failed_as : (answer : Answer) (state : Result (AnswerState × LineState) AnswerFault) (fault : AnswerFault) → answer.fault ≡ Some fault →
    HasState answer state → state ≡ Err fault
failed_as answer (Ok state) fault e h = absurd (none≢some (sym h.0 ∙ e))
failed_as answer (Err other) fault e h = cc

within_most : (variables : ℕ) → variables < 2 ^ 32 → variables < MAX_VARIABLE
within_most variables few = omega arith

pub state-of : (variables : ℕ) (text : List ℕ) (answer : Answer) → LeadsTo variables text answer → answer.fault ≡ None →
    state_after variables text ≡ stated answer
state-of variables text answer leads e = stated_as answer (state_after variables text) e leads.stands

pub fault-of : (variables : ℕ) (text : List ℕ) (answer : Answer) (fault : AnswerFault) → LeadsTo variables text answer →
    answer.fault ≡ Some fault → state_after variables text ≡ Err fault
fault-of variables text answer fault leads e = failed_as answer (state_after variables text) fault e leads.stands

-- the state after a piece
pub moved : (variables : ℕ) (text piece : List ℕ) (answer : Answer) → LeadsTo variables text answer → answer.fault ≡ None →
    state_after variables (text ++ piece) ≡ take_bytes (known_of answer.known) (line_of answer) piece
moved variables text piece answer leads e =
    state_after-append variables text piece (within_most variables leads.few)
    ∙ ap (λ (s : Result (AnswerState × LineState) AnswerFault). and_then s (λ x. take_bytes x.0 x.1 piece))
    (state-of variables text answer leads e)

pub failed : (variables : ℕ) (text piece : List ℕ) (answer : Answer) (fault : AnswerFault) → LeadsTo variables text answer →
    answer.fault ≡ Some fault → state_after variables (text ++ piece) ≡ Err fault
failed variables text piece answer fault leads e =
    state_after-append variables text piece (within_most variables leads.few)
    ∙ ap (λ (s : Result (AnswerState × LineState) AnswerFault). and_then s (λ x. take_bytes x.0 x.1 piece))
    (fault-of variables text answer fault leads e)

-- the fault within a text is the fault of its state
abbrev drop_state : Result (AnswerState × LineState) AnswerFault → Result (Unit {0}) AnswerFault
drop_state result = and_then result (λ s. Ok tt)

drop_kept : (result : Result AnswerState AnswerFault) (kept : LineState) →
    and_then result (λ known. Ok tt) ≡ drop_state (and_then result (λ known. as_state known kept))
drop_kept (Ok known) kept = refl
drop_kept (Err fault) kept = refl

pub fault_within-state : (variables : ℕ) (text : List ℕ) (state : Result (AnswerState × LineState) AnswerFault) →
    state_after variables text ≡ state → fault_within variables text ≡ drop_state state
fault_within-state variables text state e =
    drop_kept (checked_within variables text) (line_state_in (lines text).open_part)
    ∙ ap (λ (s : Result (AnswerState × LineState) AnswerFault). drop_state s) e

-- the state and the result of a piece
stands_moved : (result : Result (Unit {0}) AnswerFault) (answer : Answer) (state : Result (AnswerState × LineState) AnswerFault) →
    Moves result (known_of answer.known, line_of answer) state → answer.fault ≡ result_err result → HasState answer state
stands_moved (Ok u) answer state moves e =
    let P : Result (AnswerState × LineState) AnswerFault → Type 0 = HasState answer in subst P (sym moves) (e, refl, refl)
stands_moved (Err fault) answer state moves e =
    let P : Result (AnswerState × LineState) AnswerFault → Type 0 = HasState answer in subst P (sym moves) e

answers_moved : (result : Result (Unit {0}) AnswerFault) (next : AnswerState × LineState) (state : Result (AnswerState × LineState) AnswerFault) →
    Moves result next state → result ≡ drop_state state
answers_moved (Ok u) next state moves = sym (ap drop_state moves)
answers_moved (Err fault) next state moves = sym (ap drop_state moves)

pub leads-moved : (variables : ℕ) (text piece : List ℕ) (before after : Answer) (result : Result (Unit {0}) AnswerFault) →
    LeadsTo variables text before → before.fault ≡ None →
    Moves result (known_of after.known, line_of after) (take_bytes (known_of before.known) (line_of before) piece) →
    after.fault ≡ result_err result → LeadsTo variables (text ++ piece) after
leads-moved variables text piece before after result leads e moves is =
    let P : Result (AnswerState × LineState) AnswerFault → Type 0 = HasState after in
    record { few = leads.few; stands = subst P (sym (moved variables text piece before leads e)) (stands_moved result after _ moves is) }

pub answers-moved : (variables : ℕ) (text piece : List ℕ) (before : Answer) (next : AnswerState × LineState) (result : Result (Unit {0}) AnswerFault) →
    LeadsTo variables text before → before.fault ≡ None →
    Moves result next (take_bytes (known_of before.known) (line_of before) piece) →
    result ≡ fault_within variables (text ++ piece)
answers-moved variables text piece before next result leads e moves =
    answers_moved result next _ moves ∙ sym (fault_within-state variables (text ++ piece) _ (moved variables text piece before leads e))

pub leads-failed : (variables : ℕ) (text piece : List ℕ) (answer : Answer) (fault : AnswerFault) → LeadsTo variables text answer →
    answer.fault ≡ Some fault → LeadsTo variables (text ++ piece) answer
leads-failed variables text piece answer fault leads e =
    let P : Result (AnswerState × LineState) AnswerFault → Type 0 = HasState answer in
    record { few = leads.few; stands = subst P (sym (failed variables text piece answer fault leads e)) e }

pub answers-failed : (variables : ℕ) (text piece : List ℕ) (answer : Answer) (fault : AnswerFault) →
    LeadsTo variables text answer → answer.fault ≡ Some fault → Err fault ≡ fault_within variables (text ++ piece)
answers-failed variables text piece answer fault leads e =
    sym (fault_within-state variables (text ++ piece) _ (failed variables text piece answer fault leads e))

-- the end
pub ends-failed : (variables : ℕ) (text : List ℕ) (answer : Answer) (fault : AnswerFault) → LeadsTo variables text answer →
    answer.fault ≡ Some fault → outcome variables text ≡ Err fault
ends-failed variables text answer fault leads e =
    outcome-state variables text (within_most variables leads.few)
    ∙ ap (λ (s : Result (AnswerState × LineState) AnswerFault). and_then s (λ x. and_then (end_line x.0 x.1.line x.1.word) at_end))
    (fault-of variables text answer fault leads e)

pub ends-checked : (variables : ℕ) (text : List ℕ) (answer : Answer) (checked : Result AnswerState AnswerFault) →
    LeadsTo variables text answer → answer.fault ≡ None →
    end_line (known_of answer.known) (line_of answer).line (line_of answer).word ≡ checked →
    outcome variables text ≡ and_then checked at_end
ends-checked variables text answer checked leads e is =
    outcome-state variables text (within_most variables leads.few)
    ∙ ap (λ (s : Result (AnswerState × LineState) AnswerFault). and_then s (λ x. and_then (end_line x.0 x.1.line x.1.word) at_end))
    (state-of variables text answer leads e)
    ∙ ap (λ (r : Result AnswerState AnswerFault). and_then r at_end) is

-- no text
pub starts : (variables : ℕ) (answer : Answer) → variables < 2 ^ 32 → answer.fault ≡ None →
    known_of answer.known ≡ nothing_known variables → line_of answer ≡ start → LeadsTo variables [] answer
unfolding cut check_all
starts variables answer few fault known kept = record { few = few; stands = (fault, known, kept) }

-- a line that is skipped, by the first line feed
abbrev NoFeed : List ℕ → ℕ → Type 0
NoFeed bytes n = (k : ℕ) → k < n → is_line_feed (get_or bytes k 0) ≡ true → ⊥

pub skips : (known : AnswerState) (kept : LineState) (bytes : List ℕ) (n : ℕ) → kept.line ≡ at.Skipped → n < length bytes →
    NoFeed bytes n → is_line_feed (get_or bytes n 0) ≡ true →
    take_bytes known kept bytes ≡ take_bytes known start (take (length bytes - (n + 1)) (drop (n + 1) bytes))
skips known kept bytes n skipped lt none is =
    let whole : take (length bytes - (n + 1)) (drop (n + 1) bytes) ≡ drop (n + 1) bytes =
    take_all (length bytes - (n + 1)) (drop (n + 1) bytes) (omega (arith, length-drop (n + 1) bytes))
    in
    let next : n + 1 ≡ suc n = omega arith in
    rw (whole, next, skipped) (skipped-line known kept.word bytes n lt none is)

pub skips_all : (known : AnswerState) (kept : LineState) (bytes : List ℕ) → kept.line ≡ at.Skipped → NoFeed bytes (length bytes) →
    take_bytes known kept bytes ≡ take_bytes known kept []
skips_all known kept bytes skipped none =
    let all : drop (length bytes) bytes ≡ [] = drop_all (length bytes) bytes (omega arith) in
    rw skipped
    (skipped-front known kept.word bytes (length bytes) (omega arith) none
    ∙ ap (λ (rest : List ℕ). take_bytes known (at_skipped kept.word) rest) all)

pub taken_end : (known : AnswerState) (kept : LineState) (rest : List ℕ) → length rest ≡ 0 → take_bytes known kept rest ≡ Ok (known, kept)
taken_end known kept [] none = taken_none known kept
taken_end known kept (b ∷ rest) none = absurd (omega arith)

-- the bits
solved-length : (n : ℕ) (known : AnswerState) (status : Option Status) (solved : Solved) → length known.seen_true ≡ n →
    option_map_or (λ s. Ok (record { status = s; last_o = known.last_o; bits = known.seen_true })) status (Err faults.Statuses) ≡
    Ok solved →
    length solved.bits ≡ n
solved-length n known None solved h e = cc
solved-length n known (Some s) solved h e = cc

at_end-length : (n : ℕ) (result : Result AnswerState AnswerFault) (solved : Solved) → HasLength n result →
    and_then result at_end ≡ Ok solved → length solved.bits ≡ n
at_end-length n (Ok known) solved h e = solved-length n known known.status solved h e
at_end-length n (Err fault) solved h e = cc

pub bits-length : (variables : ℕ) (text : List ℕ) (result : Result Solved AnswerFault) → outcome variables text ≡ result →
    IfOk result (λ solved. length solved.bits ≡ variables)
bits-length variables text (Ok solved) ends =
    at_end-length variables (check_all (Ok (nothing_known variables)) (judgements text)) solved
    (length-check_all variables (Ok (nothing_known variables)) (judgements text) (length-replicate variables false)) ends
bits-length variables text (Err fault) ends = tt
