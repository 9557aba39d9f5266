-- The text of an answer is read as the values for which it was written.
use Rattle.std.proofs.Common.{◌≡◌, ℕ, suc, ◌+◌, ◌-◌, ◌^◌, ◌<◌, ◌≤◌, ◌&&◌, Bool, true, false, not, List, [], ◌∷◌}
use Rattle.std.proofs.Common.{◌++◌, Option, Some, Result, Ok, ℤ, pos, length, length-append, map, replicate}
use Rattle.std.proofs.Common.{get_or, set, refl, sym, ap, ◌∙◌, arith, append_assoc, append-nil}
use Rattle.std.specs.Prelude.{All, codes}
use Rattle.std.specs.List.{flat_map, list_all}
use Rattle.solver_text.specs.Lines.{is_line_feed, words}
use Rattle.std.proofs.Math.Seq.{get_or-append_seam, set-append_seam}
use Rattle.std.proofs.lemmas.Bool.{ne_eqb, le-ltb}
use Rattle.std.proofs.lemmas.List.{map-append, length-replicate}
use Rattle.std.proofs.lemmas.List.Elements.{All-nil, All-cons}
use Rattle.rota_core.specs.Numeral.{numeral}
use Rattle.rota_core.specs.NumeralLaws.{ReadsBack}
use Rattle.solver_text.specs.AnswerLaws.{WrittenAnswerIsRead}
use Rattle.solver_text.specs.AnswerText.{literal_word, literal_words, rows_of_ten, value_line, answer_head, answer_text}
use Rattle.solver_text.specs.declared.outcome.Solved.{Solved}
use Rattle.solver_text.specs.Answers.{AnswerState, Judgement, of_status, of_objective, of_literal, Literal, judgements_of_line, judgements, check_judgement}
use Rattle.solver_text.specs.Answers.{check_all, check_literal, check_variable, see_variable, and_then, at_end, nothing_known}
use Rattle.solver_text.specs.declared.outcome.AnswerFault.{AnswerFault}
use Rattle.solver_text.specs.declared.outcome.Status.{Status}
use Rattle.solver_text.specs.declared.outcome.Status.TheVariants as statuses
use Rattle.solver_text.proofs.NumeralWords.{IsWord, numeral-is_word, literal-is_word, literal_of-literal_word, number_of-numeral}
use Rattle.solver_text.proofs.ReadLines.{NoFeed, no_feed, words-after_blanks, judgements-line, judgements-rows}

-- the facts after these values of the first variables, if `more` variables follow
abbrev known_after : Option Status → Option ℤ → List Bool → ℕ → AnswerState
known_after status value truths more = record {
  status = status;
  last_o = value;
  seen_true = truths ++ replicate more false;
  seen_false = map not truths ++ replicate more false;
}

abbrev literal_at : Bool → ℕ → Literal
literal_at positive n = record { positive = positive; variable = n }

abbrev with_seen : Option Status → Option ℤ → List Bool → List Bool → Result AnswerState AnswerFault
with_seen status value seen_true seen_false =
    Ok (record { status = status; last_o = value; seen_true = seen_true; seen_false = seen_false })

-- one more value at the end of a list before others
joined : (truths others : List Bool) (truth : Bool) → truths ++ truth ∷ others ≡ (truths ++ truth ∷ []) ++ others
joined truths others truth = sym (append_assoc truths (truth ∷ []) others)

joined-not : (truths others : List Bool) (truth : Bool) → map not truths ++ not truth ∷ others ≡ map not (truths ++ truth ∷ []) ++ others
joined-not truths others truth =
    joined (map not truths) others (not truth) ∙ ap (λ (bits : List Bool). bits ++ others) (sym (map-append not truths (truth ∷ [])))

length-map_not : (truths : List Bool) → length (map not truths) ≡ length truths
length-map_not [] = refl
length-map_not (truth ∷ truths) = ap suc (length-map_not truths)

seen-next : (status : Option Status) (value : Option ℤ) (truths : List Bool) (truth : Bool) (more : ℕ) →
    see_variable (known_after status value truths (suc more)) truth (length truths + 1) ≡
    Ok (known_after status value (truths ++ truth ∷ []) more)
seen-next status value truths true more =
    let others = replicate more false in
    let index : length truths + 1 - 1 ≡ length truths = omega arith in
    let unseen : get_or (map not truths ++ false ∷ others) (length truths) false ≡ false =
    ap (λ (n : ℕ). get_or (map not truths ++ false ∷ others) n false) (sym (length-map_not truths))
    ∙ get_or-append_seam (map not truths) false others false in
    let marked : set (truths ++ false ∷ others) (length truths) true ≡ truths ++ true ∷ others = set-append_seam truths false others true in
    rw (index, unseen, marked)
    (ap (λ (bits : List Bool). with_seen status value bits (map not truths ++ false ∷ others)) (joined truths others true)
    ∙ ap (λ (bits : List Bool). with_seen status value ((truths ++ true ∷ []) ++ others) bits) (joined-not truths others true))
seen-next status value truths false more =
    let others = replicate more false in
    let index : length truths + 1 - 1 ≡ length truths = omega arith in
    let unseen : get_or (truths ++ false ∷ others) (length truths) false ≡ false = get_or-append_seam truths false others false in
    let marked : set (map not truths ++ false ∷ others) (length truths) true ≡ map not truths ++ true ∷ others =
    ap (λ (n : ℕ). set (map not truths ++ false ∷ others) n true) (sym (length-map_not truths))
    ∙ set-append_seam (map not truths) false others true in
    rw (index, unseen, marked)
    (ap (λ (bits : List Bool). with_seen status value bits (map not truths ++ true ∷ others)) (joined truths others false)
    ∙ ap (λ (bits : List Bool). with_seen status value ((truths ++ false ∷ []) ++ others) bits) (joined-not truths others false))

in_range : (known : AnswerState) (truth : Bool) (n : ℕ) → 0 < n → n ≤ length known.seen_true →
    check_variable known (literal_at truth n) ≡ see_variable known truth n
in_range known truth n some most = rw (ne_eqb n 0 (λ e. omega arith), le-ltb (length known.seen_true) n most) refl

abbrev literals_from : ℕ → List Bool → List Judgement
literals_from variable truths = map of_literal (literal_words variable truths)

check_all-cons : (known : AnswerState) (judgement : Judgement) (others : List Judgement) →
    check_all (Ok known) (judgement ∷ others) ≡ check_all (check_judgement known judgement) others
unfolding check_all
check_all-cons known judgement others = refl

check_all-none : (result : Result AnswerState AnswerFault) → check_all result [] ≡ result
unfolding check_all
check_all-none result = refl

-- bytes without a line feed, by a test
not_feed : (b : ℕ) (test : Bool) → is_line_feed b ≡ test → not test ≡ true → NoFeed b
not_feed b true e h = cc
not_feed b false e h = e

tail_test : (s t : Bool) → s && t ≡ true → (s ≡ true) × (t ≡ true)
tail_test true t e = (refl, e)
tail_test false t e = cc

feed_free : (bytes : List ℕ) → list_all (λ b. not (is_line_feed b)) bytes ≡ true → All NoFeed bytes
feed_free [] e = All-nil NoFeed
feed_free (b ∷ bytes) e =
    let tests = tail_test (not (is_line_feed b)) (list_all (λ b. not (is_line_feed b)) bytes) e in
    All-cons NoFeed b bytes (not_feed b (is_line_feed b) refl tests.0) (feed_free bytes tests.1)

abbrev objective_line : ℕ → List ℕ
objective_line objective = 111 ∷ 32 ∷ numeral objective

abbrev satisfied : Option ℤ → List Bool → Result Solved AnswerFault
satisfied value truths = Ok (record { status = statuses.Satisfiable; last_o = value; bits = truths })

end-solved : (value : Option ℤ) (truths : List Bool) →
    and_then (Ok (known_after (Some statuses.Satisfiable) value truths 0)) at_end ≡
    Ok (record { status = statuses.Satisfiable; last_o = value; bits = truths })
end-solved value truths =
    ap (λ (all : List Bool). satisfied value all) (append-nil truths)

-- for numerals whose value is their number
module _ (reads_back : (n : ℕ) → ReadsBack n) where
  literal-next : (status : Option Status) (value : Option ℤ) (truths : List Bool) (truth : Bool) (more : ℕ) →
      check_judgement (known_after status value truths (suc more)) (of_literal (literal_word (length truths + 1) truth)) ≡
      Ok (known_after status value (truths ++ truth ∷ []) more)
  literal-next status value truths truth more =
      let known = known_after status value truths (suc more) in
      let room : length truths + 1 ≤ length (truths ++ replicate (suc more) false) =
      omega (arith, length-append truths (replicate (suc more) false), length-replicate (suc more) false)
      in
      ap (λ (literal : Option Literal). check_literal known literal) (literal_of-literal_word reads_back (length truths + 1) truth)
      ∙ in_range known truth (length truths + 1) (omega arith) room
      ∙ seen-next status value truths truth more

  literals-checked : (status : Option Status) (value : Option ℤ) (before truths : List Bool) →
      check_all (Ok (known_after status value before (length truths))) (literals_from (length before + 1) truths) ≡
      Ok (known_after status value (before ++ truths) 0)
  literals-checked status value before [] =
      check_all-none (Ok (known_after status value before 0))
      ∙ ap (λ (truths : List Bool). Ok (known_after status value truths 0)) (sym (append-nil before))
  literals-checked status value before (truth ∷ truths) =
      let next : (length before + 1) + 1 ≡ length (before ++ truth ∷ []) + 1 = omega (arith, length-append before (truth ∷ [])) in
      check_all-cons (known_after status value before (suc (length truths)))
      (of_literal (literal_word (length before + 1) truth)) (literals_from ((length before + 1) + 1) truths)
      ∙ ap (λ (result : Result AnswerState AnswerFault). check_all result (literals_from ((length before + 1) + 1) truths))
      (literal-next status value before truth (length truths))
      ∙ ap
      (λ (variable : ℕ). check_all (Ok (known_after status value (before ++ truth ∷ []) (length truths))) (literals_from variable truths)) next
      ∙ literals-checked status value (before ++ truth ∷ []) truths
      ∙ ap (λ (all : List Bool). Ok (known_after status value all 0)) (append_assoc before (truth ∷ []) truths)

  objective_line-judgements : (objective : ℕ) → judgements_of_line (objective_line objective) ≡ of_objective (numeral objective ∷ []) ∷ []
  objective_line-judgements objective =
      let is = All-cons IsWord (numeral objective) [] (numeral-is_word reads_back objective) (All-nil IsWord) in
      ap (λ (these : List (List ℕ)). of_objective these ∷ [])
      (ap (λ (bytes : List ℕ). words (32 ∷ bytes)) (sym (append-nil (numeral objective))) ∙ words-after_blanks (numeral objective ∷ []) is)

  objective_line-feed_free : (objective : ℕ) → All NoFeed (objective_line objective)
  objective_line-feed_free objective =
      All-cons NoFeed 111 (32 ∷ numeral objective) refl
      (All-cons NoFeed 32 (numeral objective) refl (no_feed (numeral objective) (numeral-is_word reads_back objective).bytes))

  -- the lines before the values
  head-line : (objective : ℕ) (rest : List ℕ) →
      judgements (answer_head objective ++ rest) ≡
      of_objective (numeral objective ∷ []) ∷ of_status (codes "SATISFIABLE" ∷ []) ∷ judgements rest
  head-line objective rest =
      let after = codes "s SATISFIABLE\n" ++ rest in
      ap (λ (text : List ℕ). judgements text) (append_assoc (objective_line objective) (codes "\ns SATISFIABLE\n") rest)
      ∙ judgements-line (objective_line objective) after (objective_line-feed_free objective)
      ∙ ap (λ (these : List Judgement). these ++ judgements after) (objective_line-judgements objective)
      ∙ ap (λ (others : List Judgement). of_objective (numeral objective ∷ []) ∷ others)
      (judgements-line (codes "s SATISFIABLE") rest (feed_free (codes "s SATISFIABLE") refl))

  literal-words_are_words : (variable : ℕ) (truths : List Bool) → All IsWord (literal_words variable truths)
  literal-words_are_words variable [] = All-nil IsWord
  literal-words_are_words variable (truth ∷ truths) =
      All-cons IsWord (literal_word variable truth) (literal_words (variable + 1) truths) (literal-is_word reads_back variable truth)
      (literal-words_are_words (variable + 1) truths)

  text-judgements : (objective : ℕ) (truths : List Bool) →
      judgements (answer_text objective truths) ≡
      of_objective (numeral objective ∷ []) ∷ of_status (codes "SATISFIABLE" ∷ []) ∷ literals_from 1 truths
  text-judgements objective truths =
      let these = literal_words 1 truths in
      head-line objective (flat_map value_line (rows_of_ten these))
      ∙ ap (λ (others : List Judgement). of_objective (numeral objective ∷ []) ∷ of_status (codes "SATISFIABLE" ∷ []) ∷ others)
      (judgements-rows (length these) these (omega arith) (literal-words_are_words 1 truths))

  -- the judgement of the lines before the values
  head-checked : (objective variables : ℕ) (others : List Judgement) → objective < 10 ^ 18 →
      check_all (Ok (nothing_known variables)) (of_objective (numeral objective ∷ []) ∷ of_status (codes "SATISFIABLE" ∷ []) ∷ others) ≡
      check_all (Ok (known_after (Some statuses.Satisfiable) (Some (pos objective)) [] variables)) others
  unfolding check_all
  head-checked objective variables others small = rw (number_of-numeral reads_back objective small) refl

  pub written-is_read : WrittenAnswerIsRead
  written-is_read objective truths small few =
      ap (λ (these : List Judgement). and_then (check_all (Ok (nothing_known (length truths))) these) at_end) (text-judgements objective truths)
      ∙ ap (λ (result : Result AnswerState AnswerFault). and_then result at_end)
      (head-checked objective (length truths) (literals_from 1 truths) small
      ∙ literals-checked (Some statuses.Satisfiable) (Some (pos objective)) [] truths)
      ∙ end-solved (Some (pos objective)) truths
