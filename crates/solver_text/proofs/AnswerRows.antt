-- The texts of the literals, with the end, are the rows of an answer.
use Rattle.std.proofs.Common.{◌≡◌, ℕ, zero, suc, ◌+◌, ◌%◌, ◌<◌, ◌≤◌, Bool, true, false, List, [], ◌∷◌, ◌++◌, length}
use Rattle.std.proofs.Common.{take, drop, refl, ap, sym, ◌∙◌, arith, append_assoc, append-nil, length-drop}
use Rattle.std.specs.List.{flat_map}
use Rattle.std.proofs.lemmas.Bool.{eq-eqb, ne_eqb}
use Rattle.solver_text.specs.AnswerText.{literal_word, literal_words, rows_within, after_blank, blank_words, value_line, answer_head}
use Rattle.solver_text.specs.AnswerWriter.{is_full_row, literal_text, literals_text, end_text, WritesAnswerText}

full : (n : ℕ) → n % 10 ≡ 0 → is_full_row n ≡ true
full n e = eq-eqb (n % 10) 0 e

not_full : (n : ℕ) → 0 < n % 10 → is_full_row n ≡ false
not_full n some = ne_eqb (n % 10) 0 (λ none. omega arith)

-- the text that the literals and the end write after n literals
abbrev rest_text : ℕ → List Bool → List ℕ
rest_text n truths = literals_text n truths ++ end_text (n + length truths)

rest_text-none : (n : ℕ) → n % 10 ≡ 0 → rest_text n [] ≡ []
rest_text-none n e = let same : n + 0 ≡ n = omega arith in rw (same, full n e) refl

rest_text-open : (n : ℕ) → 0 < n % 10 → rest_text n [] ≡ 10 ∷ []
rest_text-open n some = let same : n + 0 ≡ n = omega arith in rw (same, not_full n some) refl

rest_text-cons : (n : ℕ) (truth : Bool) (truths : List Bool) →
    rest_text n (truth ∷ truths) ≡ literal_text n truth ++ rest_text (n + 1) truths
rest_text-cons n truth truths =
    let next : n + length (truth ∷ truths) ≡ (n + 1) + length truths = omega arith in
    ap (λ (m : ℕ). (literal_text n truth ++ literals_text (n + 1) truths) ++ end_text m) next
    ∙ append_assoc (literal_text n truth) (literals_text (n + 1) truths) (end_text ((n + 1) + length truths))

-- the word of the next literal, after a blank
abbrev blank_word : ℕ → Bool → List ℕ
blank_word n truth = after_blank (literal_word (n + 1) truth)

literal_first : (n : ℕ) (truth : Bool) → n % 10 ≡ 0 → literal_text n truth ≡ 118 ∷ blank_word n truth
literal_first n truth e =
    let next : 0 < (n + 1) % 10 = omega arith in
    rw (full n e, not_full (n + 1) next) (ap (λ (text : List ℕ). 118 ∷ text) (append-nil (blank_word n truth)))

literal_within : (n : ℕ) (truth : Bool) → 0 < n % 10 → 0 < (n + 1) % 10 → literal_text n truth ≡ blank_word n truth
literal_within n truth some next = rw (not_full n some, not_full (n + 1) next) (append-nil (blank_word n truth))

literal_last : (n : ℕ) (truth : Bool) → 0 < n % 10 → (n + 1) % 10 ≡ 0 → literal_text n truth ≡ blank_word n truth ++ 10 ∷ []
literal_last n truth some next = rw (not_full n some, full (n + 1) next) refl

-- the words of the literals after the first n
abbrev words_after : ℕ → List Bool → List (List ℕ)
words_after n truths = literal_words (n + 1) truths

-- the words, each after a blank
drop-words_after : (k n : ℕ) (truths : List Bool) → drop k (words_after n truths) ≡ words_after (n + k) (drop k truths)
drop-words_after zero n truths = let same : n ≡ n + 0 = omega arith in ap (λ (m : ℕ). words_after m truths) same
drop-words_after (suc k) n [] = refl
drop-words_after (suc k) n (truth ∷ truths) =
    let next : (n + 1) + k ≡ n + suc k = omega arith in
    drop-words_after k (n + 1) truths ∙ ap (λ (m : ℕ). words_after m (drop k truths)) next

-- a row to its end
row_rest : (d n : ℕ) (truths : List Bool) → n % 10 + suc d ≡ 10 → 0 < n % 10 →
    rest_text n truths ≡ blank_words (take (suc d) (words_after n truths)) ++ 10 ∷ rest_text (n + suc d) (drop (suc d) truths)
row_rest d n [] e some =
    let next : (n + suc d) % 10 ≡ 0 = omega arith in
    rest_text-open n some ∙ ap (λ (text : List ℕ). 10 ∷ text) (sym (rest_text-none (n + suc d) next))
row_rest zero n (truth ∷ truths) e some =
    let next : (n + 1) % 10 ≡ 0 = omega arith in
    rest_text-cons n truth truths
    ∙ ap (λ (text : List ℕ). text ++ rest_text (n + 1) truths) (literal_last n truth some next)
    ∙ append_assoc (blank_word n truth) (10 ∷ []) (rest_text (n + 1) truths)
    ∙ ap (λ (text : List ℕ). text ++ 10 ∷ rest_text (n + 1) truths) (sym (append-nil (blank_word n truth)))
row_rest (suc d) n (truth ∷ truths) e some =
    let next : 0 < (n + 1) % 10 = omega arith in
    let rest : (n + 1) % 10 + suc d ≡ 10 = omega arith in
    let same : (n + 1) + suc d ≡ n + suc (suc d) = omega arith in
    rest_text-cons n truth truths
    ∙ ap (λ (text : List ℕ). text ++ rest_text (n + 1) truths) (literal_within n truth some next)
    ∙ ap (λ (text : List ℕ). blank_word n truth ++ text) (row_rest d (n + 1) truths rest next)
    ∙ ap
    (λ (m : ℕ). blank_word n truth ++ (blank_words (take (suc d) (words_after (n + 1) truths)) ++ 10 ∷ rest_text m (drop (suc d) truths))) same
    ∙ sym
    (append_assoc (blank_word n truth) (blank_words (take (suc d) (words_after (n + 1) truths)))
    (10 ∷ rest_text (n + suc (suc d)) (drop (suc d) truths)))

-- a line of values and the text after it
line_then : (word : List ℕ) (words : List (List ℕ)) (text : List ℕ) →
    (118 ∷ after_blank word) ++ (blank_words words ++ 10 ∷ text) ≡ value_line (word ∷ words) ++ text
line_then word words text =
    ap (λ (t : List ℕ). 118 ∷ t)
    (sym (append_assoc (after_blank word) (blank_words words) (10 ∷ text)) ∙ sym (append_assoc (blank_words (word ∷ words)) (10 ∷ []) text))

rest_text-rows : (k n : ℕ) (truths : List Bool) → length truths ≤ k → n % 10 ≡ 0 →
    rest_text n truths ≡ flat_map value_line (rows_within k (words_after n truths))
rest_text-rows zero n [] le e = rest_text-none n e
rest_text-rows (suc k) n [] le e = rest_text-none n e
rest_text-rows zero n (truth ∷ truths) le e = absurd (omega arith)
rest_text-rows (suc k) n (truth ∷ truths) le e =
    let some : 0 < (n + 1) % 10 = omega arith in
    let nine : (n + 1) % 10 + 9 ≡ 10 = omega arith in
    let ten : ((n + 1) + 9) % 10 ≡ 0 = omega arith in
    let row = take 9 (words_after (n + 1) truths) in
    rest_text-cons n truth truths
    ∙ ap (λ (text : List ℕ). text ++ rest_text (n + 1) truths) (literal_first n truth e)
    ∙ ap (λ (text : List ℕ). (118 ∷ blank_word n truth) ++ text) (row_rest 8 (n + 1) truths nine some)
    ∙ line_then (literal_word (n + 1) truth) row (rest_text ((n + 1) + 9) (drop 9 truths))
    ∙ ap (λ (text : List ℕ). value_line (literal_word (n + 1) truth ∷ row) ++ text)
    (rest_text-rows k ((n + 1) + 9) (drop 9 truths) (omega (arith, length-drop 9 truths)) ten
    ∙ ap (λ (words : List (List ℕ)). flat_map value_line (rows_within k words)) (sym (drop-words_after 9 (n + 1) truths)))

length-literal_words : (variable : ℕ) (truths : List Bool) → length (literal_words variable truths) ≡ length truths
length-literal_words variable [] = refl
length-literal_words variable (truth ∷ truths) = ap suc (length-literal_words (variable + 1) truths)

pub written-answer_text : WritesAnswerText
written-answer_text objective truths =
    let none_before : length truths ≡ 0 + length truths = omega arith in
    let fits : length truths ≤ length (literal_words 1 truths) = omega (arith, length-literal_words 1 truths) in
    append_assoc (answer_head objective) (literals_text 0 truths) (end_text (length truths))
    ∙ ap (λ (m : ℕ). answer_head objective ++ (literals_text 0 truths ++ end_text m)) none_before
    ∙ ap (λ (text : List ℕ). answer_head objective ++ text) (rest_text-rows (length (literal_words 1 truths)) 0 truths fits refl)
