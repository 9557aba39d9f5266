-- The judgements of lines made of joined words.
use Rattle.std.proofs.Common.{◌≡◌, ℕ, zero, suc, ◌≤◌, true, false, List, [], ◌∷◌, ◌++◌, length, map, take, drop}
use Rattle.std.proofs.Common.{refl, sym, ap, ◌∙◌, arith, append_assoc, append-nil, length-drop}
use Rattle.std.specs.Prelude.{All}
use Rattle.std.specs.List.{flat_map, filter, slice_split}
use Rattle.std.proofs.lemmas.List.{map-append, take-append-drop}
use Rattle.std.proofs.lemmas.List.Elements.{All-nil, All-cons, All-append, All-head, All-tail, All-take, All-drop, All-weaker}
use Rattle.std.proofs.lemmas.List.Splits.{slice_split_none, slice_split_at, slice_split-cons_yes}
use Rattle.solver_text.specs.Lines.{is_blank, is_line_feed, has_bytes, words}
use Rattle.solver_text.specs.Answers.{Judgement, of_literal, judgements_of_line, judgements}
use Rattle.solver_text.specs.AnswerText.{rows_within, after_blank, blank_words, value_line}
use Rattle.solver_text.proofs.NumeralWords.{IsWordByte, IsWord}

-- no byte of a word is a blank
no_blank : (word : List ℕ) → All IsWordByte word → All (λ b. is_blank b ≡ false) word
no_blank word these = All-weaker IsWordByte (λ b. is_blank b ≡ false) (λ b h. h.0) word these

abbrev pub NoFeed : ℕ → Type 0
NoFeed b = is_line_feed b ≡ false

pub no_feed : (word : List ℕ) → All IsWordByte word → All NoFeed word
no_feed word these = All-weaker IsWordByte NoFeed (λ b h. h.1) word these

-- a word before a blank, and the bytes after it
filter-words : (word : List ℕ) (others : List (List ℕ)) → has_bytes word ≡ true →
    filter has_bytes (word ∷ others) ≡ word ∷ filter has_bytes others
filter-words word others e = rw e refl

-- words that a blank joins
words-joined : (word : List ℕ) (these : List (List ℕ)) → IsWord word → All IsWord these → words (word ++ blank_words these) ≡ word ∷ these
words-joined word [] is are =
    ap (λ (bytes : List ℕ). words bytes) (append-nil word)
    ∙ ap (λ (parts : List (List ℕ)). filter has_bytes parts) (slice_split_none is_blank word (no_blank word is.bytes))
    ∙ filter-words word [] is.some
words-joined word (next ∷ these) is are =
    ap (λ (parts : List (List ℕ)). filter has_bytes parts)
    (slice_split_at is_blank word 32 (next ++ blank_words these) (no_blank word is.bytes) refl)
    ∙ filter-words word (slice_split is_blank (next ++ blank_words these)) is.some
    ∙ ap (λ (others : List (List ℕ)). word ∷ others)
    (words-joined next these (All-head IsWord next these are) (All-tail IsWord next these are))

-- words after blanks are the words of the bytes
pub words-after_blanks : (these : List (List ℕ)) → All IsWord these → words (blank_words these) ≡ these
words-after_blanks [] are = refl
words-after_blanks (word ∷ these) are =
    ap (λ (parts : List (List ℕ)). filter has_bytes parts) (slice_split-cons_yes is_blank 32 (word ++ blank_words these) refl)
    ∙ words-joined word these (All-head IsWord word these are) (All-tail IsWord word these are)

-- a line and the text after it
pub judgements-line : (line rest : List ℕ) → All NoFeed line → judgements (line ++ 10 ∷ rest) ≡ judgements_of_line line ++ judgements rest
judgements-line line rest none =
    ap (λ (parts : List (List ℕ)). flat_map judgements_of_line parts) (slice_split_at is_line_feed line 10 rest none refl)

feed_free-blanks : (these : List (List ℕ)) → All IsWord these → All NoFeed (blank_words these)
feed_free-blanks [] are = All-nil NoFeed
feed_free-blanks (word ∷ these) are =
    All-append NoFeed (after_blank word) (blank_words these)
    (All-cons NoFeed 32 word refl (no_feed word (All-head IsWord word these are).bytes))
    (feed_free-blanks these (All-tail IsWord word these are))

judgements-values : (these : List (List ℕ)) → All IsWord these → judgements_of_line (118 ∷ blank_words these) ≡ map of_literal these
judgements-values [] are = refl
judgements-values (word ∷ these) are = ap (λ (all : List (List ℕ)). map of_literal all) (words-after_blanks (word ∷ these) are)

judgements-value_line : (these : List (List ℕ)) (rest : List ℕ) → All IsWord these →
    judgements (value_line these ++ rest) ≡ map of_literal these ++ judgements rest
judgements-value_line these rest are =
    ap (λ (text : List ℕ). judgements text) (append_assoc (118 ∷ blank_words these) (10 ∷ []) rest)
    ∙ judgements-line (118 ∷ blank_words these) rest (All-cons NoFeed 118 (blank_words these) refl (feed_free-blanks these are))
    ∙ ap (λ (these : List Judgement). these ++ judgements rest) (judgements-values these are)

-- the literals of rows are the literals of the words
pub judgements-rows : (k : ℕ) (these : List (List ℕ)) → length these ≤ k → All IsWord these →
    judgements (flat_map value_line (rows_within k these)) ≡ map of_literal these
judgements-rows zero [] le are = refl
judgements-rows (suc k) [] le are = refl
judgements-rows zero (word ∷ these) le are = absurd (omega arith)
judgements-rows (suc k) (word ∷ these) le are =
    let head = All-head IsWord word these are in
    let tail = All-tail IsWord word these are in
    judgements-value_line (word ∷ take 9 these) (flat_map value_line (rows_within k (drop 9 these)))
    (All-cons IsWord word (take 9 these) head (All-take IsWord 9 these tail))
    ∙ ap (λ (rest : List Judgement). map of_literal (word ∷ take 9 these) ++ rest)
    (judgements-rows k (drop 9 these) (omega (arith, length-drop 9 these)) (All-drop IsWord 9 these tail))
    ∙ sym (map-append of_literal (word ∷ take 9 these) (drop 9 these))
    ∙ ap (λ (rest : List (List ℕ)). map of_literal (word ∷ rest)) (take-append-drop 9 these)
