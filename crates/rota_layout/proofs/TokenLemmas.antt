-- The first bytes determine the tokens.
use Rattle.std.proofs.Common.{◌≡◌, ℕ, suc, ◌+◌, ◌==◌, ◌<◌, Bool, true, false, not, ◌||◌, true≢false, cond, refl, sym, ap, ◌∙◌, arith}
use Rattle.std.proofs.Common.{List, [], ◌∷◌, ◌++◌, length, drop, take, get_or, count_by, append_assoc}
use Rattle.std.specs.List.{list_all, prefix_len}
use Rattle.std.proofs.lemmas.Bool.{and_parts}
use Rattle.std.proofs.lemmas.Bool.Decides.{nat_tests}
use Rattle.std.proofs.lemmas.List.{append-nil}
use Rattle.std.proofs.lemmas.List.Sums.{sum_by-cons}
use Rattle.rota_core.specs.Words.{is_whitespace, is_sign, is_word_byte}
use Rattle.rota_layout.specs.Tokens.{Token, word_token, tokens_after, next_line}
use Rattle.rota_layout.specs.TokenLines.{tokens_from}

pub neither : (x y : Bool) → not (x || y) ≡ true → (x ≡ false) × (y ≡ false)
neither true y h = absurd (true≢false (sym h))
neither false true h = absurd (true≢false (sym h))
neither false false h = (refl, refl)

pub no_sign_no_blank : (x y : Bool) → x ≡ false → y ≡ false → not (x || y) ≡ true
no_sign_no_blank x y h g = rw (h, g) refl

-- a sign is a token by itself
pub tokens_from-sign : (b line : ℕ) (bytes : List ℕ) → is_whitespace b ≡ false → is_sign b ≡ true →
    tokens_from line (b ∷ bytes) ≡ record { word = b ∷ []; line = line } ∷ tokens_from line bytes
unfolding tokens_after
tokens_from-sign b line bytes h g = rw (h, g) refl

-- a byte of a word is one more byte of it
one_longer : (word : List ℕ) (b line : ℕ) (bytes : List ℕ) → is_word_byte b ≡ true →
    tokens_after word line (b ∷ bytes) ≡ tokens_after (word ++ b ∷ []) line bytes
unfolding tokens_after
one_longer word b line bytes h =
    let n = neither (is_whitespace b) (is_sign b) h in
    rw (n.0, n.1) refl

-- each other byte ends the word
pub word_ends : (word : List ℕ) (b line : ℕ) (bytes : List ℕ) → is_word_byte b ≡ false →
    tokens_after word line (b ∷ bytes) ≡ word_token word line ++ tokens_from line (b ∷ bytes)
unfolding tokens_after
word_ends word b line bytes h = by (is_whitespace b) (is_sign b) refl refl
  where
    by : (x y : Bool) → is_whitespace b ≡ x → is_sign b ≡ y →
        tokens_after word line (b ∷ bytes) ≡ word_token word line ++ tokens_from line (b ∷ bytes)
    by true y e f = rw e refl
    by false true e f = rw (e, f) refl
    by false false e f = absurd (true≢false (sym (no_sign_no_blank (is_whitespace b) (is_sign b) e f) ∙ h))

-- bytes of a word are added to it, whatever follows them
pub word_goes_on : (word bytes : List ℕ) (line : ℕ) (rest : List ℕ) → list_all is_word_byte bytes ≡ true →
    tokens_after word line (bytes ++ rest) ≡ tokens_after (word ++ bytes) line rest
word_goes_on word [] line rest h = ap (λ w. tokens_after w line rest) (sym (append-nil word))
word_goes_on word (b ∷ bytes) line rest h =
    let parts = and_parts (is_word_byte b) (list_all is_word_byte bytes) h in
    one_longer word b line (bytes ++ rest) parts.0
    ∙ word_goes_on (word ++ b ∷ []) bytes line rest parts.1
    ∙ ap (λ w. tokens_after w line rest) (append_assoc word (b ∷ []) bytes)

-- the bytes of a word at the front, and the bytes after them
abbrev word_of : List ℕ → List ℕ
word_of bytes = take (prefix_len is_word_byte bytes) bytes

abbrev after_word : List ℕ → List ℕ
after_word bytes = drop (prefix_len is_word_byte bytes) bytes

word_of-cons : (b : ℕ) (bytes : List ℕ) → is_word_byte b ≡ true → word_of (b ∷ bytes) ≡ b ∷ word_of bytes
word_of-cons b bytes h =
    let e : 1 + prefix_len is_word_byte bytes ≡ suc (prefix_len is_word_byte bytes) = omega arith in
    rw (h, e) refl

after_word-cons : (b : ℕ) (bytes : List ℕ) → is_word_byte b ≡ true → after_word (b ∷ bytes) ≡ after_word bytes
after_word-cons b bytes h =
    let e : 1 + prefix_len is_word_byte bytes ≡ suc (prefix_len is_word_byte bytes) = omega arith in
    rw (h, e) refl

abbrev WordFirst : List ℕ → ℕ → List ℕ → Type 0
WordFirst word line bytes =
    tokens_after word line bytes ≡ word_token (word ++ word_of bytes) line ++ tokens_from line (after_word bytes)

word_at : (word : List ℕ) (line b : ℕ) (bytes : List ℕ) (r : Bool) → is_word_byte b ≡ r → WordFirst (word ++ b ∷ []) line bytes →
    WordFirst word line (b ∷ bytes)
word_at word line b bytes true h rest =
    let longer = append_assoc word (b ∷ []) (word_of bytes) ∙ ap (λ (w : List ℕ). word ++ w) (sym (word_of-cons b bytes h)) in
    one_longer word b line bytes h
    ∙ rest
    ∙ ap (λ w. word_token w line ++ tokens_from line (after_word bytes)) longer
    ∙ ap (λ r. word_token (word ++ word_of (b ∷ bytes)) line ++ tokens_from line r) (sym (after_word-cons b bytes h))
word_at word line b bytes false h rest =
    let none : prefix_len is_word_byte (b ∷ bytes) ≡ 0 = rw h refl in
    let same = ap (λ (n : ℕ). word ++ take n (b ∷ bytes)) none ∙ append-nil word in
    word_ends word b line bytes h
    ∙ ap (λ w. word_token w line ++ tokens_from line (b ∷ bytes)) (sym same)
    ∙ ap (λ (n : ℕ). word_token (word ++ word_of (b ∷ bytes)) line ++ tokens_from line (drop n (b ∷ bytes))) (sym none)

-- a word that was begun goes on up to the first byte that is not a byte of a word
begun_word : (word : List ℕ) (line : ℕ) (bytes : List ℕ) → WordFirst word line bytes
unfolding tokens_after
begun_word word line [] =
    ap (λ w. word_token w line) (sym (append-nil word)) ∙ sym (append-nil (word_token (word ++ []) line))
begun_word word line (b ∷ bytes) = word_at word line b bytes (is_word_byte b) refl (begun_word (word ++ b ∷ []) line bytes)

-- a word is all bytes up to the first one that is not a byte of a word
pub tokens_from-word : (b line : ℕ) (bytes : List ℕ) → is_word_byte b ≡ true →
    tokens_from line (b ∷ bytes) ≡ record { word = word_of (b ∷ bytes); line = line } ∷ tokens_from line (after_word (b ∷ bytes))
tokens_from-word b line bytes h =
    begun_word [] line (b ∷ bytes)
    ∙ one_token (word_of (b ∷ bytes)) (word_of bytes) (tokens_from line (after_word (b ∷ bytes))) (word_of-cons b bytes h)
  where
    one_token : (word rest : List ℕ) (ts : List Token) → word ≡ b ∷ rest →
        word_token word line ++ ts ≡ record { word = word; line = line } ∷ ts
    one_token word rest ts e = rw e refl

-- the number of line feeds among the blanks at the front
abbrev line_feeds : List ℕ → ℕ
line_feeds bytes = count_by (λ b. b == 10) (take (prefix_len is_whitespace bytes) bytes)

abbrev after_blanks : List ℕ → List ℕ
after_blanks bytes = drop (prefix_len is_whitespace bytes) bytes

abbrev SkipsBlanks : ℕ → List ℕ → Type 0
SkipsBlanks line bytes = tokens_from (line + line_feeds bytes) (after_blanks bytes) ≡ tokens_from line bytes

line_feeds-cons : (b line : ℕ) (bytes : List ℕ) → is_whitespace b ≡ true →
    line + line_feeds (b ∷ bytes) ≡ next_line b line + line_feeds bytes
line_feeds-cons b line bytes h =
    let e : 1 + prefix_len is_whitespace bytes ≡ suc (prefix_len is_whitespace bytes) = omega arith in
    let counted = sum_by-cons (λ (b : ℕ). cond (b == 10) 1 0) b (take (prefix_len is_whitespace bytes) bytes) in
    rw (h, e) (grind (arith, nat_tests, counted))

after_blanks-cons : (b : ℕ) (bytes : List ℕ) → is_whitespace b ≡ true → after_blanks (b ∷ bytes) ≡ after_blanks bytes
after_blanks-cons b bytes h =
    let e : 1 + prefix_len is_whitespace bytes ≡ suc (prefix_len is_whitespace bytes) = omega arith in
    rw (h, e) refl

pub one_blank : (b line : ℕ) (bytes : List ℕ) → is_whitespace b ≡ true → tokens_from line (b ∷ bytes) ≡ tokens_from (next_line b line) bytes
unfolding tokens_after
one_blank b line bytes h = rw h refl

blanks_at : (b line : ℕ) (bytes : List ℕ) (r : Bool) → is_whitespace b ≡ r → SkipsBlanks (next_line b line) bytes →
    SkipsBlanks line (b ∷ bytes)
blanks_at b line bytes true h rest =
    ap (λ n. tokens_from n (after_blanks (b ∷ bytes))) (line_feeds-cons b line bytes h)
    ∙ ap (tokens_from (next_line b line + line_feeds bytes)) (after_blanks-cons b bytes h)
    ∙ rest ∙ sym (one_blank b line bytes h)
blanks_at b line bytes false h rest = rw h (ap (λ n. tokens_from n (b ∷ bytes)) (omega arith))

-- the blanks at the front are not part of a token
pub tokens_from-blanks : (line : ℕ) (bytes : List ℕ) → SkipsBlanks line bytes
tokens_from-blanks line [] = ap (λ n. tokens_from n []) (omega arith)
tokens_from-blanks line (b ∷ bytes) = blanks_at b line bytes (is_whitespace b) refl (tokens_from-blanks (next_line b line) bytes)

no_blank_at : (x : ℕ) (xs : List ℕ) (b : ℕ) (rest : List ℕ) (r : Bool) → is_whitespace x ≡ r →
    (after_blanks xs ≡ b ∷ rest → is_whitespace b ≡ false) → after_blanks (x ∷ xs) ≡ b ∷ rest → is_whitespace b ≡ false
no_blank_at x xs b rest true h later e = later (sym (after_blanks-cons x xs h) ∙ e)
no_blank_at x xs b rest false h later e =
    let f : x ∷ xs ≡ b ∷ rest = rw h at e in
    let g : x ≡ b = cc in
    rw (← g) h

-- the byte after the blanks is not a blank
pub after_blanks-first : (bytes : List ℕ) (b : ℕ) (rest : List ℕ) → after_blanks bytes ≡ b ∷ rest → is_whitespace b ≡ false
after_blanks-first [] b rest h = absurd (cc)
after_blanks-first (x ∷ xs) b rest h = no_blank_at x xs b rest (is_whitespace x) refl (after_blanks-first xs b rest) h

pub ruleset skipped = (tokens_from-blanks, after_blanks-first)

abbrev TokenFirst : List ℕ → ℕ → Type 0
TokenFirst bytes len =
    (line : ℕ) → tokens_from line bytes ≡ record { word = take len bytes; line = line } ∷ tokens_from line (drop len bytes)

pub sign_first : (bytes : List ℕ) → 0 < length bytes → ((b : ℕ) → (rest : List ℕ) → bytes ≡ b ∷ rest → is_whitespace b ≡ false) →
    is_sign (get_or bytes 0 0) ≡ true → TokenFirst bytes 1
sign_first [] some first h = absurd (omega arith)
sign_first (b ∷ rest) some first h = λ line. tokens_from-sign b line rest (first b rest refl) h

pub word_first : (bytes : List ℕ) → 0 < length bytes → ((b : ℕ) → (rest : List ℕ) → bytes ≡ b ∷ rest → is_whitespace b ≡ false) →
    is_sign (get_or bytes 0 0) ≡ false → TokenFirst bytes (prefix_len is_word_byte bytes)
word_first [] some first h = absurd (omega arith)
word_first (b ∷ rest) some first h = λ line.
    tokens_from-word b line rest (no_sign_no_blank (is_whitespace b) (is_sign b) (first b rest refl) h)

-- if no byte is left, no token is left
pub no_tokens : (line : ℕ) (bytes : List ℕ) → true ≡ (length bytes == 0) → tokens_from line bytes ≡ []
unfolding tokens_after
no_tokens line [] h = refl
no_tokens line (b ∷ bytes) h = absurd (grind (arith, nat_tests))
