-- The text of an answer: a solver's lines for an assignment that satisfies all constraints, in the output format of the Pseudo-Boolean
-- Competition.
use Rattle.std.specs.Prelude.{ℕ, zero, suc, ◌+◌, Bool, true, false, List, [], ◌∷◌, ◌++◌, length, take, drop, codes}
use Rattle.std.specs.List.{flat_map}
use Rattle.rota_core.specs.Numeral.{numeral}

-- the literal of the variable with its value
abbrev pub literal_word : ℕ → Bool → List ℕ
literal_word variable true = codes "x" ++ numeral variable
literal_word variable false = codes "-x" ++ numeral variable

-- the literals of the variables from this one on, in order
abbrev pub literal_words : ℕ → List Bool → List (List ℕ)
literal_words variable [] = []
literal_words variable (truth ∷ truths) = literal_word variable truth ∷ literal_words (variable + 1) truths

-- rows of ten, and a last row with the rest, if the number of rows is at most the given number
abbrev pub rows_within : {A : Type 0} → ℕ → List A → List (List A)
rows_within zero xs = []
rows_within (suc k) [] = []
rows_within (suc k) (x ∷ xs) = (x ∷ take 9 xs) ∷ rows_within k (drop 9 xs)

-- the words in rows of ten; the last row may have fewer
abbrev pub rows_of_ten : {A : Type 0} → List A → List (List A)
rows_of_ten xs = rows_within (length xs) xs

-- a blank before the word
abbrev pub after_blank : List ℕ → List ℕ
after_blank word = codes " " ++ word

-- the words, with a blank before each
abbrev pub blank_words : List (List ℕ) → List ℕ
blank_words words = flat_map after_blank words

-- the v line of these words
abbrev pub value_line : List (List ℕ) → List ℕ
value_line words = codes "v" ++ blank_words words ++ codes "\n"

-- the lines before the values
abbrev pub answer_head : ℕ → List ℕ
answer_head objective = codes "o " ++ numeral objective ++ codes "\ns SATISFIABLE\n"

-- the whole text, for the objective's value and the values of the variables from 1 on
abbrev pub answer_text : ℕ → List Bool → List ℕ
answer_text objective truths = answer_head objective ++ flat_map value_line (rows_of_ten (literal_words 1 truths))
