-- The text of a roster spells it.
use Rattle.std.proofs.Common.{◌≡◌, ℕ, suc, ◌+◌, ◌<◌, ◌≤◌, Bool, true, false, refl, sym, ap, ◌∙◌, subst, arith, append_assoc}
use Rattle.std.proofs.Common.{List, [], ◌∷◌, ◌++◌, length, codes}
use Rattle.std.specs.List.{AllByRecursion, IsDistinct, flat_map}
use Rattle.std.proofs.lemmas.Bool.{or_from}
use Rattle.std.proofs.lemmas.Bool.Decides.{nat_tests}
use Rattle.std.proofs.lemmas.Bool.{false_from_ne_true}
use Rattle.std.proofs.lemmas.List.{append-nil}
use Rattle.rota_core.specs.Limits.{max_file_len, max_number}
use Rattle.rota_core.specs.declared.values.Cell.{Cell}
use Rattle.rota_core.specs.InstanceTables.{InstanceTables, IsInstance, problem_of}
use Rattle.rota_core.specs.Numeral.{numeral}
use Rattle.rota_core.specs.Roster.{Has, InWeek, Roster, cell}
use Rattle.rota_core.specs.HardRules.{KeepsOneCell}
use Rattle.rota_core.specs.RosterTables.{RosterTables, HasShapeOf, set_of}
use Rattle.rota_core.specs.CellIndex.{cell_index}
use Rattle.rota_core.specs.ScenarioTables.{ScenarioTables, IsShiftName, AreDistinct}
use Rattle.rota_core.specs.Words.{IsWord}
use Rattle.rota_core.proofs.LogicWords.{AllByRecursion-append, all-weaker}
use Rattle.rota_core.specs.CellLists.{ListsCells}
use Rattle.rota_core.specs.NumeralLaws.{ReadsBack}
use Rattle.rota_core.specs.RisingLists.{RisesWithin}
use Rattle.rota_layout.specs.Layout.{day_names, setting, Layout, end, ◌>>=◌, exactly, number, any_word, known_name, none_taken}
use Rattle.rota_layout.specs.Layout.{many, one_more, repeat}
use Rattle.rota_layout.specs.Files.{Fills}
use Rattle.rota_read.specs.RosterReading.{assignment_row}
use Rattle.rota_read.specs.SolutionLayout.{is_same_cell, is_one_cell, assignment, solution, SpellsRoster}
use Rattle.rota_read.specs.SolutionText.{name_at, spaced, ended, heading_text, assignment_text, text_of_cells, solution_text}
use Rattle.rota_layout.specs.Tokens.{tokens_after, tokens}
use Rattle.rota_core.specs.RosterCells.{cells_of}
use Rattle.rota_read.proofs.CellLists.{is_one_cell-cells_of}
use Rattle.rota_read.proofs.NameIndices.{holds-name_at, index_of-name_at}
use Rattle.rota_read.proofs.PieceLemmas.{FillsAsPiece, piece-bind, piece-end, piece-map, piece-blank}
use Rattle.rota_read.proofs.PieceLemmas.{piece-sign, piece-exactly, piece-any_word, piece-number, piece-known_name}

-- ---- days

day_words : AllByRecursion IsWord day_names
day_words =
    let weekend : AllByRecursion IsWord (codes "Sat" ∷ codes "Sun" ∷ []) = ((omega arith, refl), ((omega arith, refl), tt)) in
    ((omega arith, refl), ((omega arith, refl), ((omega arith, refl), ((omega arith, refl), ((omega arith, refl), weekend)))))

distinct_days : AreDistinct day_names
unfolding IsDistinct
distinct_days = (
  (refl, (refl, (refl, (refl, (refl, (refl, tt)))))),
  (
    (refl, (refl, (refl, (refl, (refl, tt))))),
    ((refl, (refl, (refl, (refl, tt)))), ((refl, (refl, (refl, tt))), ((refl, (refl, tt)), ((refl, tt), (tt, tt))))),
  ),
)

-- ---- one assignment

-- the line of an assignment, cut after each of its blanks
cut_row : (a b c d : List ℕ) →
    ended (spaced a (spaced b (spaced c d))) ≡ (a ++ 32 ∷ []) ++ ((b ++ 32 ∷ []) ++ ((c ++ 32 ∷ []) ++ (d ++ 10 ∷ [])))
cut_row a b c d =
    append_assoc a (32 ∷ (b ++ 32 ∷ (c ++ 32 ∷ d))) (10 ∷ [])
    ∙ ap (λ rest. a ++ 32 ∷ rest)
    (append_assoc b (32 ∷ (c ++ 32 ∷ d)) (10 ∷ []) ∙ ap (λ rest. b ++ 32 ∷ rest) (append_assoc c (32 ∷ d) (10 ∷ [])))
    ∙ ap (λ rest. a ++ 32 ∷ rest) (ap (λ rest. b ++ 32 ∷ rest) (sym (append_assoc c (32 ∷ []) (d ++ 10 ∷ []))))
    ∙ ap (λ rest. a ++ 32 ∷ rest) (sym (append_assoc b (32 ∷ []) ((c ++ 32 ∷ []) ++ (d ++ 10 ∷ []))))
    ∙ sym (append_assoc a (32 ∷ []) ((b ++ 32 ∷ []) ++ ((c ++ 32 ∷ []) ++ (d ++ 10 ∷ []))))

-- a line of two words before other lines, cut after the blank and after the line
cut_line : (a b rest : List ℕ) → ended (spaced a b) ++ rest ≡ (a ++ 32 ∷ []) ++ ((b ++ 10 ∷ []) ++ rest)
cut_line a b rest =
    append_assoc (a ++ 32 ∷ b) (10 ∷ []) rest
    ∙ append_assoc a (32 ∷ b) (10 ∷ rest)
    ∙ sym (append_assoc a (32 ∷ []) (b ++ 10 ∷ rest))
    ∙ ap (λ more. (a ++ 32 ∷ []) ++ more) (sym (append_assoc b (10 ∷ []) rest))

-- the empty line and the line of the number, cut at the blanks and the sign
cut_count : (digits : List ℕ) → ended [] ++ ended (codes "ASSIGNMENTS = " ++ digits)
    ≡ (10 ∷ (codes "ASSIGNMENTS" ++ 32 ∷ [])) ++ ((61 ∷ []) ++ (32 ∷ (digits ++ 10 ∷ [])))
cut_count digits = refl

cut_heading : (a b digits : List ℕ) →
    ended (codes "SOLUTION") ++ ended (spaced a b) ++ ended [] ++ ended (codes "ASSIGNMENTS = " ++ digits) ≡
    ended (codes "SOLUTION") ++ ((a ++ 32 ∷ []) ++ ((b ++ 10 ∷ [])
    ++ ((10 ∷ (codes "ASSIGNMENTS" ++ 32 ∷ [])) ++ ((61 ∷ []) ++ (32 ∷ (digits ++ 10 ∷ []))))))
cut_heading a b digits =
    append_assoc (ended (codes "SOLUTION") ++ ended (spaced a b)) (ended []) (ended (codes "ASSIGNMENTS = " ++ digits))
    ∙ append_assoc (ended (codes "SOLUTION")) (ended (spaced a b)) (ended [] ++ ended (codes "ASSIGNMENTS = " ++ digits))
    ∙ ap (λ rest. ended (codes "SOLUTION") ++ rest)
    (cut_line a b (ended [] ++ ended (codes "ASSIGNMENTS = " ++ digits))
    ∙ ap (λ rest. (a ++ 32 ∷ []) ++ ((b ++ 10 ∷ []) ++ rest)) (cut_count digits))

shift_words : (names : List (List ℕ)) → AllByRecursion IsShiftName names → AllByRecursion IsWord names
shift_words [] all = tt
shift_words (x ∷ xs) all = (all.0.0, shift_words xs all.1)

module _ (reads_back : (n : ℕ) → ReadsBack n) (tables : InstanceTables) (valid : IsInstance tables) where
  abbrev scenario : ScenarioTables
  scenario = tables.scenario

  abbrev named : (names : List (List ℕ)) (is_taken : ℕ → Bool) (index b : ℕ) → Type 0
  named names is_taken index b = FillsAsPiece (known_name names is_taken) (name_at names index ++ b ∷ []) index

  assignment-spelled : (rows : List Cell) (one : Cell) → InWeek (problem_of tables) one → is_one_cell rows one ≡ false →
      FillsAsPiece (assignment scenario rows) (assignment_text scenario one) one
  unfolding assignment assignment_text
  assignment-spelled rows one in_week is_new =
      let nurses = valid.scenario.nurses in
      let shifts = valid.scenario.shifts in
      let skills = valid.scenario.skills in
      let shift_names : AllByRecursion IsWord scenario.shifts = shift_words scenario.shifts shifts.1 in
      let nurse : named scenario.nurses none_taken one.nurse 32 =
      piece-known_name scenario.nurses none_taken (name_at scenario.nurses one.nurse) one.nurse 32
      (holds-name_at IsWord scenario.nurses one.nurse nurses.1 in_week.nurse_in) refl
      (index_of-name_at scenario.nurses one.nurse nurses.2 in_week.nurse_in) refl in
      let day : named day_names none_taken one.day 32 =
      piece-known_name day_names none_taken (name_at day_names one.day) one.day 32
      (holds-name_at IsWord day_names one.day day_words in_week.day_in) refl
      (index_of-name_at day_names one.day distinct_days in_week.day_in) refl in
      let shift : named scenario.shifts none_taken one.shift 32 =
      piece-known_name scenario.shifts none_taken (name_at scenario.shifts one.shift) one.shift 32
      (holds-name_at IsWord scenario.shifts one.shift shift_names in_week.shift_in) refl
      (index_of-name_at scenario.shifts one.shift shifts.2 in_week.shift_in) refl in
      let taken : ℕ → Bool = λ k. is_one_cell rows (cell one.nurse one.day one.shift k) in
      let skill : named scenario.skills taken one.skill 10 =
      piece-known_name scenario.skills taken (name_at scenario.skills one.skill) one.skill 10
      (holds-name_at IsWord scenario.skills one.skill skills.1 in_week.skill_in) refl
      (index_of-name_at scenario.skills one.skill skills.2 in_week.skill_in) is_new in
      subst (λ text. FillsAsPiece (assignment scenario rows) text one)
      (sym (cut_row (name_at scenario.nurses one.nurse) (name_at day_names one.day) (name_at scenario.shifts one.shift)
      (name_at scenario.skills one.skill)))
      (piece-bind (known_name scenario.nurses none_taken) _ _ _ one.nurse one nurse
      (piece-bind (known_name day_names none_taken) _ _ _ one.day one day
      (piece-bind (known_name scenario.shifts none_taken) _ _ _ one.shift one shift
      (piece-map (known_name scenario.skills taken) (λ k. cell one.nurse one.day one.shift k) _ one.skill skill))))

  row-spelled : (rows : List Cell) (one : Cell) → InWeek (problem_of tables) one → is_one_cell rows one ≡ false →
      FillsAsPiece (assignment_row scenario rows) (assignment_text scenario one) (rows ++ one ∷ [])
  unfolding assignment_row one_more
  row-spelled rows one in_week is_new =
      piece-map (assignment scenario rows) (λ one. rows ++ one ∷ []) (assignment_text scenario one) one
      (assignment-spelled rows one in_week is_new)

  -- ---- all assignments

  abbrev index : Cell → ℕ
  index = cell_index (problem_of tables).shifts (problem_of tables).skills

  -- a cell with a higher index is none of the cells before
  is_new : (rows : List Cell) (first : ℕ) (one : Cell) → AllByRecursion (λ other. index other < first) rows → first ≤ index one →
      is_one_cell rows one ≡ false
  is_new [] first one all later = refl
  is_new (other ∷ rows) first one all later =
      or_from (is_same_cell one other) (is_one_cell rows one)
      (false_from_ne_true (is_same_cell one other) (λ same. differs same)) (is_new rows first one all.1 later)
    where
      differs : is_same_cell one other ≡ true → ⊥
      differs same =
          let n : one.nurse ≡ other.nurse = grind (arith, nat_tests) in
          let d : one.day ≡ other.day = grind (arith, nat_tests) in
          let s : one.shift ≡ other.shift = grind (arith, nat_tests) in
          let k : one.skill ≡ other.skill = grind (arith, nat_tests) in
          let e : index one ≡ index other = rw (n, d, s, k) refl in
          omega (arith, all.0)

  all_below : (rows : List Cell) (first more : ℕ) → first ≤ more → AllByRecursion (λ other. index other < first) rows →
      AllByRecursion (λ other. index other < more) rows
  all_below [] first more up all = tt
  all_below (other ∷ rows) first more up all = (omega (arith, all.0), all_below rows first more up all.1)

  rows-spelled : (rows cells : List Cell) (first last : ℕ) → AllByRecursion (λ other. index other < first) rows →
      RisesWithin index first last cells → AllByRecursion (InWeek (problem_of tables)) cells →
      FillsAsPiece (repeat (length cells) (assignment_row scenario) rows) (flat_map (assignment_text scenario) cells) (rows ++ cells)
  unfolding repeat
  rows-spelled rows [] first last before rises in_week =
      subst (FillsAsPiece (end rows) []) (sym (append-nil rows)) (piece-end rows)
  rows-spelled rows (one ∷ cells) first last before rises in_week =
      let count : length (one ∷ cells) ≡ suc (length cells) = omega arith in
      let next : AllByRecursion (λ other. index other < index one + 1) (rows ++ one ∷ []) =
      AllByRecursion-append (λ other. index other < index one + 1) rows (one ∷ [])
      (all_below rows first (index one + 1) (omega (arith, rises.0)) before) (omega arith, tt) in
      let rest = rows-spelled (rows ++ one ∷ []) cells (index one + 1) last next rises.1 in_week.1 in
      let text = flat_map (assignment_text scenario) (one ∷ cells) in
      subst (λ n. FillsAsPiece (repeat n (assignment_row scenario) rows) text (rows ++ one ∷ cells)) (sym count)
      (subst (FillsAsPiece (repeat (suc (length cells)) (assignment_row scenario) rows) text)
      (append_assoc rows (one ∷ []) cells)
      (piece-bind (assignment_row scenario rows) (repeat (length cells) (assignment_row scenario))
      (assignment_text scenario one) (flat_map (assignment_text scenario) cells) (rows ++ one ∷ []) ((rows ++ one ∷ []) ++ cells)
      (row-spelled rows one in_week.0 (is_new rows first one before rises.0)) rest))

  -- ---- the lines before them

  -- the slots of the lines before the assignments, and the slots of the assignments
  abbrev after_heading : (ℕ → Layout (List Cell)) → Layout (List Cell)
  after_heading rows =
      exactly (codes "SOLUTION") >>= λ _. number 0 max_number >>= λ _. any_word >>= λ _. setting (codes "ASSIGNMENTS") 0 max_number >>= rows

  heading-spelled : (count : ℕ) (rows : ℕ → Layout (List Cell)) (text : List ℕ) (cells : List Cell) → count ≤ max_number →
      FillsAsPiece (rows count) text cells → FillsAsPiece (after_heading rows) (heading_text tables count ++ text) cells
  unfolding setting heading_text
  heading-spelled count rows text cells few then_rows =
      let name : List ℕ = scenario.name in
      let week : List ℕ = numeral tables.history.week in
      let number_line : List ℕ = 32 ∷ (numeral count ++ 10 ∷ []) in
      let first : List ℕ = codes "SOLUTION" ++ 10 ∷ [] in
      let count_line : List ℕ = (10 ∷ (codes "ASSIGNMENTS" ++ 32 ∷ [])) ++ ((61 ∷ []) ++ number_line) in
      let cut : heading_text tables count ++ text ≡ first ++ ((week ++ 32 ∷ []) ++ ((name ++ 10 ∷ []) ++ (count_line ++ text))) =
      ap (λ h. h ++ text) (cut_heading week name (numeral count))
      ∙ append_assoc first ((week ++ 32 ∷ []) ++ ((name ++ 10 ∷ []) ++ count_line)) text
      ∙ ap (λ rest. first ++ rest) (append_assoc (week ++ 32 ∷ []) ((name ++ 10 ∷ []) ++ count_line) text)
      ∙ ap (λ rest. first ++ ((week ++ 32 ∷ []) ++ rest)) (append_assoc (name ++ 10 ∷ []) count_line text) in
      subst (λ whole. FillsAsPiece (after_heading rows) whole cells) (sym cut)
      (piece-bind (exactly (codes "SOLUTION")) _ first _ (codes "SOLUTION") cells
      (piece-exactly (codes "SOLUTION") 10 (omega arith, refl) refl refl)
      (piece-bind (number 0 max_number) _ (week ++ 32 ∷ []) _ tables.history.week cells
      (piece-number reads_back 0 max_number tables.history.week 32 (omega arith) valid.history.week refl)
      (piece-bind any_word _ (name ++ 10 ∷ []) _ name cells (piece-any_word name 10 valid.scenario.name refl)
      (piece-bind (setting (codes "ASSIGNMENTS") 0 max_number) rows count_line text count cells
      (piece-bind (exactly (codes "ASSIGNMENTS")) _ (10 ∷ (codes "ASSIGNMENTS" ++ 32 ∷ [])) ((61 ∷ []) ++ number_line)
      (codes "ASSIGNMENTS") count
      (piece-blank (exactly (codes "ASSIGNMENTS")) 10 (codes "ASSIGNMENTS" ++ 32 ∷ []) (codes "ASSIGNMENTS") refl
      (piece-exactly (codes "ASSIGNMENTS") 32 (omega arith, refl) refl refl))
      (piece-bind (exactly (codes "=")) _ (61 ∷ []) number_line (codes "=") count (piece-sign 61 refl refl refl)
      (piece-blank (number 0 max_number) 32 (numeral count ++ 10 ∷ []) count refl
      (piece-number reads_back 0 max_number count 10 (omega arith) few refl)))) then_rows))))

  -- ---- the whole text

  pub roster_text-spelled : ((roster : Roster) → ListsCells (problem_of tables) roster) →
      (roster : RosterTables) → HasShapeOf (problem_of tables) roster → KeepsOneCell (problem_of tables) (set_of roster) →
      length (solution_text tables (set_of roster)) ≤ max_file_len → SpellsRoster tables (solution_text tables (set_of roster)) roster
  unfolding solution many assignment_row text_of_cells tokens_after
  roster_text-spelled lists roster shape one_cell short =
      let problem = problem_of tables in
      let cells : List Cell = cells_of problem (set_of roster) in
      let listed = lists (set_of roster) in
      let few : length cells ≤ max_number = omega (arith, listed.few one_cell, valid.scenario.nurses.0.1) in
      let theirs = all-weaker (Has problem (set_of roster)) (InWeek problem) (λ one has. has.in_week) cells listed.theirs in
      let rows : FillsAsPiece (repeat (length cells) (assignment_row scenario) []) (flat_map (assignment_text scenario) cells) cells =
      rows-spelled [] cells _ _ tt listed.rise theirs in
      let whole : FillsAsPiece (solution scenario) (solution_text tables (set_of roster)) cells =
      heading-spelled (length cells) (λ count. repeat count (assignment_row scenario) []) (flat_map (assignment_text scenario) cells) cells
      few rows in
      record {
        rows = cells;
        spelled = record { short = short; filled = all_of_it (solution scenario) (solution_text tables (set_of roster)) cells whole };
        cells = record { shape = shape; set = λ one in_week. is_one_cell-cells_of problem (set_of roster) listed one in_week };
      }
    where
      all_of_it : {V : Type 0} (layout : Layout V) (text : List ℕ) (value : V) → FillsAsPiece layout text value →
          Fills layout (tokens text) value
      all_of_it layout text value whole =
          let part = whole 1 in
          subst (λ all. Fills layout all value)
          (sym (ap tokens (sym (append-nil text)) ∙ part.3 [] ∙ append-nil part.0)) part.2
