-- The scenario that a text spells is within the limits.
use Rattle.std.proofs.Common.{◌≡◌, ℕ, suc, ◌+◌, ◌*◌, ◌<◌, Bool, true, false, ◌||◌, refl, sym, ap, ◌∙◌, subst, arith}
use Rattle.std.proofs.Common.{List, [], ◌∷◌, ◌++◌, length, map, codes, replicate, Option, Some, None, unwrap_or}
use Rattle.std.specs.List.{AllByRecursion, IsDistinct}
use Rattle.std.proofs.lemmas.List.{length-map, length-replicate, length-set}
use Rattle.std.proofs.lemmas.List.FromFn.{length-map-range_with_len}
use Rattle.std.specs.Str.{bytes_eq}
use Rattle.std.specs.Cmp.Lexicographic.{nat_list_eq_equiv}
use Rattle.std.proofs.lemmas.Map.Keys.{IsDistinct-push}
use Rattle.rota_core.proofs.LogicWords.{AllByRecursion-back}
use Rattle.rota_core.specs.Limits.{Within, max_contracts, max_number, max_nurses, max_shifts, max_skills, max_weeks}
use Rattle.rota_core.specs.Words.{IsWord, is_among}
use Rattle.rota_core.specs.ScenarioTables.{ScenarioTables, IsScenario, AreLimits, IsContract, IsShiftName, AreDistinct, reserved}
use Rattle.rota_core.specs.declared.values.Span.{Span}
use Rattle.rota_core.specs.declared.values.Contract.{Contract}
use Rattle.rota_layout.specs.Tokens.{Token, tokens}
use Rattle.rota_read.specs.ScenarioLayout.{section, known_names, marks, successions, Named, none_named, new_row, contract}
use Rattle.rota_read.specs.ScenarioLayout.{Nurse, nurse, scenario}
use Rattle.rota_layout.specs.Layout.{Layout, one_more, none_taken}
use Rattle.rota_read.specs.SharedSlots.{new_name, pair, is_one_of, known_row, value_of_each}
use Rattle.rota_layout.specs.Files.{Fills, Spells}
use Rattle.rota_read.proofs.WordLaws.{IsToken, AreTokens, tokens-are_tokens}
use Rattle.rota_layout.proofs.ReadingLaws.{all_push, length_push, number-within, known_name-below, setting-within, rows_length}
use Rattle.rota_read.proofs.WordSlots.{repeat-keeps, any_word-is_word, new_name-is_new}

pub left : (front first second : List Token) → front ≡ first ++ second → AreTokens front → AreTokens first
left front first second e all = (AllByRecursion-back IsToken first second (subst AreTokens e all)).0

pub right : (front first second : List Token) → front ≡ first ++ second → AreTokens front → AreTokens second
right front first second e all = (AllByRecursion-back IsToken first second (subst AreTokens e all)).1

pub pair-limits : (front : List Token) (span : Span) → Fills pair front span → AreLimits span
unfolding Fills pair
pair-limits front span h =
    -- `(`, the minimum, `,`, the maximum, `)`
    let a = h.5 in
    let b = a.5 in
    let c = b.5 in
    let d = c.5 in
    rw d.5.1 ((number-within 0 max_number a.1 a.0 a.4).1, (number-within 0 max_number c.1 c.0 c.4).1)

none_distinct : AreDistinct []
unfolding IsDistinct
none_distinct = tt

-- a name that is none of the names before
one_more_name : (names : List (List ℕ)) (name : List ℕ) → AreDistinct names → is_among names name ≡ false →
    AreDistinct (names ++ name ∷ [])
one_more_name names name distinct new = IsDistinct-push nat_list_eq_equiv names name distinct new

-- i names, which are words and distinct
abbrev Names : ℕ → List (List ℕ) → Type 0
Names i names = (length names ≡ i) × AllByRecursion IsWord names × AreDistinct names

name_row-keeps : (i : ℕ) (names : List (List ℕ)) (front : List Token) (next : List (List ℕ)) →
    AreTokens front → Fills (one_more new_name names) front next → Names i names → Names (suc i) next
unfolding Fills one_more
name_row-keeps i names front next all h k =
    let w = new_name-is_new names h.1 h.0 (left front h.1 h.2 h.3 all) h.4 in
    rw h.5.1 (length_push names h.0 i k.0, all_push IsWord names h.0 k.1 w.0, one_more_name names h.0 k.2 w.1)

-- shift types and their limits
abbrev ShiftsKept : ℕ → Named Span → Type 0
ShiftsKept i s =
    (length s.names ≡ i) × AllByRecursion IsShiftName s.names × AreDistinct s.names
    × (length s.values ≡ i) × AllByRecursion AreLimits s.values

neither : (x y z : Bool) → (x || (y || z)) ≡ false → ((x || (y || false)) ≡ false) × (z ≡ false)
neither true y z h = absurd (cc)
neither false true z h = absurd (cc)
neither false false z h = (refl, h)

shift_row-keeps : (i : ℕ) (s : Named Span) (front : List Token) (next : Named Span) →
    AreTokens front → Fills (new_row reserved pair s) front next → ShiftsKept i s → ShiftsKept (suc i) next
unfolding Fills new_row
shift_row-keeps i s front next all h k =
    let w = new_name-is_new (reserved ++ s.names) h.1 h.0 (left front h.1 h.2 h.3 all) h.4 in
    let new = neither (bytes_eq h.0 (codes "None")) (bytes_eq h.0 (codes "Any")) (is_among s.names h.0) w.1 in
    let limit = h.5 in
    rw limit.5.1 (
      length_push s.names h.0 i k.0,
      all_push IsShiftName s.names h.0 k.1 (w.0, new.0),
      one_more_name s.names h.0 k.2 new.1,
      length_push s.values limit.0 i k.3,
      all_push AreLimits s.values limit.0 k.4 (pair-limits limit.1 limit.0 limit.4),
    )

contract-limits : (front : List Token) (c : Contract) → Fills contract front c → IsContract c
unfolding Fills contract
contract-limits front c h =
    let work = h.5 in
    let off = work.5 in
    let weekends = off.5 in
    let complete = weekends.5 in
    rw complete.5.1 (
      pair-limits h.1 h.0 h.4,
      pair-limits work.1 work.0 work.4,
      pair-limits off.1 off.0 off.4,
      (number-within 0 max_number weekends.1 weekends.0 weekends.4).1,
    )

abbrev ContractsKept : ℕ → Named Contract → Type 0
ContractsKept i c = (length c.names ≡ i) × (length c.values ≡ i) × AllByRecursion IsContract c.values

contract_row-keeps : (i : ℕ) (c : Named Contract) (front : List Token) (next : Named Contract) →
    AreTokens front → Fills (new_row [] contract c) front next → ContractsKept i c → ContractsKept (suc i) next
unfolding Fills new_row
contract_row-keeps i c front next all h k =
    let one = h.5 in
    rw one.5.1 (
      length_push c.names h.0 i k.0,
      length_push c.values one.0 i k.1,
      all_push IsContract c.values one.0 k.2 (contract-limits one.1 one.0 one.4),
    )

abbrev NursesKept : ℕ → ℕ → Named Nurse → Type 0
NursesKept contracts i n =
    (length n.names ≡ i) × AllByRecursion IsWord n.names × AreDistinct n.names
    × (length n.values ≡ i) × AllByRecursion (λ (one : Nurse). one.contract < contracts) n.values

nurse-contract : (contracts skills : List (List ℕ)) (front : List Token) (one : Nurse) → Fills (nurse contracts skills) front one →
    one.contract < length contracts
unfolding Fills nurse
nurse-contract contracts skills front one h = rw h.5.5.1 (known_name-below contracts none_taken h.1 h.0 h.4)

nurse_row-keeps : (contracts skills : List (List ℕ)) (i : ℕ) (n : Named Nurse) (front : List Token) (next : Named Nurse) →
    AreTokens front → Fills (new_row [] (nurse contracts skills) n) front next →
    NursesKept (length contracts) i n → NursesKept (length contracts) (suc i) next
unfolding Fills new_row
nurse_row-keeps contracts skills i n front next all h k =
    let w = new_name-is_new n.names h.1 h.0 (left front h.1 h.2 h.3 all) h.4 in
    let one = h.5 in
    rw one.5.1 (
      length_push n.names h.0 i k.0,
      all_push IsWord n.names h.0 k.1 w.0,
      one_more_name n.names h.0 k.2 w.1,
      length_push n.values one.0 i k.3,
      all_push (λ (one : Nurse). one.contract < length contracts) n.values one.0 k.4 (nurse-contract contracts skills one.1 one.0 one.4),
    )

all_contracts : (contracts : ℕ) (nurses : List Nurse) → AllByRecursion (λ (one : Nurse). one.contract < contracts) nurses →
    AllByRecursion (λ c. c < contracts) (map (λ (one : Nurse). one.contract) nurses)
all_contracts contracts [] h = tt
all_contracts contracts (one ∷ nurses) h = (h.0, all_contracts contracts nurses h.1)

-- ---- the parts

-- a property that each row keeps holds after all rows of a section
section-kept : {S : Type 0} (name : List ℕ) (maximum : ℕ) (row : S → Layout S) (none : S) (Keeps : ℕ → S → Type 0) →
    ((i : ℕ) (s : S) (front : List Token) (next : S) → AreTokens front → Fills (row s) front next → Keeps i s → Keeps (suc i) next) →
    (front : List Token) (last : S) → AreTokens front → Fills (section name maximum row none) front last → Keeps 0 none →
    (n : ℕ) × Within maximum n × Keeps n last
unfolding Fills section
section-kept name maximum row none Keeps step front last all h k =
    let kept = repeat-keeps row Keeps step h.0 0 none h.2 last (right front h.1 h.2 h.3 all) h.5 k in
    let e : h.0 + 0 ≡ h.0 = omega arith in
    (h.0, setting-within name 1 maximum h.1 h.0 h.4, subst (λ n. Keeps n last) e kept)

value_row-keeps : {A : Type 0} (names : List (List ℕ)) (value : Layout A) (i : ℕ) (rows : List (Option A)) (front : List Token) (next : List (Option A)) →
    AreTokens front → Fills (known_row names value rows) front next → length rows ≡ length names → length next ≡ length names
unfolding Fills known_row
value_row-keeps names value i rows front next all h k = rw h.5.5.1 (length-set rows h.0 (Some h.5.0) ∙ k)

successions-length : (names : List (List ℕ)) (front : List Token) (table : List Bool) → AreTokens front →
    Fills (successions names) front table → length table ≡ length names * length names
unfolding Fills successions value_of_each
successions-length names front table all h =
    let rows = h.5 in
    let count = length names in
    let row = known_row names (known_names names) in
    let kept =
    repeat-keeps row (λ _ rows. length rows ≡ count) (value_row-keeps names (known_names names)) count 0 (replicate count None)
    rows.1 rows.0 (left h.2 rows.1 rows.2 rows.3 (right front h.1 h.2 h.3 all)) rows.4 (length-replicate count None) in
    ap length rows.5.1
    ∙ rows_length (λ row. marks count (unwrap_or row [])) count
    (λ row. length-map-range_with_len (is_one_of (unwrap_or row [])) 0 count) rows.0
    ∙ ap (λ n. n * count) kept

-- the number of items is the count
counted : (maximum n len : ℕ) → Within maximum n → len ≡ n → Within maximum len
counted maximum n len h e = (omega (arith, h.0, e), omega (arith, h.1, e))

-- tokens that fill the slots of a scenario file give a scenario
scenario-is_scenario : (front : List Token) (tables : ScenarioTables) → AreTokens front → Fills scenario front tables →
    IsScenario tables
unfolding Fills scenario
scenario-is_scenario front tables all h =
    let equals = h.5 in
    let na = equals.5 in
    let we = na.5 in
    let sk = we.5 in
    let sh = sk.5 in
    let fo = sh.5 in
    let co = fo.5 in
    let nu = co.5 in
    let after_equals = right h.2 equals.1 equals.2 equals.3 (right front h.1 h.2 h.3 all) in
    let after_name = right equals.2 na.1 na.2 na.3 after_equals in
    let after_weeks = right na.2 we.1 we.2 we.3 after_name in
    let after_skills = right we.2 sk.1 sk.2 sk.3 after_weeks in
    let after_shifts = right sk.2 sh.1 sh.2 sh.3 after_skills in
    let after_successions = right sh.2 fo.1 fo.2 fo.3 after_shifts in
    let after_contracts = right fo.2 co.1 co.2 co.3 after_successions in
    let name = any_word-is_word na.1 na.0 (left equals.2 na.1 na.2 na.3 after_equals) na.4 in
    let weeks = setting-within (codes "WEEKS") 1 max_weeks we.1 we.0 we.4 in
    let skills =
    section-kept (codes "SKILLS") max_skills (one_more new_name) [] Names name_row-keeps sk.1 sk.0
    (left we.2 sk.1 sk.2 sk.3 after_weeks) sk.4 (refl, tt, none_distinct) in
    let shifts =
    section-kept (codes "SHIFT_TYPES") max_shifts (new_row reserved pair) none_named ShiftsKept shift_row-keeps sh.1 sh.0
    (left sk.2 sh.1 sh.2 sh.3 after_skills) sh.4 (refl, tt, none_distinct, refl, tt) in
    let forbidden = successions-length sh.0.names fo.1 fo.0 (left sh.2 fo.1 fo.2 fo.3 after_shifts) fo.4 in
    let contracts =
    section-kept (codes "CONTRACTS") max_contracts (new_row [] contract) none_named ContractsKept contract_row-keeps co.1 co.0
    (left fo.2 co.1 co.2 co.3 after_successions) co.4 (refl, refl, tt) in
    let nurses =
    section-kept (codes "NURSES") max_nurses (new_row [] (nurse co.0.names sk.0)) none_named (NursesKept (length co.0.names))
    (nurse_row-keeps co.0.names sk.0) nu.1 nu.0 (left co.2 nu.1 nu.2 nu.3 after_contracts) nu.4
    (refl, tt, none_distinct, refl, tt) in
    let counts = length-map nu.0.values (λ (one : Nurse). one.contract) in
    rw nu.5.1 (record {
      name = name;
      weeks = weeks;
      skills = (counted max_skills skills.0 (length sk.0) skills.1 skills.2.0, skills.2.1, skills.2.2);
      shifts = (counted max_shifts shifts.0 (length sh.0.names) shifts.1 shifts.2.0, shifts.2.1, shifts.2.2);
      limits = (shifts.2.3 ∙ sym shifts.2.0, shifts.2.4);
      forbidden = forbidden;
      contracts = (counted max_contracts contracts.0 (length co.0.values) contracts.1 contracts.2.1, contracts.2.2);
      nurses = (counted max_nurses nurses.0 (length nu.0.names) nurses.1 nurses.2.0, nurses.2.1, nurses.2.2);
      contract_of = (
        counts ∙ nurses.2.3 ∙ sym nurses.2.0,
        subst (λ n. AllByRecursion (λ c. c < n) (map (λ (one : Nurse). one.contract) nu.0.values)) (contracts.2.0 ∙ sym contracts.2.1)
            (all_contracts (length co.0.names) nu.0.values nurses.2.4),
      );
      has_skill =
          rows_length (λ (one : Nurse). marks (length sk.0) one.skills) (length sk.0)
          (λ one. length-map-range_with_len (is_one_of one.skills) 0 (length sk.0)) nu.0.values
          ∙ ap (λ n. n * length sk.0) (nurses.2.3 ∙ sym nurses.2.0);
    })

-- a text spells scenarios only
pub spells-is_scenario : (text : List ℕ) (tables : ScenarioTables) → Spells scenario text tables → IsScenario tables
spells-is_scenario text tables h =
    scenario-is_scenario (tokens text) tables (tokens-are_tokens text) h.filled
