-- The facts that a text spells name what exists.
use Rattle.std.proofs.Common.{◌≡◌, ℕ, zero, suc, ◌+◌, ◌-◌, ◌<◌, ◌≤◌, Bool, true, false, List, [], ◌∷◌, ◌++◌, length, Option, Ok, refl, sym, ◌∙◌, subst, arith}
use Rattle.std.specs.Option.{ForSome}
use Rattle.rota_core.specs.Certificates.{AreConditionsFor, IsChargeLimitFor, IsChoiceFor, IsFactFor, IsNurseLimitFor}
use Rattle.rota_core.specs.Limits.{max_number}
use Rattle.rota_core.specs.ScenarioTables.{ScenarioTables, numbers_of}
use Rattle.rota_core.specs.declared.certificate.ChargeLimit.{ChargeLimit}
use Rattle.rota_core.specs.declared.certificate.Condition.{Condition}
use Rattle.rota_core.specs.declared.certificate.DayChoice.{DayChoice}
use Rattle.rota_core.specs.declared.certificate.Fact.{Fact}
use Rattle.rota_core.specs.declared.certificate.NurseLimit.{NurseLimit}
use Rattle.rota_certificate_read.specs.FactsLayout.{GivenTables, charge_limit, condition_row, day_choice, fact, fact_after, facts, given_of, no_facts, nurse_limit, nurse_unless, week_number}
use Rattle.rota_certificate_read.specs.declared.facts.FactWord.{FactWord}
use Rattle.rota_certificate_read.specs.declared.facts.FactWord.TheVariants as words
use Rattle.rota_certificate_read.specs.declared.facts.GivenFacts.{GivenFacts}
use Rattle.rota_layout.specs.Files.{Fills, Spells}
use Rattle.rota_layout.specs.Layout.{codes, day_names, none_taken, repeat}
use Rattle.rota_layout.specs.Reading.{read_text}
use Rattle.rota_layout.specs.Tokens.{Token}
use Rattle.rota_layout.proofs.ReadingLaws.{spells-read, fault_in-read, setting-within, all_push, known_name-below, length_push}
use Rattle.rota_layout.proofs.ReadingLaws.{number-within, shift_or-below}

module _ (t : ScenarioTables) (weeks : ℕ) where
  week-below : (front : List Token) (week : ℕ) → Fills (week_number weeks) front week → week < weeks
  unfolding Fills week_number
  week-below front week h =
      let within = number-within 1 weeks h.1 h.0 h.4 in
      let is : week ≡ h.0 - 1 = h.5.1 in
      omega (arith, within.0, within.1, is)

  choice-exists : (front : List Token) (one : DayChoice) → Fills (day_choice t weeks) front one → IsChoiceFor (numbers_of t) weeks one
  unfolding Fills day_choice
  choice-exists front one h =
      -- the week, the nurse, the day, the choice
      let nurse = h.5 in
      let day = nurse.5 in
      let choice = day.5 in
      rw choice.5.1 (record {
        week = week-below h.1 h.0 h.4;
        nurse = known_name-below t.nurses none_taken nurse.1 nurse.0 nurse.4;
        day = known_name-below day_names none_taken day.1 day.0 day.4;
        choice = shift_or-below (codes "None") t.shifts choice.1 choice.0 choice.4;
      })

  place-exists : (front : List Token) (one : NurseLimit) → Fills (nurse_limit t weeks) front one → IsNurseLimitFor (numbers_of t) weeks one
  unfolding Fills nurse_limit
  place-exists front one h =
      -- the week, the day, the shift type, the skill, the number
      let day = h.5 in
      let shift = day.5 in
      let skill = shift.5 in
      let most = skill.5 in
      rw most.5.1 (record {
        week = week-below h.1 h.0 h.4;
        day = known_name-below day_names none_taken day.1 day.0 day.4;
        shift = known_name-below t.shifts none_taken shift.1 shift.0 shift.4;
        skill = known_name-below t.skills none_taken skill.1 skill.0 skill.4;
        most = (number-within 0 max_number most.1 most.0 most.4).1;
      })

  nurse-exists : (all : Bool) (front : List Token) (nurse : Option ℕ) → Fills (nurse_unless t all) front nurse →
      ForSome nurse (λ n. n < (numbers_of t).nurses)
  unfolding Fills nurse_unless
  nurse-exists true front nurse h n is = absurd (let e = h.1 in cc)
  nurse-exists false front nurse h n is =
      let below = known_name-below t.nurses none_taken h.1 h.0 h.4 in
      let e = h.5.1 in
      let same : h.0 ≡ n = cc in
      rw (← same) below

  charges-exist : (front : List Token) (one : ChargeLimit) → Fills (charge_limit t) front one → IsChargeLimitFor (numbers_of t) one
  unfolding Fills charge_limit
  charges-exist front one h =
      -- the kind, whether of all nurses, the nurse, the number
      let all = h.5 in
      let nurse = all.5 in
      let most = nurse.5 in
      rw most.5.1 (record {
        nurse = nurse-exists all.0 nurse.1 nurse.0 nurse.4;
        most = (number-within 0 max_number most.1 most.0 most.4).1;
      })

  after-exists : (word : FactWord) (front : List Token) (one : Fact) → Fills (fact_after t weeks word) front one →
      IsFactFor (numbers_of t) weeks one
  unfolding Fills fact_after
  after-exists words.Choice front one h = rw h.5.1 (choice-exists h.1 h.0 h.4)
  after-exists words.Place front one h = rw h.5.1 (place-exists h.1 h.0 h.4)
  after-exists words.Charges front one h = rw h.5.1 (charges-exist h.1 h.0 h.4)
  after-exists words.Even front one h = rw h.1 tt

  pub fact-exists : (front : List Token) (one : Fact) → Fills (fact t weeks) front one → IsFactFor (numbers_of t) weeks one
  unfolding Fills fact
  fact-exists front one h = after-exists h.0 h.2 one h.5

  -- this number of facts, which name only nurses, weeks, shift types and skills that exist, and a line for each
  record AreRows (n : ℕ) (given : GivenTables) : Type 0 where
    pub count : length given.conditions ≡ n
    pub lines : length given.lines ≡ n
    pub exist : AreConditionsFor (numbers_of t) weeks given.conditions

  condition_rows-keep : (n i : ℕ) (given : GivenTables) (front : List Token) (last : GivenTables) →
      Fills (repeat n (condition_row t weeks) given) front last → AreRows i given → AreRows (n + i) last
  unfolding Fills repeat condition_row
  condition_rows-keep zero i given front last h are =
      rw h.1 (record { count = omega (arith, are.count); lines = omega (arith, are.lines); exist = are.exist })
  condition_rows-keep (suc n) i given front last h are =
      let row = h.4 in
      let one = row.5 in
      let condition : Condition = record { fact = one.0; holds = row.0.0 } in
      let next : GivenTables = record { conditions = given.conditions ++ condition ∷ []; lines = given.lines ++ row.0.1 ∷ [] } in
      let more : AreRows (suc i) next = record {
        count = length_push given.conditions condition i are.count;
        lines = length_push given.lines row.0.1 i are.lines;
        exist = all_push (λ (c : Condition). IsFactFor (numbers_of t) weeks c.fact) given.conditions condition are.exist
            (fact-exists one.1 one.0 one.4);
      } in
      let rest = subst (λ (state : GivenTables). Fills (repeat n (condition_row t weeks) state) h.2 last) one.5.1 h.5 in
      let all = condition_rows-keep n (suc i) next h.2 last rest more in
      record { count = omega (arith, all.count); lines = omega (arith, all.lines); exist = all.exist }

  -- facts that are spelled: at most `max_number`
  spelled-are : (text : List ℕ) (found : GivenTables) → Spells (facts t weeks) text found →
      (n : ℕ) × (n ≤ max_number) × AreRows n found
  unfolding Fills facts
  spelled-are text found h =
      -- the word, any word, the number of rows, the rows
      let count = h.filled.5.5 in
      let within = setting-within (codes "ROWS") 0 max_number count.1 count.0 count.4 in
      let none : AreRows 0 no_facts = record { count = refl; lines = refl; exist = tt } in
      (count.0 + 0, omega (arith, within.1), condition_rows-keep count.0 0 no_facts _ found count.5 none)

  module _ (text : List ℕ) (found : GivenFacts) (read : read_text (facts t weeks) text ≡ Ok (given_of found)) where
    are-read : (n : ℕ) × (n ≤ max_number) × AreRows n (given_of found)
    are-read = spelled-are text (given_of found) (spells-read (facts t weeks) text (given_of found) read)

    -- facts that are read name what exists
    pub facts-read : AreConditionsFor (numbers_of t) weeks found.conditions.items
    facts-read = are-read.2.exist

    -- there are not more of them than a number of a file says
    pub facts-few : length found.conditions.items ≤ max_number
    facts-few = let are = are-read in omega (arith, are.1, are.2.count)

    -- each begins on a line
    pub facts-lines : length found.lines.items ≡ length found.conditions.items
    facts-lines = let are = are-read in are.2.lines ∙ sym are.2.count

-- the results of the reader of facts, by the results of reading
pub ruleset facts_steps = (spells-read, fault_in-read, facts-read, facts-few, facts-lines)
