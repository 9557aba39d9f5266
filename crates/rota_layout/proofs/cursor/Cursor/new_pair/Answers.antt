use Rattle.std.proofs.Common.{rules, ◌≡◌, ◌+◌, ◌*◌, ◌<◌, true, None, is_some, length, get_or, refl, ap, sym, ◌∙◌, arith}
use Rattle.std.proofs.lemmas.List.{get_or_default}
use Rattle.rota_layout.specs.DayPairs.{new_pair}
use Rattle.rota_layout.specs.DayRows.{pair_index}
use Rattle.rota_layout.specs.Layout.{has_row}
use Rattle.rota_layout.specs.Reading.{read_layout}
use Rattle.rota_layout.proofs.NameSteps.{known_taken}
use Rattle.rota_layout.proofs.cursor.Cursor.new_pair.Goals as goal

pub returns-in_err-unless_taken-clause-read : goal.returns-in_err-unless_taken-clause-read
unfolding new_pair read_layout
returns-in_err-unless_taken-clause-read g c =
    let rows = c.args.rows.now in
    let pair = pair_index (length c.args.scenario.now.skills) c.args.shift c.in_ok-skill.skill in
    let within : pair < length rows = grind (arith, c.requires.shift, c.requires.rows, c.in_ok-skill.ensures.below) in
    let index : c.from.result * c.from-2.result + c.from-3.result ≡ pair =
    rw (c.from.ensures, c.from-2.ensures, c.from-3.ensures, c.skills.ensures.count) refl in
    let at = c.index-rows-pair.result in
    let found = get_or_default rows pair None at within ∙ ap (λ n. get_or rows n at) (sym index) ∙ sym c.index-rows-pair.is in
    let taken : has_row rows pair ≡ true =
    ap (λ row. is_some row) found ∙ sym c.is_some.ensures ∙ c.in_err-unless_taken.ensures.0 in
    rw (known_taken, c.in_ok-skill.ensures.read, taken) (search rules)
