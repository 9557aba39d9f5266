use Rattle.std.proofs.Common.{rules, ◌≡◌, true, None, is_some, ap, sym, ◌∙◌, arith}
use Rattle.std.proofs.lemmas.List.{get_or_default}
use Rattle.rota_layout.specs.Layout.{has_row}
use Rattle.rota_read.specs.SharedSlots.{known_row}
use Rattle.rota_layout.specs.Reading.{read_layout}
use Rattle.rota_read.specs.ScenarioRows.{successions_of}
use Rattle.rota_layout.proofs.ReadingLaws.{known_taken}
use Rattle.rota_read.proofs.SuccessionRows.{has_row-kept}
use Rattle.rota_read.proofs.shift_types.succession_row.Goals as goal

pub returns-in_err-unless_taken : goal.returns-in_err-unless_taken
unfolding known_row read_layout
returns-in_err-unless_taken c =
    let rows = c.args.rows.now in
    let shift = c.in_ok-shift.shift in
    let found =
    get_or_default rows shift None c.index-rows-shift.result (omega (arith, c.in_ok-shift.ensures.below, c.requires.rows)) in
    let taken : has_row (successions_of rows) shift ≡ true =
    has_row-kept rows shift ∙ ap (λ row. is_some row) found ∙ sym c.is_some.ensures ∙ c.in_err-unless_taken.ensures.0 in
    rw (known_taken, c.in_ok-shift.ensures.read, taken) (search rules)
