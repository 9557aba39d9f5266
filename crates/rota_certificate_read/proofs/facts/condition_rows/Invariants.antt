use Rattle.std.proofs.Common.{◌≡◌, ◌-◌}
use Rattle.rota_certificate_read.specs.FactsLayout.{condition_row, given_of, no_facts}
use Rattle.rota_layout.specs.Layout.{repeat}
use Rattle.rota_layout.specs.Reading.{read_layout}
use Rattle.rota_certificate_read.proofs.facts.condition_rows.Given as goal

abbrev pub invariant-loop : goal.invariant-loop
invariant-loop l =
    read_layout (repeat (l.count - l.counter) (condition_row l.scenario l.weeks) (given_of l.given)) l.cursor ≡
    read_layout (repeat l.count (condition_row l.scenario l.weeks) no_facts) l.fn.cursor
