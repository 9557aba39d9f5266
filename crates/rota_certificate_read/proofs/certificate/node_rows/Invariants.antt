use Rattle.std.proofs.Common.{◌≡◌, ◌-◌}
use Rattle.rota_certificate_read.specs.TreeRows.{no_nodes, node_row, part_of}
use Rattle.rota_layout.specs.Layout.{repeat}
use Rattle.rota_layout.specs.Reading.{read_layout}
use Rattle.rota_certificate_read.proofs.certificate.node_rows.Given as goal

abbrev pub invariant-loop : goal.invariant-loop
invariant-loop l =
    let row = node_row l.scenario l.weeks l.prices l.all in
    read_layout (repeat (l.count - l.counter) row (part_of l.tree)) l.cursor ≡ read_layout (repeat l.count row no_nodes) l.fn.cursor
