use Rattle.std.proofs.Common.{◌≡◌, ℕ, ◌-◌, List, [], ◌∷◌, ◌++◌, ap, arith}
use Rattle.rota_core.specs.declared.values.Cell.{Cell}
use Rattle.rota_layout.specs.Layout.{repeat}
use Rattle.rota_layout.specs.Reading.{read_layout}
use Rattle.rota_read.specs.RosterReading.{assignment_row}
use Rattle.rota_layout.proofs.ReadingLaws.{row_steps}
use Rattle.rota_read.proofs.solution.assignment_rows.Goals as goal

pub loop-init : goal.loop-init
loop-init c =
    let all : c.args.count - 0 ≡ c.args.count = omega arith in (
      [],
      record { shape = c.in_ok-roster.ensures.shape; set = λ one _. c.in_ok-roster.ensures.empty one },
      ap (λ (n : ℕ). read_layout (repeat n (assignment_row c.args.instance.now.scenario) []) c.args.cursor.now) all,
    )

pub returns-in_err-assignment_row : goal.returns-in_err-assignment_row
returns-in_err-assignment_row c =
    let so_far = c.loop.invariant in
    grind (arith, row_steps, so_far.2, c.in_err-assignment_row.ensures.read so_far.0 so_far.1)

pub loop-preserved : goal.loop-preserved
loop-preserved c =
    let so_far = c.loop.invariant in
    let rows : List Cell = so_far.0 ++ c.in_ok-assignment_row.field-0 ∷ [] in (
      rows,
      c.in_ok-assignment_row.ensures.put so_far.0 so_far.1,
      grind (arith, row_steps, so_far.2, c.in_ok-assignment_row.ensures.read so_far.0 so_far.1),
    )

pub returns : goal.returns
returns c =
    let so_far = c.loop.invariant in
    (so_far.0, so_far.1, grind (arith, row_steps, so_far.2))
