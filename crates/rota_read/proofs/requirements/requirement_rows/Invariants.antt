use Rattle.std.proofs.Common.{◌≡◌, ◌-◌, ◌*◌, length}
use Rattle.rota_layout.specs.Reading.{read_layout}
use Rattle.rota_read.specs.WeekLayout.{max_rows, requirement_rows}
use Rattle.rota_layout.specs.DayRows.{no_day_rows}
use Rattle.rota_read.proofs.requirements.requirement_rows.Given as goal

abbrev pub invariant-loop : goal.invariant-loop
invariant-loop l = record {
  read :
      read_layout (requirement_rows l.scenario (max_rows l.scenario - l.counter) l.rows.items) l.cursor ≡
      read_layout (requirement_rows l.scenario (max_rows l.scenario) (no_day_rows l.scenario)) l.fn.cursor;
  rows : length l.rows.items ≡ length l.scenario.shifts * length l.scenario.skills;
}
