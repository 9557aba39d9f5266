-- Names for the definitions of runs: of weeks and rosters, tables, files, models and faults.
pub use Rattle.rota_core.specs.InstanceTables.{InstanceTables, IsInstance, holding, problem_of}
pub use Rattle.rota_core.specs.Limits.{max_file_len}
pub use Rattle.rota_core.specs.RosterTables.{RosterTables, HasShapeOf, set_of}
pub use Rattle.rota_core.specs.ScenarioTables.{ScenarioTables}
pub use Rattle.rota_core.specs.WeekTables.{HistoryTables, WeekTables}
pub use Rattle.rota_core.specs.declared.fault.FileName.{FileName}
pub use Rattle.rota_items.specs.Linear.{Constraint, Model, Satisfies, SatisfiesModel, objective_value}
pub use Rattle.rota_items.specs.Variables.{roster_of, unit_number}
pub use Rattle.rota_items.specs.Imports.{Cell, InWeek, KeepsHardRules, Roster, Rule, Problem, soft_rules}
pub use Rattle.rota_layout.specs.Files.{HasFault, Spells}
pub use Rattle.rota_layout.specs.Layout.{Layout}
pub use Rattle.rota_read.specs.SolutionLayout.{SpellsRoster, solution}
pub use Rattle.rota_pb.specs.declared.fault.Fault.{Fault}
pub use Rattle.rota_pb.specs.declared.fault.Fault.TheVariants.{Answer, Breaks, File, Memory, NoRoster, Read, Unmet, Write}
pub use Rattle.rota_pb.specs.declared.week_files.Choice.{Choice}
