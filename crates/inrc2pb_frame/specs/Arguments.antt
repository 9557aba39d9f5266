-- Arguments of a command, as rules of clap, and a command that is an app.
use Rattle.std.specs.Prelude.{◌≡◌, Some, true, false}
use Rattle.clap.specs.Words.{App, Rule, Text, app_of, new_rule}
use Rattle.clap.specs.declared.builder.action.ArgAction.TheVariants.{Set, SetTrue}
use Rattle.clap.specs.declared.builder.command.Command.{Command}
use Rattle.clap.specs.declared.builder.command.Command.TheViews.{out-Command as fields_of}

-- the option `--id FILE`
abbrev pub file_rule : Text → Rule
file_rule id =
    record (new_rule id) { long = Some id; action = Some Set; value_names = 1 }

-- the flag `--id`
abbrev pub flag_rule : Text → Rule
flag_rule id = record (new_rule id) { long = Some id; action = Some SetTrue }

-- the option `--id FILE`, which is required
abbrev pub required_file_rule : Text → Rule
required_file_rule id = record (file_rule id) { required = true }

-- the command is the app, and no argument of it is global
abbrev pub IsCommandOf : App → Command → Type 0
IsCommandOf a c = (app_of c ≡ a) × ((fields_of c).has_globals ≡ false)
