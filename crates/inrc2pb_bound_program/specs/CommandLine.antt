-- The command line of the program, as a command of clap.
use Rattle.std.specs.Prelude.{List, [], ◌∷◌, Some, true, codes, fold}
use Rattle.clap.specs.Lexer.{usize_max}
use Rattle.clap.specs.Words.{App, Rule, Text, new_app, with_rule}
use Rattle.clap.specs.Simple.{new_shape}
use Rattle.clap.specs.declared.builder.action.ArgAction.TheVariants.{Append}
use Rattle.inrc2pb_frame.specs.Arguments.{file_rule, flag_rule, required_file_rule}

-- the option `--id FILE..`, which takes one or more files, and may be given again
abbrev pub files_rule : Text → Rule
files_rule id =
    record (file_rule id) { action = Some Append; range = Some (record { start_inclusive = 1; end_inclusive = usize_max }) }

-- the command before its options
abbrev pub bare_bound_app : App
bare_bound_app = record (new_app (codes "inrc2pb-bound")) {
  top = record (new_shape (codes "inrc2pb-bound")) {
    arg_required_else_help = true;
    has_version = true;
  };
}

-- the options
abbrev pub bound_rules : List Rule
bound_rules =
    required_file_rule (codes "sce") ∷ required_file_rule (codes "his") ∷ record (files_rule (codes "week")) { required = true }
    ∷ record (file_rule (codes "fix")) { action = Some Append } ∷ flag_rule (codes "early") ∷ file_rule (codes "given")
    ∷ file_rule (codes "proof") ∷ files_rule (codes "roster") ∷ flag_rule (codes "minimums") ∷ []

-- the command with its options
abbrev pub bound_app : App
bound_app = fold with_rule bare_bound_app bound_rules
