-- The program's command line, as a command of clap.
use Rattle.std.specs.Prelude.{List, [], ◌∷◌, ◌++◌, true, codes, fold}
pub use Rattle.clap.specs.Words.{App, IsAmong, Rule, Text, app_of, fault_of, kind_of, new_app, subcommand_of, with_rule, with_subcommand}
use Rattle.clap.specs.Simple.{new_shape}
use Rattle.inrc2pb_frame.specs.Arguments.{file_rule, flag_rule, required_file_rule}

-- the options for the files of a week
abbrev pub week_rules : List Rule
week_rules = required_file_rule (codes "sce") ∷ required_file_rule (codes "his")
    ∷ required_file_rule (codes "week") ∷ []

-- the options that every subcommand has
abbrev pub input_rules : List Rule
input_rules = week_rules ++ (file_rule (codes "fix") ∷ flag_rule (codes "early") ∷ [])

-- a subcommand, with its own options
abbrev pub subcommand_app : Text → List Rule → App
subcommand_app name own = fold with_rule (new_app name) (input_rules ++ own)

-- the subcommand `encode`
abbrev pub encode_app : App
encode_app = subcommand_app (codes "encode") (file_rule (codes "opb") ∷ [])

-- the subcommand `decode`
abbrev pub decode_app : App
decode_app = subcommand_app (codes "decode")
    (required_file_rule (codes "sol") ∷ file_rule (codes "answer") ∷ [])

-- the subcommand `extend`
abbrev pub extend_app : App
extend_app = subcommand_app (codes "extend") (required_file_rule (codes "from") ∷ [])

-- the command before its subcommands; one of them must be named
abbrev pub bare_app : App
bare_app = record (new_app (codes "inrc2pb")) {
  top = record (new_shape (codes "inrc2pb")) {
    subcommand_required = true;
    arg_required_else_help = true;
    disable_help_subcommand = true;
    has_version = true;
  };
}

-- the command with its three subcommands
abbrev pub inrc2pb_app : App
inrc2pb_app =
    fold with_subcommand bare_app (encode_app.top ∷ decode_app.top ∷ extend_app.top ∷ [])
