-- The job that the matches of a subcommand spell, its choices for its run, and the path of the file that it writes.
use Rattle.std.specs.Prelude.{◌⊎◌, List, codes}
pub use Rattle.std.specs.Prelude.{◌≡◌, [], Option, Some, None, is_some, option_map, string_bytes}
use Rattle.clap.specs.Words.{Row, Text, first_of}
use Rattle.rota_pb.specs.declared.week_files.Choice.{Choice}
pub use Rattle.byte_ports.specs.Paths.{Path}
use Rattle.inrc2pb_frame.specs.Options.{HasFlag, LacksOption}
pub use Rattle.inrc2pb_program.specs.declared.job.Inputs.{Inputs}
pub use Rattle.inrc2pb_program.specs.declared.job.Job.{Job}
pub use Rattle.inrc2pb_program.specs.declared.job.Job.TheVariants.{Encode, Decode, Extend}

-- the choices for a run: early charges if the flag is set, and held cells if a file is named for them
pub record IsChoiceOf (inputs : Inputs) (choice : Choice) : Type 0 where
  pub early : choice.early ≡ inputs.early
  pub fixed : choice.fixed ≡ is_some inputs.fix

-- the path of the file that a job writes, if it writes one
abbrev pub output_path_of : Job → Option Path
output_path_of (Encode inputs opb) = option_map string_bytes opb
output_path_of (Decode inputs sol answer) = Some (string_bytes sol)
output_path_of (Extend inputs from) = None

-- a subcommand's name, with its options
abbrev pub Matched : Type 0
Matched = Text × List Row

-- the name of a subcommand
abbrev pub IsSubcommand : Text → Type 0
IsSubcommand name =
    (name ≡ codes "encode") ⊎ ((name ≡ codes "decode") ⊎ (name ≡ codes "extend"))

-- the paths are the options' paths, unchanged, and so is the flag
pub record HasInputs (options : List Row) (inputs : Inputs) : Type 0 where
  pub sce : first_of (codes "sce") options ≡ Some (string_bytes inputs.sce)
  pub his : first_of (codes "his") options ≡ Some (string_bytes inputs.his)
  pub week : first_of (codes "week") options ≡ Some (string_bytes inputs.week)
  pub fix : first_of (codes "fix") options ≡ option_map string_bytes inputs.fix
  pub early : HasFlag (codes "early") options inputs.early

-- the job is the subcommand, with the paths of its options
abbrev pub IsJobOf : Matched → Job → Type 0
IsJobOf matched (Encode inputs opb) = (matched.0 ≡ codes "encode") × HasInputs matched.1 inputs
    × (first_of (codes "opb") matched.1 ≡ option_map string_bytes opb)
IsJobOf matched (Decode inputs sol answer) = (matched.0 ≡ codes "decode")
    × HasInputs matched.1 inputs × (first_of (codes "sol") matched.1 ≡ Some (string_bytes sol))
    × (first_of (codes "answer") matched.1 ≡ option_map string_bytes answer)
IsJobOf matched (Extend inputs from) = (matched.0 ≡ codes "extend") × HasInputs matched.1 inputs
    × (first_of (codes "from") matched.1 ≡ Some (string_bytes from))

-- the path of a file of the week is missing
abbrev pub LacksInput : List Row → Type 0
LacksInput options = LacksOption (codes "sce") options ⊎ (LacksOption (codes "his") options
    ⊎ LacksOption (codes "week") options)

-- a required path is missing
abbrev pub LacksPath : Matched → Type 0
LacksPath matched = LacksInput matched.1
    ⊎ (((matched.0 ≡ codes "decode") × LacksOption (codes "sol") matched.1)
    ⊎ ((matched.0 ≡ codes "extend") × LacksOption (codes "from") matched.1))
