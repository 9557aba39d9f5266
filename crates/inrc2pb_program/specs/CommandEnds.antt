-- What each exit status of a command says of the files at the paths of its job, and of what was written.
use Rattle.std.specs.Prelude.{◌⊎◌, ℕ, List, Option, None, Some, option_map, string_bytes}
use Rattle.std.specs.declared.string.String.{String}
use Rattle.rota_pb.specs.RunPorts.{IsUntouched, Reader, Writer, WritesBeginning, WritesText, writer_of}
use Rattle.rota_pb.specs.declared.period_fault.PeriodFault.TheVariants.{Run}
use Rattle.inrc2pb_program.specs.Jobs.{Decode, Encode, Extend, Job}
use Rattle.inrc2pb_frame.specs.Contents.{IsKnown, content_of}
use Rattle.byte_ports.specs.Openers.{Opener}
use Rattle.byte_ports.specs.Paths.{FileAt, Path}
use Rattle.inrc2pb_frame.specs.Exits.{PrinterState}
use Rattle.inrc2pb_frame.specs.Given.{Given}
use Rattle.inrc2pb_frame.specs.JobEnds.{EndsBy, FollowsFromFiles, Written}
use Rattle.inrc2pb_frame.specs.Placing.{IsPlaced, JobFile}
use Rattle.inrc2pb_program.specs.JobContents.{content_left, extension_in, model_in, solution_in}
use Rattle.inrc2pb_program.specs.Programs.{ProgramOutcome, inrc2pb}

-- the file got this path before anything was written to it, and then was written so
pub record IsPlacedAnd (file : JobFile) (to : Path) (IsWritten : Writer → Type 0) : Type 0 where
  pub placed : file.State
  pub at_its_path : IsPlaced file.port file.old (Some to) placed
  pub written : IsWritten (writer_of file.port.target placed file.new)

-- nothing was written to the file: it was not touched, or only got this path
abbrev pub IsUnwritten : Option Path → JobFile → Type 0
IsUnwritten to file = IsUntouched file ⊎ IsPlaced file.port file.old to file.new

-- the first of two texts was written in part, or the second one after it
abbrev pub BeginsBoth : Writer → Writer → List ℕ × List ℕ → Type 0
BeginsBoth first second texts =
    (WritesBeginning first texts.0 × IsUntouched second) ⊎ (WritesText first texts.0 × WritesBeginning second texts.1)

-- nothing was written to the file, which may have got this path, nor to the output
pub record AreUnwritten (to : Option Path) (job_file : JobFile) (writer : Writer) : Type 0 where
  pub file : IsUnwritten to job_file
  pub output : IsUntouched writer

module _ (file : JobFile) (output : Writer) where
  -- the file at the path was written so if one is named, otherwise the output, and nothing was written to the other
  abbrev pub GoesTo : Option Path → (Writer → Type 0) → Type 0
  GoesTo None IsWritten = IsWritten output × IsUnwritten None file
  GoesTo (Some to) IsWritten = IsPlacedAnd file to IsWritten × IsUntouched output

  -- a text, in the file at the path if one is named, otherwise on the output
  abbrev pub text_written : Option Path → Written (List ℕ)
  text_written to = record {
    nothing = AreUnwritten to file output;
    all = λ text. GoesTo to (λ out. WritesText out text);
    beginning = λ text. GoesTo to (λ out. WritesBeginning out text);
  }

  -- a solution file at the path, and then the report on the output
  abbrev pub solution_written : Path → Written (List ℕ × List ℕ)
  solution_written to = record {
    nothing = AreUnwritten (Some to) file output;
    all = λ texts. IsPlacedAnd file to (λ sol. WritesText sol texts.0 × WritesText output texts.1);
    beginning = λ texts. IsPlacedAnd file to (λ sol. BeginsBoth sol output texts);
  }

-- what lies in the answer: at its path if one is named, otherwise in the input
abbrev pub answer_at : {X : Type 0} → (Path → FileAt) → (input : FileAt) → Option (String X) → FileAt
answer_at at input None = input
answer_at at input (Some path) = content_of at path

-- the command ended by what follows from the files at the paths of the job
abbrev pub CommandEnds : (Path → FileAt) → (input : FileAt) → JobFile → Writer → PrinterState → ℕ → Job → Type 0
CommandEnds at input file output errors status (Encode inputs opb) =
    EndsBy (model_in at inputs) Run (text_written file output (option_map string_bytes opb)) inrc2pb.app.top.name errors status
CommandEnds at input file output errors status (Decode inputs sol answer) =
    EndsBy (solution_in at inputs (answer_at at input answer)) Run (solution_written file output (string_bytes sol))
    inrc2pb.app.top.name errors status
CommandEnds at input file output errors status (Extend inputs from) =
    EndsBy (extension_in at inputs from) Run (text_written file output None) inrc2pb.app.top.name errors status

-- If it is known what lies in the input, too, then the program ended by the files at the paths of the job.
abbrev pub CommandFollowsFromFiles : {F X Z : Type 0} → Opener F → JobFile → Given X Z → Reader → Writer → PrinterState → PrinterState →
    ℕ → Type 0
CommandFollowsFromFiles opener file words input output help errors status =
    IsKnown (content_left input) → FollowsFromFiles inrc2pb words opener.at (CommandEnds opener.at (content_left input) file output errors status)
    status (ProgramOutcome opener file words input output help errors status)
