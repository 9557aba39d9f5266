-- A command ends by what lies in the files at the paths of its job.
use Rattle.std.proofs.Common.{◌≡◌, ◌∙◌, ℕ, ap, refl, sym, subst, inl, inr, List, Result, Ok, Err}
use Rattle.std.specs.Prelude.{◌≢◌, Option, Some, None, option_map, string_bytes}
use Rattle.std.specs.Option.{option_map_or}
use Rattle.std.specs.declared.string.String.{String}
use Rattle.byte_ports.specs.Ports.{KnownBytes}
use Rattle.byte_ports.specs.declared.open_files.OpenFault.{OpenFault}
use Rattle.rota_pb.specs.Decoding.{decode_run}
use Rattle.rota_pb.specs.OpenFaults.{fault_of_opening}
use Rattle.rota_pb.specs.RunPorts.{IsUntouched, Reader, Writer, WritesBeginning, WritesText, reader_of, writer_of}
use Rattle.rota_pb.specs.Steps.{Step}
use Rattle.rota_pb.specs.declared.fault.Fault.{Fault}
use Rattle.rota_pb.specs.declared.fault.Fault.TheVariants.{Write}
use Rattle.rota_pb.specs.declared.period_fault.PeriodFault.TheVariants.{Run}
use Rattle.inrc2pb_frame.specs.Contents.{IsKnown}
use Rattle.inrc2pb_program.specs.JobOutcomes.{Decodes, Encodes, EncodesTo, Extends}
use Rattle.inrc2pb_program.specs.JobOutcomes.Decodes.{ran_on_file, ran_on_input, refused as undecoded}
use Rattle.inrc2pb_program.specs.JobOutcomes.Encodes.{ran as encoded, refused as unencoded}
use Rattle.inrc2pb_program.specs.JobOutcomes.Extends.{ran as extended, refused as unextended}
use Rattle.inrc2pb_program.specs.Jobs.{Decode, Encode, Extend, Inputs, Job}
use Rattle.inrc2pb_program.specs.OpenInputs.{OpenInputs, readers_of}
use Rattle.byte_ports.specs.Openers.{Opener}
use Rattle.byte_ports.specs.Paths.{FileAt, Path, file_of, unknown}
use Rattle.inrc2pb_frame.proofs.FilesShown.{told}
use Rattle.inrc2pb_frame.proofs.Shows.{Tells, Writes, about, writes-weaker}
use Rattle.inrc2pb_frame.specs.Exits.{IsExitOf, PrinterState}
use Rattle.inrc2pb_frame.specs.Given.{Given, IsJobGiven, IsStopGiven}
use Rattle.inrc2pb_frame.specs.JobEnds.{EndsBy, Written}
use Rattle.inrc2pb_frame.specs.Placing.{IsPlaced, JobFile}
use Rattle.inrc2pb_frame.specs.Runs.{IsJobFor, IsStopFor}
use Rattle.inrc2pb_frame.specs.Runs.IsRun.{performed, stopped}
use Rattle.inrc2pb_frame.specs.declared.stop.Stop.{Stop}
use Rattle.inrc2pb_frame.proofs.JobEndings.{IsForReading, ends_done, ends_failed, ends_stopped, ends_unread, for_opening, for_run, unread_fault}
use Rattle.inrc2pb_program.specs.CommandEnds.{AreUnwritten, CommandEnds, CommandFollowsFromFiles, IsUnwritten, answer_at, solution_written}
use Rattle.inrc2pb_program.specs.CommandEnds.{text_written}
use Rattle.inrc2pb_program.specs.JobContents.{content_left, extension_in, model_in, solution_in}
use Rattle.inrc2pb_program.specs.Programs.{IsEndOf, IsPerformed, inrc2pb}
use Rattle.inrc2pb_program.proofs.OpenedInputs.{AreNewInputs, answer_opened, inputs_opened, roster_opened}
use Rattle.inrc2pb_program.proofs.WeekShows.{writes-extension, writes-model, writes-solution}

-- a file that only got a path is unwritten
pub unwritten_placed : (file : JobFile) (to : Option Path) (placed : file.State) → IsPlaced file.port file.old to placed → file.new ≡ placed →
    IsUnwritten to file
unwritten_placed file to placed is same = inr (record {
  path = ap file.port.path same ∙ is.path;
  sound = ap file.port.target.has_failed same ∙ is.sound;
  unwritten = ap file.port.target.sent same ∙ is.unwritten;
})

-- the input tells its content, if this is known
pub input_tells : (input : Reader) → IsKnown (content_left input) → Tells (content_left input) input
input_tells input known = go (input.port.left input.old) refl known
  where
    go : (left : KnownBytes) → input.port.left input.old ≡ left → IsKnown (option_map_or file_of left unknown) →
        Tells (option_map_or file_of left unknown) input
    go None is known = absurd known
    go (Some bytes) is known = record { bytes = bytes; there = refl; left = is }

module _ (help errors : PrinterState) (status : ℕ) where
  -- the program ends as its run does
  abbrev pub Exits : Result (Unit {0}) Stop → Type 0
  Exits ended = IsExitOf inrc2pb.app.top.name ended help errors status

  module _ {A : Type 0} (files : Step A) (written : Written A) where
    abbrev Ends : Type 0
    Ends = EndsBy files Run written inrc2pb.app.top.name errors status

    -- a file did not open
    ends_unopened : (fault : OpenFault) → written.nothing → (result : Result (Unit {0}) Fault) → result ≡ Err (fault_of_opening fault) →
        (ended : Result (Unit {0}) Stop) → IsEndOf result ended → Exits ended → Ends
    ends_unopened fault nothing (Ok done) is ended end exits = absurd (cc is)
    ends_unopened fault nothing (Err other) is ended end exits =
        ends_unread inrc2pb.app.top.name help errors status files Run written (Run other)
        (subst (λ (f : Fault). IsForReading (Run f)) (sym (cc is)) (for_opening fault)) nothing (subst Exits end exits)

    -- the run showed what lies in the files, and wrote
    ends_ran : {run : Step (Unit {0})} →
        Writes about written.nothing written.all (λ value fault. (Run fault ≡ Run Write) × written.beginning value) run files →
        (result : Result (Unit {0}) Fault) → run.ends result → (ended : Result (Unit {0}) Stop) → IsEndOf result ended → Exits ended → Ends
    ends_ran writes (Ok done) ends ended end exits =
        ends_done inrc2pb.app.top.name help errors status files Run written about (λ fault of. for_run fault (unread_fault fault of)) writes
        ends (subst Exits end exits).0
    ends_ran writes (Err fault) ends ended end exits =
        ends_failed inrc2pb.app.top.name help errors status files Run written about (λ fault of. for_run fault (unread_fault fault of)) writes
        fault ends (subst Exits end exits)

  module _ {F : Type 0} (opener : Opener F) (known : (path : Path) → IsKnown (opener.at path)) (inputs : Inputs) (result : Result (Unit {0}) Fault)
      (ended : Result (Unit {0}) Stop) (end : IsEndOf result ended) (exits : Exits ended) where
    -- `encode` sent its text to this writer
    module _ (out : Writer) (written : Written (List ℕ)) (idle : IsUntouched out → written.nothing)
        (all : (text : List ℕ) → WritesText out text → written.all text)
        (begun : (text : List ℕ) → WritesBeginning out text → written.beginning text) where
      encodes : Encodes opener inputs out result → EndsBy (model_in opener.at inputs) Run written inrc2pb.app.top.name errors status
      encodes (unencoded fault is opens still) =
          ends_unopened (model_in opener.at inputs) written fault (idle still) result is ended end exits
      encodes (encoded opened left opens ends) =
          ends_ran (model_in opener.at inputs) written
          (writes-weaker about idle all (λ text fault begins. (ap Run begins.0, begun text begins.1))
          (writes-model opener.port opener.at known inputs opened left
          (inputs_opened opener.port opener.at inputs opened opens.asked opens.ends) out)) result ends ended end exits

    module _ (file : JobFile) (output : Writer) (placed : file.State) where
      abbrev Placed : Writer
      Placed = writer_of file.port.target placed file.new

      encodes_to : (to : Option Path) → IsPlaced file.port file.old to placed → EncodesTo opener inputs to Placed output result →
          EndsBy (model_in opener.at inputs) Run (text_written file output to) inrc2pb.app.top.name errors status
      encodes_to None at_its_path (outcome, still) =
          let unwritten = unwritten_placed file None placed at_its_path still in
          encodes output (text_written file output None) (λ idle. record { file = unwritten; output = idle }) (λ text sent. (sent, unwritten))
          (λ text begun. (begun, unwritten)) outcome
      encodes_to (Some to) at_its_path (outcome, still) =
          encodes Placed (text_written file output (Some to))
          (λ idle. record { file = unwritten_placed file (Some to) placed at_its_path idle; output = still })
          (λ text sent. (record { placed = placed; at_its_path = at_its_path; written = sent }, still))
          (λ text begun. (record { placed = placed; at_its_path = at_its_path; written = begun }, still)) outcome

      -- `extend` sent its text to the output
      extends : {X : Type 0} (from : String X) → IsPlaced file.port file.old None placed → IsUntouched Placed →
          Extends opener inputs (string_bytes from) output result →
          EndsBy (extension_in opener.at inputs from) Run (text_written file output None) inrc2pb.app.top.name errors status
      extends from at_its_path still (unextended fault is opens idle) =
          ends_unopened (extension_in opener.at inputs from) (text_written file output None) fault
          (record { file = unwritten_placed file None placed at_its_path still; output = idle }) result is ended end exits
      extends from at_its_path still (extended opened left old new opens ends) =
          let unwritten = unwritten_placed file None placed at_its_path still in
          let files = roster_opened opener.port opener.at inputs from opened old opens.asked opens.ends in
          ends_ran (extension_in opener.at inputs from) (text_written file output None)
          (writes-weaker about (λ idle. record { file = unwritten; output = idle }) (λ text sent. (sent, unwritten))
          (λ text fault begins. (ap Run begins.0, (begins.1, unwritten)))
          (writes-extension opener.port opener.at known inputs opened left files.0 from old new files.1 output)) result ends ended end exits

      -- `decode` sent its texts to the file and to the output
      module _ {X : Type 0} (to : Path) (at_its_path : IsPlaced file.port file.old (Some to) placed) (input : Reader)
          (reads : IsKnown (content_left input)) where
        abbrev answer_of : Option (String X) → FileAt
        answer_of answer = answer_at opener.at (content_left input) answer

        abbrev EndsDecoding : Option (String X) → Type 0
        EndsDecoding answer = EndsBy (solution_in opener.at inputs (answer_of answer)) Run (solution_written file output to)
            inrc2pb.app.top.name errors status

        decodes_from : (answer : Option (String X)) (opened left : OpenInputs F) → AreNewInputs opener.port opener.at inputs opened →
            (reader : Reader) → Tells (answer_of answer) reader →
            (decode_run opened.choice (readers_of opener.port opened left) reader Placed output).ends result → EndsDecoding answer
        decodes_from answer opened left new reader tells_it ends =
            ends_ran (solution_in opener.at inputs (answer_of answer)) (solution_written file output to)
            (writes-weaker about (λ idle. record { file = unwritten_placed file (Some to) placed at_its_path idle.0; output = idle.1 })
            (λ texts sent. record { placed = placed; at_its_path = at_its_path; written = sent })
            (λ texts fault begins. (ap Run begins.0, record { placed = placed; at_its_path = at_its_path; written = begins.1 }))
            (writes-solution opener.port opener.at known inputs opened left new (answer_of answer) reader tells_it Placed output))
            result ends ended end exits

        decodes : (answer : Option (String X)) → Decodes opener inputs (option_map string_bytes answer) input Placed output result →
            EndsDecoding answer
        decodes answer (undecoded fault is opens unread idle still) =
            ends_unopened (solution_in opener.at inputs (answer_of answer)) (solution_written file output to) fault
            (record { file = unwritten_placed file (Some to) placed at_its_path idle; output = still }) result is ended end exits
        decodes None (ran_on_file opened left old new opens unread ends) =
            absurd (answer_opened opener.port opener.at inputs {X = X} None opened (Some old) opens.asked opens.ends).1
        decodes (Some path) (ran_on_file opened left old new opens unread ends) =
            let files = answer_opened opener.port opener.at inputs (Some path) opened (Some old) opens.asked opens.ends in
            decodes_from (Some path) opened left files.0 (reader_of opener.port old new) (told opener.port opener.at known path old new files.1) ends
        decodes None (ran_on_input opened left opens ends) =
            let files = answer_opened opener.port opener.at inputs {X = X} None opened None opens.asked opens.ends in
            decodes_from None opened left files.0 input (input_tells input reads) ends
        decodes (Some path) (ran_on_input opened left opens ends) =
            absurd (answer_opened opener.port opener.at inputs (Some path) opened None opens.asked opens.ends).1

-- ---- the program

module _ {F : Type 0} (opener : Opener F) (file : JobFile) (input : Reader) (output : Writer) (help errors : PrinterState) (status : ℕ) where
  -- the command ended by its files
  abbrev EndsJob : Job → Type 0
  EndsJob = CommandEnds opener.at (content_left input) file output errors status

  module _ (known : (path : Path) → IsKnown (opener.at path)) (reads : IsKnown (content_left input)) where
    ends_performed : (job : Job) (ended : Result (Unit {0}) Stop) → IsPerformed opener file input output job ended → Exits help errors status ended →
        EndsJob job
    ends_performed (Encode inputs opb) ended done exits =
        encodes_to help errors status opener known inputs done.result ended done.end exits file output done.placed (option_map string_bytes opb)
        done.at_its_path done.outcome.0
    ends_performed (Decode inputs sol answer) ended done exits =
        decodes help errors status opener known inputs done.result ended done.end exits file output done.placed (string_bytes sol)
        done.at_its_path input reads answer done.outcome
    ends_performed (Extend inputs from) ended done exits =
        extends help errors status opener known inputs done.result ended done.end exits file output done.placed from
        done.at_its_path done.outcome.1 done.outcome.0

  module _ {X Z : Type 0} (words : Given X Z) (stop : Stop) (why : IsStopGiven (IsStopFor inrc2pb) words stop) (other : status ≢ 2)
      (exits : Exits help errors status (Err stop)) (nothing : (to : Option Path) → AreUnwritten to file output) where
    ends_before : (job : Job) → IsJobGiven (IsJobFor inrc2pb) words job → EndsJob job
    ends_before (Encode inputs opb) spelled =
        ends_stopped inrc2pb.app.top.name help errors status (model_in opener.at inputs) Run (text_written file output (option_map string_bytes opb))
        inrc2pb words (Encode inputs opb) spelled stop why (nothing (option_map string_bytes opb)) other exits
    ends_before (Decode inputs sol answer) spelled =
        ends_stopped inrc2pb.app.top.name help errors status (solution_in opener.at inputs (answer_at opener.at (content_left input) answer)) Run
        (solution_written file output (string_bytes sol)) inrc2pb words (Decode inputs sol answer) spelled stop why
        (nothing (Some (string_bytes sol))) other exits
    ends_before (Extend inputs from) spelled =
        ends_stopped inrc2pb.app.top.name help errors status (extension_in opener.at inputs from) Run (text_written file output None)
        inrc2pb words (Extend inputs from) spelled stop why (nothing None) other exits

  pub follows : {X Z : Type 0} (words : Given X Z) → CommandFollowsFromFiles opener file words input output help errors status
  follows words reads job spelled known other (ended, stopped stop is why idle, exits) = record {
    job = job;
    spelled = spelled;
    ends = ends_before words stop why other (subst (Exits help errors status) is exits)
        (λ to. record { file = inl idle.file; output = idle.output }) job spelled;
  }
  follows words reads job spelled known other (ended, performed named is done, exits) = record {
    job = named;
    spelled = is;
    ends = ends_performed known reads named ended done exits;
  }
