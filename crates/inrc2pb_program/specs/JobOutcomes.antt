-- The effects of a job on the files that it opened, on its input and on its outputs.
use Rattle.std.specs.Prelude.{◌≡◌, Result, Ok, Err, MatchOption}
use Rattle.byte_ports.specs.Openers.{Opener, OpensAs}
use Rattle.byte_ports.specs.Opening.{Opening, ◌>>=◌, end_as, open_at, open_if_named}
use Rattle.byte_ports.specs.declared.open_files.OpenFault.{OpenFault}
use Rattle.byte_ports.specs.declared.ports.Source.{Ghosts}
use Rattle.rota_pb.specs.declared.fault.Fault.{Fault}
use Rattle.rota_pb.specs.Decoding.{decode_run}
use Rattle.rota_pb.specs.Encoding.{encode_run}
use Rattle.rota_pb.specs.Extending.{extend_run}
use Rattle.rota_pb.specs.OpenFaults.{fault_of_opening}
use Rattle.rota_pb.specs.RunPorts.{IsUntouched, Reader, reader_of, Writer}
use Rattle.inrc2pb_program.specs.Jobs.{Option, Some, None, option_map, string_bytes, Path, Inputs, Job, Encode, Decode, Extend}
use Rattle.inrc2pb_program.specs.OpenInputs.{OpenInputs, open_inputs, readers_of}

-- A file did not open, and nothing was written; or the inputs were open at their paths, and the run encoded their contents: they are
-- `opened` before the run, and `left` after it.
pub data Encodes {F : Type 0} (opener : Opener F) (inputs : Inputs) (out : Writer) (result : Result (Unit {0}) Fault) : Type 0 where
  refused : (fault : OpenFault) → result ≡ Err (fault_of_opening fault) → OpensAs opener (open_inputs opener.port inputs) (Err fault) →
      IsUntouched out → Encodes opener inputs out result
  ran : (opened left : OpenInputs F) → OpensAs opener (open_inputs opener.port inputs) (Ok opened) →
      (encode_run opened.choice (readers_of opener.port opened left) out).ends result → Encodes opener inputs out result

-- the inputs, and then the answer, if a file is named for it
abbrev pub open_with_answer : {F : Type 0} → Ghosts F → Inputs → Option Path → Opening (OpenInputs F × Option F)
open_with_answer port inputs answer = do
  opened ← open_inputs port inputs
  given ← open_if_named port answer
  end_as (λ both. both ≡ (opened, given))

-- A file did not open, and nothing was touched; or the inputs were open at their paths, and the run decoded the answer: from the file at
-- its path if one is named, otherwise from the input.
pub data Decodes {F : Type 0} (opener : Opener F) (inputs : Inputs) (answer : Option Path) (input : Reader) (sol report : Writer)
    (result : Result (Unit {0}) Fault) : Type 0 where
  refused : (fault : OpenFault) → result ≡ Err (fault_of_opening fault) → OpensAs opener (open_with_answer opener.port inputs answer) (Err fault) →
      IsUntouched input → IsUntouched sol → IsUntouched report → Decodes opener inputs answer input sol report result
  ran_on_file : (opened left : OpenInputs F) (old new : F) →
      OpensAs opener (open_with_answer opener.port inputs answer) (Ok (opened, Some old)) → IsUntouched input →
      (decode_run opened.choice (readers_of opener.port opened left) (reader_of opener.port old new) sol report).ends result →
      Decodes opener inputs answer input sol report result
  ran_on_input : (opened left : OpenInputs F) →
      OpensAs opener (open_with_answer opener.port inputs answer) (Ok (opened, None)) →
      (decode_run opened.choice (readers_of opener.port opened left) input sol report).ends result →
      Decodes opener inputs answer input sol report result

-- the inputs, and then the roster
abbrev pub open_with_roster : {F : Type 0} → Ghosts F → Inputs → Path → Opening (OpenInputs F × F)
open_with_roster port inputs from = do
  opened ← open_inputs port inputs
  given ← open_at port from
  end_as (λ both. both ≡ (opened, given))

-- A file did not open, and nothing was touched; or the inputs were open at their paths and the roster at its own, and the run extended it.
pub data Extends {F : Type 0} (opener : Opener F) (inputs : Inputs) (from : Path) (out : Writer) (result : Result (Unit {0}) Fault) :
    Type 0 where
  refused : (fault : OpenFault) → result ≡ Err (fault_of_opening fault) → OpensAs opener (open_with_roster opener.port inputs from) (Err fault) →
      IsUntouched out → Extends opener inputs from out result
  ran : (opened left : OpenInputs F) (old new : F) → OpensAs opener (open_with_roster opener.port inputs from) (Ok (opened, old)) →
      (extend_run opened.choice (readers_of opener.port opened left) (reader_of opener.port old new) out).ends result →
      Extends opener inputs from out result

-- The model went to the named file if there is one, otherwise to the output; the other was not touched.
abbrev pub EncodesTo : {F : Type 0} → Opener F → Inputs → Option Path → Writer → Writer → Result (Unit {0}) Fault → Type 0
EncodesTo opener inputs opb file output result = MatchOption opb (Encodes opener inputs output result × IsUntouched file)
    (λ _. Encodes opener inputs file result × IsUntouched output)

-- The effects of a job on the file opener, the input, the file that it writes and the output. The model goes to the file that is named
-- for it, or to the output; the solution to its file, and the report to the output; the answer of an extension to the output. Anything
-- that the job does not use was not touched.
abbrev pub JobOutcome : {F : Type 0} → Opener F → Job → Reader → Writer → Writer → Result (Unit {0}) Fault → Type 0
JobOutcome opener (Encode inputs opb) input file output result =
    EncodesTo opener inputs (option_map string_bytes opb) file output result × IsUntouched input
JobOutcome opener (Decode inputs sol answer) input file output result =
    Decodes opener inputs (option_map string_bytes answer) input file output result
JobOutcome opener (Extend inputs from) input file output result =
    Extends opener inputs (string_bytes from) output result × IsUntouched file × IsUntouched input
