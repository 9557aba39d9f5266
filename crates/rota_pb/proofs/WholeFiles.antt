-- A file that was read whole, or up to one byte more than a file may have.
use Rattle.std.proofs.Common.{◌≡◌, ℕ, ◌+◌, ◌≤◌, inl, inr, refl, sym, subst, ◌∙◌, ap, arith}
use Rattle.std.proofs.Common.{List, [], ◌++◌, length, length-append, Option, None, Some}
use Rattle.std.specs.Io.KnownBytes.{prepend_known, IsAtEnd}
use Rattle.std.proofs.lemmas.Bool.{cases_lt}
use Rattle.std.proofs.lemmas.List.{append-nil}
use Rattle.rota_core.specs.Limits.{max_file_len}
use Rattle.byte_ports.specs.Ports.{KnownBytes}
use Rattle.rota_core.specs.declared.fault.FileName.{FileName}
use Rattle.rota_core.specs.declared.fault.FileFault.{FileFault}
use Rattle.rota_core.specs.declared.fault.FileFault.TheVariants as refusals
use Rattle.rota_layout.specs.declared.fault.LineFault.{LineFault}
use Rattle.rota_layout.specs.Layout.{Layout}
use Rattle.rota_layout.specs.Files.{HasFault, too_long, misses_slot, goes_on, Spells}
use Rattle.rota_layout.specs.FileAnswers.{IsFaultOf}
use Rattle.rota_pb.specs.declared.fault.Fault.{Fault}
use Rattle.rota_pb.specs.declared.fault.Fault.TheVariants.{Memory, Read}
use Rattle.rota_pb.specs.WeekFiles.{FailsCheck}
use Rattle.rota_pb.specs.RunParts.{fault_of_file, StopsReading}
use Rattle.rota_pb.specs.RunPorts.{IfKnown, IsRead, IsReadInPart, IsReadUpTo, Reader}

some_injective : {A : Type 0} (a b : A) → ◌≡◌ {A = Option A} (Some a) (Some b) → a ≡ b
some_injective a b same = cc

-- the known bytes are the bytes that were read, and then the bytes that are left
pub known_are : (given left : KnownBytes) (text bytes : List ℕ) → given ≡ prepend_known text left → given ≡ Some bytes →
    (rest : List ℕ) × (left ≡ Some rest) × (text ++ rest ≡ bytes)
known_are given None text bytes is known = let h : ◌≡◌ {A = KnownBytes} None (Some bytes) = sym is ∙ known in absurd cc
known_are given (Some rest) text bytes is known = (rest, refl, some_injective (text ++ rest) bytes (sym is ∙ known))

module _ {V : Type 0} (name : FileName) (layout : Layout V) (reader : Reader) (text : List ℕ)
    (read : IsReadUpTo (max_file_len + 1) reader text) where
  -- a text that is not too long is the whole file
  whole : length text ≤ max_file_len → IfKnown reader (λ bytes. text ≡ bytes)
  whole short bytes known =
      let parts : (rest : List ℕ) × (reader.port.left reader.new ≡ Some rest) × (text ++ rest ≡ bytes) =
      known_are (reader.port.left reader.old) (reader.port.left reader.new) text bytes read.0.front known in
      let none : parts.0 ≡ [] = subst IsAtEnd parts.1 (read.2 (omega arith)).none_left in
      sym (append-nil text) ∙ ap (λ (r : List ℕ). text ++ r) (sym none) ∙ parts.2

  -- the file has the fault of the bytes that were read: a longer file is too long like them
  fault-of_file : (fault : LineFault) → HasFault layout text fault → IfKnown reader (λ bytes. HasFault layout bytes fault)
  fault-of_file fault (too_long long is_long) bytes known =
      let parts : (rest : List ℕ) × (reader.port.left reader.new ≡ Some rest) × (text ++ rest ≡ bytes) =
      known_are (reader.port.left reader.old) (reader.port.left reader.new) text bytes read.0.front known in
      subst (λ (b : List ℕ). HasFault layout b fault) parts.2 (too_long (omega (arith, length-append text parts.0)) is_long)
  fault-of_file fault (misses_slot short misses) bytes known =
      subst (λ (b : List ℕ). HasFault layout b fault) (whole short bytes known) (misses_slot short misses)
  fault-of_file fault (goes_on short goes) bytes known =
      subst (λ (b : List ℕ). HasFault layout b fault) (whole short bytes known) (goes_on short goes)

  -- memory may run out after the text is read
  in_part : IsReadInPart reader
  in_part = (
    text,
    read.0,
    elim (cases_lt 0 (length text)) [
      | inl some ↦ inl some
      | inr none ↦ inr (read.2 (omega arith))
    ],
  )

  -- why the check of a file whose text was read fails
  pub fails-check : (f : FileFault) → IsFaultOf name layout text f → FailsCheck name layout reader (fault_of_file f)
  fails-check (refusals.Bad kind file line) is_fault = (is_fault.0, fault-of_file (record { kind = kind; line = line }) is_fault.1, (text, read))
  fails-check refusals.Memory is_fault = in_part

  -- the file whose text spells a value is read
  pub is-read : (value : V) → Spells layout text value → IsRead (Spells layout) reader value
  is-read value spells =
      let short = spells.short in
      (λ bytes known. subst (λ (b : List ℕ). Spells layout b value) (whole short bytes known) spells, (text, read.0, read.2 (omega arith)))

-- why the check of a file that was not read fails
pub stops-check : {V : Type 0} (name : FileName) (layout : Layout V) (reader : Reader) (fault : Fault) →
    StopsReading (max_file_len + 1) reader fault → FailsCheck name layout reader fault
stops-check name layout reader Memory stops = stops
stops-check name layout reader Read stops = stops
stops-check name layout reader _ stops = absurd stops
