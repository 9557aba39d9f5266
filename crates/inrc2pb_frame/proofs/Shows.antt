-- A run over ports that shows what lies in the files: each end of it is an end of the steps over their contents.
use Rattle.std.proofs.Common.{◌≡◌, ℕ, refl, subst, List, Ok, Err}
use Rattle.std.specs.Prelude.{Some}
use Rattle.byte_ports.specs.declared.ports.Source.{Ghosts}
use Rattle.rota_core.specs.declared.fault.FileFault.TheVariants as refusals
use Rattle.rota_core.specs.declared.fault.FileName.{FileName}
use Rattle.rota_layout.specs.Layout.{Layout}
use Rattle.rota_pb.specs.declared.fault.Fault.{Fault}
use Rattle.rota_pb.specs.declared.fault.Fault.TheVariants.{Answer, Breaks, File, Memory, NoRoster, Read, Unmet, Write}
use Rattle.rota_pb.specs.RunPorts.{IsRead, Reader, reader_of}
use Rattle.rota_pb.specs.Steps.{EndsInTurn, StepOf, ◌>>=◌, call, check, stopped, went_on}
use Rattle.rota_pb.specs.WeekFiles.{FailsCheck}
use Rattle.inrc2pb_frame.specs.Contents.{HasFaultIn, IsKnown, LiesIn}
use Rattle.byte_ports.specs.Paths.{FileAt, IsNew, file_of, nothing, unknown}

-- what a fault is about: the contents of the files, a want of memory or of a port that reads, or a port that writes
pub data About : Type 0 where
  contents : About
  reading : About
  writing : About

-- what the fault of a run is about
abbrev pub about : Fault → About
about Memory = reading
about Read = reading
about Write = writing
about _ = contents

-- the step, and then a name for what it found
abbrev naming : {F A B : Type 0} → StepOf F A → (A → B) → (F → Type 0) → StepOf F B
naming step made Stops = step >>= λ value. check (λ found. found ≡ made value) Stops

-- room is made
abbrev making_room : {F : Type 0} → (F → Type 0) → StepOf F (Unit {0})
making_room Stops = check (λ _. Unit {0}) Stops

module _ {F : Type 0} (about : F → About) where
  -- the run shows what these steps say
  pub record Shows {A : Type 0} (run shown : StepOf F A) : Type 0 where
    pub idle : shown.untouched
    pub found : (value : A) → run.ends (Ok value) → shown.ends (Ok value)
    pub refused : (fault : F) → about fault ≡ contents → run.ends (Err fault) → shown.ends (Err fault)
    pub unwritten : (fault : F) → about fault ≡ writing → run.ends (Err fault) → ⊥

  -- The run shows what these steps find, and then writes: it has touched no writer, has written all for what they find, or a beginning.
  pub record Writes {A : Type 0} (untouched : Type 0) (All : A → Type 0) (Beginning : A → F → Type 0) (run : StepOf F (Unit {0})) (shown : StepOf F A) : Type 0 where
    pub idle : shown.untouched
    pub unmoved : run.untouched → untouched
    pub done : run.ends (Ok tt) → (value : A) × shown.ends (Ok value) × All value
    pub refused : (fault : F) → about fault ≡ contents → run.ends (Err fault) → shown.ends (Err fault) × untouched
    pub unread : (fault : F) → about fault ≡ reading → run.ends (Err fault) → untouched
    pub unwritten : (fault : F) → about fault ≡ writing → run.ends (Err fault) →
        (value : A) × shown.ends (Ok value) × Beginning value fault

  -- what was written, in other words
  pub writes-weaker : {A : Type 0} {untouched still : Type 0} {All AllSo : A → Type 0} {Beginning BeginningSo : A → F → Type 0}
      {run : StepOf F (Unit {0})} {shown : StepOf F A} → (untouched → still) → ((value : A) → All value → AllSo value) →
      ((value : A) (fault : F) → Beginning value fault → BeginningSo value fault) → Writes untouched All Beginning run shown →
      Writes still AllSo BeginningSo run shown
  writes-weaker idle all begins writes = record {
    idle = writes.idle;
    unmoved = λ unstarted. idle (writes.unmoved unstarted);
    done = λ ends. let last = writes.done ends in (last.0, last.1, all last.0 last.2);
    refused = λ fault of ends. let last = writes.refused fault of ends in (last.0, idle last.1);
    unread = λ fault of ends. idle (writes.unread fault of ends);
    unwritten = λ fault of ends. let last = writes.unwritten fault of ends in (last.0, last.1, begins last.0 fault last.2);
  }

  module _ {A : Type 0} {run shown : StepOf F A} (one : Shows run shown) where
    module _ {B : Type 0} {next onward : A → StepOf F B} (more : (value : A) → Shows (next value) (onward value)) where
      found-then : (value : B) → EndsInTurn run next (Ok value) → EndsInTurn shown onward (Ok value)
      found-then value (stopped fault is ends untouched) = absurd (cc is)
      found-then value (went_on first ends rest) = went_on first (one.found first ends) ((more first).found value rest)

      refused-then : (fault : F) → about fault ≡ contents → EndsInTurn run next (Err fault) → EndsInTurn shown onward (Err fault)
      refused-then fault of (stopped other is ends untouched) = stopped other is (one.refused other (cc (is, of)) ends) (λ value. (more value).idle)
      refused-then fault of (went_on first ends rest) = went_on first (one.found first ends) ((more first).refused fault of rest)

      unwritten-then : (fault : F) → about fault ≡ writing → EndsInTurn run next (Err fault) → ⊥
      unwritten-then fault of (stopped other is ends untouched) = one.unwritten other (cc (is, of)) ends
      unwritten-then fault of (went_on first ends rest) = (more first).unwritten fault of rest

      pub shows-then : Shows (run >>= next) (shown >>= onward)
      shows-then = record {
        idle = (one.idle, λ value. (more value).idle);
        found = found-then;
        refused = refused-then;
        unwritten = unwritten-then;
      }

    -- steps that show what lies in the files, before those that write
    module _ {B : Type 0} {untouched : Type 0} {All : B → Type 0} {Beginning : B → F → Type 0} {next : A → StepOf F (Unit {0})} {onward : A → StepOf F B} (some : A)
        (more : (value : A) → Writes untouched All Beginning (next value) (onward value)) where
      done-then : EndsInTurn run next (Ok tt) → (value : B) × EndsInTurn shown onward (Ok value) × All value
      done-then (stopped fault is ends untouched) = absurd (cc is)
      done-then (went_on first ends rest) =
          let last = (more first).done rest in
          (last.0, went_on first (one.found first ends) last.1, last.2)

      stopped-then : (fault : F) → about fault ≡ contents → EndsInTurn run next (Err fault) → EndsInTurn shown onward (Err fault) × untouched
      stopped-then fault of (stopped other is ends idle) =
          (stopped other (cc is) (one.refused other (cc (is, of)) ends) (λ value. (more value).idle), (more some).unmoved (idle some))
      stopped-then fault of (went_on first ends rest) =
          let last = (more first).refused fault of rest in
          (went_on first (one.found first ends) last.0, last.1)

      unread-then : (fault : F) → about fault ≡ reading → EndsInTurn run next (Err fault) → untouched
      unread-then fault of (stopped other is ends idle) = (more some).unmoved (idle some)
      unread-then fault of (went_on first ends rest) = (more first).unread fault of rest

      begun-then : (fault : F) → about fault ≡ writing → EndsInTurn run next (Err fault) →
          (value : B) × EndsInTurn shown onward (Ok value) × Beginning value fault
      begun-then fault of (stopped other is ends idle) = absurd (one.unwritten other (cc (is, of)) ends)
      begun-then fault of (went_on first ends rest) =
          let last = (more first).unwritten fault of rest in
          (last.0, went_on first (one.found first ends) last.1, last.2)

      pub writes-then : Writes untouched All Beginning (run >>= next) (shown >>= onward)
      writes-then = record {
        idle = (one.idle, λ value. (more value).idle);
        unmoved = λ idle. (more some).unmoved (idle.1 some);
        done = done-then;
        refused = stopped-then;
        unread = unread-then;
        unwritten = begun-then;
      }

    -- the last of these steps, before those that write
    module _ {untouched : Type 0} {All : A → Type 0} {Beginning : A → F → Type 0} {next : A → StepOf F (Unit {0})} (some : A)
        (unmoved : (value : A) → (next value).untouched → untouched) (all : (value : A) → (next value).ends (Ok tt) → All value)
        (fails : (value : A) (fault : F) → (next value).ends (Err fault) → (about fault ≡ writing) × Beginning value fault) where
      last-done : EndsInTurn run next (Ok tt) → (value : A) × shown.ends (Ok value) × All value
      last-done (stopped fault is ends untouched) = absurd (cc is)
      last-done (went_on value ends rest) = (value, one.found value ends, all value rest)

      last-refused : (fault : F) → about fault ≡ contents → EndsInTurn run next (Err fault) → shown.ends (Err fault) × untouched
      last-refused fault of (stopped other is ends idle) =
          (subst (λ (f : F). shown.ends (Err f)) (cc is) (one.refused other (cc (is, of)) ends), unmoved some (idle some))
      last-refused fault of (went_on value ends rest) = absurd (cc ((fails value fault rest).0, of))

      last-unread : (fault : F) → about fault ≡ reading → EndsInTurn run next (Err fault) → untouched
      last-unread fault of (stopped other is ends idle) = unmoved some (idle some)
      last-unread fault of (went_on value ends rest) = absurd (cc ((fails value fault rest).0, of))

      last-begun : (fault : F) → about fault ≡ writing → EndsInTurn run next (Err fault) → (value : A) × shown.ends (Ok value) × Beginning value fault
      last-begun fault of (stopped other is ends idle) = absurd (one.unwritten other (cc (is, of)) ends)
      last-begun fault of (went_on value ends rest) = (value, one.found value ends, (fails value fault rest).1)

      pub writes-last : Writes untouched All Beginning (run >>= next) shown
      writes-last = record {
        idle = one.idle;
        unmoved = λ idle. unmoved some (idle.1 some);
        done = last-done;
        refused = last-refused;
        unread = last-unread;
        unwritten = last-begun;
      }

    -- a step of the run that only names what the step before it found
    module _ {B C : Type 0} (made : A → B) {Stops : F → Type 0} (lacks : (fault : F) → Stops fault → about fault ≡ reading)
        {next : B → StepOf F C} {onward : A → StepOf F C} (more : (value : A) → Shows (next (made value)) (onward value)) where
      found-made : (value : C) → EndsInTurn (naming run made Stops) next (Ok value) → EndsInTurn shown onward (Ok value)
      found-made value (stopped fault is ends untouched) = absurd (cc is)
      found-made value (went_on named (stopped fault is ends untouched) rest) = absurd (cc is)
      found-made value (went_on named (went_on first ends is) rest) =
          went_on first (one.found first ends) ((more first).found value (subst (λ (b : B). (next b).ends (Ok value)) is rest))

      refused-made : (fault : F) → about fault ≡ contents → EndsInTurn (naming run made Stops) next (Err fault) → EndsInTurn shown onward (Err fault)
      refused-made fault of (stopped other is (stopped first also ends idle) untouched) =
          stopped first (cc (is, also)) (one.refused first (cc (is, also, of)) ends) (λ value. (more value).idle)
      refused-made fault of (stopped other is (went_on first ends stops) untouched) = absurd (cc (is, of, lacks other stops))
      refused-made fault of (went_on named (stopped other is ends untouched) rest) = absurd (cc is)
      refused-made fault of (went_on named (went_on first ends is) rest) =
          went_on first (one.found first ends) ((more first).refused fault of (subst (λ (b : B). (next b).ends (Err fault)) is rest))

      unwritten-made : (fault : F) → about fault ≡ writing → EndsInTurn (naming run made Stops) next (Err fault) → ⊥
      unwritten-made fault of (stopped other is (stopped first also ends idle) untouched) = one.unwritten first (cc (is, also, of)) ends
      unwritten-made fault of (stopped other is (went_on first ends stops) untouched) = cc (is, of, lacks other stops)
      unwritten-made fault of (went_on named (stopped other is ends untouched) rest) = cc is
      unwritten-made fault of (went_on named (went_on first ends is) rest) =
          (more first).unwritten fault of (subst (λ (b : B). (next b).ends (Err fault)) is rest)

      pub shows-made : Shows (naming run made Stops >>= next) (shown >>= onward)
      shows-made = record {
        idle = (one.idle, λ value. (more value).idle);
        found = found-made;
        refused = refused-made;
        unwritten = unwritten-made;
      }

    -- a step of the run that only makes room
    module _ {Stops : F → Type 0} (lacks : (fault : F) → Stops fault → about fault ≡ reading) where
      found-room : (value : A) → EndsInTurn (making_room Stops) (λ _. run) (Ok value) → shown.ends (Ok value)
      found-room value (stopped fault is ends untouched) = absurd (cc is)
      found-room value (went_on room ends rest) = one.found value rest

      refused-room : (fault : F) → about fault ≡ contents → EndsInTurn (making_room Stops) (λ _. run) (Err fault) → shown.ends (Err fault)
      refused-room fault of (stopped other is stops untouched) = absurd (cc (is, of, lacks other stops))
      refused-room fault of (went_on room ends rest) = one.refused fault of rest

      unwritten-room : (fault : F) → about fault ≡ writing → EndsInTurn (making_room Stops) (λ _. run) (Err fault) → ⊥
      unwritten-room fault of (stopped other is stops untouched) = cc (is, of, lacks other stops)
      unwritten-room fault of (went_on room ends rest) = one.unwritten fault of rest

      pub shows-room : Shows (making_room Stops >>= λ _. run) shown
      shows-room = record { idle = one.idle; found = found-room; refused = refused-room; unwritten = unwritten-room }

  module _ {A : Type 0} where
    -- a step of the run that may also stop for want of memory
    pub shows-check : (Finds : A → Type 0) (Stops Says : F → Type 0) → ((fault : F) → about fault ≡ contents → Stops fault → Says fault) →
        ((fault : F) → about fault ≡ writing → Stops fault → ⊥) → Shows (check Finds Stops) (check Finds Says)
    shows-check Finds Stops Says says never = record { idle = tt; found = λ value is. is; refused = says; unwritten = never }

    -- a step that both have
    pub shows-same : (Finds : A → Type 0) (Stops : F → Type 0) → ((fault : F) → about fault ≡ writing → Stops fault → ⊥) →
        Shows (check Finds Stops) (check Finds Stops)
    shows-same Finds Stops never = shows-check Finds Stops Stops (λ fault of is. is) never

-- a step that finds a value has no fault
pub shows-find : {F A : Type 0} (about : F → About) (Finds : A → Type 0) → Shows about (check Finds (λ fault. ⊥)) (check Finds (λ fault. ⊥))
shows-find about Finds = shows-same about Finds (λ fault. ⊥) (λ fault of is. is)

-- the file of the reader has this content, and its bytes are known
pub record Tells (content : FileAt) (reader : Reader) : Type 0 where
  pub bytes : List ℕ
  pub there : content ≡ file_of bytes
  pub left : reader.port.left reader.old ≡ Some bytes

-- a new file tells the content of its path, if this is known
pub tells : {F : Type 0} (port : Ghosts F) (content : FileAt) (file after : F) → IsKnown content → IsNew port content file →
    Tells content (reader_of port file after)
tells port unknown file after known new = absurd known
tells port nothing file after known new = absurd new.given
tells port (file_of bytes) file after known new = record { bytes = bytes; there = refl; left = new.given }

pub lies : {V : Type 0} {Means : List ℕ → V → Type 0} {content : FileAt} {reader : Reader} {value : V} → Tells content reader →
    IsRead Means reader value → LiesIn content Means value
lies told read = record { bytes = told.bytes; there = told.there; mean = read.0 told.bytes told.left }

module _ {V : Type 0} (name : FileName) (layout : Layout V) (content : FileAt) (reader : Reader) (told : Tells content reader) where
  file-refused : (fault : Fault) → about fault ≡ contents → FailsCheck name layout reader fault → HasFaultIn name layout content fault
  file-refused (File (refusals.Bad kind file line)) of fails =
      (fails.0, record { bytes = told.bytes; there = told.there; mean = fails.1 told.bytes told.left })
  file-refused (File refusals.Memory) of fails = absurd fails
  file-refused Memory of fails = absurd (cc of)
  file-refused Write of fails = absurd fails
  file-refused Read of fails = absurd (cc of)
  file-refused (Answer one) of fails = absurd fails
  file-refused (NoRoster status) of fails = absurd fails
  file-refused (Unmet number) of fails = absurd fails
  file-refused (Breaks rule) of fails = absurd fails

  file-unwritten : (fault : Fault) → about fault ≡ writing → FailsCheck name layout reader fault → ⊥
  file-unwritten (File one) of fails = cc of
  file-unwritten Memory of fails = cc of
  file-unwritten Write of fails = fails
  file-unwritten Read of fails = cc of
  file-unwritten (Answer one) of fails = cc of
  file-unwritten (NoRoster status) of fails = cc of
  file-unwritten (Unmet number) of fails = cc of
  file-unwritten (Breaks rule) of fails = cc of

  -- a file is read whose content is known
  pub shows-file : {A : Type 0} (Finds Says : A → Type 0) → ((value : A) → Finds value → Says value) →
      Shows about (call reader Finds (FailsCheck name layout reader)) (check Says (HasFaultIn name layout content))
  shows-file Finds Says says = record { idle = tt; found = says; refused = file-refused; unwritten = file-unwritten }
