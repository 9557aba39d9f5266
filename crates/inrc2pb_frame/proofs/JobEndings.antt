-- A program that ends as its run does.
use Rattle.std.proofs.Common.{◌≡◌, ℕ, ap, refl, subst, inl, inr, Ok, Err}
use Rattle.std.specs.Prelude.{◌≢◌, ◌⊎◌}
use Rattle.clap.specs.Words.{Kinds, Text}
use Rattle.byte_ports.specs.declared.open_files.OpenFault.{OpenFault}
use Rattle.byte_ports.specs.declared.open_files.OpenFault.TheVariants as unopened
use Rattle.rota_pb.specs.OpenFaults.{fault_of_opening}
use Rattle.rota_pb.specs.Steps.{StepOf}
use Rattle.rota_pb.specs.declared.fault.Fault.{Fault}
use Rattle.rota_pb.specs.declared.fault.Fault.TheVariants as faults
use Rattle.rota_pb.specs.declared.period_fault.PeriodFault.{PeriodFault}
use Rattle.rota_pb.specs.declared.period_fault.PeriodFault.TheVariants.{InWeek, Run, Unmet}
use Rattle.inrc2pb_frame.specs.Exits.{IsExitOf, PrinterState}
use Rattle.inrc2pb_frame.specs.Given.{Given, IsJobGiven, IsStopGiven}
use Rattle.inrc2pb_frame.specs.JobEnds.{EndsBy, IsFor, Reports, Written}
use Rattle.inrc2pb_frame.specs.JobEnds.EndsBy.{done, lacks_memory, refused, unread, unwritten}
use Rattle.inrc2pb_frame.specs.Runs.{IsJobFor, IsStopFor, Program}
use Rattle.inrc2pb_frame.specs.Stops.{IsAmong, Stop, kind_of}
use Rattle.inrc2pb_frame.specs.declared.stop.Stop.TheVariants as stops
use Rattle.inrc2pb_frame.proofs.Shows.{About, Writes, about, contents, reading, writing}

-- the fault is about reading: want of memory, or a file that was not read
abbrev pub IsForReading : PeriodFault → Type 0
IsForReading fault = IsFor faults.Memory fault ⊎ IsFor faults.Read fault

pub unread_fault : (fault : Fault) → about fault ≡ reading → (fault ≡ faults.Memory) ⊎ (fault ≡ faults.Read)
unread_fault (faults.File one) of = absurd (cc of)
unread_fault faults.Memory of = inl refl
unread_fault faults.Write of = absurd (cc of)
unread_fault faults.Read of = inr refl
unread_fault (faults.Answer one) of = absurd (cc of)
unread_fault (faults.NoRoster status) of = absurd (cc of)
unread_fault (faults.Unmet number) of = absurd (cc of)
unread_fault (faults.Breaks rule) of = absurd (cc of)

pub for_run : (fault : Fault) → (fault ≡ faults.Memory) ⊎ (fault ≡ faults.Read) → IsForReading (Run fault)
for_run fault (inl is) = inl (inl (ap Run is))
for_run fault (inr is) = inr (inl (ap Run is))

-- files that were not opened
pub for_opening : (fault : OpenFault) → IsForReading (Run (fault_of_opening fault))
for_opening unopened.Memory = inl (inl refl)
for_opening unopened.Read = inr (inl refl)

pub for_week : (week : ℕ) (fault : Fault) → (fault ≡ faults.Memory) ⊎ (fault ≡ faults.Read) → IsForReading (InWeek week fault)
for_week week fault (inl is) = inl (inr (week, ap (InWeek week) is))
for_week week fault (inr is) = inr (inr (week, ap (InWeek week) is))

module _ (program : Text) (help errors : PrinterState) (status : ℕ) where
  -- the program ends for a fault
  abbrev pub EndsFor : PeriodFault → Type 0
  EndsFor fault = IsExitOf program (Err (stops.Job fault)) help errors status

  reported : (fault : PeriodFault) → EndsFor fault → Reports program errors status fault
  reported fault exits = record { printed = exits.printed; returned = exits.ends }

  module _ {F A : Type 0} (files : StepOf F A) (named : F → PeriodFault) (written : Written A) where
    abbrev Ends : Type 0
    Ends = EndsBy files named written program errors status

    -- nothing was read to its end, or there was no memory
    pub ends_unread : (fault : PeriodFault) → IsForReading fault → written.nothing → EndsFor fault → Ends
    ends_unread fault (inl lacks) nothing exits = lacks_memory fault lacks nothing (reported fault exits)
    ends_unread fault (inr fails) nothing exits = unread fault fails nothing (reported fault exits)

    module _ (about_it : F → About) (reads : (fault : F) → about_it fault ≡ reading → IsForReading (named fault)) {run : StepOf F (Unit {0})}
        (writes : Writes about_it written.nothing written.all (λ value fault. (named fault ≡ Run faults.Write) × written.beginning value) run files)
      where
        pub ends_done : run.ends (Ok tt) → status ≡ 0 → Ends
        ends_done ends is =
            let all = writes.done ends in
            done all.0 all.1 all.2 is

        by_fault : (fault : F) (of : About) → about_it fault ≡ of → run.ends (Err fault) → EndsFor (named fault) → Ends
        by_fault fault contents of ends exits =
            let both = writes.refused fault of ends in
            refused fault both.0 both.1 (reported (named fault) exits)
        by_fault fault reading of ends exits = ends_unread (named fault) (reads fault of) (writes.unread fault of ends) exits
        by_fault fault writing of ends exits =
            let begun = writes.unwritten fault of ends in
            unwritten begun.0 begun.1 begun.2.1 (subst (Reports program errors status) begun.2.0 (reported (named fault) exits))

        pub ends_failed : (fault : F) → run.ends (Err fault) → EndsFor (named fault) → Ends
        ends_failed fault ends exits = by_fault fault (about_it fault) refl ends exits

    -- words that spell a job give no other reason to stop than want of memory, or status 2
    pub ends_stopped : {J X Z : Type 0} (one : Program J) (words : Given X Z) (job : J) → IsJobGiven (IsJobFor one) words job → (stop : Stop) →
        IsStopGiven (IsStopFor one) words stop → written.nothing → status ≢ 2 → IsExitOf program (Err stop) help errors status → Ends
    ends_stopped one (Err error) job spelled stop why nothing other exits = absurd spelled
    ends_stopped one (Ok words) job spelled (stops.Shown text) why nothing other exits =
        absurd (subst (λ (kinds : Kinds). IsAmong (kind_of text) kinds) spelled.taken why.0)
    ends_stopped one (Ok words) job spelled (stops.Words text) why nothing other exits = absurd (other exits.ends)
    ends_stopped one (Ok words) job spelled (stops.Usage text) why nothing other exits = absurd (other exits.ends)
    ends_stopped one (Ok words) job spelled (stops.Job fault) why nothing other exits =
        lacks_memory fault (inl why) nothing (reported fault exits)
