-- The inputs of a job that were opened: each is new, and of its own path.
use Rattle.std.proofs.Common.{ap, sym, subst, List, Ok}
use Rattle.std.specs.Prelude.{Option, Some, None, option_map, string_bytes}
use Rattle.std.specs.declared.string.String.{String}
use Rattle.byte_ports.specs.declared.ports.Source.{Ghosts}
use Rattle.inrc2pb_program.specs.JobOutcomes.{open_with_answer, open_with_roster}
use Rattle.inrc2pb_program.specs.Jobs.{Inputs, IsChoiceOf}
use Rattle.inrc2pb_program.specs.OpenInputs.{OpenInputs, open_inputs, optional_of}
use Rattle.byte_ports.specs.Paths.{FileAt, Path}
use Rattle.inrc2pb_program.specs.declared.optional_file.OptionalFile.{OptionalFile}
use Rattle.inrc2pb_program.specs.declared.optional_file.OptionalFile.TheVariants.{Named, Absent}
use Rattle.byte_ports.proofs.OpenedFiles.{IsNewAt, IsNewIfNamed, new_if_named, went}

module _ {F X : Type 0} (port : Ghosts F) (at : Path → FileAt) where
  -- the file is new if a path is named; otherwise it is the one without bytes
  abbrev pub IsNewFix : Option (String X) → OptionalFile F → Type 0
  IsNewFix None Absent = Unit {0}
  IsNewFix None (Named file) = ⊥
  IsNewFix (Some path) Absent = ⊥
  IsNewFix (Some path) (Named file) = IsNewAt port at path file

  pub new_fix : (path : Option (String X)) (file : Option F) → IsNewIfNamed port at path file → IsNewFix path (optional_of file)
  new_fix None None is = tt
  new_fix None (Some file) is = is
  new_fix (Some path) None is = is
  new_fix (Some path) (Some file) is = is

module _ {F : Type 0} (port : Ghosts F) where
  -- all inputs are new, and the choices are those of the job
  pub record AreNewInputs (at : Path → FileAt) (inputs : Inputs) (files : OpenInputs F) : Type 0 where
    pub choice : IsChoiceOf inputs files.choice
    pub sce : IsNewAt port at inputs.sce files.sce
    pub his : IsNewAt port at inputs.his files.his
    pub week : IsNewAt port at inputs.week files.week
    pub fix : IsNewFix port at inputs.fix files.fix

  module _ (at : Path → FileAt) (inputs : Inputs) where
    pub inputs_opened : (files : OpenInputs F) (asked : List Path) → (open_inputs port inputs).ends at asked (Ok files) → AreNewInputs at inputs files
    inputs_opened files asked ends =
        let sce = went ends in
        let his = went sce.4 in
        let week = went his.4 in
        let fix = went week.4 in
        let is = fix.4.1.1 in
        record {
          choice = fix.4.1.0;
          sce = subst (IsNewAt port at inputs.sce) (sym (ap (λ (f : OpenInputs F). f.sce) is)) sce.3.1;
          his = subst (IsNewAt port at inputs.his) (sym (ap (λ (f : OpenInputs F). f.his) is)) his.3.1;
          week = subst (IsNewAt port at inputs.week) (sym (ap (λ (f : OpenInputs F). f.week) is)) week.3.1;
          fix = subst (IsNewFix port at inputs.fix) (sym (ap (λ (f : OpenInputs F). f.fix) is))
              (new_fix port at inputs.fix fix.0 (new_if_named port at inputs.fix fix.0 fix.1 fix.3));
        }

    -- the inputs, and then the answer
    pub answer_opened : {X : Type 0} (answer : Option (String X)) (files : OpenInputs F) (file : Option F) (asked : List Path) →
        (open_with_answer port inputs (option_map string_bytes answer)).ends at asked (Ok (files, file)) →
        AreNewInputs at inputs files × IsNewIfNamed port at answer file
    answer_opened answer files file asked ends =
        let all = went ends in
        let given = went all.4 in (
          subst (AreNewInputs at inputs) (sym (ap (λ (p : OpenInputs F × Option F). p.0) given.4.1)) (inputs_opened all.0 all.1 all.3),
          subst (IsNewIfNamed port at answer) (sym (ap (λ (p : OpenInputs F × Option F). p.1) given.4.1))
              (new_if_named port at answer given.0 given.1 given.3),
        )

    -- the inputs, and then the roster
    pub roster_opened : {X : Type 0} (from : String X) (files : OpenInputs F) (file : F) (asked : List Path) →
        (open_with_roster port inputs (string_bytes from)).ends at asked (Ok (files, file)) → AreNewInputs at inputs files × IsNewAt port at from file
    roster_opened from files file asked ends =
        let all = went ends in
        let given = went all.4 in (
          subst (AreNewInputs at inputs) (sym (ap (λ (p : OpenInputs F × F). p.0) given.4.1)) (inputs_opened all.0 all.1 all.3),
          subst (IsNewAt port at from) (sym (ap (λ (p : OpenInputs F × F). p.1) given.4.1)) given.3.1,
        )
