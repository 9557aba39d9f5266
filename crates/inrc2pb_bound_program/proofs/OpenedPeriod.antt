-- The files of a period that were opened: each is new, and of its own path.
use Rattle.std.proofs.Common.{◌≡◌, ap, refl, sym, subst, suc, List, [], ◌∷◌, Ok, length}
use Rattle.std.specs.declared.string.String.{String}
use Rattle.byte_ports.specs.declared.ports.Source.{Ghosts}
use Rattle.byte_ports.specs.Opening.{Opening}
use Rattle.byte_ports.specs.Paths.{FileAt, Path}
use Rattle.byte_ports.proofs.OpenedFiles.{IsNewAt, IsNewIfNamed, new_if_named, went}
use Rattle.rota_bound_run.specs.declared.files.PeriodFiles.{PeriodFiles}
use Rattle.rota_bound_run.specs.declared.files.WeekFiles.{WeekFiles}
use Rattle.inrc2pb_bound_program.specs.PeriodOpening.{open_each, open_in_order, open_path, open_period, open_week}

-- as many as these, each with its own
abbrev pub InPairs : {A B : Type 0} → (A → B → Type 0) → List A → List B → Type 0
InPairs R [] [] = Unit {0}
InPairs R [] (y ∷ ys) = ⊥
InPairs R (x ∷ xs) [] = ⊥
InPairs R (x ∷ xs) (y ∷ ys) = R x y × InPairs R xs ys

pub pairs-length : {A B : Type 0} (R : A → B → Type 0) (xs : List A) (ys : List B) → InPairs R xs ys → length ys ≡ length xs
pairs-length R [] [] pairs = refl
pairs-length R [] (y ∷ ys) pairs = absurd pairs
pairs-length R (x ∷ xs) [] pairs = absurd pairs
pairs-length R (x ∷ xs) (y ∷ ys) pairs = ap suc (pairs-length R xs ys pairs.1)

module _ {A B : Type 0} (one_of : A → Opening B) where
  module _ (at : Path → FileAt) (R : A → B → Type 0)
      (each : (x : A) (y : B) (asked : List Path) → (one_of x).ends at asked (Ok y) → R x y) where
    in_order : (xs : List A) (ys : List B) (asked : List Path) → (open_in_order one_of xs).ends at asked (Ok ys) → InPairs R xs ys
    unfolding open_in_order
    in_order [] ys asked ends = subst (InPairs R []) (sym ends.1) tt
    in_order (x ∷ xs) ys asked ends =
        let one = went ends in
        let rest = went one.4 in
        subst (InPairs R (x ∷ xs)) (sym rest.4.1) (each x one.0 one.1 one.3, in_order xs rest.0 rest.1 rest.3)

    pub each_opened : (xs : List A) (ys : List B) (asked : List Path) → (open_each one_of xs).ends at asked (Ok ys) → InPairs R xs ys
    each_opened [] ys asked ends = subst (InPairs R []) (sym ends.1) tt
    each_opened (x ∷ xs) ys asked ends =
        let room = went ends in
        in_order (x ∷ xs) ys room.2 room.4

module _ {F X : Type 0} (port : Ghosts F) where
  -- the files of a week are new
  pub record IsNewWeek (at : Path → FileAt) (paths : WeekFiles (String X)) (files : WeekFiles F) : Type 0 where
    pub week : IsNewAt port at paths.week files.week
    pub fix : IsNewIfNamed port at paths.fix files.fix

  -- all files are new
  pub record IsNewPeriod (at : Path → FileAt) (paths : PeriodFiles (String X)) (files : PeriodFiles F) : Type 0 where
    pub scenario : IsNewAt port at paths.scenario files.scenario
    pub history : IsNewAt port at paths.history files.history
    pub weeks : InPairs (IsNewWeek at) paths.weeks.items files.weeks.items
    pub given : IsNewIfNamed port at paths.given files.given
    pub proof : IsNewIfNamed port at paths.proof files.proof
    pub rosters : InPairs (IsNewAt port at) paths.rosters.items files.rosters.items

  week_opened : (at : Path → FileAt) (paths : WeekFiles (String X)) (files : WeekFiles F) (asked : List Path) →
      (open_week port paths).ends at asked (Ok files) → IsNewWeek at paths files
  week_opened at paths files asked ends =
      let week = went ends in
      let fix = went week.4 in
      subst (IsNewWeek at paths) (sym fix.4.1) (record { week = week.3.1; fix = new_if_named port at paths.fix fix.0 fix.1 fix.3 })

  path_opened : (at : Path → FileAt) (path : String X) (file : F) (asked : List Path) → (open_path port path).ends at asked (Ok file) →
      IsNewAt port at path file
  path_opened at path file asked ends = ends.1

  pub period_opened : (at : Path → FileAt) (paths : PeriodFiles (String X)) (files : PeriodFiles F) (asked : List Path) →
      (open_period port paths).ends at asked (Ok files) → IsNewPeriod at paths files
  period_opened at paths files asked ends =
      let scenario = went ends in
      let history = went scenario.4 in
      let weeks = went history.4 in
      let given = went weeks.4 in
      let proof = went given.4 in
      let rosters = went proof.4 in
      let is = rosters.4.1 in
      record {
        scenario = subst (IsNewAt port at paths.scenario) (sym (ap (λ (f : PeriodFiles F). f.scenario) is.2)) scenario.3.1;
        history = subst (IsNewAt port at paths.history) (sym (ap (λ (f : PeriodFiles F). f.history) is.2)) history.3.1;
        weeks = subst (InPairs (IsNewWeek at) paths.weeks.items) (sym is.0)
            (each_opened (open_week port) at (IsNewWeek at) (week_opened at) paths.weeks.items weeks.0 weeks.1 weeks.3);
        given = subst (IsNewIfNamed port at paths.given) (sym (ap (λ (f : PeriodFiles F). f.given) is.2))
            (new_if_named port at paths.given given.0 given.1 given.3);
        proof = subst (IsNewIfNamed port at paths.proof) (sym (ap (λ (f : PeriodFiles F). f.proof) is.2))
            (new_if_named port at paths.proof proof.0 proof.1 proof.3);
        rosters = subst (InPairs (IsNewAt port at) paths.rosters.items) (sym is.1)
            (each_opened (open_path port) at (IsNewAt port at) (path_opened at) paths.rosters.items rosters.0 rosters.1 rosters.3);
      }
