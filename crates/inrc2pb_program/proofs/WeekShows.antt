-- The runs of the commands show what lies in the files: each step of them, beside the step over their contents.
use Rattle.std.proofs.Common.{◌≡◌, ℕ, refl, ap, sym, subst, inl, inr, List, [], Result, Ok, Err}
use Rattle.std.specs.Prelude.{Bool, false, Option, Some, None, is_some}
use Rattle.std.specs.declared.string.String.{String}
use Rattle.byte_ports.specs.declared.ports.Source.{Ghosts}
use Rattle.rota_core.specs.InstanceTables.{InstanceTables, IsInstance, holding, problem_of}
use Rattle.rota_core.specs.Problem.{Problem}
use Rattle.rota_core.specs.RosterTables.{RosterTables, set_of}
use Rattle.rota_core.specs.Sizes.{Numbers}
use Rattle.rota_core.specs.declared.fault.FileName.TheVariants as names
use Rattle.rota_read.specs.HistoryLayout.{history}
use Rattle.rota_read.specs.ScenarioLayout.{scenario}
use Rattle.rota_read.specs.SolutionText.{solution_text}
use Rattle.rota_read.specs.WeekLayout.{week}
use Rattle.solver_text.specs.declared.outcome.Solved.{Solved}
use Rattle.solver_text.specs.declared.outcome.Status.TheVariants as statuses
use Rattle.rota_pb.specs.AnswerPieces.{FailsAnswer, read_answer}
use Rattle.rota_pb.specs.Decoded.{IsDecoded, LacksRoster}
use Rattle.rota_pb.specs.Decoding.{decode_run, variables_of}
use Rattle.rota_pb.specs.Encoding.{IsModelText, encode_run}
use Rattle.rota_pb.specs.Extending.{extend_run, extension_text}
use Rattle.rota_pb.specs.Report.{report_text}
use Rattle.rota_pb.specs.RunPorts.{IsUntouched, Reader, Writer, WritesBeginning, WritesText, reader_of}
use Rattle.rota_pb.specs.Steps.{EndsInTurn, Step, ◌>>=◌, find, only_if_asked, send, stopped, went_on}
use Rattle.rota_pb.specs.StepsInTurn.{◌>>◌}
use Rattle.rota_pb.specs.WeekFiles.{join, read_roster, read_tables, read_week}
use Rattle.rota_pb.specs.declared.decoded.Decoded.{Decoded}
use Rattle.rota_pb.specs.declared.fault.Fault.{Fault}
use Rattle.rota_pb.specs.declared.fault.Fault.TheVariants.{Answer, Breaks, File, Memory, NoRoster, Read, Unmet, Write}
use Rattle.inrc2pb_frame.specs.Contents.{IsKnown, content_of, held_in}
use Rattle.inrc2pb_program.specs.Jobs.{Inputs}
use Rattle.inrc2pb_program.specs.OpenInputs.{OpenInputs, optional_port, readers_of}
use Rattle.byte_ports.specs.Paths.{FileAt, Path}
use Rattle.inrc2pb_program.specs.declared.optional_file.OptionalFile.{OptionalFile}
use Rattle.inrc2pb_program.specs.declared.optional_file.OptionalFile.TheVariants.{Named, Absent}
use Rattle.inrc2pb_frame.proofs.FilesShown.{breaks-about, shows-roster, shows-spelled, told}
use Rattle.byte_ports.proofs.OpenedFiles.{IsNewAt}
use Rattle.inrc2pb_frame.proofs.Shows.{Shows, Tells, Writes, about, contents, lies, shows-find, shows-same, shows-then, writes-last, writes-then, writing}
use Rattle.inrc2pb_program.specs.CommandEnds.{BeginsBoth}
use Rattle.inrc2pb_program.specs.JobContents.{HasAnswerFaultIn, answer_in, extension_in, model_in, solution_in, tables_in, week_in}
use Rattle.inrc2pb_program.proofs.OpenedInputs.{AreNewInputs, IsNewFix}

-- ---- a value of each type, for a run that stopped before it found one

no_numbers : Numbers
no_numbers = record { nurses = 0; shifts = 0; skills = 0 }

some_roster : RosterTables
some_roster = record { numbers = no_numbers; cells = [] }

some_tables : InstanceTables
some_tables = record {
  scenario = record {
    name = [];
    weeks = 0;
    skills = [];
    shifts = [];
    limits = [];
    forbidden = [];
    contracts = [];
    nurses = [];
    contract_of = [];
    has_skill = [];
  };
  history = record { numbers = no_numbers; week = 0; past = [] };
  week = record { numbers = no_numbers; demands = []; requests = [] };
  is_early = false;
  held = None;
}

some_solved : Solved
some_solved = record { status = statuses.Unknown; last_o = None; bits = [] }

some_decoded : Decoded
some_decoded =
    record { roster = some_roster; objective = 0; costs = []; penalty = 0; status = statuses.Unknown; last_o = None }

-- ---- faults of contents

lacks-unwritten : (problem : Problem) (solved : Solved) (fault : Fault) → about fault ≡ writing → LacksRoster problem solved fault → ⊥
lacks-unwritten problem solved (NoRoster status) of lacks = cc of
lacks-unwritten problem solved (Unmet number) of lacks = cc of
lacks-unwritten problem solved (File one) of lacks = lacks
lacks-unwritten problem solved Memory of lacks = lacks
lacks-unwritten problem solved Write of lacks = lacks
lacks-unwritten problem solved Read of lacks = lacks
lacks-unwritten problem solved (Answer one) of lacks = lacks
lacks-unwritten problem solved (Breaks rule) of lacks = lacks

module _ (variables : ℕ) (content : FileAt) (reader : Reader) (told : Tells content reader) where
  answer-refused : (fault : Fault) → about fault ≡ contents → FailsAnswer variables reader fault → HasAnswerFaultIn variables content fault
  answer-refused (Answer one) of fails = record { bytes = told.bytes; there = told.there; mean = fails.means told.bytes told.left }
  answer-refused Memory of fails = absurd (cc of)
  answer-refused Read of fails = absurd (cc of)
  answer-refused Write of fails = absurd fails
  answer-refused (File one) of fails = absurd fails
  answer-refused (NoRoster status) of fails = absurd fails
  answer-refused (Unmet number) of fails = absurd fails
  answer-refused (Breaks rule) of fails = absurd fails

  answer-unwritten : (fault : Fault) → about fault ≡ writing → FailsAnswer variables reader fault → ⊥
  answer-unwritten (Answer one) of fails = cc of
  answer-unwritten Memory of fails = cc of
  answer-unwritten Read of fails = cc of
  answer-unwritten Write of fails = fails
  answer-unwritten (File one) of fails = fails
  answer-unwritten (NoRoster status) of fails = fails
  answer-unwritten (Unmet number) of fails = fails
  answer-unwritten (Breaks rule) of fails = fails

  -- an answer is read whose content is known
  shows-answer : Shows about (read_answer variables reader) (answer_in variables content)
  shows-answer = record { idle = tt; found = λ solved is. lies told is.0; refused = answer-refused; unwritten = answer-unwritten }

-- ---- texts that are sent

module _ (out : Writer) (text : List ℕ) where
  -- all of it, or a beginning
  writes-text : Writes about (IsUntouched out) (λ sent. WritesText out sent) (λ sent fault. (fault ≡ Write) × WritesBeginning out sent)
      (send out text) (find (λ found. found ≡ text))
  writes-text = record {
    idle = tt;
    unmoved = λ idle. idle;
    done = λ sent. (text, refl, sent);
    refused = λ fault of begun. absurd (cc (of, ap about begun.0));
    unread = λ fault of begun. absurd (cc (of, ap about begun.0));
    unwritten = λ fault of begun. (text, refl, begun);
  }

module _ (first second : Writer) (texts : List ℕ × List ℕ) where
  abbrev Sends : Result (Unit {0}) Fault → Type 0
  Sends result = EndsInTurn (send first texts.0) (λ _. send second texts.1) result

  both-sent : Sends (Ok tt) → WritesText first texts.0 × WritesText second texts.1
  both-sent (stopped fault is begun idle) = absurd (cc is)
  both-sent (went_on done sent rest) = (sent, rest)

  both-begun : (fault : Fault) → Sends (Err fault) → (fault ≡ Write) × BeginsBoth first second texts
  both-begun fault (stopped other is begun idle) = (cc (is, begun.0), inl (begun.1, idle tt))
  both-begun fault (went_on done sent rest) = (rest.0, inr (sent, rest.1))

  -- one text after the other
  writes-both : Writes about (IsUntouched first × IsUntouched second) (λ sent. WritesText first sent.0 × WritesText second sent.1)
      (λ sent fault. (fault ≡ Write) × BeginsBoth first second sent) (send first texts.0 >> send second texts.1) (find (λ found. found ≡ texts))
  writes-both = record {
    idle = tt;
    unmoved = λ idle. (idle.0, idle.1 tt);
    done = λ ends. (texts, refl, both-sent ends);
    refused = λ fault of ends. absurd (cc (of, ap about (both-begun fault ends).0));
    unread = λ fault of ends. absurd (cc (of, ap about (both-begun fault ends).0));
    unwritten = λ fault of ends. (texts, refl, both-begun fault ends);
  }

-- ---- the week, and what is written for it

module _ {F : Type 0} (port : Ghosts F) (at : Path → FileAt) (known : (path : Path) → IsKnown (at path)) where
  module _ (tables : InstanceTables) where
    -- the roster is read, and its cells are held
    abbrev hold_from : Reader → Step InstanceTables
    hold_from reader = read_roster names.Fixed tables reader >>= λ roster. find (λ held. (held ≡ holding tables roster) × IsInstance held)

    shows-fix : {X : Type 0} (path : Option (String X)) (old new : OptionalFile F) → IsNewFix port at path old →
        Shows about (only_if_asked (is_some path) tables (hold_from (reader_of (optional_port port) old new))) (held_in at tables path)
    shows-fix None Absent new is = record {
      idle = tt;
      found = λ value ends. cc ends.1;
      refused = λ fault of ends. absurd (cc ends.1);
      unwritten = λ fault of ends. cc ends.1;
    }
    shows-fix None (Named old) new is = absurd is
    shows-fix (Some path) Absent new is = absurd is
    shows-fix (Some path) (Named old) new is =
        let file = told port at known path old old is in
        let reader : Reader = reader_of (optional_port port) (Named old) new in
        let tells_it : Tells (content_of at path) reader = record { bytes = file.bytes; there = file.there; left = file.left } in
        shows-then about (shows-roster tells_it names.Fixed tables) (λ roster. record {
          idle = tt;
          found = λ held is. is.0;
          refused = λ fault of never. never;
          unwritten = λ fault of never. never;
        })

  module _ (inputs : Inputs) (old new : OpenInputs F) (is : AreNewInputs port at inputs old) where
    shows-tables : Shows about (read_tables old.choice.early (reader_of port old.sce new.sce) (reader_of port old.his new.his) (reader_of port old.week new.week))
        (tables_in at inputs)
    shows-tables =
        shows-then about (shows-spelled (told port at known inputs.sce old.sce new.sce is.sce) names.Scenario scenario) (λ s.
        shows-then about (shows-spelled (told port at known inputs.his old.his new.his is.his) names.History (history s)) (λ h.
        shows-then about (shows-spelled (told port at known inputs.week old.week new.week is.week) names.Week (week s)) (λ w.
        subst (λ (early : Bool). Shows about (join s h w early) (join s h w inputs.early)) (sym is.choice.early)
        (shows-same about _ _ (λ fault of late. cc (of, ap about late.1))))))

    shows-week : Shows about (read_week old.choice (readers_of port old new)) (week_in at inputs)
    shows-week =
        shows-then about shows-tables (λ tables.
        subst (λ (fixed : Bool). Shows about (only_if_asked fixed tables (hold_from tables (reader_of (optional_port port) old.fix new.fix)))
        (held_in at tables inputs.fix)) (sym is.choice.fixed) (shows-fix tables inputs.fix old.fix new.fix is.fix))

    -- the run sends the text of the week's model
    pub writes-model : (out : Writer) → Writes about (IsUntouched out) (λ text. WritesText out text)
        (λ text fault. (fault ≡ Write) × WritesBeginning out text) (encode_run old.choice (readers_of port old new) out) (model_in at inputs)
    unfolding encode_run model_in
    writes-model out =
        writes-then about shows-week some_tables (λ tables.
        writes-last about (shows-find about (IsModelText (problem_of tables))) [] (λ text idle. idle) (λ text sent. sent)
        (λ text fault begun. (ap about begun.0, begun)))

    -- the run sends the solution file of the answer, and then the report
    pub writes-solution : (content : FileAt) (answer : Reader) → Tells content answer → (sol report : Writer) →
        Writes about (IsUntouched sol × IsUntouched report) (λ texts. WritesText sol texts.0 × WritesText report texts.1)
        (λ texts fault. (fault ≡ Write) × BeginsBoth sol report texts)
        (decode_run old.choice (readers_of port old new) answer sol report) (solution_in at inputs content)
    unfolding decode_run solution_in
    writes-solution content answer tells_it sol report =
        writes-then about shows-week some_tables (λ tables.
        writes-then about (shows-answer (variables_of tables) content answer tells_it) some_solved (λ solved.
        writes-then about (shows-same about (IsDecoded (problem_of tables) solved) _ (lacks-unwritten (problem_of tables) solved)) some_decoded (λ decoded.
        writes-both sol report (solution_text tables (set_of decoded.roster), report_text decoded))))

    -- the run sends the answer of the roster's extension
    pub writes-extension : {X : Type 0} (from : String X) (given left : F) → IsNewAt port at from given → (out : Writer) →
        Writes about (IsUntouched out) (λ text. WritesText out text) (λ text fault. (fault ≡ Write) × WritesBeginning out text)
        (extend_run old.choice (readers_of port old new) (reader_of port given left) out) (extension_in at inputs from)
    unfolding extend_run extension_in
    writes-extension from given left new_roster out =
        writes-then about shows-week some_tables (λ tables.
        writes-then about (shows-roster (told port at known from given left new_roster) names.Solution tables) some_roster (λ roster.
        writes-then about (shows-same about _ _ (λ fault of breaks. cc (of, breaks-about (problem_of tables) (set_of roster) fault breaks))) tt (λ _.
        writes-text out (extension_text (problem_of tables) (set_of roster)))))
