-- The meaning of a parse of the command for the subcommand that it found.
use Rattle.std.proofs.Common.{◌≡◌, ◌∙◌, ◌⊎◌, inl, inr, ap, sym, refl, subst, cond, Bool, true, false, List, [], ◌∷◌, Bor}
use Rattle.std.proofs.Common.{Option, Some, None, option_map, IsSomeAnd, Result, IfOk, IfErr, IsErrAnd}
use Rattle.std.specs.List.{find}
use Rattle.std.proofs.lemmas.Result.{IfErr-weaker, IfOk-weaker}
use Rattle.clap.specs.Words.{App, HasKind, HasMatchesOf, Row, Shape, Text, built, fault_of, found_of, is_simple, is_simple_and_free}
use Rattle.clap.specs.Words.{rows_of, subcommand_of, subcommand_rows_of}
use Rattle.clap.specs.Matches.{subcommand_name_of}
use Rattle.clap.specs.Simple.{argument_words, entered, label_of, names_of, rows_at}
use Rattle.clap.specs.Walk.{answers_to, stop_after}
use Rattle.clap.specs.declared.error.Error.{Error}
use Rattle.clap.specs.declared.parser.matches.ArgMatches.{ArgMatches}
use Rattle.clap.specs.declared.parser.matches.ArgMatches.TheViews.{out-ArgMatches}
use Rattle.clap.proofs.OnLiterals.{clap_on_literals}
use Rattle.inrc2pb_program.specs.CommandLine.{inrc2pb_app}
use Rattle.inrc2pb_frame.specs.Options.{options_of}
use Rattle.inrc2pb_program.specs.Jobs.{IsJobOf, IsSubcommand, LacksPath, Matched}
use Rattle.inrc2pb_program.specs.declared.job.Job.{Job}
use Rattle.inrc2pb_frame.specs.ErrorStops.{IsStopOf}
use Rattle.inrc2pb_frame.specs.Runs.{IsJobFor, IsStopFor}
use Rattle.inrc2pb_frame.specs.Stops.{IsForMemoryOr}
use Rattle.inrc2pb_frame.specs.declared.stop.Stop.{Stop}
use Rattle.inrc2pb_program.specs.Programs.{inrc2pb}
use Rattle.inrc2pb_frame.proofs.Refusals.{IsForMemoryOr-weaker, no_fault, refused, stop_without_fault}

-- ---- the command

pub is_simple-inrc2pb : is_simple inrc2pb_app ≡ true
unfolding clap_on_literals
is_simple-inrc2pb = refl

is_simple_and_free-inrc2pb : is_simple_and_free inrc2pb_app ≡ true
unfolding clap_on_literals
is_simple_and_free-inrc2pb = refl

-- ---- the subcommand is one of the command's

abbrev pub IsNamedIn : List Shape → Text → Type 0
IsNamedIn [] name = ⊥
IsNamedIn (s ∷ rest) name = (name ≡ s.name) ⊎ IsNamedIn rest name

found_named : (test : Shape → Bool) (subs : List Shape) (s : Shape) → find test subs ≡ Some s → IsNamedIn subs s.name
found_named test [] s e = absurd (cc)
found_named test (x ∷ rest) s e = go (test x) e (found_named test rest s)
  where
    go : (b : Bool) → cond b (Some x) (find test rest) ≡ Some s → (find test rest ≡ Some s → IsNamedIn rest s.name) → IsNamedIn (x ∷ rest) s.name
    go true is later = inl (let same : x ≡ s = cc in ap (λ (y : Shape). y.name) (sym same))
    go false is later = inr (later is)

entered_named : (a : App) (stop : Option (Text × List Text)) (p : Matched) → entered a stop ≡ Some p → IsNamedIn a.subs p.0
entered_named a None p e = absurd (cc)
entered_named a (Some q) p e = go (find (λ s. answers_to q.0 (label_of s)) a.subs) refl e
  where
    go : (o : Option Shape) → find (λ s. answers_to q.0 (label_of s)) a.subs ≡ o → option_map (λ s. rows_at s q.1) o ≡ Some p → IsNamedIn a.subs p.0
    go None found is = absurd (cc)
    go (Some s) found is =
        let same : rows_at s q.1 ≡ p = cc in
        subst (IsNamedIn a.subs) (ap (λ (m : Matched). m.0) same) (found_named (λ s. answers_to q.0 (label_of s)) a.subs s found)

pub named_of : (a : App) (words : List Text) (p : Matched) → subcommand_of a words ≡ Some p → IsNamedIn (built a).subs p.0
named_of a words p e = entered_named (built a) (stop_after (built a).top.rules (names_of (built a)) (argument_words a words)) p e

-- ---- the subcommand that the caller reads

module _ {A B : Type 0} (f : A → Text) (g : A → List Row) (h : B → Matched) where
  paired : (o : Option A) (q : Option B) → option_map f o ≡ option_map (λ b. (h b).0) q →
      option_map g o ≡ option_map (λ p. p.1) (option_map h q) → option_map (λ a. (f a, g a)) o ≡ option_map h q
  paired None None e k = refl
  paired None (Some b) e k = absurd (cc)
  paired (Some a) None e k = absurd (cc)
  paired (Some a) (Some b) e k =
      let name : f a ≡ (h b).0 = cc in
      let rows : g a ≡ (h b).1 = cc in
      ap Some (λ i. (name i, rows i))

-- the caller's view of a subcommand: its name and its matches
abbrev pub Used : Type 0
Used = Bor Text × Bor ArgMatches

-- the name and the options, without references
abbrev pub matched_at : Used → Matched
matched_at p = (p.0.now, options_of p.1.now)

-- `subcommand` returns the subcommand that the words name
pub subcommand_read : (a : App) (words : List Text) (m : ArgMatches) (o : Option Used) (p : Used) → a ≡ inrc2pb_app
    → HasMatchesOf a words m → option_map (λ p. p.0.now) o ≡ subcommand_name_of m
    → option_map (λ p. rows_of (found_of p.1.now)) o ≡ option_map (λ p. p.1) (subcommand_rows_of m) → o ≡ Some p
    → subcommand_of inrc2pb_app words ≡ Some (matched_at p)
subcommand_read a words m o p is has name rows some =
    let read = paired (λ p. p.0.now) (λ p. rows_of (found_of p.1.now)) _ o (out-ArgMatches m).subcommand name rows in
    let named = (has (ap is_simple is ∙ is_simple-inrc2pb)).1 ∙ ap (λ x. subcommand_of x words) is in
    sym (read ∙ named) ∙ ap (option_map matched_at) some

-- ---- the meaning of the results of the job's functions, for the words

pub ok_for : (words : List Text) (p : Matched) (r : Result Job Stop) → fault_of inrc2pb_app words ≡ [] → subcommand_of inrc2pb_app words ≡ Some p
    → IfOk r (IsJobOf p) → IfOk r (IsJobFor inrc2pb words)
ok_for words p r none is = IfOk-weaker r _ _ (λ j h. record {
  taken = none;
  spelled = subst (λ x. IsSomeAnd x (λ matched. IsJobOf matched j)) (sym is) h;
})

pub err_for : (words : List Text) (p : Matched) (r : Result Job Stop) → fault_of inrc2pb_app words ≡ [] → subcommand_of inrc2pb_app words ≡ Some p
    → IfErr r (IsForMemoryOr (LacksPath p)) → IfErr r (IsStopFor inrc2pb words)
err_for words p r none is = IfErr-weaker r _ _ (λ stop h.
    stop_without_fault inrc2pb_app _ words stop none (IsForMemoryOr-weaker _ _ stop (λ lacks. subst (λ x. IsSomeAnd x LacksPath) (sym is) lacks) h))

-- words that are parsed have no fault
pub fault_free : (a : App) (words : List Text) → a ≡ inrc2pb_app → (is_simple_and_free a ≡ true → fault_of a words ≡ []) →
    fault_of inrc2pb_app words ≡ []
fault_free a words is none = no_fault inrc2pb_app a words is is_simple_and_free-inrc2pb none

pub subcommand_named : (words : List Text) (p : Matched) → subcommand_of inrc2pb_app words ≡ Some p → IsSubcommand p.0
subcommand_named words p e = elim (named_of inrc2pb_app words p e) [
  | inl h ↦ inl h
  | inr rest ↦ elim rest [
    | inl h ↦ inr (inl h)
    | inr last ↦ elim last [ inl h ↦ inr (inr h) | inr none ↦ absurd none ]
  ]
]

pub words_refused : (a : App) (words : List Text) (e : Error) (r : Result Job Stop) → a ≡ inrc2pb_app
    → (is_simple_and_free a ≡ true → HasKind (fault_of a words) e) → IsErrAnd r (IsStopOf e) → IfErr r (IsStopFor inrc2pb words)
words_refused a words e r is kinds stops = refused inrc2pb_app _ a words e r is is_simple_and_free-inrc2pb kinds stops
