-- The text that a taker over a sink writes when it takes an event, or a list of events.
use Rattle.std.proofs.Common.{◌≡◌, ℕ, Bool, true, false, refl, sym, ap, ◌∙◌, subst, append_assoc}
use Rattle.std.proofs.Common.{List, [], ◌∷◌, ◌++◌, Option, None, Some, Result, Ok, Err}
use Rattle.std.specs.Prelude.{if◌then◌else◌, MatchResult, OnOk}
use Rattle.std.specs.List.{fold}
use Rattle.std.specs.Io.KnownBytes.{append_known}
use Rattle.byte_ports.specs.Ports.{KnownBytes, Begins}
use Rattle.byte_ports.specs.declared.ports.PortFault.{PortFault}
use Rattle.byte_ports.specs.declared.ports.Target.{Ghosts}
use Rattle.rota_items.specs.Takes.{RefusedOne, TookAll, TakesAll}
use Rattle.text_sink.specs.Sink.{PutsText, bytes_put, sent_by, sink_failed, target_of}
use Rattle.opb_text.specs.SinkTaker.{EventTexts, FailedAt, SinkState, joined_texts, with_event, sink_state}
use Rattle.text_sink.specs.declared.sink.Sink.{Sink}
use Rattle.text_sink.proofs.LogicWords.{Begins-longer, append_known-append, append_known-nil, or_false, or_true}

-- the target that a failed sink left
left_there : {W : Type 0} (failed : Bool) (target old : W) → failed ≡ true →
    (if failed then Some target else None) ≡ Some old → target ≡ old
left_there true target old failed same = cc
left_there false target old failed same = cc

-- a sink that had failed left its target unchanged
left_before : {W : Type 0} (failed : Bool) (now earlier before : W) → (failed ≡ true → now ≡ earlier) →
    ◌≡◌ {A = Option W} (if failed then Some earlier else None) (Some before) → now ≡ before
left_before true now earlier before silent left = let h : now ≡ earlier = silent refl in cc
left_before false now earlier before silent left = cc

-- a sink that had not failed left nothing, and a sink that had failed is unchanged
same_left : {W : Type 0} (failed failed_before : Bool) (now before : W) → failed ≡ failed_before → (failed_before ≡ true → now ≡ before) →
    ◌≡◌ {A = Option W} (if failed then Some now else None) (if failed_before then Some before else None)
same_left true true now before same silent = ap Some (silent refl)
same_left false false now before same silent = refl
same_left true false now before same silent = cc
same_left false true now before same silent = cc

pub same_state : {W Kept : Type 0} (t u : ℕ) (x y b c : KnownBytes) (p q : Kept) (f g h i : Bool) (l m : Option W) →
    t ≡ u → x ≡ y → b ≡ c → p ≡ q → f ≡ g → h ≡ i → l ≡ m →
    ◌≡◌ {A = SinkState W Kept}
    (record { target_name = t; sent_before = x; bytes = b; kept = p; has_failed = f; target_has_failed = h; left_target = l })
    (record { target_name = u; sent_before = y; bytes = c; kept = q; has_failed = g; target_has_failed = i; left_target = m })
same_state t u x y b c p q f g h i l m one two three four five six seven = cc

module _ {E Kept : Type 0} (texts : EventTexts E Kept) where
  -- the text of events and of the events after them
  pub joined_texts-append : (kept : Kept) (before after : List E) →
      joined_texts texts kept (before ++ after) ≡ joined_texts texts kept before ++ joined_texts texts (fold texts.after kept before) after
  joined_texts-append kept [] after = refl
  joined_texts-append kept (event ∷ before) after =
      ap (λ (text : List ℕ). texts.text kept event ++ text) (joined_texts-append (texts.after kept event) before after) ∙
      sym (append_assoc (texts.text kept event) (joined_texts texts (texts.after kept event) before) _)

  -- the text of all the events follows
  abbrev with_events : {W : Type 0} → SinkState W Kept → List E → SinkState W Kept
  with_events before events = record before {
    bytes = append_known before.bytes (joined_texts texts before.kept events);
    kept = fold texts.after before.kept events;
  }

  fold-with_event : {W : Type 0} (before : SinkState W Kept) (events : List E) → fold (with_event texts) before events ≡ with_events before events
  fold-with_event before [] = ap (λ (known : KnownBytes). record before { bytes = known }) (sym (append_known-nil before.bytes))
  fold-with_event before (event ∷ events) =
      fold-with_event (with_event texts before event) events ∙
      ap (λ (known : KnownBytes). record before { bytes = known; kept = fold texts.after (texts.after before.kept event) events })
      (append_known-append before.bytes (texts.text before.kept event) (joined_texts texts (texts.after before.kept event) events))

  module _ {W : Type 0} {target : Ghosts W} where
    -- an event whose text was written, or not
    pub event_put : {old new : Sink W target} (kept next : Kept) (event : E) (r : Result (Unit {0}) PortFault) →
        PutsText old r (texts.text kept event) new → OnOk r (next ≡ texts.after kept event) →
        MatchResult r (λ _. sink_state new next ≡ with_event texts (sink_state old kept) event)
        (λ _. FailedAt texts (sink_state old kept) event new)
    event_put {old} {new} kept next event (Ok u) takes same =
        let failed : sink_failed new ≡ sink_failed old = takes.failure ∙ or_false _ in
        same_state _ _ _ _ _ _ _ _ _ _ _ _ _ _ takes.same_target takes.same_before takes.bytes same failed (takes.target_failure ∙ or_false _)
        (same_left (sink_failed new) (sink_failed old) (target_of new) (target_of old) failed takes.silent)
    event_put {old} {new} kept next event (Err fault) takes same = record {
      same_target = takes.same_target;
      same_before = takes.same_before;
      failed = takes.failure ∙ or_true _;
      target_failed = takes.target_failure ∙ or_true _;
      begins = takes.bytes;
      silent = λ before left. left_before (sink_failed old) (target_of new) (target_of old) before takes.silent left;
    }

module _ {Self W E Kept : Type 0} {target : Ghosts W} (sink_of : Self → Sink W target) (kept_of : Self → Kept) (texts : EventTexts E Kept) where
  abbrev state : Self → SinkState W Kept
  state taker = sink_state (sink_of taker) (kept_of taker)

  abbrev refusal : SinkState W Kept → E → Self → Type 0
  refusal before event taker = FailedAt texts before event (sink_of taker)

  -- the abstract value of a taker whose sink failed before
  failed_before : (taker : Self) → sink_failed (sink_of taker) ≡ true → (state taker).left_target ≡ Some (target_of (sink_of taker))
  failed_before taker failed = ap (λ (b : Bool). if b then Some (target_of (sink_of taker)) else None) failed

  took_is : {old new : Self} (events : List E) → TookAll state (with_event texts) refusal events old new →
      state new ≡ with_events texts (state old) events
  took_is {old} events took = took.value_is ∙ fold-with_event texts (state old) events

  -- the state that is kept after events that were taken
  pub took_events_keep : {old new : Self} (events : List E) → TookAll state (with_event texts) refusal events old new →
      kept_of new ≡ fold texts.after (kept_of old) events
  took_events_keep events took = ap (λ (w : SinkState W Kept). w.kept) (took_is events took)

  -- events that were taken write their text
  pub took_events_put_text : {old new : Self} {u : Unit {0}} (events : List E) →
      TookAll state (with_event texts) refusal events old new →
      PutsText (sink_of old) (Ok u) (joined_texts texts (kept_of old) events) (sink_of new)
  took_events_put_text {old} {new} events took =
      let is : state new ≡ with_events texts (state old) events = took_is events took in
      let failed_is : sink_failed (sink_of new) ≡ sink_failed (sink_of old) = ap (λ (w : SinkState W Kept). w.has_failed) is in
      let left_is : (state new).left_target ≡ (state old).left_target = ap (λ (w : SinkState W Kept). w.left_target) is in
      record {
        same_target = ap (λ (w : SinkState W Kept). w.target_name) is;
        same_before = ap (λ (w : SinkState W Kept). w.sent_before) is;
        failure = failed_is ∙ sym (or_false (sink_failed (sink_of old)));
        target_failure = ap (λ (w : SinkState W Kept). w.target_has_failed) is ∙ sym (or_false (target.has_failed (target_of (sink_of old))));
        silent = λ failed.
            left_there (sink_failed (sink_of new)) (target_of (sink_of new)) (target_of (sink_of old)) (failed_is ∙ failed)
            (left_is ∙ failed_before old failed);
        bytes = ap (λ (w : SinkState W Kept). w.bytes) is;
      }

  -- a refusal leaves a failed sink, and the bytes that were sent are a prefix of the text of the events
  pub refused_events_begin_text : {old new : Self} {fault : PortFault} (events : List E) →
      RefusedOne state (with_event texts) refusal events old new →
      PutsText (sink_of old) (Err fault) (joined_texts texts (kept_of old) events) (sink_of new)
  refused_events_begin_text {old} {new} events refused =
      let kept = kept_of old in
      let middle = fold texts.after kept refused.taken in
      let before = with_events texts (state old) refused.taken in
      let leaves : FailedAt texts before refused.event (sink_of new) =
      subst (λ (w : SinkState W Kept). FailedAt texts w refused.event (sink_of new))
      (fold-with_event texts (state old) refused.taken) refused.leaves in
      let front = joined_texts texts kept refused.taken in
      let text = texts.text middle refused.event in
      let rest = joined_texts texts (texts.after middle refused.event) refused.rest in
      let sent = sent_by (sink_of new) in
      let known = bytes_put (sink_of old) in
      let begins : Begins sent (append_known known (front ++ (text ++ rest))) =
      subst (λ (whole : List ℕ). Begins sent (append_known known whole)) (append_assoc front text rest)
      (Begins-longer sent known (front ++ text) rest
      (subst (λ (whole : KnownBytes). Begins sent whole) (append_known-append known front text) leaves.begins)) in
      let joined : joined_texts texts kept events ≡ front ++ (text ++ rest) =
      ap (joined_texts texts kept) refused.are ∙ joined_texts-append texts kept refused.taken (refused.event ∷ refused.rest) in
      record {
        same_target = leaves.same_target;
        same_before = leaves.same_before;
        failure = leaves.failed ∙ sym (or_true (sink_failed (sink_of old)));
        target_failure = leaves.target_failed ∙ sym (or_true (target.has_failed (target_of (sink_of old))));
        silent = λ failed. leaves.silent (target_of (sink_of old)) (failed_before old failed);
        bytes = subst (λ (whole : List ℕ). Begins sent (append_known known whole)) (sym joined) begins;
      }

  -- the events that a taker took went into its sink like a text
  pub events_put_text : (old new : Self) (events : List E) (r : Result (Unit {0}) PortFault) →
      TakesAll state (with_event texts) refusal events old new r →
      PutsText (sink_of old) r (joined_texts texts (kept_of old) events) (sink_of new)
  events_put_text old new events (Ok u) took = took_events_put_text events took
  events_put_text old new events (Err fault) refused = refused_events_begin_text events refused
