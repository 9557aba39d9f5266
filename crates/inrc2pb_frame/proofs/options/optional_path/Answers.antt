use Rattle.std.proofs.Common.{◌≡◌, ◌∙◌, ℕ, List, Bor, Some, None, ap, sym, option_map}
use Rattle.clap.specs.Words.{first_value, found_of}
use Rattle.clap.proofs.WalkLemmas.{first_value-rows}
use Rattle.inrc2pb_frame.proofs.options.optional_path.Goals as goal

pub returns-in_ok-from_str-in-Some : goal.returns-in_ok-from_str-in-Some
returns-in_ok-from_str-in-Some c =
    let f = found_of c.args.options.now in
    let given : first_value f c.args.id.now ≡ Some c.in-Some.path.now =
    sym c.get_str.ensures ∙ ap (option_map (λ (s : Bor (List ℕ)). s.now)) c.in-Some.is in
    sym (first_value-rows f c.args.id.now) ∙ given ∙ ap Some (sym c.in_ok-from_str-in-Some.ensures.ok)

pub returns-in-None : goal.returns-in-None
returns-in-None c =
    let f = found_of c.args.options.now in
    let given : first_value f c.args.id.now ≡ None = sym c.get_str.ensures ∙ ap (option_map (λ (s : Bor (List ℕ)). s.now)) c.in-None.is in
    sym (first_value-rows f c.args.id.now) ∙ given
