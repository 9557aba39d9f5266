use Rattle.std.proofs.Common.{◌≡◌, ◌∙◌, List, Option, [], ap, map, option_map, sym, unwrap_or}
use Rattle.clap.specs.Words.{Text, all_of, found_of, rows_of}
use Rattle.clap.proofs.WalkLemmas.{raw_values-rows}
use Rattle.inrc2pb_bound_program.proofs.command_line.given.Goals as goal

pub returns : goal.returns
returns c =
    let f = found_of c.args.options.now in
    let read : option_map (λ s. map (λ v. v.now) s.now) c.get_strs.result ≡ all_of c.args.id.now (rows_of f) =
    c.get_strs.ensures ∙ raw_values-rows f c.args.id.now in
    ap (λ (o : Option (List Text)). unwrap_or o [])
    (ap (option_map (λ s. map (λ v. v.now) s.now)) (sym c.in-Some.is) ∙ read)

pub returns-in_default : goal.returns-in_default
returns-in_default c =
    let f = found_of c.args.options.now in
    let read : option_map (λ s. map (λ v. v.now) s.now) c.get_strs.result ≡ all_of c.args.id.now (rows_of f) =
    c.get_strs.ensures ∙ raw_values-rows f c.args.id.now in
    ap (λ (o : Option (List Text)). unwrap_or o [])
    (ap (option_map (λ s. map (λ v. v.now) s.now)) (sym c.in_default.is) ∙ read)
