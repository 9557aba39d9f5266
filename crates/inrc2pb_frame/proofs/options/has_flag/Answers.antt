use Rattle.std.proofs.Common.{◌∙◌}
use Rattle.clap.specs.Words.{found_of}
use Rattle.clap.proofs.WalkLemmas.{one_text-rows}
use Rattle.inrc2pb_frame.proofs.options.has_flag.Goals as goal

pub returns : goal.returns
returns c =
    let text = one_text-rows (found_of c.args.options.now) c.args.id.now in
    record {
      set = λ is. c.get_flag.ensures.value (text ∙ is);
      unset = λ is. c.get_flag.ensures.other (text ∙ is);
      absent = λ is. c.get_flag.ensures.none (text ∙ is);
    }
