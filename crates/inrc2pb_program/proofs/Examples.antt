-- Words that the command accepts, and their results.
use Rattle.std.proofs.Common.{◌≡◌, List, [], ◌∷◌, Some, None, true, codes, refl, option_map, Option}
use Rattle.clap.specs.Words.{Text, first_of, one_of, subcommand_of, takes}
use Rattle.clap.proofs.OnLiterals.{clap_on_literals}
use Rattle.inrc2pb_program.specs.CommandLine.{inrc2pb_app}
use Rattle.inrc2pb_program.specs.Jobs.{Matched}

abbrev words : List Text
words = codes "inrc2pb" ∷ codes "encode" ∷ codes "--sce" ∷ codes "s" ∷ codes "--his=h" ∷ codes "--week" ∷ codes "w" ∷ codes "--opb" ∷ codes "o" ∷ []

pub taken : takes inrc2pb_app words ≡ true
unfolding clap_on_literals
taken = refl

abbrev sce_in : Option Matched → Option (Text × Option Text)
sce_in = option_map (λ m. (m.0, first_of (codes "sce") m.1))

pub sce_given : sce_in (subcommand_of inrc2pb_app words) ≡ Some (codes "encode", Some (codes "s"))
unfolding clap_on_literals
sce_given = refl

abbrev early_words : List Text
early_words =
    codes "inrc2pb" ∷ codes "extend" ∷ codes "--early" ∷ codes "--sce=s" ∷ codes "--his=h" ∷ codes "--week=w"
    ∷ codes "--fix" ∷ codes "f" ∷ codes "--from=r" ∷ []

pub taken_early : takes inrc2pb_app early_words ≡ true
unfolding clap_on_literals
taken_early = refl

abbrev asked_in : Option Matched → Option (Option Text × Option Text)
asked_in = option_map (λ m. (one_of (codes "early") m.1, first_of (codes "fix") m.1))

pub early_given : asked_in (subcommand_of inrc2pb_app early_words) ≡ Some (Some (codes "true"), Some (codes "f"))
unfolding clap_on_literals
early_given = refl

pub early_not_given : asked_in (subcommand_of inrc2pb_app words) ≡ Some (Some (codes "false"), None)
unfolding clap_on_literals
early_not_given = refl
