-- The effect of one building step on a command that is an app.
use Rattle.std.proofs.Common.{◌≡◌, ◌∙◌, false, ap, ap₂, Result, IfOk}
use Rattle.std.specs.Prelude.{◌||◌}
use Rattle.std.proofs.lemmas.Result.{IfOk-weaker}
use Rattle.clap.specs.Words.{AddsArg, AddsSubcommand, App, Rule, rule_of, with_rule, with_subcommand}
use Rattle.clap.specs.declared.builder.arg.Arg.{Arg}
use Rattle.clap.specs.declared.builder.command.Command.{Command}
use Rattle.inrc2pb_frame.specs.Arguments.{IsCommandOf}

pub adds_arg : (a : App) (r : Rule) (old : Command) (x : Arg) (new : Command) → IsCommandOf a old → rule_of x ≡ r → x.global ≡ false
    → AddsArg old x new → IsCommandOf (with_rule a r) new
adds_arg a r old x new is rule local adds =
    (adds.shape local ∙ ap₂ with_rule is.0 rule, adds.globals ∙ ap₂ (λ p q. p || q) is.1 local)

pub adds_subcommand : (a b : App) (old sub new : Command) → IsCommandOf a old → IsCommandOf b sub → AddsSubcommand old sub new
    → IsCommandOf (with_subcommand a b.top) new
adds_subcommand a b old sub new is is_sub adds = (
  adds.shape is_sub.1 ∙ ap₂ with_subcommand is.0 (ap (λ (x : App). x.top) is_sub.0),
  adds.globals ∙ ap₂ (λ p q. p || q) is.1 is_sub.1,
)

-- the last step of a chain
pub ends_with_arg : {E : Type 0} (a : App) (r : Rule) (old : Command) (x : Arg) (new : Result Command E) → IsCommandOf a old → rule_of x ≡ r
    → x.global ≡ false → IfOk new (AddsArg old x) → IfOk new (IsCommandOf (with_rule a r))
ends_with_arg a r old x new is rule local =
    IfOk-weaker new (AddsArg old x) (IsCommandOf (with_rule a r)) (λ c adds. adds_arg a r old x c is rule local adds)

pub ends_with_subcommand : {E : Type 0} (a b : App) (old sub : Command) (new : Result Command E) → IsCommandOf a old → IsCommandOf b sub
    → IfOk new (AddsSubcommand old sub) → IfOk new (IsCommandOf (with_subcommand a b.top))
ends_with_subcommand a b old sub new is is_sub =
    IfOk-weaker new (AddsSubcommand old sub) (IsCommandOf (with_subcommand a b.top)) (λ c adds. adds_subcommand a b old sub c is is_sub adds)
