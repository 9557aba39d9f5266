use Rattle.std.proofs.Common.{refl, sym, ap, ◌∙◌}
use Rattle.rota_layout.specs.Reading.{Reading}
use Rattle.rota_layout.proofs.TokenLemmas.{no_tokens}
use Rattle.rota_layout.proofs.cursor.Cursor.next.Goals as goal

pub returns-then-is_empty : goal.returns-then-is_empty
returns-then-is_empty c = (
  sym (c.skip_blanks-line.ensures.tokens ∙ ap (λ (r : Reading). r.rest) c.self.view_is)
      ∙ no_tokens c.skip_blanks-line.result.1 c.skip_blanks-line.result.0.now c.if-is_empty.ensures,
  refl,
)
