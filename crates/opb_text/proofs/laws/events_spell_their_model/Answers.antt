use Rattle.opb_text.proofs.RowTexts as rows
use Rattle.opb_text.proofs.laws.events_spell_their_model.Goals as goal

pub returns : goal.returns
returns c = rows.events_spell_their_model
