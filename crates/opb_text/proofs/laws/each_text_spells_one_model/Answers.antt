use Rattle.opb_text.proofs.OneModel as one
use Rattle.opb_text.proofs.laws.each_text_spells_one_model.Goals as goal

pub returns : goal.returns
returns c = one.each_text_spells_one_model c.numerals_read_back.ensures
