use Rattle.rota_judge.proofs.ExtensionTruths.{truths-count, truths-roster, truths-values}
use Rattle.rota_judge.proofs.laws.extension_laws.extension_truths_are_those_of_the_variables.Goals as goal

pub returns-clause-count : goal.returns-clause-count
returns-clause-count c = truths-count

pub returns-clause-values : goal.returns-clause-values
returns-clause-values c = truths-values

pub returns-clause-same_roster : goal.returns-clause-same_roster
returns-clause-same_roster c = truths-roster
