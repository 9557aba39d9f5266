use Rattle.rota_items.proofs.Common.{◌≡◌, ◌∙◌, ◌+◌, sym, arith, rules, problem_of, runs_of, ItemNumbers, sum_within}
use Rattle.rota_items.proofs.ItemCounting.{counted-runs}
use Rattle.rota_items.proofs.counting.item_counts.ItemCountsRunTaker.runs.Goals as goal

pub returns : goal.returns
returns c =
    let problem = problem_of c.args._instance.now in
    let runs = c.args.runs in
    let now : ItemNumbers = record { items = c.args.self.now.items; slacks = c.args.self.now.slacks } in
    let n = c.windows_of.result + c.patterns_of.result in
    let items_are : c.saturating_add-self.result ≡ sum_within now.items n = search rules in
    let slacks_are : c.saturating_add-self-2.result ≡ sum_within now.slacks n = search rules in
    record {
      value_is = (λ i. record { items = items_are i; slacks = slacks_are i }) ∙
          sym (counted-runs problem (runs_of problem runs) now n (record { items = search rules; slacks = search rules })
          (omega (arith, c.windows_of.ensures, c.patterns_of.ensures)));
    }
