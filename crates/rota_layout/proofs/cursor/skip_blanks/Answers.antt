use Rattle.std.proofs.Common.{rules, tests, ◌≡◌, ◌==◌, ◌∙◌}
use Rattle.std.specs.List.{prefix_len, count_by}
use Rattle.std.proofs.lemmas.Iterator.{YieldsList-from_slice}
use Rattle.std.proofs.lemmas.Iterator.Consumers.{count_from_yields_List, YieldsList-from_filter}
use Rattle.std.proofs.lemmas.Iterator.Search.{YieldsList-from_take_while}
use Rattle.std.proofs.lemmas.List.Folds.{length-prefix_len}
use Rattle.std.proofs.lemmas.List.Sums.{length-filter}
use Rattle.rota_core.specs.Words.{is_whitespace}
use Rattle.rota_layout.proofs.TokenLemmas.{tokens_from-blanks}
use Rattle.rota_layout.proofs.cursor.skip_blanks.Goals as goal

pub returns-clause-tokens : goal.returns-clause-tokens
returns-clause-tokens c =
    let bytes = c.args.bytes.now in
    let front = c.split_at.result.0.now in
    let blanks : c.count-blank_count.result ≡ prefix_len is_whitespace bytes =
    count_from_yields_List c.take_while.result _ c.count-blank_count.ensures.ran (YieldsList-from_take_while _ is_whitespace
    (YieldsList-from_slice bytes cc) c.take_while.ensures.closure c.take_while.ensures.done (λ x b q k. search (rules, tests)))
    ∙ length-prefix_len is_whitespace bytes in
    let feeds : c.count-line_feeds.result ≡ count_by (λ b. b == 10) front =
    count_from_yields_List c.filter.result _ c.count-line_feeds.ensures.ran (YieldsList-from_filter _ (λ b. b == 10)
    (YieldsList-from_slice front cc) c.filter.ensures.closure (λ x b q k. search (rules, tests)))
    ∙ length-filter (λ b. b == 10) front in
    rw (feeds, c.split_at.ensures.front, c.split_at.ensures.back, blanks) (tokens_from-blanks c.args.line bytes)
