use Rattle.std.proofs.Common.{rules, tests, arith, ◌≡◌, sym, ◌∙◌}
use Rattle.std.specs.List.{prefix_len}
use Rattle.std.proofs.lemmas.Iterator.{YieldsList-from_slice}
use Rattle.std.proofs.lemmas.Iterator.Consumers.{count_from_yields_List}
use Rattle.std.proofs.lemmas.Iterator.Search.{YieldsList-from_take_while}
use Rattle.std.proofs.lemmas.List.Folds.{length-prefix_len}
use Rattle.rota_core.specs.Words.{is_word_byte}
use Rattle.rota_layout.proofs.TokenLemmas.{sign_first, word_first}
use Rattle.rota_layout.proofs.cursor.token_len.Goals as goal

pub returns-then-is_sign-clause-token : goal.returns-then-is_sign-clause-token
returns-then-is_sign-clause-token c = sign_first c.args.bytes.now c.requires.some c.requires.first (sym c.if-is_sign.ensures)

pub returns-else-is_sign-clause-token : goal.returns-else-is_sign-clause-token
returns-else-is_sign-clause-token c =
    let bytes = c.args.bytes.now in
    let front : c.count.result ≡ prefix_len is_word_byte bytes =
    count_from_yields_List c.take_while.result _ c.count.ensures.ran
    (YieldsList-from_take_while _ is_word_byte (YieldsList-from_slice bytes cc)
    c.take_while.ensures.closure c.take_while.ensures.done (λ x b q k. (search (rules, tests), grind (arith, tests, k))))
    ∙ length-prefix_len is_word_byte bytes in
    rw front (word_first bytes c.requires.some c.requires.first (sym c.if-is_sign.ensures))
