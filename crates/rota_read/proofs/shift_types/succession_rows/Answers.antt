use Rattle.std.proofs.Common.{rules, ◌≡◌, ◌++◌, None, Ok, length, replicate, take, drop, ap, sym, ◌∙◌}
use Rattle.std.proofs.lemmas.List.{length-map}
use Rattle.std.proofs.Math.Seq.{take-append_seam}
use Rattle.rota_core.specs.Parts.{bytes_of}
use Rattle.rota_read.specs.SharedSlots.{value_of_each}
use Rattle.rota_read.specs.ScenarioRows.{successions_of}
use Rattle.rota_read.proofs.shift_types.succession_rows.Goals as goal

pub returns : goal.returns
unfolding value_of_each
returns c =
    let count : length (bytes_of c.args.names.now) ≡ c.len.result =
    length-map c.args.names.now.keys (λ name. name.items) ∙ sym c.len.ensures.len in
    let none : successions_of c.in_ok-rows.rows.items ≡ replicate c.len.result None = c.in_ok-rows.ensures.none in
    let read = rw (c.deref_mut.ensures.value, none, c.in_ok-rows.ensures.length) at c.in_ok-rows_of_shifts.ensures in
    let rows = c.rows_of_shifts.new.rows in
    let rest = drop (length rows) c.in_ok-rows.rows.items in
    let len : c.in_ok-rows.rows.len ≡ length rows = search rules in
    let back = ap (λ n. take n (rows ++ rest)) len ∙ take-append_seam rows rest in
    rw count (read ∙ ap (λ rows. Ok (successions_of rows, c.rows_of_shifts.new.cursor)) (sym back))
