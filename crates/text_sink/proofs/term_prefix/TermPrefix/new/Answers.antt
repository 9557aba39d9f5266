use Rattle.std.proofs.Common.{refl, ◌∷◌, List, ℕ, sym, ap, arith}
use Rattle.std.proofs.lemmas.Fmt.{decimal_digit}
use Rattle.text_sink.proofs.term_prefix.TermPrefix.new.Goals as goal

pub invariant_of-result : goal.invariant_of-result
invariant_of-result c = record {
  some = omega arith;
  whole = refl;
  fits = omega arith;
  spells = ap (λ (ds : List ℕ). 49 ∷ 32 ∷ 120 ∷ ds) (sym (decimal_digit 1 (omega arith)));
}
