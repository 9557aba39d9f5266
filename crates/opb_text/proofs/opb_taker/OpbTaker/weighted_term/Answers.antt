use mir.Syntax.{w64}
use Rattle.std.proofs.Common.{◌≡◌, ℕ, List, [], ◌∷◌, ◌++◌, ℤ, pos, negsuc, ◌<ℤ◌, ◌≤ℤ◌, refl, ap, ◌∙◌, arith, append_assoc}
use Rattle.std.specs.Prelude.{codes, nat_abs}
use Rattle.std.proofs.lemmas.Int.{ints, to_z-of_z}
use Rattle.rota_core.specs.Numeral.{numeral}
use Rattle.opb_text.specs.ModelText.{coefficient_text, term_text}
use Rattle.text_sink.proofs.LogicWords.{puts_exit, puts_same, puts_stop, puts_then}
use Rattle.opb_text.proofs.opb_taker.OpbTaker.weighted_term.Given.{Over}
use Rattle.opb_text.proofs.opb_taker.OpbTaker.weighted_term.Goals.{After-unsigned_abs, then-coefficient-lt0, else-coefficient-lt0}
use Rattle.opb_text.proofs.opb_taker.OpbTaker.weighted_term.Goals as goal

minus : (z : ℤ) → z <ℤ pos 0 → coefficient_text z ≡ 45 ∷ numeral (nat_abs z)
minus (pos n) negative = absurd (omega (arith, ints))
minus (negsuc n) negative = refl

plus : (z : ℤ) → pos 0 ≤ℤ z → coefficient_text z ≡ 43 ∷ numeral (nat_abs z)
plus (pos n) positive = refl
plus (negsuc n) positive = absurd (omega (arith, ints))

-- the sign and the digits with the letter after them, and then the variable
parts : (g : Over) (c : After-unsigned_abs g) → term_text (c.args.coefficient, c.args.variable) ≡
    (c.if-coefficient-lt0.sign.now ++ numeral c.unsigned_abs.result ++ codes " x") ++ ([] ++ numeral c.args.variable ++ codes " ")
parts g c =
    let z = c.args.coefficient in
    let number_is : c.unsigned_abs.result ≡ nat_abs z =
    c.unsigned_abs.ensures.value ∙ ap nat_abs (to_z-of_z w64 z c.ranges.coefficient)
    in
    let digits = numeral c.unsigned_abs.result in
    let sign = c.if-coefficient-lt0.sign.now in
    let same : coefficient_text z ≡ sign ++ digits = elim c.if-coefficient-lt0.branch [
      | then-coefficient-lt0 w ↦ rw (w.sign-is, number_is) (minus z (omega (arith, ints)))
      | else-coefficient-lt0 w ↦ rw (w.sign-is, number_is) (plus z (omega (arith, ints)))
    ] in
    let variable = numeral c.args.variable in
    ap (λ (text : List ℕ). text ++ codes " x" ++ variable ++ codes " ") same
    ∙ append_assoc (sign ++ digits ++ codes " x") variable (codes " ")

pub returns-in_err-number_between-clause-takes : goal.returns-in_err-number_between-clause-takes
returns-in_err-number_between-clause-takes g c =
    puts_exit _ c.from_residual.ensures.0
    (puts_same (parts g (goal.at.returns-in_err-number_between-clause-takes g c).After-unsigned_abs)
    (puts_stop _ c.in_err-number_between.ensures.takes))

pub returns-clause-takes : goal.returns-clause-takes
returns-clause-takes g c =
    puts_same (parts g (goal.at.returns-clause-takes g c).After-unsigned_abs)
    (puts_then c.in_ok-number_between.ensures.takes (rw c.from.ensures at c.number_between-2.ensures.takes))
