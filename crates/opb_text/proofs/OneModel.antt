-- A text spells only one model.
use Rattle.std.proofs.Common.{◌≡◌, ℕ, suc, ◌<◌, ◌≤◌, ℤ, pos, negsuc, refl, sym, ap, ◌∙◌, arith, append_assoc, length-append}
use Rattle.std.proofs.Common.{List, [], ◌∷◌, ◌++◌, length}
use Rattle.std.specs.Prelude.{codes}
use Rattle.std.proofs.lemmas.List.{append_cancel_left}
use Rattle.std.specs.List.{flat_map}
use Rattle.rota_core.specs.Numeral.{numeral, signed_numeral}
use Rattle.rota_core.specs.Decimal.{decimal}
use Rattle.opb_text.specs.ModelText.{coefficient_text, term_text, terms_text, constraint_line, objective_line, first_line, opb_text}
use Rattle.opb_text.specs.OneModel.{EachTextSpellsOneModel}
use Rattle.rota_items.specs.Linear.{Term, Constraint, Model}
use Rattle.rota_core.specs.NumeralLaws.{AreDigits, ReadsBack}

-- the byte is not a digit
abbrev IsOther : ℕ → Type 0
IsOther b = 48 ≤ b → b < 58 → ⊥

uncons : (a b : ℕ) (xs ys : List ℕ) → a ∷ xs ≡ b ∷ ys → (a ≡ b) × (xs ≡ ys)
uncons a b xs ys e = (cc, cc)

-- the digits before a byte that is not a digit are determined by the text
split_digits : (xs ys r s : List ℕ) (c d : ℕ) → AreDigits xs → AreDigits ys → IsOther c → IsOther d →
    xs ++ (c ∷ r) ≡ ys ++ (d ∷ s) → (xs ≡ ys) × (c ∷ r ≡ d ∷ s)
split_digits [] [] r s c d p q o u e = (refl, e)
split_digits [] (y ∷ ys) r s c d p q o u e =
    let prefix : c ≡ y = cc in
    absurd (o (omega arith) (omega arith))
split_digits (x ∷ xs) [] r s c d p q o u e =
    let prefix : d ≡ x = cc in
    absurd (u (omega arith) (omega arith))
split_digits (x ∷ xs) (y ∷ ys) r s c d p q o u e =
    let tail : xs ++ (c ∷ r) ≡ ys ++ (d ∷ s) = cc in
    let prefix : x ≡ y = cc in
    let rest : (xs ≡ ys) × (c ∷ r ≡ d ∷ s) = split_digits xs ys r s c d p.2 q.2 o u tail in
    (cc, rest.1)

-- digits and then another byte do not begin with this byte
no_digits : (xs r s : List ℕ) (c d : ℕ) → AreDigits xs → IsOther d → (c ≡ d → ⊥) → xs ++ (c ∷ r) ≡ d ∷ s → ⊥
no_digits [] r s c d p u differ e = let prefix : c ≡ d = cc in differ prefix
no_digits (x ∷ xs) r s c d p u differ e = let prefix : x ≡ d = cc in u (omega arith) (omega arith)

-- the text after the blank that follows the coefficient of a term
abbrev variable_text : Term ℕ → List ℕ → List ℕ
variable_text t r = 120 ∷ (numeral t.1 ++ (32 ∷ r))

-- the text after the terms of a constraint and the first byte of its relation
abbrev degree_text : Constraint → List ℕ → List ℕ
degree_text k r = 61 ∷ 32 ∷ (signed_numeral k.degree ++ (32 ∷ 59 ∷ 10 ∷ r))

-- the text of an objective that has terms, starting with its word
abbrev minimum_text : List (Term ℕ) → List ℕ → List ℕ
minimum_text terms r = codes "min: " ++ (terms_text terms ++ (59 ∷ 10 ∷ r))

-- for numerals whose value is their number
module _ (reads_back : (n : ℕ) → ReadsBack n) where
  numeral_injective : (m n : ℕ) → numeral m ≡ numeral n → m ≡ n
  numeral_injective m n same = sym (reads_back m).number ∙ ap decimal same ∙ (reads_back n).number

  split_numeral : (a b : ℕ) (r s : List ℕ) (c d : ℕ) → IsOther c → IsOther d → numeral a ++ (c ∷ r) ≡ numeral b ++ (d ∷ s) →
      (a ≡ b) × (c ∷ r ≡ d ∷ s)
  split_numeral a b r s c d o u e =
      let parts : (numeral a ≡ numeral b) × (c ∷ r ≡ d ∷ s) =
      split_digits (numeral a) (numeral b) r s c d (reads_back a).digits (reads_back b).digits o u e in
      (numeral_injective a b parts.0, parts.1)

  split_signed : (a b : ℤ) (r s : List ℕ) (c : ℕ) → IsOther c → (c ≡ 45 → ⊥) →
      signed_numeral a ++ (c ∷ r) ≡ signed_numeral b ++ (c ∷ s) → (a ≡ b) × (r ≡ s)
  split_signed (pos a) (pos b) r s c o differ e =
      let parts : (a ≡ b) × (c ∷ r ≡ c ∷ s) = split_numeral a b r s c c o o e in
      (ap pos parts.0, cc)
  split_signed (pos a) (negsuc b) r s c o differ e =
      absurd (no_digits (numeral a) r _ c 45 (reads_back a).digits (λ low high. omega arith) differ e)
  split_signed (negsuc a) (pos b) r s c o differ e =
      absurd (no_digits (numeral b) s _ c 45 (reads_back b).digits (λ low high. omega arith) differ (sym e))
  split_signed (negsuc a) (negsuc b) r s c o differ e =
      let tail : numeral (suc a) ++ (c ∷ r) ≡ numeral (suc b) ++ (c ∷ s) = cc in
      let parts : (suc a ≡ suc b) × (c ∷ r ≡ c ∷ s) = split_numeral (suc a) (suc b) r s c c o o tail in
      let same : a ≡ b = omega arith in
      (ap negsuc same, cc)

  split_coefficient : (a b : ℤ) (r s : List ℕ) → coefficient_text a ++ (32 ∷ r) ≡ coefficient_text b ++ (32 ∷ s) →
      (a ≡ b) × (r ≡ s)
  split_coefficient (pos a) (pos b) r s e =
      let tail : numeral a ++ (32 ∷ r) ≡ numeral b ++ (32 ∷ s) = cc in
      split_signed (pos a) (pos b) r s 32 (λ low high. omega arith) (λ same. omega arith) tail
  split_coefficient (pos a) (negsuc b) r s e = absurd (let prefix : 43 ≡ 45 = (uncons 43 45 _ _ e).0 in omega arith)
  split_coefficient (negsuc a) (pos b) r s e = absurd (let prefix : 45 ≡ 43 = (uncons 45 43 _ _ e).0 in omega arith)
  split_coefficient (negsuc a) (negsuc b) r s e =
      split_signed (negsuc a) (negsuc b) r s 32 (λ low high. omega arith) (λ same. omega arith) e

  term_right : (t : Term ℕ) (r : List ℕ) → term_text t ++ r ≡ coefficient_text t.0 ++ (32 ∷ variable_text t r)
  term_right t r = simp append_assoc

  split_term : (t u : Term ℕ) (r s : List ℕ) → term_text t ++ r ≡ term_text u ++ s → (t ≡ u) × (r ≡ s)
  split_term t u r s e =
      let right : coefficient_text t.0 ++ (32 ∷ variable_text t r) ≡ coefficient_text u.0 ++ (32 ∷ variable_text u s) =
      sym (term_right t r) ∙ e ∙ term_right u s in
      let first : (t.0 ≡ u.0) × (variable_text t r ≡ variable_text u s) = split_coefficient t.0 u.0 _ _ right in
      let second : (t.1 ≡ u.1) × (32 ∷ r ≡ 32 ∷ s) =
      split_numeral t.1 u.1 r s 32 32 (λ low high. omega arith) (λ low high. omega arith) (uncons 120 120 _ _ first.1).1 in
      (ap (λ z. (z, t.1)) first.0 ∙ ap (λ v. (u.0, v)) second.0, (uncons 32 32 r s second.1).1)

  -- a term begins with a sign
  term_sign : (t : Term ℕ) (r s : List ℕ) (c : ℕ) → (c ≡ 43 → ⊥) → (c ≡ 45 → ⊥) → term_text t ++ r ≡ c ∷ s → ⊥
  term_sign t r s c plus minus e = sign t.0 (32 ∷ variable_text t r) (sym (term_right t r) ∙ e)
    where
      sign : (z : ℤ) (rest : List ℕ) → coefficient_text z ++ rest ≡ c ∷ s → ⊥
      sign (pos n) rest e = plus (sym (uncons 43 c _ s e).0)
      sign (negsuc n) rest e = minus (sym (uncons 45 c _ s e).0)

  split_terms : (ts us : List (Term ℕ)) (r s : List ℕ) (c : ℕ) → (c ≡ 43 → ⊥) → (c ≡ 45 → ⊥) →
      terms_text ts ++ (c ∷ r) ≡ terms_text us ++ (c ∷ s) → (ts ≡ us) × (r ≡ s)
  split_terms [] [] r s c plus minus e = (refl, (uncons c c r s e).1)
  split_terms [] (u ∷ us) r s c plus minus e =
      absurd (term_sign u (terms_text us ++ (c ∷ s)) r c plus minus
      (sym (append_assoc (term_text u) (terms_text us) (c ∷ s)) ∙ sym e))
  split_terms (t ∷ ts) [] r s c plus minus e =
      absurd (term_sign t (terms_text ts ++ (c ∷ r)) s c plus minus
      (sym (append_assoc (term_text t) (terms_text ts) (c ∷ r)) ∙ e))
  split_terms (t ∷ ts) (u ∷ us) r s c plus minus e =
      let right : term_text t ++ (terms_text ts ++ (c ∷ r)) ≡ term_text u ++ (terms_text us ++ (c ∷ s)) =
      sym (append_assoc (term_text t) (terms_text ts) (c ∷ r)) ∙ e ∙ append_assoc (term_text u) (terms_text us) (c ∷ s) in
      let first : (t ≡ u) × (terms_text ts ++ (c ∷ r) ≡ terms_text us ++ (c ∷ s)) = split_term t u _ _ right in
      let others : (ts ≡ us) × (r ≡ s) = split_terms ts us r s c plus minus first.1 in
      (ap (λ x. x ∷ ts) first.0 ∙ ap (λ xs. u ∷ xs) others.0, others.1)

  constraint_right : (k : Constraint) (r : List ℕ) → constraint_line k ++ r ≡ terms_text k.terms ++ (62 ∷ degree_text k r)
  constraint_right k r = simp append_assoc

  split_constraint : (k l : Constraint) (r s : List ℕ) → constraint_line k ++ r ≡ constraint_line l ++ s → (k ≡ l) × (r ≡ s)
  split_constraint k l r s e =
      let right : terms_text k.terms ++ (62 ∷ degree_text k r) ≡ terms_text l.terms ++ (62 ∷ degree_text l s) =
      sym (constraint_right k r) ∙ e ∙ constraint_right l s in
      let terms : (k.terms ≡ l.terms) × (degree_text k r ≡ degree_text l s) =
      split_terms k.terms l.terms _ _ 62 (λ same. omega arith) (λ same. omega arith) right in
      let degree : (k.degree ≡ l.degree) × (59 ∷ 10 ∷ r ≡ 59 ∷ 10 ∷ s) =
      split_signed k.degree l.degree _ _ 32 (λ low high. omega arith) (λ same. omega arith)
      (uncons 32 32 _ _ (uncons 61 61 _ _ terms.1).1).1 in
      let make : List (Term ℕ) → ℤ → Constraint = λ terms degree. record { terms = terms; degree = degree } in
      (ap (λ terms. make terms k.degree) terms.0 ∙ ap (make l.terms) degree.0, (uncons 10 10 r s (uncons 59 59 _ _ degree.1).1).1)

  -- a line of a constraint begins with a sign or the relation
  constraint_begins : (k : Constraint) (r s : List ℕ) (c : ℕ) → (c ≡ 43 → ⊥) → (c ≡ 45 → ⊥) → (c ≡ 62 → ⊥) →
      constraint_line k ++ r ≡ c ∷ s → ⊥
  constraint_begins k r s c plus minus relation e = begins k.terms (degree_text k r) (sym (constraint_right k r) ∙ e)
    where
      begins : (terms : List (Term ℕ)) (rest : List ℕ) → terms_text terms ++ (62 ∷ rest) ≡ c ∷ s → ⊥
      begins [] rest e = relation (sym (uncons 62 c rest s e).0)
      begins (t ∷ ts) rest e =
          term_sign t (terms_text ts ++ (62 ∷ rest)) s c plus minus
          (sym (append_assoc (term_text t) (terms_text ts) (62 ∷ rest)) ∙ e)

  constraint_not_empty : (k : Constraint) (r : List ℕ) → constraint_line k ++ r ≡ [] → ⊥
  constraint_not_empty k r e =
      let long : length (terms_text k.terms ++ (62 ∷ degree_text k r)) ≡ 0 = ap length (sym (constraint_right k r) ∙ e) in
      omega (arith, simp length-append at long)

  split_lines : (ks ls : List Constraint) → flat_map constraint_line ks ≡ flat_map constraint_line ls → ks ≡ ls
  split_lines [] [] e = refl
  split_lines [] (l ∷ ls) e = absurd (constraint_not_empty l (flat_map constraint_line ls) (sym e))
  split_lines (k ∷ ks) [] e = absurd (constraint_not_empty k (flat_map constraint_line ks) e)
  split_lines (k ∷ ks) (l ∷ ls) e =
      let first : (k ≡ l) × (flat_map constraint_line ks ≡ flat_map constraint_line ls) = split_constraint k l _ _ e in
      ap (λ x. x ∷ ks) first.0 ∙ ap (λ xs. l ∷ xs) (split_lines ks ls first.1)

  lines_no_objective : (ks : List Constraint) (s : List ℕ) → flat_map constraint_line ks ≡ 109 ∷ s → ⊥
  lines_no_objective [] s e = cc
  lines_no_objective (k ∷ ks) s e = constraint_begins k _ s 109 (λ same. omega arith) (λ same. omega arith) (λ same. omega arith) e

  objective_right : (t : Term ℕ) (ts : List (Term ℕ)) (r : List ℕ) → objective_line (t ∷ ts) ++ r ≡ minimum_text (t ∷ ts) r
  objective_right t ts r = simp append_assoc

  split_objective : (ts us : List (Term ℕ)) (ks ls : List Constraint) →
      objective_line ts ++ flat_map constraint_line ks ≡ objective_line us ++ flat_map constraint_line ls → (ts ≡ us) × (ks ≡ ls)
  split_objective [] [] ks ls e = (refl, split_lines ks ls e)
  split_objective [] (u ∷ us) ks ls e = absurd (lines_no_objective ks _ (e ∙ objective_right u us (flat_map constraint_line ls)))
  split_objective (t ∷ ts) [] ks ls e = absurd (lines_no_objective ls _ (sym e ∙ objective_right t ts (flat_map constraint_line ks)))
  split_objective (t ∷ ts) (u ∷ us) ks ls e =
      let right : minimum_text (t ∷ ts) (flat_map constraint_line ks) ≡ minimum_text (u ∷ us) (flat_map constraint_line ls) =
      sym (objective_right t ts (flat_map constraint_line ks)) ∙ e ∙ objective_right u us (flat_map constraint_line ls) in
      let terms : (t ∷ ts ≡ u ∷ us) × (10 ∷ flat_map constraint_line ks ≡ 10 ∷ flat_map constraint_line ls) =
      split_terms (t ∷ ts) (u ∷ us) _ _ 59 (λ same. omega arith) (λ same. omega arith) (append_cancel_left (codes "min: ") _ _ right) in
      (terms.0, split_lines ks ls (uncons 10 10 _ _ terms.1).1)

  first_line_right : (v c : ℕ) (r : List ℕ) →
      first_line v c ++ r ≡ codes "* #variable= " ++ (numeral v ++ (32 ∷ 35 ∷ (codes "constraint= " ++ (numeral c ++ (10 ∷ r)))))
  first_line_right v c r = simp append_assoc

  split_first_line : (v w c d : ℕ) (r s : List ℕ) → first_line v c ++ r ≡ first_line w d ++ s → (v ≡ w) × (r ≡ s)
  split_first_line v w c d r s e =
      let after_v : List ℕ = codes "constraint= " ++ (numeral c ++ (10 ∷ r)) in
      let after_w : List ℕ = codes "constraint= " ++ (numeral d ++ (10 ∷ s)) in
      let numbers : numeral v ++ (32 ∷ 35 ∷ after_v) ≡ numeral w ++ (32 ∷ 35 ∷ after_w) =
      append_cancel_left (codes "* #variable= ") _ _ (sym (first_line_right v c r) ∙ e ∙ first_line_right w d s) in
      let variables : (v ≡ w) × (32 ∷ 35 ∷ after_v ≡ 32 ∷ 35 ∷ after_w) =
      split_numeral v w _ _ 32 32 (λ low high. omega arith) (λ low high. omega arith) numbers in
      let counts : numeral c ++ (10 ∷ r) ≡ numeral d ++ (10 ∷ s) =
      append_cancel_left (codes "constraint= ") _ _
      (uncons 35 35 after_v after_w (uncons 32 32 (35 ∷ after_v) (35 ∷ after_w) variables.1).1).1 in
      let constraints : (c ≡ d) × (10 ∷ r ≡ 10 ∷ s) =
      split_numeral c d r s 10 10 (λ low high. omega arith) (λ low high. omega arith) counts in
      (variables.0, (uncons 10 10 r s constraints.1).1)

  pub each_text_spells_one_model : EachTextSpellsOneModel
  each_text_spells_one_model text first second is_first is_second =
      let body : Model → List ℕ = λ (model : Model). objective_line model.objective ++ flat_map constraint_line model.constraints in
      let right : (model : Model) → opb_text model ≡ first_line model.variables (length model.constraints) ++ body model =
      λ (model : Model).
      append_assoc (first_line model.variables (length model.constraints)) (objective_line model.objective)
      (flat_map constraint_line model.constraints) in
      let parts : (first.variables ≡ second.variables) × (body first ≡ body second) =
      split_first_line first.variables second.variables _ _ _ _ (sym (right first) ∙ sym is_first ∙ is_second ∙ right second) in
      let lines : (first.objective ≡ second.objective) × (first.constraints ≡ second.constraints) =
      split_objective first.objective second.objective first.constraints second.constraints parts.1 in
      let make : ℕ → List (Term ℕ) → List Constraint → Model =
      λ variables objective constraints. record { variables = variables; objective = objective; constraints = constraints } in
      ap (λ v. make v first.objective first.constraints) parts.0
      ∙ ap (λ o. make second.variables o first.constraints) lines.0
      ∙ ap (make second.variables second.objective) lines.1
