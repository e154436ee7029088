-- A formula that is read can be said within the same levels, and has the operators that were counted.
use Rattle.std.proofs.Common.{◌≡◌, ℕ, zero, suc, Bool, true, false, refl, subst, arith}
use Rattle.pb_text_tree.specs.Form.{FormulaForm, InstanceForm}
use Rattle.pb_text_lexer.specs.declared.kind.Kind.{Kind}
use Rattle.pb_text_lexer.specs.declared.kind.Kind.TheVariants as k
use Rattle.pb_text_lexer.specs.Grammar.{State, Reads, Nothing, First}
use Rattle.pb_text_terms.specs.Grammar.{Quantified, IsTerm}
use Rattle.pb_text_formulas.specs.Grammar.{Begun, Connections, IsNode, IsFormula}
use Rattle.pb_text_printer.specs.declared.level.Level.{Level}
use Rattle.pb_text_printer.specs.declared.level.Level.TheVariants as level
use Rattle.pb_text_printer.specs.Words.{formula_needs_no_brackets}
use Rattle.pb_text_printer.specs.Sayable.{list_operators, formula_operators, IsPut, InstanceSayable, FormulaSayable}
use Rattle.pb_text_printer.proofs.SayableLemmas.{formula-bends, puts-bracketed, formula-needs_no_brackets-whole, formula-loosens, formula-freer}
use Rattle.pb_text_printer.proofs.SaidLemmas.{Said, EachReadingIs, one-said, finish, first-said, quantified-said}
use Rattle.pb_text_printer.proofs.SaidConnected.{connected-said}
use Rattle.pb_text_printer.proofs.SaidTerm.{instance-said, alone-said, term-said}

-- what can be said of a formula where a level is asked for
abbrev At : ℕ → FormulaForm → Level → Bool → Type 0
At d x l ends = IsPut (formula_needs_no_brackets x l ends) (FormulaSayable x) ends d

true-said : (d : ℕ) → EachReadingIs (Begun Nothing Nothing Nothing k.True) (λ x. At d x level.Unary false) formula_operators
true-said d s z x lex (t, m, r, e) =
    let h = one-said k.True s m t lex r in
    finish (λ x. At d x level.Unary false) formula_operators (FormulaForm.constant t.place true) x s m z e.0 e.1 (record { says = tt; rest = h.rest; count = h.count })

false-said : (d : ℕ) → EachReadingIs (Begun Nothing Nothing Nothing k.False) (λ x. At d x level.Unary false) formula_operators
false-said d s z x lex (t, m, r, e) =
    let h = one-said k.False s m t lex r in
    finish (λ x. At d x level.Unary false) formula_operators (FormulaForm.constant t.place false) x s m z e.0 e.1 (record { says = tt; rest = h.rest; count = h.count })

instantiated : (d : ℕ) (s m z : State) (i : InstanceForm) (x : FormulaForm) → Said (InstanceSayable i d) (list_operators i.arguments) s m → x ≡ FormulaForm.instance i → z ≡ m
    → Said (At d x level.Unary false) (formula_operators x) s z
instantiated d s m z i x h e f =
    finish (λ x. At d x level.Unary false) formula_operators (FormulaForm.instance i) x s m z e f (record { says = h.says; rest = h.rest; count = h.count })

-- where no level may open
begun-none : (kind : Kind) → EachReadingIs (Begun Nothing Nothing Nothing kind) (λ x. At zero x level.Unary false) formula_operators
begun-none k.Not s z x lex (t, m, r, (y, o, h, e)) = absurd h
begun-none k.Open s z x lex (t, m, r, (y, o, h, e)) = absurd h
begun-none k.True s z x lex h = true-said zero s z x lex h
begun-none k.False s z x lex h = false-said zero s z x lex h
begun-none k.Val s z x lex (t, m, r, (u, o, c, (y, w, h, e))) = absurd h
begun-none k.Name s z x lex (i, m, r, e) = instantiated zero s m z i x (alone-said s m i lex r) e.0 e.1
begun-none _ s z x lex h = absurd h

module _ (d : ℕ) (Node Formula : Reads FormulaForm)
    (node : EachReadingIs Node (λ x. At d x level.Unary false) formula_operators)
    (formula : EachReadingIs Formula (λ x. FormulaSayable x true d) formula_operators) where
  begun-said : (kind : Kind) → EachReadingIs (Begun Node Formula (IsTerm d) kind) (λ x. At (suc d) x level.Unary false) formula_operators
  begun-said k.Not s z x lex (t, m, r, (y, o, q, e)) =
      let h = one-said k.Not s m t lex r in let g = node m o y h.rest q in
      let a = h.count in let b = g.count in
      finish (λ x. At (suc d) x level.Unary false) formula_operators (FormulaForm.negation t.place y) x s o z e.0 e.1 (record { says = g.says; rest = g.rest; count = omega arith })
  begun-said k.Open s z x lex (t, m, r, (y, o, q, (u, w, c, e))) =
      let h = one-said k.Open s m t lex r in let g = formula m o y h.rest q in let f = one-said k.Close o w u g.rest c in
      let a = h.count in let b = g.count in let i = f.count in
      finish (λ x. At (suc d) x level.Unary false) formula_operators y x s w z e.0 e.1
      (record { says = puts-bracketed (FormulaSayable y) (formula-bends y) (formula_needs_no_brackets y level.Unary false) d g.says; rest = f.rest; count = omega arith })
  begun-said k.True s z x lex h = true-said (suc d) s z x lex h
  begun-said k.False s z x lex h = false-said (suc d) s z x lex h
  begun-said k.Val s z x lex (t, m, r, (v, n, l, (y, o, q, (u, w, c, e)))) =
      let h = one-said k.Val s m t lex r in let j = one-said k.Open m n v h.rest l in
      let g = term-said d n o y j.rest q in let f = one-said k.Close o w u g.rest c in
      let a = h.count in let b = g.count in let i = f.count in let p = j.count in
      finish (λ x. At (suc d) x level.Unary false) formula_operators (FormulaForm.val t.place y) x s w z e.0 e.1
      (record { says = g.says; rest = f.rest; count = omega arith })
  begun-said k.Name s z x lex (i, m, r, e) = instantiated (suc d) s m z i x (instance-said (IsTerm d) d (term-said d) s m i lex r) e.0 e.1
  begun-said _ s z x lex h = absurd h

connections-said : (d : ℕ) (Node Body : Reads FormulaForm) → EachReadingIs Node (λ x. At d x level.Unary false) formula_operators
    → EachReadingIs (Quantified FormulaForm.quantified Body) (λ x. At d x level.Unary true) formula_operators → EachReadingIs (Connections Node Body) (λ x. FormulaSayable x true d) formula_operators
connections-said d Node Body node quantifier s z x lex r =
    let h = connected-said FormulaForm.connected Node (Quantified FormulaForm.quantified Body) (At d) formula_operators level.Unary
    node quantifier (λ x l h. formula-freer x l true d h) (λ x l m ends e h. formula-loosens x l m ends d e h) refl
    (λ p x y ends h g. (h, g)) (λ p x y ends h g. (h, g)) (λ p x y ends h g. (h, g)) (λ c p x y. refl) s z x lex r in
    record { says = subst (λ (b : Bool). IsPut b (FormulaSayable x) true d) (formula-needs_no_brackets-whole x) h.says; rest = h.rest; count = h.count }

mutual
  pub node-said : (d : ℕ) → EachReadingIs (IsNode d) (λ x. At d x level.Unary false) formula_operators
  node-said zero = first-said (Begun Nothing Nothing Nothing) (λ x. At zero x level.Unary false) formula_operators begun-none
  node-said (suc d) =
      first-said (Begun (IsNode d) (IsFormula d) (IsTerm d)) (λ x. At (suc d) x level.Unary false) formula_operators (begun-said d (IsNode d) (IsFormula d) (node-said d) (formula-said d))

  -- a formula that is read can be said within as many levels
  pub formula-said : (d : ℕ) → EachReadingIs (IsFormula d) (λ x. FormulaSayable x true d) formula_operators
  formula-said zero = connections-said zero (First (Begun Nothing Nothing Nothing)) Nothing (first-said (Begun Nothing Nothing Nothing) (λ x. At zero x level.Unary false) formula_operators begun-none)
      (quantified-said FormulaForm.quantified Nothing (λ x. ⊥) (λ x. At zero x level.Unary true) formula_operators (λ s z x lex h. absurd h) (λ q p vars x h g. absurd g) (λ q p vars x. refl))
  formula-said (suc d) = connections-said (suc d) (First (Begun (IsNode d) (IsFormula d) (IsTerm d))) (IsFormula d)
      (first-said (Begun (IsNode d) (IsFormula d) (IsTerm d)) (λ x. At (suc d) x level.Unary false) formula_operators (begun-said d (IsNode d) (IsFormula d) (node-said d) (formula-said d)))
      (quantified-said FormulaForm.quantified (IsFormula d) (λ x. FormulaSayable x true d)
      (λ x. At (suc d) x level.Unary true) formula_operators (formula-said d) (λ q p vars x h g. (h, g)) (λ q p vars x. refl))
