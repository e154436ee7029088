-- The words of a formula that can be said are read back as that formula.
use Rattle.std.proofs.Common.{◌≡◌, ℕ, zero, suc, Bool, true, false, List, [], ◌∷◌, refl, ap}
use Rattle.pb_text_tree.specs.declared.place.Place.{Place}
use Rattle.pb_text_tree.specs.declared.operator.Connective.{Connective}
use Rattle.pb_text_tree.specs.declared.operator.Connective.TheVariants as connective
use Rattle.pb_text_tree.specs.declared.operator.Quantifier.{Quantifier}
use Rattle.pb_text_tree.specs.Form.{VariableForm, TermForm, FormulaForm, InstanceForm}
use Rattle.pb_text_lexer.specs.declared.kind.Kind.{Kind}
use Rattle.pb_text_lexer.specs.declared.kind.Kind.TheVariants as k
use Rattle.pb_text_lexer.specs.Tokens.{Tok}
use Rattle.pb_text_lexer.specs.Grammar.{State, Reads, Nothing}
use Rattle.pb_text_lexer.specs.OpenGrammar.{last}
use Rattle.pb_text_lexer.proofs.Correct.{st}
use Rattle.pb_text_lexer.proofs.CorrectFamilies.{deeper}
use Rattle.pb_text_terms.specs.Grammar.{Quantified}
use Rattle.pb_text_formulas.specs.Grammar.{Begun, IsNode, IsFormula}
use Rattle.pb_text_printer.specs.declared.level.Level.{Level}
use Rattle.pb_text_printer.specs.declared.level.Level.TheVariants as level
use Rattle.pb_text_printer.specs.Unplaced.{nowhere, unplaced_term, unplaced_formula}
use Rattle.pb_text_printer.specs.Words.{Spells, truth_word, not_word, close_word, put, formula_needs_no_brackets, connective_level, formula_side, term_words, formula_words}
use Rattle.pb_text_printer.specs.Sayable.{formula_operators, IsPut, FormulaSayable}
use Rattle.pb_text_printer.proofs.SayableLemmas.{formula-needs_no_brackets-whole}
use Rattle.pb_text_printer.proofs.BackLemmas.{Split, spells-split, Back, Restores, at-end, first-back, quantified-back}
use Rattle.pb_text_printer.proofs.BackConnected.{Ended, ended, SideOf}
use Rattle.pb_text_printer.proofs.BackLevel as levels
use Rattle.pb_text_printer.proofs.BackTerm.{TermBelow, term-back, whole-back, arguments-back, instance-back}

-- ---- what is read within so many levels

begins : (d : ℕ) (kind : Kind) (s : List Tok) (a : ℕ) (y : FormulaForm) (z : State) (t : Tok) (m : List Tok) → s ≡ t ∷ m → t.kind ≡ kind
    → Begun (deeper IsNode d) (deeper IsFormula d) (TermBelow d) kind (st s a) y z → IsNode d (st s a) y z
begins zero kind s a y z t m e f h = first-back (Begun Nothing Nothing Nothing) kind s a y z t m e f h
begins (suc d) kind s a y z t m e f h = first-back (Begun (IsNode d) (IsFormula d) (TermBelow (suc d))) kind s a y z t m e f h

abbrev QuantifiedAt : ℕ → Reads FormulaForm
QuantifiedAt d = Quantified FormulaForm.quantified (deeper IsFormula d)

-- what is read at the levels below the connectives
abbrev BelowAt : Level → ℕ → Reads FormulaForm
BelowAt _ = IsNode

abbrev LevelAt : Level → Bool → ℕ → Reads FormulaForm
LevelAt = levels.LevelAt FormulaForm.connected BelowAt QuantifiedAt

whole-reads : (d : ℕ) (s z : State) (x : FormulaForm) → LevelAt level.Implication true d s x z → IsFormula d s x z
whole-reads zero s z x h = h
whole-reads (suc d) s z x h = h

-- ---- looser levels

abbrev ReadingOf : FormulaForm → Bool → ℕ → Reads FormulaForm
ReadingOf (FormulaForm.connected c p x y) ends d = levels.ConnectedAt FormulaForm.connected BelowAt QuantifiedAt c ends d
ReadingOf (FormulaForm.quantified q p vars x) ends d = QuantifiedAt d
ReadingOf _ ends d = IsNode d

own-node : (l : Level) (ends : Bool) (d : ℕ) (s z : State) (y : FormulaForm) → IsNode d s y z → LevelAt l ends d s y z
own-node l ends d s z y h = go l (ended ends (IsNode d) (QuantifiedAt d) s y z h)
  where
    go : (l : Level) → Ended ends (IsNode d) (QuantifiedAt d) s y z → LevelAt l ends d s y z
    go level.Implication h = last (last (last h))
    go level.Disjunction h = last (last h)
    go level.Conjunction h = last h
    go _ h = h

own-level : (x : FormulaForm) (l : Level) (ends : Bool) (d : ℕ) (s z : State) (y : FormulaForm) → formula_needs_no_brackets x l ends ≡ true → ReadingOf x ends d s y z → LevelAt l ends d s y z
own-level (FormulaForm.connected c p x w) l ends d s z y e h = levels.own-connected FormulaForm.connected BelowAt QuantifiedAt c l ends d s z y e h
own-level (FormulaForm.quantified q p vars x) l ends d s z y e h = levels.own-quantified FormulaForm.connected BelowAt QuantifiedAt l ends d s z y e h
own-level (FormulaForm.constant p value) l ends d s z y e h = own-node l ends d s z y h
own-level (FormulaForm.val p x) l ends d s z y e h = own-node l ends d s z y h
own-level (FormulaForm.instance i) l ends d s z y e h = own-node l ends d s z y h
own-level (FormulaForm.negation p x) l ends d s z y e h = own-node l ends d s z y h

-- ---- with brackets or without

-- a formula by itself is read back by its own production
abbrev PlainBack : FormulaForm → Type 0
PlainBack x = (ends : Bool) (d : ℕ) → FormulaSayable x ends d → Restores (ReadingOf x ends d) unplaced_formula x (formula_operators x) (formula_words x ends)

whole-own : (x : FormulaForm) (d : ℕ) (s z : State) (y : FormulaForm) → ReadingOf x true d s y z → IsFormula d s y z
whole-own x d s z y h = whole-reads d s z y (own-level x level.Implication true d s z y (formula-needs_no_brackets-whole x) h)

whole-plain : (x : FormulaForm) (d : ℕ) → PlainBack x → FormulaSayable x true d → Restores (IsFormula d) unplaced_formula x (formula_operators x) (formula_words x true)
whole-plain x d plain =
    levels.whole-back IsNode IsFormula (λ d. begins (suc d) k.Open) unplaced_formula x (formula_operators x) (formula_words x) (FormulaSayable x) (ReadingOf x) (whole-own x) plain d

put-back : (x : FormulaForm) (l : Level) (ends : Bool) (d : ℕ) → PlainBack x → IsPut (formula_needs_no_brackets x l ends) (FormulaSayable x) ends d
    → Restores (LevelAt l ends d) unplaced_formula x (formula_operators x) (put (formula_needs_no_brackets x l ends) (formula_words x) ends)
put-back x l ends d plain =
    levels.put-back IsNode IsFormula (λ d. begins (suc d) k.Open) unplaced_formula x (formula_operators x) (formula_words x) (FormulaSayable x) (ReadingOf x) (whole-own x) plain
    (formula_needs_no_brackets x l ends) ends (LevelAt l ends) (λ e d s z y. own-level x l ends d s z y e) (own-node l ends) d

-- ---- all formulas

constant-back : (p : Place) (value : Bool) → PlainBack (FormulaForm.constant p value)
constant-back p true ends d h = levels.mark-back (IsNode d) unplaced_formula (truth_word true) (λ p. FormulaForm.constant p true) (λ p o. refl) (begins d k.True) p
constant-back p false ends d h = levels.mark-back (IsNode d) unplaced_formula (truth_word false) (λ p. FormulaForm.constant p false) (λ p o. refl) (begins d k.False) p

val-back : (p : Place) (x : TermForm) → PlainBack (FormulaForm.val p x)
val-back p x ends zero h s r a b e w = absurd h
val-back p x ends (suc d) h s r a b e (t, m, f, i, z, (u, n, g, j, y, rest)) = go (spells-split (term_words x true) (close_word ∷ []) n r rest)
  where
    go : Split (term_words x true) (close_word ∷ []) n r → Back (IsNode (suc d)) unplaced_formula (FormulaForm.val p x) (st s a) (st r b)
    go cut = last-of cut.mid (whole-back x d (term-back x) h n cut.mid a b e cut.front) cut.back
      where
        last-of : (mid : List Tok) → Back (TermBelow (suc d)) unplaced_term x (st n a) (st mid b)
            → Spells (close_word ∷ []) mid r → Back (IsNode (suc d)) unplaced_formula (FormulaForm.val p x) (st s a) (st r b)
        last-of mid q (v, o, c, l, w, end) = record {
          said = FormulaForm.val t.place q.said;
          reads = begins (suc d) k.Val s a (FormulaForm.val t.place q.said) (st r b) t m f i
              (t, st m a, (f, i, refl), (u, st n a, (g, j, refl), (q.said, st mid b, q.reads, (v, st o b, (c, l, refl), (refl, at-end o r b b end refl)))));
          same = ap (λ v. FormulaForm.val nowhere v) q.same;
        }

instantiates-back : (i : InstanceForm) → PlainBack (FormulaForm.instance i)
instantiates-back i ends d h s r a b e w =
    let q = instance-back i.name i.arguments d (arguments-back i.arguments) h s r a b e w in
    record {
      said = FormulaForm.instance q.said;
      reads = begins d k.Name s a (FormulaForm.instance q.said) (st r b) w.0 w.1 w.2 w.3 (q.said, st r b, q.reads, (refl, refl));
      same = ap (λ v. FormulaForm.instance v) q.same;
    }

negation-back : (p : Place) (x : FormulaForm) → PlainBack x → PlainBack (FormulaForm.negation p x)
negation-back p x plain ends zero h = absurd h
negation-back p x plain ends (suc d) h =
    levels.prefixed-back (IsNode (suc d)) unplaced_formula not_word FormulaForm.negation (λ p o x y e. ap (λ v. FormulaForm.negation nowhere v) e) (IsNode d) (begins (suc d) k.Not) p x
    (formula_operators x) (put (formula_needs_no_brackets x level.Unary false) (formula_words x) false) (put-back x level.Unary false d plain h)

sides : (c : Connective) (d : ℕ) (s z : State) (x : FormulaForm) → LevelAt (formula_side c) false d s x z → SideOf FormulaForm.connected (IsNode d) c s x z
sides connective.And d s z x h = h
sides connective.Or d s z x h = h
sides connective.Implies d s z x h = h

connects-back : (c : Connective) (p : Place) (x y : FormulaForm) → PlainBack x → PlainBack y → PlainBack (FormulaForm.connected c p x y)
connects-back c p x y first second ends d h =
    levels.connects-back FormulaForm.connected BelowAt QuantifiedAt formula_side sides unplaced_formula (λ c p o x y u v e f. cc) c ends p x y (formula_operators x) (formula_operators y)
    (put (formula_needs_no_brackets x (formula_side c) false) (formula_words x) false) (put (formula_needs_no_brackets y (connective_level c) ends) (formula_words y) ends) d
    (put-back x (formula_side c) false d first h.0) (put-back y (connective_level c) ends d second h.1)

quantifies-back : (q : Quantifier) (p : Place) (vars : List VariableForm) (x : FormulaForm) → PlainBack x → PlainBack (FormulaForm.quantified q p vars x)
quantifies-back q p vars x plain ends zero h = absurd h.1
quantifies-back q p vars x plain ends (suc d) h =
    quantified-back FormulaForm.quantified (IsFormula d) unplaced_formula formula_operators (λ q p vars ws x y e f o. cc) q p vars x (formula_words x true) h.0 (whole-plain x d plain h.1)

plain-back : (x : FormulaForm) → PlainBack x
plain-back (FormulaForm.constant p value) = constant-back p value
plain-back (FormulaForm.val p x) = val-back p x
plain-back (FormulaForm.instance i) = instantiates-back i
plain-back (FormulaForm.negation p x) = negation-back p x (plain-back x)
plain-back (FormulaForm.connected c p x y) = connects-back c p x y (plain-back x) (plain-back y)
plain-back (FormulaForm.quantified q p vars x) = quantifies-back q p vars x (plain-back x)

-- the words of a formula that can be said are read back as that formula
pub formula-back : (x : FormulaForm) (d : ℕ) → FormulaSayable x true d → Restores (IsFormula d) unplaced_formula x (formula_operators x) (formula_words x true)
formula-back x d h = whole-plain x d (plain-back x) h
