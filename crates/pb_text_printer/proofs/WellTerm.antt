-- The words of terms and formulas that can be said can be written one behind another.
use Rattle.std.proofs.Common.{◌≡◌, ◌≤◌, ℕ, zero, suc, ◌<◌, ◌^◌, Bool, true, false, cond, ◌==◌, ◌&&◌, ◌||◌, List, [], ◌∷◌, ◌++◌, decimal, refl, sym, subst, arith, append_assoc}
use Rattle.std.specs.Prelude.{codes}
use Rattle.std.specs.Str.{bytes_eq}
use Rattle.std.specs.Str.Parse.{AllDigits}
use Rattle.std.proofs.lemmas.Str.Parse.{digit_from_value}
use Rattle.std.proofs.lemmas.Fmt.{decimal_is_IsNumeral}
use Rattle.pb_text_tree.specs.declared.operator.Connective.{Connective}
use Rattle.pb_text_tree.specs.declared.operator.Connective.TheVariants as connective
use Rattle.pb_text_tree.specs.declared.operator.Comparison.{Comparison}
use Rattle.pb_text_tree.specs.declared.operator.Comparison.TheVariants as comparison
use Rattle.pb_text_tree.specs.declared.operator.Arithmetic.{Arithmetic}
use Rattle.pb_text_tree.specs.declared.operator.Arithmetic.TheVariants as arithmetic
use Rattle.pb_text_lexer.specs.declared.kind.Kind.TheVariants as k
use Rattle.pb_text_lexer.specs.Lexing.{largest_number}
use Rattle.std.proofs.lemmas.Bool.Decides.{nat_tests}
use Rattle.pb_text_tree.specs.declared.operator.Quantifier.{Quantifier}
use Rattle.pb_text_tree.specs.declared.operator.Quantifier.TheVariants.{Forall, Exists}
use Rattle.pb_text_tree.specs.Form.{Named, VariableForm, TermForm, ArgumentForms, no_arguments, argument, FormulaForm}
use Rattle.pb_text_lexer.specs.Bytes.{is_name, is_letter}
use Rattle.pb_text_printer.specs.declared.level.Level.TheVariants as level
use Rattle.pb_text_printer.specs.Words.{Word, word, open_word, list_word, close_word, comma_word, colon_word, period_word, not_word, minus_word, name_word, truth_word, quantifier_word, connective_word, comparison_word, arithmetic_word, put, needs_no_brackets, goes_on, formula_needs_no_brackets, connective_level, term_side, formula_side, comparison_side, arithmetic_side, variable_words, binding_words, term_words, list_words, more_words, formula_words}
use Rattle.pb_text_printer.specs.Sayable.{Opens, IsPut, IsName, AreNames, AreVariables, IsSayable, AreSayable, MoreSayable, SomeSayable, FormulaSayable}
use Rattle.pb_text_printer.proofs.CutLemmas.{NotEquals, IsCutAsToken}
use Rattle.pb_text_printer.proofs.CutWords.{open-cut, list-cut, close-cut, comma-cut, colon-cut, period-cut, not-cut, minus-cut, truth-cut, quantifier-cut, connective-cut, comparison-cut, arithmetic-cut, val-cut, name-cut, number-cut}
use Rattle.pb_text_printer.proofs.WrittenLemmas.{Entry, Well}

-- Words that can be written anywhere, and behind which a space may stand.
pub record Solid (ws : List Word) : Type 0 where
  pub before : (gap : Bool) (vs : List Word) → Well true vs → Well gap (ws ++ vs)

enter : (gap : Bool) (w : Word) → Entry true w → Entry false w → Entry gap w
enter true w e f = e
enter false w e f = f

-- a word, and what may stand behind it
pub solid-behind : (w : Word) (vs : List Word) → Entry true w → Entry false w → IsCutAsToken w → Solid vs → Solid (w ∷ vs)
solid-behind w vs e f ink right = record { before = λ g ws well. (enter g w e f, ink, right.before w.gap ws well) }

-- a word alone
pub solid-word : (w : Word) → Entry true w → Entry false w → IsCutAsToken w → w.gap ≡ true → Solid (w ∷ [])
solid-word w e f ink gap = record { before = λ g ws well. (enter g w e f, ink, subst (λ (b : Bool). Well b ws) (sym gap) well) }

pub solid-both : (us vs : List Word) → Solid us → Solid vs → Solid (us ++ vs)
solid-both us vs left right = record {
  before = λ g ws h. subst (λ (v : List Word). Well g v) (sym (append_assoc us vs ws)) (left.before g (vs ++ ws) (right.before true ws h));
}

-- in brackets
solid-brackets : (ws : List Word) → Solid ws → Solid (open_word ∷ ws ++ close_word ∷ [])
solid-brackets ws inner = solid-behind open_word (ws ++ close_word ∷ []) tt refl open-cut (solid-both ws (close_word ∷ []) inner (solid-word close_word refl refl close-cut refl))

solid-put : (b ends : Bool) (d : ℕ) (P : Bool → ℕ → Type 0) (words : Bool → List Word) → ((e : Bool) (d : ℕ) → P e d → Solid (words e)) → IsPut b P ends d → Solid (put b words ends)
solid-put true ends d P words each h = each ends d h
solid-put false ends zero P words each h = absurd h
solid-put false ends (suc d) P words each h = solid-brackets (words true) (each true d h)

-- ---- names, numbers and variables

letter-no-equals : (b : ℕ) → is_letter b ≡ true → (b == 61) ≡ false
letter-no-equals b h = grind (arith, nat_tests)

name-starts : (text : List ℕ) → is_name text ≡ true → NotEquals text
name-starts [] h = tt
name-starts (b ∷ bs) h = letter-no-equals b (go (is_letter b) _ _ h)
  where
    go : (x y z : Bool) → ((x && y) && z) ≡ true → x ≡ true
    go true y z e = refl
    go false y z e = e

pub solid-name : (n : Named) → IsName n → Solid (name_word n ∷ [])
solid-name n h = solid-word (name_word n) tt (name-starts n.text h) (name-cut n h) refl

number-starts : (n : ℕ) → n ≤ largest_number → NotEquals (decimal n)
number-starts n h =
    let large : n < 2 ^ 64 = omega arith in
    let is = decimal_is_IsNumeral n large in
    go (decimal n) is.0.1
  where
    go : (ds : List ℕ) → AllDigits 10 ds → NotEquals ds
    go [] all = tt
    go (d ∷ ds) all = let range = digit_from_value d all.0 in grind (arith, nat_tests)

solid-number : (n : ℕ) → n ≤ largest_number → Solid (word k.Number (decimal n) ∷ [])
solid-number n h = solid-word (word k.Number (decimal n)) tt (number-starts n h) (number-cut n h) refl

variables-solid : (v : VariableForm) (vs : List VariableForm) → AreNames (v ∷ vs) → Solid (variable_words (v ∷ vs))
variables-solid v [] h =
    solid-both (name_word v.name ∷ []) (colon_word ∷ name_word v.sort ∷ []) (solid-name v.name h.0)
    (solid-behind colon_word (name_word v.sort ∷ []) refl refl colon-cut (solid-name v.sort h.1))
variables-solid v (w ∷ vs) h = go (variables-solid w vs h.2) (bytes_eq v.sort.text w.sort.text)
  where
    go : Solid (variable_words (w ∷ vs)) → (b : Bool)
        → Solid (cond b (name_word v.name ∷ comma_word ∷ variable_words (w ∷ vs))
        (name_word v.name ∷ colon_word ∷ name_word v.sort ∷ comma_word ∷ variable_words (w ∷ vs)))
    go rest true = solid-both (name_word v.name ∷ []) (comma_word ∷ variable_words (w ∷ vs)) (solid-name v.name h.0) (solid-behind comma_word (variable_words (w ∷ vs)) refl refl comma-cut rest)
    go rest false =
        solid-both (name_word v.name ∷ colon_word ∷ name_word v.sort ∷ []) (comma_word ∷ variable_words (w ∷ vs))
        (solid-both (name_word v.name ∷ []) (colon_word ∷ name_word v.sort ∷ []) (solid-name v.name h.0) (solid-behind colon_word (name_word v.sort ∷ []) refl refl colon-cut (solid-name v.sort h.1)))
        (solid-behind comma_word (variable_words (w ∷ vs)) refl refl comma-cut rest)

pub some-variables-solid : (vars : List VariableForm) → AreVariables vars → Solid (variable_words vars)
some-variables-solid [] h = absurd h
some-variables-solid (v ∷ vs) h = variables-solid v vs h

solid-quantifier : (q : Quantifier) (vs : List Word) → Solid vs → Solid (quantifier_word q ∷ vs)
solid-quantifier Forall vs h = solid-behind (quantifier_word Forall) vs tt refl (quantifier-cut Forall) h
solid-quantifier Exists vs h = solid-behind (quantifier_word Exists) vs tt refl (quantifier-cut Exists) h

binding-solid : (q : Quantifier) (vars : List VariableForm) (body : List Word) → AreVariables vars → Solid body → Solid (binding_words q vars body)
binding-solid q vars body names inner =
    solid-quantifier q (variable_words vars ++ period_word ∷ body)
    (solid-both (variable_words vars) (period_word ∷ body) (some-variables-solid vars names) (solid-behind period_word body refl refl period-cut inner))

truth-solid : (value : Bool) → Solid (truth_word value ∷ [])
truth-solid true = solid-word (truth_word true) tt refl (truth-cut true) refl
truth-solid false = solid-word (truth_word false) tt refl (truth-cut false) refl

-- an operator between words: it has a space on each side
connective-between : (c : Connective) (us vs : List Word) → Solid us → Solid vs → Solid (us ++ connective_word c ∷ vs)
connective-between c us vs left right = record {
  before = λ g ws h.
      subst (λ (v : List Word). Well g v) (sym (append_assoc us (connective_word c ∷ vs) ws))
      (left.before g (connective_word c ∷ vs ++ ws) (spaced c, connective-cut c, behind c (vs ++ ws) (right.before true ws h)));
}
  where
    spaced : (c : Connective) → Entry true (connective_word c)
    spaced connective.And = tt
    spaced connective.Or = tt
    spaced connective.Implies = tt

    behind : (c : Connective) (ws : List Word) → Well true ws → Well (connective_word c).gap ws
    behind connective.And ws h = h
    behind connective.Or ws h = h
    behind connective.Implies ws h = h

comparison-between : (c : Comparison) (us vs : List Word) → Solid us → Solid vs → Solid (us ++ comparison_word c ∷ vs)
comparison-between c us vs left right = record {
  before = λ g ws h.
      subst (λ (v : List Word). Well g v) (sym (append_assoc us (comparison_word c ∷ vs) ws))
      (left.before g (comparison_word c ∷ vs ++ ws) (spaced c, comparison-cut c, right.before (comparison_word c).gap ws h));
}
  where
    spaced : (c : Comparison) → Entry true (comparison_word c)
    spaced comparison.Equal = tt
    spaced comparison.NotEqual = tt
    spaced comparison.Less = tt
    spaced comparison.LessEqual = tt
    spaced comparison.Greater = tt
    spaced comparison.GreaterEqual = tt

arithmetic-between : (o : Arithmetic) (us vs : List Word) → Solid us → Solid vs → Solid (us ++ arithmetic_word o ∷ vs)
arithmetic-between o us vs left right = record {
  before = λ g ws h.
      subst (λ (v : List Word). Well g v) (sym (append_assoc us (arithmetic_word o ∷ vs) ws))
      (left.before g (arithmetic_word o ∷ vs ++ ws) (spaced o, arithmetic-cut o, right.before (arithmetic_word o).gap ws h));
}
  where
    spaced : (o : Arithmetic) → Entry true (arithmetic_word o)
    spaced arithmetic.Plus = tt
    spaced arithmetic.Minus = tt
    spaced arithmetic.Times = tt
    spaced arithmetic.Div = tt
    spaced arithmetic.Mod = tt

-- ---- terms

not-solid : (b : Bool) (d : ℕ) (P : Bool → ℕ → Type 0) (words : Bool → List Word) → ((e : Bool) (d : ℕ) → P e d → Solid (words e)) → Opens d (IsPut b P false) → Solid (not_word ∷ put b words false)
not-solid b zero P words each h = absurd h
not-solid b (suc d) P words each h = solid-behind not_word (put b words false) tt refl not-cut (solid-put b false d P words each h)

minus-solid : (b : Bool) (d : ℕ) (P : Bool → ℕ → Type 0) (words : Bool → List Word)
    → ((e : Bool) (d : ℕ) → P e d → Solid (words e)) → Opens d (IsPut b P false) → Solid (minus_word ∷ put b words false)
minus-solid b zero P words each h = absurd h
minus-solid b (suc d) P words each h = solid-behind minus_word (put b words false) tt refl minus-cut (solid-put b false d P words each h)

opens-solid : (d : ℕ) (P : ℕ → Type 0) (words : List Word) → ((d : ℕ) → P d → Solid words) → Opens d P → Solid words
opens-solid zero P words each h = absurd h
opens-solid (suc d) P words each h = each d h

named-solid : (n : Named) (ws : List Word) → IsName n → Solid ws → Solid (name_word n ∷ ws)
named-solid n ws h rest = solid-both (name_word n ∷ []) ws (solid-name n h) rest

mutual
  pub term-solid : (x : TermForm) (ends : Bool) (d : ℕ) → IsSayable x ends d → Solid (term_words x ends)
  term-solid (TermForm.constant p value) ends d h = truth-solid value
  term-solid (TermForm.number p n) ends d h = solid-number n h
  term-solid (TermForm.name n) ends d h = solid-name n h
  term-solid (TermForm.not p x) ends d h = not-solid (needs_no_brackets x level.Unary false) d (IsSayable x) (term_words x) (term-solid x) h
  term-solid (TermForm.negative p x) ends d h = minus-solid (needs_no_brackets x level.Unary false) d (IsSayable x) (term_words x) (term-solid x) h
  term-solid (TermForm.connected c p x y) ends d h =
      connective-between c (put (needs_no_brackets x (term_side c) false) (term_words x) false) (put (needs_no_brackets y (connective_level c) ends) (term_words y) ends)
      (solid-put (needs_no_brackets x (term_side c) false) false d (IsSayable x) (term_words x) (term-solid x) h.0)
      (solid-put (needs_no_brackets y (connective_level c) ends) ends d (IsSayable y) (term_words y) (term-solid y) h.1)
  term-solid (TermForm.compared c p x y) ends d h =
      comparison-between c (put (needs_no_brackets x (comparison_side c) false) (term_words x) false) (put (needs_no_brackets y (comparison_side c) false) (term_words y) false)
      (solid-put (needs_no_brackets x (comparison_side c) false) false d (IsSayable x) (term_words x) (term-solid x)
      h.0) (solid-put (needs_no_brackets y (comparison_side c) false) false d (IsSayable y) (term_words y) (term-solid y) h.1)
  term-solid (TermForm.computed o p x y) ends d h =
      arithmetic-between o (put (goes_on o x || needs_no_brackets x (arithmetic_side o) false) (term_words x) false) (put (needs_no_brackets y (arithmetic_side o) false) (term_words y) false)
      (solid-put (goes_on o x || needs_no_brackets x (arithmetic_side o) false) false d (IsSayable x) (term_words x) (term-solid x) h.0)
      (solid-put (needs_no_brackets y (arithmetic_side o) false) false d (IsSayable y) (term_words y) (term-solid y) h.1)
  term-solid (TermForm.application f xs) ends d h = named-solid f (list_words xs) h.0 (list-solid xs d h.1)
  term-solid (TermForm.quantified q p vars x) ends d h = binding-solid q vars (term_words x true) h.0 (opens-solid d (IsSayable x true) (term_words x true) (term-solid x true) h.1)

  list-solid : (xs : ArgumentForms) (d : ℕ) → AreSayable xs d → Solid (list_words xs)
  list-solid no_arguments d h = absurd h
  list-solid (argument p x xs) d h =
      opens-solid d (λ e. IsSayable x true e × MoreSayable xs e) (list_word ∷ term_words x true ++ more_words xs)
      (λ e g. solid-behind list_word (term_words x true ++ more_words xs) refl refl list-cut (solid-both (term_words x true) (more_words xs) (term-solid x true e g.0) (more-solid xs e g.1))) h

  more-solid : (xs : ArgumentForms) (d : ℕ) → MoreSayable xs d → Solid (more_words xs)
  more-solid no_arguments d h = solid-word close_word refl refl close-cut refl
  more-solid (argument p x xs) d h =
      solid-behind comma_word (term_words x true ++ more_words xs) refl refl comma-cut (solid-both (term_words x true) (more_words xs) (term-solid x true d h.0) (more-solid xs d h.1))

pub instance-solid : (n : Named) (xs : ArgumentForms) (d : ℕ) → IsName n → SomeSayable xs d → Solid (name_word n ∷ list_words xs)
instance-solid n no_arguments d h g = solid-name n h
instance-solid n (argument p x xs) d h g = named-solid n (list_words (argument p x xs)) h (list-solid (argument p x xs) d g)

-- ---- formulas

val-solid : (x : TermForm) (d : ℕ) → IsSayable x true d → Solid (word k.Val (codes "val") ∷ list_word ∷ term_words x true ++ close_word ∷ [])
val-solid x d h =
    solid-behind (word k.Val (codes "val")) (list_word ∷ term_words x true ++ close_word ∷ []) tt refl val-cut
    (solid-behind list_word (term_words x true ++ close_word ∷ []) refl refl list-cut
    (solid-both (term_words x true) (close_word ∷ []) (term-solid x true d h) (solid-word close_word refl refl close-cut refl)))

pub formula-solid : (x : FormulaForm) (ends : Bool) (d : ℕ) → FormulaSayable x ends d → Solid (formula_words x ends)
formula-solid (FormulaForm.constant p value) ends d h = truth-solid value
formula-solid (FormulaForm.val p x) ends d h = opens-solid d (IsSayable x true) (formula_words (FormulaForm.val p x) ends) (val-solid x) h
formula-solid (FormulaForm.instance i) ends d h = instance-solid i.name i.arguments d h.0 h.1
formula-solid (FormulaForm.negation p x) ends d h = not-solid (formula_needs_no_brackets x level.Unary false) d (FormulaSayable x) (formula_words x) (formula-solid x) h
formula-solid (FormulaForm.connected c p x y) ends d h =
    connective-between c (put (formula_needs_no_brackets x (formula_side c) false) (formula_words x) false) (put (formula_needs_no_brackets y (connective_level c) ends) (formula_words y) ends)
    (solid-put (formula_needs_no_brackets x (formula_side c) false) false d (FormulaSayable x) (formula_words x) (formula-solid x) h.0)
    (solid-put (formula_needs_no_brackets y (connective_level c) ends) ends d (FormulaSayable y) (formula_words y) (formula-solid y) h.1)
formula-solid (FormulaForm.quantified q p vars x) ends d h = binding-solid q vars (formula_words x true) h.0 (opens-solid d (FormulaSayable x true) (formula_words x true) (formula-solid x true) h.1)
