-- Names stand in a chain as data alone where they do in its operands; and what its operands name by values is what it does.
use Rattle.std.proofs.Common.{◌≡◌, ◌∙◌, ◌<◌, ◌+◌, ℕ, length, drop, get_or, Result, Ok, Err, refl, sym, ap, Bool, true, false, not, ◌&&◌, List, [], ◌∷◌, ◌++◌, map, Vec, Global, Box}
use Rattle.std.specs.Prelude.{box_value, OnOk}
use Rattle.std.specs.List.{list_all}
use Rattle.std.proofs.lemmas.List.{append-nil, append_assoc, drop_more}
use Rattle.pb_text_tree.specs.declared.operator.Connective.{Connective}
use Rattle.pb_text_tree.specs.declared.operator.Connective.TheVariants as connective
use Rattle.pb_text_tree.specs.declared.name.Name as declared_name
use Rattle.pb_text_tree.specs.declared.term.Term as term
use Rattle.pb_text_tree.specs.declared.term.Term.{Term}
use Rattle.pb_text_tree.specs.declared.term.TermLink.{TermLink}
use Rattle.pb_text_tree.specs.declared.term.ArithmeticLink.{ArithmeticLink}
use Rattle.pb_text_tree.specs.declared.term.Argument.{Argument}
use Rattle.pb_text_tree.specs.declared.variable.Variables.{Variables}
use Rattle.pb_text_tree.specs.Form.{VariableForm, named, variables_form, variable_forms, TermForm, term_form, chained, calculated, term_links, arithmetic_links}
use Rattle.pb_text_tree.proofs.FormLemmas.{term-chain, term-arithmetic, term-application}
use Rattle.pb_text_meaning.specs.Syntax.{Name}
use Rattle.pb_text_meaning.specs.Erase.{erased_term, erased_variable, erased_variables, of_connective}
use Rattle.pb_protocol_folding.specs.Names.{names_of}
use Rattle.pb_protocol_folding.specs.View.{term_of, terms_of}
use Rattle.pb_protocol_tree.specs.declared.formula.Formula as formula
use Rattle.pb_protocol_tree.specs.declared.formula.Formula.{Formula}
use Rattle.pb_protocol_tree.specs.declared.formula.Link.{Link}
use Rattle.pb_protocol_tree.specs.declared.step_set.StepSet as set
use Rattle.pb_protocol_tree.specs.declared.step_set.StepSet.{StepSet}
use Rattle.pb_protocol_tree.specs.declared.step_set.StepSetLink.{StepSetLink}
use Rattle.pb_protocol_tree.specs.Form.{FormulaForm, StepSetForm, formula_form, step_set_form}
use Rattle.pb_protocol_tree.specs.Links.{link_forms, step_set_links}
use Rattle.pb_protocol_tree.proofs.CopyLemmas.{formula-chain, set-union}
use Rattle.pb_protocol_meaning.specs.Erase.{erased_formula, erased_steps}
use Rattle.pb_protocol_unfolding.specs.Whole.{is_data, is_division, are_absent, valued_in, valued_in_set}
use Rattle.pb_protocol_whole_steps.specs.View.{name_bytes, names_in, is_data_link, is_data_operation, divides, valued_in_links, valued_in_set_links}

-- ---- two tests

pub at-false : (a b d : Bool) → d ≡ (a && b) → a ≡ false → false ≡ d
at-false true b d e h = cc
at-false false b d e h = sym e

pub at-true : (a b d : Bool) → d ≡ (a && b) → a ≡ true → b ≡ d
at-true true b d e h = sym e
at-true false b d e h = cc

and-true : (b : Bool) → (b && true) ≡ b
and-true true = refl
and-true false = refl

and-assoc : (a b c : Bool) → ((a && b) && c) ≡ (a && (b && c))
and-assoc true b c = refl
and-assoc false b c = refl

-- what follows of a call that succeeds
pub on-ok : {A E P Q : Type 0} (r : Result A E) → (P → Q) → OnOk r P → OnOk r Q
on-ok (Ok v) f h = f h
on-ok (Err e) f h = tt

-- ---- groups of variables

names-mapped : (sort : declared_name.Name) (ns : List declared_name.Name)
    → names_of (map erased_variable (map (λ (n : declared_name.Name). record { name = named n; sort = named sort }) ns)) ≡ map name_bytes ns
names-mapped sort [] = refl
names-mapped sort (n ∷ ns) = ap (λ xs. name_bytes n ∷ xs) (names-mapped sort ns)

names-appended : (xs ys : List VariableForm) → names_of (map erased_variable (xs ++ ys)) ≡ names_of (map erased_variable xs) ++ names_of (map erased_variable ys)
names-appended [] ys = refl
names-appended (x ∷ xs) ys = ap (λ zs. x.name.text ∷ zs) (names-appended xs ys)

abbrev names_left : List Variables → List Name
names_left gs = names_of (erased_variables (variable_forms gs))

group-first : (g : Variables) (gs : List Variables) → names_left (g ∷ gs) ≡ names_in g ++ names_left gs
group-first g gs = names-appended (variables_form g) (variable_forms gs) ∙ ap (λ xs. xs ++ names_left gs) (names-mapped g.sort g.names.items)

-- the names of one more group stand behind those so far
pub group-named : (gs : List Variables) (k : ℕ) (g : Variables) (old new all : List Name) → k < length gs → g ≡ get_or gs k g → new ≡ old ++ names_in g → old ++ names_left (drop k gs) ≡ all
    → new ++ names_left (drop (k + 1) gs) ≡ all
group-named gs k g old new all below is added before =
    ap (λ xs. xs ++ names_left (drop (k + 1) gs)) added ∙ append_assoc old (names_in g) (names_left (drop (k + 1) gs))
    ∙ ap (λ xs. old ++ xs)
    (sym (group-first g (drop (k + 1) gs)) ∙ ap names_left (sym (drop_more gs k g below ∙ ap (λ (h : Variables). h ∷ drop (k + 1) gs) (sym is))))
    ∙ before

-- ---- terms

-- a connective has no divisor
connective-free : (c : Connective) (free : Bool) → (free && not (is_division (of_connective c))) ≡ free
connective-free connective.And free = and-true free
connective-free connective.Or free = and-true free
connective-free connective.Implies free = and-true free

module _ (own : List Name) (free : Bool) where
  data-chained : (c : Connective) (x : TermForm) (ls : List TermLink)
      → is_data own free (erased_term (chained (TermForm.connected c) x (term_links ls))) ≡ (is_data own free (erased_term x) && list_all (is_data_link own free) ls)
  data-chained c x [] = sym (and-true (is_data own free (erased_term x)))
  data-chained c x (l ∷ ls) =
      ap (λ b. is_data own free (erased_term x) && is_data own b (erased_term (chained (TermForm.connected c) (term_form l.operand) (term_links ls)))) (connective-free c free)
      ∙ ap (λ b. is_data own free (erased_term x) && b) (data-chained c (term_form l.operand) ls)

  pub term-chained : (c : Connective) (x : Term) (p : Box Term Global) (v : Vec TermLink Global) (ls : List TermLink) (t : Term) → t ≡ term.Chain c p v → x ≡ box_value p → ls ≡ v.items
      → is_data own free (term_of t) ≡ (is_data own free (term_of x) && list_all (is_data_link own free) ls)
  term-chained c x p v ls t is at same =
      ap (λ (u : Term). is_data own free (term_of u)) is ∙ ap (λ (u : TermForm). is_data own free (erased_term u)) (term-chain c p v) ∙ data-chained c (term_form (box_value p)) v.items
      ∙ ap (λ (u : Term). is_data own free (term_of u) && list_all (is_data_link own free) v.items) (sym at)
      ∙ ap (λ (ks : List TermLink). is_data own free (term_of x) && list_all (is_data_link own free) ks) (sym same)

  data-calculated : (x : TermForm) (ls : List ArithmeticLink)
      → is_data own free (erased_term (calculated x (arithmetic_links ls))) ≡ (is_data own free (erased_term x) && list_all (is_data_operation own free) ls)
  data-calculated x [] = sym (and-true (is_data own free (erased_term x)))
  data-calculated x (l ∷ ls) =
      data-calculated (TermForm.computed l.operator l.place x (term_form l.operand)) ls
      ∙ and-assoc (is_data own free (erased_term x)) (is_data own (free && not (divides l.operator)) (term_of l.operand)) (list_all (is_data_operation own free) ls)

  pub term-calculated : (x : Term) (p : Box Term Global) (v : Vec ArithmeticLink Global) (ls : List ArithmeticLink) (t : Term) → t ≡ term.Arithmetic p v → x ≡ box_value p → ls ≡ v.items
      → is_data own free (term_of t) ≡ (is_data own free (term_of x) && list_all (is_data_operation own free) ls)
  term-calculated x p v ls t is at same =
      ap (λ (u : Term). is_data own free (term_of u)) is ∙ ap (λ (u : TermForm). is_data own free (erased_term u)) (term-arithmetic p v)
      ∙ data-calculated (term_form (box_value p)) v.items
      ∙ ap (λ (u : Term). is_data own free (term_of u) && list_all (is_data_operation own free) v.items) (sym at)
      ∙ ap (λ (ks : List ArithmeticLink). is_data own free (term_of x) && list_all (is_data_operation own free) ks) (sym same)

  pub term-applied : (f : declared_name.Name) (v : Vec Argument Global) (xs : List Argument) (t : Term) → t ≡ term.Application f v → xs ≡ v.items
      → are_absent own (terms_of xs) ≡ is_data own free (term_of t)
  term-applied f v xs t is same =
      ap (λ (ys : List Argument). are_absent own (terms_of ys)) same
      ∙ sym (ap (λ (u : Term). is_data own free (term_of u)) is ∙ ap (λ (u : TermForm). is_data own free (erased_term u)) (term-application f v))

-- ---- sets of steps and formulas

sets-united : (A : StepSetForm) (ls : List StepSetLink)
    → valued_in_set (erased_steps (chained StepSetForm.union A (step_set_links ls))) ≡ valued_in_set (erased_steps A) ++ valued_in_set_links ls
sets-united A [] = sym (append-nil (valued_in_set (erased_steps A)))
sets-united A (l ∷ ls) = ap (λ xs. valued_in_set (erased_steps A) ++ xs) (sets-united (step_set_form l.operand) ls)

-- what is named by values in all of a union, behind what was there
pub set-united : (before after all : List Name) (p : Box StepSet Global) (v : Vec StepSetLink Global) (x : StepSet) (ls : List StepSetLink) (A : StepSet)
    → A ≡ set.Union p v → x ≡ box_value p → ls ≡ v.items
    → after ≡ before ++ valued_in_set (erased_steps (step_set_form x)) → all ≡ after ++ valued_in_set_links ls → all ≡ before ++ valued_in_set (erased_steps (step_set_form A))
set-united before after all p v x ls A is at same first others =
    others ∙ ap (λ xs. xs ++ valued_in_set_links ls) first ∙ append_assoc before (valued_in_set (erased_steps (step_set_form x))) (valued_in_set_links ls)
    ∙ ap (λ xs. before ++ xs)
    (ap (λ (y : StepSet). valued_in_set (erased_steps (step_set_form y)) ++ valued_in_set_links ls) at
    ∙ ap (λ (ks : List StepSetLink). valued_in_set (erased_steps (step_set_form (box_value p))) ++ valued_in_set_links ks) same
    ∙ sym (ap (λ (y : StepSet). valued_in_set (erased_steps (step_set_form y))) is ∙ ap (λ (y : StepSetForm). valued_in_set (erased_steps y)) (set-union p v)
    ∙ sets-united (step_set_form (box_value p)) v.items))

-- the operands of a connective
both-valued : (c : Connective) (f g : FormulaForm) → (p : _) → valued_in (erased_formula (FormulaForm.connected c p f g)) ≡ valued_in (erased_formula f) ++ valued_in (erased_formula g)
both-valued connective.And f g p = refl
both-valued connective.Or f g p = refl
both-valued connective.Implies f g p = refl

formulas-chained : (c : Connective) (f : FormulaForm) (ls : List Link)
    → valued_in (erased_formula (chained (FormulaForm.connected c) f (link_forms ls))) ≡ valued_in (erased_formula f) ++ valued_in_links ls
formulas-chained c f [] = sym (append-nil (valued_in (erased_formula f)))
formulas-chained c f (l ∷ ls) =
    both-valued c f (chained (FormulaForm.connected c) (formula_form l.operand) (link_forms ls)) l.place
    ∙ ap (λ xs. valued_in (erased_formula f) ++ xs) (formulas-chained c (formula_form l.operand) ls)

pub formula-chained : (before after all : List Name) (c : Connective) (p : Box Formula Global) (v : Vec Link Global) (x : Formula) (ls : List Link) (f : Formula)
    → f ≡ formula.Chain c p v → x ≡ box_value p → ls ≡ v.items
    → after ≡ before ++ valued_in (erased_formula (formula_form x)) → all ≡ after ++ valued_in_links ls → all ≡ before ++ valued_in (erased_formula (formula_form f))
formula-chained before after all c p v x ls f is at same first others =
    others ∙ ap (λ xs. xs ++ valued_in_links ls) first ∙ append_assoc before (valued_in (erased_formula (formula_form x))) (valued_in_links ls)
    ∙ ap (λ xs. before ++ xs)
    (ap (λ (y : Formula). valued_in (erased_formula (formula_form y)) ++ valued_in_links ls) at
    ∙ ap (λ (ks : List Link). valued_in (erased_formula (formula_form (box_value p))) ++ valued_in_links ks) same
    ∙ sym (ap (λ (y : Formula). valued_in (erased_formula (formula_form y))) is ∙ ap (λ (y : FormulaForm). valued_in (erased_formula y)) (formula-chain c p v)
    ∙ formulas-chained c (formula_form (box_value p)) v.items))
