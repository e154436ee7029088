-- The names of variables in rows of operands, steps and models, as the code meets them; and that they are those of all variables.
use Rattle.std.proofs.Common.{◌≡◌, List, [], ◌∷◌, ◌++◌, map, flat_map, refl, sym, ap, ◌∙◌, Result, Ok, Err, OnOk, Vec, Box, Global}
use Rattle.std.specs.Prelude.{box_value}
use Rattle.std.proofs.lemmas.List.{append-nil, append_assoc, map-append}
use Rattle.pb_text_tree.specs.declared.operator.Connective.{Connective}
use Rattle.pb_text_tree.specs.declared.operator.Connective.TheVariants as connective
use Rattle.pb_text_tree.specs.declared.name.Name as declared_name
use Rattle.pb_text_tree.specs.declared.term.Term as term
use Rattle.pb_text_tree.specs.declared.term.Term.{Term}
use Rattle.pb_text_tree.specs.declared.term.TermLink.{TermLink}
use Rattle.pb_text_tree.specs.declared.term.ArithmeticLink.{ArithmeticLink}
use Rattle.pb_text_tree.specs.declared.term.Argument.{Argument}
use Rattle.pb_text_tree.specs.Form.{Named, named, VariableForm, TermForm, ArgumentForms, no_arguments, argument, term_form, term_links, arithmetic_links, argument_forms, chained, calculated}
use Rattle.pb_text_tree.proofs.FormLemmas.{term-chain, term-arithmetic, term-application}
use Rattle.pb_text_meaning.specs.Syntax.{Name, Variable}
use Rattle.pb_text_meaning.specs.Erase.{erased_arguments, erased_term, erased_variables}
use Rattle.pb_typing_declarations.specs.Declarations.{variable_names}
use Rattle.pb_model_tree.specs.declared.formula.Formula as formula
use Rattle.pb_model_tree.specs.declared.formula.Formula.{Formula, Row_of-Link, end_of-Link, more_of-Link, items-the_row-Link, items_hidden-the_row-Link-0}
use Rattle.pb_model_tree.specs.declared.formula.Link.{Link}
use Rattle.pb_model_tree.specs.declared.formula.Modality.TheVariants as modality
use Rattle.pb_model_tree.specs.Form.{AssignmentForm, StepForm, FormulaForm, PropertyForm, ModelForm, formula_form, links_in}
use Rattle.pb_model_meaning.specs.Syntax as model
use Rattle.pb_model_meaning.specs.Erase.{erase, erased_assignment, erased_formula, erased_property, erased_step}
use Rattle.pb_protocol_packing.specs.Packable.{bound_in, all_bound_in, bound_in_formula, bound_in_step, all_variables}
use Rattle.pb_protocol_packer.specs.Initial.{variable_name}
use Rattle.pb_protocol_groups.specs.Bound.{bound_names, all_bound_names, formula_bound_names, assigned_bound_names, step_bound_names, property_bound_names, model_bound_names}
use Rattle.pb_protocol_groups.specs.BoundLinks.{links_bound_names, operations_bound_names, operands_bound_names}
use Rattle.pb_protocol_groups.specs.Checks.{texts}
use mathlib.Core.Former.{Count}

-- ---- operands

chain-names : (c : Connective) (f : TermForm) (ls : List TermLink) → bound_names (chained (TermForm.connected c) f (term_links ls)) ≡ bound_names f ++ links_bound_names ls
chain-names c f [] = sym (append-nil (bound_names f))
chain-names c f (l ∷ ls) = ap (λ (xs : List Named). bound_names f ++ xs) (chain-names c (term_form l.operand) ls)

pub chain-said : (t x : Term) (c : Connective) (p : Box Term Global) (v : Vec TermLink Global) (ls : List TermLink) → t ≡ term.Chain c p v → x ≡ box_value p → ls ≡ v.items
    → bound_names (term_form t) ≡ bound_names (term_form x) ++ links_bound_names ls
chain-said t x c p v ls is at same =
    ap (λ u. bound_names (term_form u)) is ∙ (ap bound_names (term-chain c p v) ∙ (chain-names c (term_form (box_value p)) v.items
    ∙ (ap (λ ks. bound_names (term_form (box_value p)) ++ links_bound_names ks) (sym same) ∙ ap (λ u. bound_names (term_form u) ++ links_bound_names ls) (sym at))))

arithmetic-names : (f : TermForm) (ls : List ArithmeticLink) → bound_names (calculated f (arithmetic_links ls)) ≡ bound_names f ++ operations_bound_names ls
arithmetic-names f [] = sym (append-nil (bound_names f))
arithmetic-names f (l ∷ ls) =
    arithmetic-names (TermForm.computed l.operator l.place f (term_form l.operand)) ls ∙ append_assoc (bound_names f) (bound_names (term_form l.operand)) (operations_bound_names ls)

pub arithmetic-said : (t x : Term) (p : Box Term Global) (v : Vec ArithmeticLink Global) (ls : List ArithmeticLink) → t ≡ term.Arithmetic p v → x ≡ box_value p → ls ≡ v.items
    → bound_names (term_form t) ≡ bound_names (term_form x) ++ operations_bound_names ls
arithmetic-said t x p v ls is at same =
    ap (λ u. bound_names (term_form u)) is ∙ (ap bound_names (term-arithmetic p v) ∙ (arithmetic-names (term_form (box_value p)) v.items
    ∙ (ap (λ ks. bound_names (term_form (box_value p)) ++ operations_bound_names ks) (sym same) ∙ ap (λ u. bound_names (term_form u) ++ operations_bound_names ls) (sym at))))

pub application-said : (t : Term) (f : declared_name.Name) (v : Vec Argument Global) (es : List Argument) → t ≡ term.Application f v → es ≡ v.items
    → bound_names (term_form t) ≡ all_bound_names (argument_forms es)
application-said t f v es is same =
    ap (λ u. bound_names (term_form u)) is ∙ (ap bound_names (term-application f v) ∙ ap (λ ks. all_bound_names (argument_forms ks)) (sym same))

row-names : (c : Connective) (f : FormulaForm) (n : _) (row : Row_of-Link n)
    → formula_bound_names (chained (FormulaForm.connected c) f (links_in row)) ≡ formula_bound_names f ++ operands_bound_names (items-the_row-Link n row)
row-names c f n end_of-Link = sym (append-nil (formula_bound_names f))
row-names c f n (more_of-Link place operand row) = ap (λ (xs : List Named). formula_bound_names f ++ xs) (row-names c (formula_form operand) _ row)

abbrev formula_row : Formula → (n : Count) × Row_of-Link n
formula_row (formula.Chain' c p first shape row) = (_, row)
formula_row _ = (_, end_of-Link)

pub operands-said : (f x : Formula) (c : Connective) (p : Box Formula Global) (v : Vec Link Global) (ls : List Link) → f ≡ formula.Chain c p v → x ≡ box_value p → ls ≡ v.items
    → formula_bound_names (formula_form f) ≡ formula_bound_names (formula_form x) ++ operands_bound_names ls
operands-said f x c p v ls is at same =
    let row = formula_row (formula.Chain c p v) in
    let first = formula_form (box_value p) in
    ap (λ (g : Formula). formula_bound_names (formula_form g)) is
    ∙ (row-names c first row.0 row.1
    ∙ (ap (λ (ks : List Link). formula_bound_names first ++ operands_bound_names ks) (items_hidden-the_row-Link-0 v ∙ sym same)
    ∙ ap (λ (g : Formula). formula_bound_names (formula_form g) ++ operands_bound_names ls) (sym at)))

-- of variables of one sort
pub group-names : (sort : Named) (ns : List declared_name.Name) → variable_names (map (λ (n : declared_name.Name). record { name = named n; sort = sort }) ns) ≡ map named ns
group-names sort [] = refl
group-names sort (n ∷ ns) = ap (λ (xs : List Named). named n ∷ xs) (group-names sort ns)

-- ---- names behind those before, part by part

pub two-parts : (old mid new xs ys all : List Named) → mid ≡ old ++ xs → new ≡ mid ++ ys → all ≡ xs ++ ys → new ≡ old ++ all
two-parts old mid new xs ys all first second is =
    second ∙ (ap (λ (zs : List Named). zs ++ ys) first ∙ (append_assoc old xs ys ∙ ap (λ (zs : List Named). old ++ zs) (sym is)))

pub then-parts : {E : Type 0} (r : Result (Unit {0}) E) (old mid new xs ys all : List Named) → mid ≡ old ++ xs → OnOk r (new ≡ mid ++ ys) → all ≡ xs ++ ys → OnOk r (new ≡ old ++ all)
then-parts (Ok u) old mid new xs ys all first second is = two-parts old mid new xs ys all first second is
then-parts (Err e) old mid new xs ys all first second is = second

regrouped : (a b d e : List Named) → ((a ++ b) ++ d) ++ e ≡ a ++ (b ++ (d ++ e))
regrouped a b d e = simp append_assoc

pub four-parts : (n0 n1 n2 n3 n4 a b d e : List Named) → n0 ≡ [] → n1 ≡ n0 ++ a → n2 ≡ n1 ++ b → n3 ≡ n2 ++ d → n4 ≡ n3 ++ e → n4 ≡ a ++ (b ++ (d ++ e))
four-parts n0 n1 n2 n3 n4 a b d e h h1 h2 h3 h4 =
    let r2 = two-parts n0 n1 n2 a b (a ++ b) h1 h2 refl in
    let r3 = two-parts n0 n2 n3 (a ++ b) d ((a ++ b) ++ d) r2 h3 refl in
    let r4 = two-parts n0 n3 n4 ((a ++ b) ++ d) e (((a ++ b) ++ d) ++ e) r3 h4 refl in
    r4 ∙ ap (λ (ns : List Named). ns ++ (((a ++ b) ++ d) ++ e)) h ∙ regrouped a b d e

-- ---- the names are those of all variables

abbrev pub names_of_variables : List Variable → List Name
names_of_variables = map variable_name

pub variables-said : (xs : List VariableForm) → names_of_variables (erased_variables xs) ≡ texts (variable_names xs)
variables-said [] = refl
variables-said (x ∷ xs) = ap (λ (ns : List Name). x.name.text ∷ ns) (variables-said xs)

pub texts-append : (xs ys : List Named) → texts (xs ++ ys) ≡ texts xs ++ texts ys
texts-append xs ys = map-append (λ (x : Named). x.text) xs ys

names-append : (xs ys : List Variable) → names_of_variables (xs ++ ys) ≡ names_of_variables xs ++ names_of_variables ys
names-append xs ys = map-append variable_name xs ys

pub both-said : (vs ws : List Variable) (xs ys : List Named) → names_of_variables vs ≡ texts xs → names_of_variables ws ≡ texts ys → names_of_variables (vs ++ ws) ≡ texts (xs ++ ys)
both-said vs ws xs ys p q =
    names-append vs ws ∙ ap (λ (ns : List Name). ns ++ names_of_variables ws) p ∙ ap (λ (ns : List Name). texts xs ++ ns) q ∙ sym (texts-append xs ys)

mutual
  bound-said : (t : TermForm) → names_of_variables (bound_in (erased_term t)) ≡ texts (bound_names t)
  bound-said (TermForm.constant p b) = refl
  bound-said (TermForm.number p n) = refl
  bound-said (TermForm.name x) = refl
  bound-said (TermForm.not p x) = bound-said x
  bound-said (TermForm.negative p x) = bound-said x
  bound-said (TermForm.connected c p x y) = both-said (bound_in (erased_term x)) (bound_in (erased_term y)) (bound_names x) (bound_names y) (bound-said x) (bound-said y)
  bound-said (TermForm.compared c p x y) = both-said (bound_in (erased_term x)) (bound_in (erased_term y)) (bound_names x) (bound_names y) (bound-said x) (bound-said y)
  bound-said (TermForm.computed o p x y) = both-said (bound_in (erased_term x)) (bound_in (erased_term y)) (bound_names x) (bound_names y) (bound-said x) (bound-said y)
  bound-said (TermForm.application f xs) = all-bound-said xs
  bound-said (TermForm.quantified q p xs x) = both-said (erased_variables xs) (bound_in (erased_term x)) (variable_names xs) (bound_names x) (variables-said xs) (bound-said x)

  all-bound-said : (ts : ArgumentForms) → names_of_variables (all_bound_in (erased_arguments ts)) ≡ texts (all_bound_names ts)
  all-bound-said no_arguments = refl
  all-bound-said (argument p x xs) =
      both-said (bound_in (erased_term x)) (all_bound_in (erased_arguments xs)) (bound_names x) (all_bound_names xs) (bound-said x) (all-bound-said xs)

formula-said : (f : FormulaForm) → names_of_variables (bound_in_formula (erased_formula f)) ≡ texts (formula_bound_names f)
formula-said (FormulaForm.constant p b) = refl
formula-said (FormulaForm.«data» p x) = bound-said x
formula-said (FormulaForm.variable X) = refl
formula-said (FormulaForm.negation p f) = formula-said f
formula-said (FormulaForm.connected connective.And p f g) =
    both-said (bound_in_formula (erased_formula f)) (bound_in_formula (erased_formula g)) (formula_bound_names f) (formula_bound_names g) (formula-said f) (formula-said g)
formula-said (FormulaForm.connected connective.Or p f g) =
    both-said (bound_in_formula (erased_formula f)) (bound_in_formula (erased_formula g)) (formula_bound_names f) (formula_bound_names g) (formula-said f) (formula-said g)
formula-said (FormulaForm.connected connective.Implies p f g) =
    both-said (bound_in_formula (erased_formula f)) (bound_in_formula (erased_formula g)) (formula_bound_names f) (formula_bound_names g) (formula-said f) (formula-said g)
formula-said (FormulaForm.modal modality.Box p A f) = formula-said f
formula-said (FormulaForm.modal modality.Diamond p A f) = formula-said f
formula-said (FormulaForm.fixpoint sign p X f) = formula-said f

-- part by part, of what trees say
pub all-said : {A B : Type 0} (e : A → B) (f : B → List Variable) (g : A → List Named) → ((x : A) → names_of_variables (f (e x)) ≡ texts (g x)) → (xs : List A)
    → names_of_variables (flat_map f (map e xs)) ≡ texts (flat_map g xs)
all-said e f g h [] = refl
all-said e f g h (x ∷ xs) = both-said (f (e x)) (flat_map f (map e xs)) (g x) (flat_map g xs) (h x) (all-said e f g h xs)

step-said : (a : StepForm) → names_of_variables (bound_in_step (erased_step a)) ≡ texts (step_bound_names a)
step-said a =
    let assigned = λ (b : model.Assignment). bound_in b.term in
    both-said (erased_variables a.variables) _ (variable_names a.variables) _ (variables-said a.variables)
    (both-said (bound_in (erased_term a.guard)) (flat_map assigned (map erased_assignment a.assignments)) (bound_names a.guard) (flat_map assigned_bound_names a.assignments) (bound-said a.guard)
    (all-said erased_assignment assigned assigned_bound_names (λ (b : AssignmentForm). bound-said b.value) a.assignments))

pub variables-of-model : (m : ModelForm) → names_of_variables (all_variables (erase m)) ≡ texts (model_bound_names m)
variables-of-model m =
    let property = λ (p : model.Property). bound_in_formula p.formula in
    both-said (erased_variables m.variables) _ (variable_names m.variables) _ (variables-said m.variables)
    (both-said (flat_map bound_in_step (map erased_step m.steps)) _ (flat_map step_bound_names m.steps) _ (all-said erased_step bound_in_step step_bound_names step-said m.steps)
    (both-said (all_bound_in (erased_arguments m.initial.values)) (flat_map property (map erased_property m.properties)) (all_bound_names m.initial.values)
    (flat_map property_bound_names m.properties) (all-bound-said m.initial.values)
    (all-said erased_property property property_bound_names (λ (p : PropertyForm). formula-said p.formula) m.properties)))
