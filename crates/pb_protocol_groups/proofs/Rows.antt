-- Names in rows of operands, variables and enumerators.
use Rattle.std.proofs.Common.{◌≡◌, List, [], ◌∷◌, ◌++◌, map, flat_map, refl, sym, ap, ◌∙◌, append_assoc}
use Rattle.std.proofs.lemmas.List.{append-nil, map-append}
use Rattle.pb_text_tree.specs.declared.name.Name as declared_name
use Rattle.pb_text_tree.specs.declared.variable.Variables.{Variables}
use Rattle.pb_text_tree.specs.Form.{named, variables_form, variable_forms}
use Rattle.pb_text_tree.specs.declared.operator.Connective.{Connective}
use Rattle.pb_text_tree.specs.declared.operator.Connective.TheVariants as connective
use Rattle.pb_text_meaning.specs.Syntax.{Name, Variable, Operator, Term, Terms, SortDeclaration}
use Rattle.pb_model_tree.specs.declared.step.Step as tree_step
use Rattle.pb_model_tree.specs.declared.model.Model as tree_model
use Rattle.pb_text_meaning.specs.Erase.{erased_variable, erased_variables}
use Rattle.pb_protocol_packing.specs.Groups.{variable_names, term_names, all_term_names, formula_names, step_names, sort_names, names_in}
use Rattle.pb_protocol_packer.specs.View.{name_bytes, term_of, terms_of, variables_in, joined_terms, calculated_terms}
use Rattle.pb_model_meaning.specs.Syntax.{Assignment, Step, Property, Formula}
use Rattle.pb_model_meaning.specs.Erase.{joined, model_of}
use Rattle.pb_protocol_packer.specs.Declarations.{declarations_in}
use Rattle.pb_protocol_packer.specs.Steps.{assignments_in, step_of}
use Rattle.pb_protocol_packer.specs.Properties.{erased_step_list, properties_in}
use Rattle.pb_protocol_packer.proofs.Nodes.{erased-all}
use Rattle.pb_protocol_packer.proofs.AssignmentRows.{assignment-forms}
use Rattle.pb_protocol_packer.proofs.DeclarationRows.{declaration-forms}
use Rattle.pb_protocol_packer.proofs.ModelRows.{step-forms, property-forms}
use Rattle.pb_protocol_packer.proofs.FormulaRows.{all_joined}
use Rattle.pb_protocol_groups.specs.Names.{variables_of_group, operation_names, assignment_names, names_in_property}

-- ---- variables of one sort

abbrev pub variable_by : declared_name.Name → declared_name.Name → Variable
variable_by s n = record { name = name_bytes n; sort = name_bytes s }

abbrev pub variables_by : declared_name.Name → List declared_name.Name → List Variable
variables_by s ns = map (variable_by s) ns

pub group-variables : (g : Variables) → variables_of_group g ≡ variables_by g.sort g.names.items
group-variables g = by g.names.items
  where
    by : (ns : List declared_name.Name) → erased_variables (map (λ (n : declared_name.Name). record { name = named n; sort = named g.sort }) ns) ≡ variables_by g.sort ns
    by [] = refl
    by (n ∷ ns) = ap (λ (xs : List Variable). variable_by g.sort n ∷ xs) (by ns)

pub variables-more : (g : Variables) (gs : List Variables) → variables_in (g ∷ gs) ≡ variables_of_group g ++ variables_in gs
variables-more g gs = map-append erased_variable (variables_form g) (variable_forms gs)

pub variable_names-append : (xs ys : List Variable) → variable_names (xs ++ ys) ≡ variable_names xs ++ variable_names ys
variable_names-append [] ys = refl
variable_names-append (x ∷ xs) ys = ap (λ (ns : List Name). x.name ∷ x.sort ∷ ns) (variable_names-append xs ys)

-- ---- operands

pub terms-joined : (o : Operator) (x : Term) (ys : List Term) → term_names (joined_terms o x ys) ≡ term_names x ++ flat_map term_names ys
terms-joined o x [] = sym (append-nil (term_names x))
terms-joined o x (y ∷ ys) = ap (λ (ns : List Name). term_names x ++ ns) (terms-joined o y ys)

pub terms-calculated : (x : Term) (os : List (Operator × Term)) → term_names (calculated_terms x os) ≡ term_names x ++ flat_map operation_names os
terms-calculated x [] = sym (append-nil (term_names x))
terms-calculated x (o ∷ os) =
    terms-calculated (Term.Binary o.0 x o.1) os ∙ append_assoc (term_names x) (operation_names o) (flat_map operation_names os)

pub formulas-joined : (c : Connective) (f : Formula) (gs : List Formula) → formula_names (all_joined c f gs) ≡ formula_names f ++ flat_map formula_names gs
formulas-joined c f [] = sym (append-nil (formula_names f))
formulas-joined c f (g ∷ gs) = by c ∙ ap (λ (ns : List Name). formula_names f ++ ns) (formulas-joined c g gs)
  where
    by : (c : Connective) → formula_names (joined c f (all_joined c g gs)) ≡ formula_names f ++ formula_names (all_joined c g gs)
    by connective.And = refl
    by connective.Or = refl
    by connective.Implies = refl

-- ---- steps and models

pub step-parts : (s : tree_step.Step)
    → step_names (step_of s) ≡ variable_names (variables_in s.variables.items) ++ (term_names (term_of s.guard) ++ flat_map assignment_names (assignments_in s.assignments.items))
step-parts s =
    ap (λ (bs : List Assignment). variable_names (variables_in s.variables.items) ++ (term_names (term_of s.guard) ++ flat_map assignment_names bs)) (assignment-forms s.assignments.items)

abbrev in_parts : List Variable → List SortDeclaration → List Step → Terms → List Property → List Name
in_parts vs ds ss ts ps = variable_names vs ++ (flat_map sort_names ds ++ (flat_map step_names ss ++ (all_term_names ts ++ flat_map names_in_property ps)))

pub model-parts : (m : tree_model.Model) → names_in (model_of m)
    ≡ variable_names (variables_in m.state.items) ++ (flat_map sort_names (declarations_in m.sorts.items) ++ (flat_map step_names (erased_step_list m.steps.items)
    ++ (all_term_names (terms_of m.initial.values.items) ++ flat_map names_in_property (properties_in m.properties.items))))
model-parts m =
    let M = model_of m in
    let vs = variables_in m.state.items in
    let ds = declarations_in m.sorts.items in
    let ss = erased_step_list m.steps.items in
    let ts = terms_of m.initial.values.items in
    ap (λ (xs : List SortDeclaration). in_parts vs xs M.steps M.initial M.properties) (declaration-forms m.sorts.items)
    ∙ ap (λ (xs : List Step). in_parts vs ds xs M.initial M.properties) (step-forms m.steps.items)
    ∙ ap (λ (xs : Terms). in_parts vs ds ss xs M.properties) (erased-all m.initial.values.items)
    ∙ ap (λ (xs : List Property). in_parts vs ds ss ts xs) (property-forms m.properties.items)

-- names that are added to others, part by part
pub two-parts : (n0 n1 n2 a b : List Name) → n1 ≡ n0 ++ a → n2 ≡ n1 ++ b → n2 ≡ n0 ++ (a ++ b)
two-parts n0 n1 n2 a b e f = f ∙ ap (λ (ns : List Name). ns ++ b) e ∙ append_assoc n0 a b

regrouped : (a b d e f : List Name) → (((a ++ b) ++ d) ++ e) ++ f ≡ a ++ (b ++ (d ++ (e ++ f)))
regrouped a b d e f = simp append_assoc

pub five-parts : (n0 n1 n2 n3 n4 n5 a b d e f : List Name) → n0 ≡ [] → n1 ≡ n0 ++ a → n2 ≡ n1 ++ b → n3 ≡ n2 ++ d → n4 ≡ n3 ++ e → n5 ≡ n4 ++ f → n5 ≡ a ++ (b ++ (d ++ (e ++ f)))
five-parts n0 n1 n2 n3 n4 n5 a b d e f h h1 h2 h3 h4 h5 =
    let r2 = two-parts n0 n1 n2 a b h1 h2 in
    let r3 = two-parts n0 n2 n3 (a ++ b) d r2 h3 in
    let r4 = two-parts n0 n3 n4 ((a ++ b) ++ d) e r3 h4 in
    let r5 = two-parts n0 n4 n5 (((a ++ b) ++ d) ++ e) f r4 h5 in
    r5 ∙ ap (λ (ns : List Name). ns ++ ((((a ++ b) ++ d) ++ e) ++ f)) h ∙ regrouped a b d e f
