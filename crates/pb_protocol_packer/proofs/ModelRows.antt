-- A packed model, part by part.
use Rattle.std.proofs.Common.{◌≡◌, List, [], ◌∷◌, map, refl, sym, ap, ◌∙◌}
use Rattle.std.specs.Prelude.{Option}
use Rattle.std.proofs.Math.Path.{fun_ext}
use Rattle.pb_model_tree.specs.declared.step.Step as tree_step
use Rattle.pb_model_tree.specs.declared.model.Property as tree_property
use Rattle.pb_model_tree.specs.Form.{step_form, property_form}
use Rattle.pb_text_meaning.specs.Syntax.{Name, Variable, Term, Terms, SortDeclaration, Range}
use Rattle.pb_model_meaning.specs.Syntax.{Assignment, Step, Property, Model}
use Rattle.pb_model_meaning.specs.Erase.{erased_step, erased_property}
use Rattle.pb_model_meaning.specs.Steps.{assigned_term}
use Rattle.pb_protocol_packing.specs.Packing.{Group, begins_with, initial_assignments, initial_terms}
use Rattle.pb_protocol_packer.specs.Steps.{assignments_said, step_of}
use Rattle.pb_protocol_packer.specs.Properties.{erased_step_list, property_of, properties_in}
use Rattle.pb_protocol_packer.specs.Initial.{variable_name, assigned_names}
use Rattle.pb_protocol_packer.proofs.AssignmentRows.{assigned-said}
use Rattle.pb_protocol_packer.proofs.InitialRows.{initial-names}

pub step-forms : (ss : List tree_step.Step) → map erased_step (map step_form ss) ≡ erased_step_list ss
step-forms [] = refl
step-forms (s ∷ ss) = ap (λ (xs : List Step). step_of s ∷ xs) (step-forms ss)

pub property-forms : (ps : List tree_property.Property) → map erased_property (map property_form ps) ≡ properties_in ps
property-forms [] = refl
property-forms (p ∷ ps) = ap (λ (xs : List Property). property_of p ∷ xs) (property-forms ps)

pub initial-same : (m : Model) (gs : List Group) (ts : Terms) → ts ≡ m.initial
    → initial_terms (assigned_term (assignments_said [] (assigned_names (map variable_name m.variables) ts))) gs ≡ initial_terms (begins_with m) gs
initial-same m gs ts same =
    let given = assigned_names (map variable_name m.variables) ts in
    let is : given ≡ initial_assignments m.variables m.initial = ap (assigned_names (map variable_name m.variables)) same ∙ sym (initial-names m.variables m.initial) in
    let each : assigned_term (assignments_said [] given) ≡ begins_with m =
    fun_ext (λ x. ap (λ (bs : List Assignment). assigned_term (assignments_said [] bs) x) is ∙ assigned-said [] (initial_assignments m.variables m.initial) x) in
    ap (λ (new : Name → Option Term). initial_terms new gs) each

abbrev pub model_with : List SortDeclaration → List Range → List Variable → List Step → Terms → List Property → Model
model_with d r v s i p = record { sorts = d; ranges = r; variables = v; steps = s; initial = i; properties = p }

pub model-same : {d e : List SortDeclaration} {r q : List Range} {v w : List Variable} {s t : List Step} {i j : Terms} {p o : List Property}
    → d ≡ e → r ≡ q → v ≡ w → s ≡ t → i ≡ j → p ≡ o → model_with d r v s i p ≡ model_with e q w t j o
model-same {d} {e} {r} {q} {v} {w} {s} {t} {i} {j} {p} {o} h1 h2 h3 h4 h5 h6 =
    ap (λ (x : List SortDeclaration). model_with x r v s i p) h1 ∙ ap (λ (x : List Range). model_with e x v s i p) h2
    ∙ ap (λ (x : List Variable). model_with e q x s i p) h3 ∙ ap (λ (x : List Step). model_with e q w x i p) h4
    ∙ ap (λ (x : Terms). model_with e q w t x p) h5 ∙ ap (λ (x : List Property). model_with e q w t j x) h6
