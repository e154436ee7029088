-- A function with its arguments, once it is found and the arguments have no faults: what is left of its faults and its shape.
use Rattle.std.proofs.Common.{◌≡◌, ◌∙◌, Bool, false, List, [], ◌∷◌, ◌++◌, length, refl, ap, sym, subst, Option, Some, Result}
use Rattle.std.proofs.lemmas.Bool.{eq-eqb}
use Rattle.pb_text_tree.specs.declared.term.Argument.{Argument}
use Rattle.pb_text_tree.specs.Form.{Named, TermForm, term_form, argument_forms}
use Rattle.pb_text_meaning.specs.Syntax.{Spec}
use Rattle.pb_text_meaning.specs.Erase.{erased_term, erased_arguments}
use Rattle.pb_typing_declarations.specs.declared.fault.TypingRule.TheVariants as rule
use Rattle.pb_typing_declarations.specs.declared.fault.TypingFault.{TypingFault}
use Rattle.pb_typing_declarations.specs.Faults.{unless}
use Rattle.pb_typing_declarations.specs.Shapes as model
use Rattle.pb_typing_declarations.proofs.Parts.{no_whole}
use Rattle.pb_typing_rules.specs.Functions.{Function, Choice, OfTwo, function_named, arity, result_shape, shape_of_one}
use Rattle.pb_typing_rules.specs.Shapes.{binary_shape, shape_hull}
use Rattle.pb_typing_rules.specs.Scope.{Scope}
use Rattle.pb_typing_rules.specs.Term.{shape, shapes, applied_shape}
use Rattle.pb_typing_rules.specs.Faults.{term_faults, terms_faults, function_faults, kind_faults}
use Rattle.pb_text_meaning.specs.Functions.{named_function}
use Rattle.pb_base.specs.declared.or_memory.OrMemory.{OrMemory}
use Rattle.pb_typing_tree.specs.declared.formula.Argument as typed
use Rattle.pb_typing_tree.specs.Elaboration.{applied_to_one, applied_to_two, applied_to_three}
use Rattle.pb_typing_tree.specs.Tree as tree
use Rattle.pb_typing_tree.specs.View.{shape_view, term_view}
use Rattle.pb_typing_nodes.specs.declared.function.FunctionOfOne.{FunctionOfOne}
use Rattle.pb_typing_nodes.specs.declared.function.Extreme.{Extreme}
use Rattle.pb_typing_nodes.specs.declared.context.Context.{Context}
use Rattle.pb_typing_nodes.specs.Contexts.{scope_in, text_in}
use Rattle.pb_typing_terms.specs.Terms.{ChecksTerm}
use Rattle.pb_typing_nodes.specs.Elaborated.{Elaborates}
use Rattle.pb_typing_nodes.specs.Functions.{IsOfOne, IsOfTwo, IsChoice, view_of_one, term_of_one, extreme_operation, extreme_term}
use Rattle.pb_typing_terms.proofs.Nodes.{IsChecked, elaborates_as, term_in}
use Rattle.pb_typing_terms.proofs.FunctionArguments.{application_faults, arity_of_one, length-shapes}

-- the function is g, and takes so many arguments
abbrev pub IsFunction : Spec → Named → Function → List Argument → Type 0
IsFunction S f g xs = (function_named S f.text ≡ Some g) × (arity g ≡ length xs)

-- the argument has no faults, and this shape
abbrev pub IsTyped : Spec → Scope → model.Shape → Argument → Type 0
IsTyped S a s x = (term_faults S false a (term_form x.term) ≡ []) × (s ≡ shape S a (erased_term (term_form x.term)))

-- all faults are those of the function's kinds, and the shape is that of its result
pub record IsApplied (S : Spec) (a : Scope) (f : Named) (xs : List Argument) (g : Function) (ss : List model.Shape) : Type 0 where
  pub faults : application_faults S a f xs ≡ kind_faults g ss f.place
  pub shape : result_shape g ss ≡ applied_shape (function_named S f.text) (shapes S a (erased_arguments (argument_forms xs)))

applied : (S : Spec) (a : Scope) (f : Named) (xs : List Argument) (g : Function) (ss : List model.Shape) → IsFunction S f g xs
    → terms_faults S a (argument_forms xs) ≡ [] → ss ≡ shapes S a (erased_arguments (argument_forms xs)) → IsApplied S a f xs g ss
applied S a f xs g ss is none same =
    let all = shapes S a (erased_arguments (argument_forms xs)) in
    record {
      faults =
          ap (λ (fs : List TypingFault). fs ++ function_faults S (function_named S f.text) all f) none
          ∙ ap (λ (o : Option Function). function_faults S o all f) is.0
          ∙ ap (λ (b : Bool). unless b rule.WrongCount f.place ++ kind_faults g all f.place) (eq-eqb (length all) (arity g) (length-shapes S a xs ∙ sym is.1))
          ∙ ap (λ (ts : List model.Shape). kind_faults g ts f.place) (sym same);
      shape =
          ap (result_shape g) same
          ∙ ap (λ (o : Option Function). applied_shape o all) (sym is.0);
    }

pub one_applied : (S : Spec) (a : Scope) (f : Named) (xs : List Argument) (g : Function) (x : Argument) (s : model.Shape) → IsFunction S f g xs
    → xs ≡ x ∷ [] → IsTyped S a s x → IsApplied S a f xs g (s ∷ [])
one_applied S a f xs g x s is these typed =
    let P : List Argument → Type 0 = λ ys. IsFunction S f g ys → IsApplied S a f ys g (s ∷ []) in
    subst P (sym these)
    (λ is. applied S a f (x ∷ []) g (s ∷ []) is (no_whole _ [] typed.0 refl) (ap (λ (t : model.Shape). t ∷ []) typed.1))
    is

pub two_applied : (S : Spec) (a : Scope) (f : Named) (xs : List Argument) (g : Function) (x y : Argument) (s t : model.Shape) → IsFunction S f g xs
    → xs ≡ x ∷ y ∷ [] → IsTyped S a s x → IsTyped S a t y → IsApplied S a f xs g (s ∷ t ∷ [])
two_applied S a f xs g x y s t is these first second =
    let P : List Argument → Type 0 = λ ys. IsFunction S f g ys → IsApplied S a f ys g (s ∷ t ∷ []) in
    subst P (sym these)
    (λ is. applied S a f (x ∷ y ∷ []) g (s ∷ t ∷ []) is
    (no_whole _ _ first.0 (no_whole _ [] second.0 refl))
    (ap (λ (u : model.Shape). u ∷ t ∷ []) first.1 ∙ ap (λ (u : model.Shape). shape S a (erased_term (term_form x.term)) ∷ u ∷ []) second.1))
    is

pub three_applied : (S : Spec) (a : Scope) (f : Named) (xs : List Argument) (g : Function) (x y z : Argument) (s t u : model.Shape) → IsFunction S f g xs
    → xs ≡ x ∷ y ∷ z ∷ [] → IsTyped S a s x → IsTyped S a t y → IsTyped S a u z → IsApplied S a f xs g (s ∷ t ∷ u ∷ [])
three_applied S a f xs g x y z s t u is these first second third =
    let P : List Argument → Type 0 = λ ys. IsFunction S f g ys → IsApplied S a f ys g (s ∷ t ∷ u ∷ []) in
    subst P (sym these)
    (λ is. applied S a f (x ∷ y ∷ z ∷ []) g (s ∷ t ∷ u ∷ []) is
    (no_whole _ _ first.0 (no_whole _ _ second.0 (no_whole _ [] third.0 refl)))
    (ap (λ (v : model.Shape). v ∷ t ∷ u ∷ []) first.1
    ∙ ap (λ (v : model.Shape). shape S a (erased_term (term_form x.term)) ∷ v ∷ u ∷ []) second.1
    ∙ ap (λ (v : model.Shape). shape S a (erased_term (term_form x.term)) ∷ shape S a (erased_term (term_form y.term)) ∷ v ∷ []) third.1))
    is

-- ---- with the typed terms

pub one_node : (X : Context) (f : Named) (u : FunctionOfOne) (xs : List Argument) (x : Argument) (y : typed.Argument) (r : Result typed.Argument (OrMemory TypingFault))
    → IsOfOne (text_in X) f.text u → xs ≡ x ∷ [] → IsChecked X (term_form x.term) y
    → Elaborates (kind_faults (view_of_one u) (shape_view y.shape ∷ []) f.place) (shape_of_one (view_of_one u) (shape_view y.shape)) (term_of_one u (term_view y.term)) r
    → ChecksTerm X (TermForm.application f (argument_forms xs)) r
one_node X f u xs x y r is these h made =
    let S = text_in X in
    let g = view_of_one u in
    let s = shape_view y.shape in
    let z = term_in X (term_form x.term) in
    let all = one_applied S (scope_in X) f (x ∷ []) g x s (is.found, arity_of_one u) refl (h.0, h.1.0) in
    subst (λ (ys : List Argument). ChecksTerm X (TermForm.application f (argument_forms ys)) r) (sym these)
    (elaborates_as (application_faults S (scope_in X) f (x ∷ [])) (kind_faults g (s ∷ []) f.place) (shape_of_one g s)
    (applied_shape (function_named S f.text) (shapes S (scope_in X) (erased_arguments (argument_forms (x ∷ [])))))
    (term_of_one u (term_view y.term)) (applied_to_one S f.text (named_function f.text) z) r
    all.faults (sym all.shape) (is.term z ∙ ap (term_of_one u) (sym h.1.1)) made)

pub two_node : (X : Context) (f : Named) (u : Extreme) (xs : List Argument) (x y : Argument) (v w : typed.Argument) (r : Result typed.Argument (OrMemory TypingFault))
    → IsOfTwo (text_in X) f.text u → xs ≡ x ∷ y ∷ [] → IsChecked X (term_form x.term) v → IsChecked X (term_form y.term) w
    → Elaborates (kind_faults (OfTwo (extreme_operation u)) (shape_view v.shape ∷ shape_view w.shape ∷ []) f.place)
    (binary_shape (extreme_operation u) (shape_view v.shape) (shape_view w.shape))
    (extreme_term u (term_view v.term) (term_view w.term)) r
    → ChecksTerm X (TermForm.application f (argument_forms xs)) r
two_node X f u xs x y v w r is these h k made =
    let S = text_in X in
    let g = OfTwo (extreme_operation u) in
    let s = shape_view v.shape in
    let t = shape_view w.shape in
    let first = term_in X (term_form x.term) in
    let second = term_in X (term_form y.term) in
    let all = two_applied S (scope_in X) f (x ∷ y ∷ []) g x y s t (is.found, refl) refl (h.0, h.1.0) (k.0, k.1.0) in
    subst (λ (ys : List Argument). ChecksTerm X (TermForm.application f (argument_forms ys)) r) (sym these)
    (elaborates_as (application_faults S (scope_in X) f (x ∷ y ∷ [])) (kind_faults g (s ∷ t ∷ []) f.place)
    (binary_shape (extreme_operation u) s t)
    (applied_shape (function_named S f.text) (shapes S (scope_in X) (erased_arguments (argument_forms (x ∷ y ∷ [])))))
    (extreme_term u (term_view v.term) (term_view w.term)) (applied_to_two (named_function f.text) first second) r
    all.faults (sym all.shape)
    (is.term first second ∙ (ap (λ (p : tree.Term). extreme_term u p second) (sym h.1.1) ∙ ap (extreme_term u (term_view v.term)) (sym k.1.1))) made)

pub choice_node : (X : Context) (f : Named) (xs : List Argument) (q x y : Argument) (o v w : typed.Argument) (r : Result typed.Argument (OrMemory TypingFault))
    → IsChoice (text_in X) f.text → xs ≡ q ∷ x ∷ y ∷ [] → IsChecked X (term_form q.term) o → IsChecked X (term_form x.term) v → IsChecked X (term_form y.term) w
    → Elaborates (kind_faults Choice (shape_view o.shape ∷ shape_view v.shape ∷ shape_view w.shape ∷ []) f.place)
    (shape_hull (shape_view v.shape) (shape_view w.shape)) (tree.Choice (term_view o.term) (term_view v.term) (term_view w.term)) r
    → ChecksTerm X (TermForm.application f (argument_forms xs)) r
choice_node X f xs q x y o v w r is these l h k made =
    let S = text_in X in
    let b = shape_view o.shape in
    let s = shape_view v.shape in
    let t = shape_view w.shape in
    let test = term_in X (term_form q.term) in
    let first = term_in X (term_form x.term) in
    let second = term_in X (term_form y.term) in
    let all = three_applied S (scope_in X) f (q ∷ x ∷ y ∷ []) Choice q x y b s t (is.found, refl) refl (l.0, l.1.0) (h.0, h.1.0) (k.0, k.1.0) in
    subst (λ (ys : List Argument). ChecksTerm X (TermForm.application f (argument_forms ys)) r) (sym these)
    (elaborates_as (application_faults S (scope_in X) f (q ∷ x ∷ y ∷ [])) (kind_faults Choice (b ∷ s ∷ t ∷ []) f.place) (shape_hull s t)
    (applied_shape (function_named S f.text) (shapes S (scope_in X) (erased_arguments (argument_forms (q ∷ x ∷ y ∷ [])))))
    (tree.Choice (term_view o.term) (term_view v.term) (term_view w.term)) (applied_to_three (named_function f.text) test first second) r
    all.faults (sym all.shape)
    (is.term test first second
    ∙ (ap (λ (p : tree.Term). tree.Choice p first second) (sym l.1.1)
    ∙ (ap (λ (p : tree.Term). tree.Choice (term_view o.term) p second) (sym h.1.1) ∙ ap (tree.Choice (term_view o.term) (term_view v.term)) (sym k.1.1)))) made)
