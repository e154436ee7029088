-- The right sides of a text's equations, one by one.
use Rattle.std.proofs.Common.{◌≡◌, ℕ, zero, suc, ◌+◌, ◌<◌, ◌≤◌, List, [], ◌∷◌, ◌++◌, map, length, get_or, drop, refl, sym, ◌∙◌, ap, arith, Some}
use Rattle.std.specs.List.{slice_get}
use Rattle.std.proofs.lemmas.List.{append-nil, append_assoc, drop_all, length-map}
use Rattle.std.proofs.lemmas.Option.{same_Some}
use Rattle.pb_sorts.specs.declared.carrier.Carrier.{Carrier}
use Rattle.pb_sorts.proofs.Places.{drop-at}
use Rattle.pb_text_tree.specs.declared.place.Place.{Place}
use Rattle.pb_text_tree.specs.declared.spec.Equation.{Equation}
use Rattle.pb_text_tree.specs.Form.{EquationForm, equation_form}
use Rattle.pb_text_meaning.specs.Syntax as syntax
use Rattle.pb_text_meaning.specs.Syntax.{Spec}
use Rattle.pb_text_meaning.specs.Erase.{erased_equation, erased_variables}
use Rattle.pb_typing_declarations.specs.Entries.{shapes_of}
use Rattle.pb_typing_declarations.specs.Shapes.{Shape, variable_shapes}
use Rattle.pb_typing_declarations.proofs.Parts.{first_clear}
use Rattle.pb_typing_rules.specs.Faults.{right_faults}
use Rattle.pb_typing_tree.specs.declared.formula.Equation as declared
use Rattle.pb_typing_tree.specs.Calls.{call_places, calls_in, tree_calls}
use Rattle.pb_typing_tree.specs.Elaboration.{elaborated_equation}
use Rattle.pb_typing_tree.specs.Loops.{equation_loops}
use Rattle.pb_typing_tree.specs.Tree.{Formula}
use Rattle.pb_typing_tree.specs.View.{formula_view}
use Rattle.pb_typing.specs.Rights.{AreRights, IsRight, right_own_faults}
use Rattle.pb_typing.specs.Typed.{IsLayout}

abbrev pub erased : Equation → syntax.Equation
erased X = erased_equation (equation_form X)

abbrev pub all_erased : List Equation → List syntax.Equation
all_erased xs = map erased_equation (map equation_form xs)

-- ---- their parameters

pub layout_length : (S : Spec) (xs : List Equation) (layout : List (List Carrier)) → IsLayout S layout → S.equations ≡ all_erased xs → length layout ≡ length xs
layout_length S xs layout laid are =
    let lists = length-map layout shapes_of in
    let forms = length-map xs equation_form in
    let erasures = length-map (map equation_form xs) erased_equation in
    let shapes = length-map (all_erased xs) (λ (X : syntax.Equation). variable_shapes S X.parameters) in
    let same : length (map shapes_of layout) ≡ length (map (λ (X : syntax.Equation). variable_shapes S X.parameters) (all_erased xs)) =
    ap length (laid.shapes ∙ ap (map (λ (X : syntax.Equation). variable_shapes S X.parameters)) are) in
    omega (arith, lists, forms, erasures, shapes, same)

shapes_there : (S : Spec) (xs : List Equation) (layout : List (List Carrier)) (k : ℕ) (X : Equation) (cs : List Carrier)
    → map shapes_of layout ≡ map (λ (Y : syntax.Equation). variable_shapes S Y.parameters) (all_erased xs)
    → slice_get layout k ≡ Some cs → k < length xs → X ≡ get_or xs k X → shapes_of cs ≡ variable_shapes S (erased X).parameters
shapes_there S [] layout k X cs same there below at = absurd (omega (arith, below))
shapes_there S (Y ∷ xs) [] k X cs same there below at = cc
shapes_there S (Y ∷ xs) (ds ∷ layout) zero X cs same there below at =
    let first : shapes_of ds ≡ variable_shapes S (erased Y).parameters = cc in
    ap shapes_of (sym (same_Some ds cs there)) ∙ (first ∙ ap (λ (Z : Equation). variable_shapes S (erased Z).parameters) (sym at))
shapes_there S (Y ∷ xs) (ds ∷ layout) (suc k) X cs same there below at =
    let rest : map shapes_of layout ≡ map (λ (Z : syntax.Equation). variable_shapes S Z.parameters) (all_erased xs) = cc in
    shapes_there S xs layout k X cs rest there (omega (arith, below)) at

-- the carriers that stand at an equation's place are those of its parameters
pub parameters_at : (S : Spec) (xs : List Equation) (layout : List (List Carrier)) (k : ℕ) (X : Equation) (cs : List Carrier) → IsLayout S layout → S.equations ≡ all_erased xs
    → slice_get layout k ≡ Some cs → k < length xs → X ≡ get_or xs k X → shapes_of cs ≡ variable_shapes S (erased_variables (equation_form X).parameters)
parameters_at S xs layout k X cs laid are there below at =
    shapes_there S xs layout k X cs (laid.shapes ∙ ap (map (λ (Y : syntax.Equation). variable_shapes S Y.parameters)) are) there below at

-- ---- equation by equation

abbrev pub rights_of : List declared.Equation → List Formula
rights_of done = map (λ (X : declared.Equation). formula_view X.right) done

abbrev pub loops_of : List declared.Equation → List (List Shape)
loops_of done = map (λ (X : declared.Equation). shapes_of X.loops.items) done

rights-push : (done : List declared.Equation) (X : declared.Equation) → rights_of (done ++ X ∷ []) ≡ rights_of done ++ formula_view X.right ∷ []
rights-push [] X = refl
rights-push (Y ∷ done) X = ap (λ (fs : List Formula). formula_view Y.right ∷ fs) (rights-push done X)

loops-push : (done : List declared.Equation) (X : declared.Equation) → loops_of (done ++ X ∷ []) ≡ loops_of done ++ shapes_of X.loops.items ∷ []
loops-push [] X = refl
loops-push (Y ∷ done) X = ap (λ (fs : List (List Shape)). shapes_of Y.loops.items ∷ fs) (loops-push done X)

abbrev calls_of : EquationForm → List Place
calls_of X = calls_in X.right

calls-push : (done : List declared.Equation) (X : declared.Equation) → tree_calls (done ++ X ∷ []) ≡ tree_calls done ++ call_places X.right ∷ []
calls-push [] X = refl
calls-push (Y ∷ done) X = ap (λ (pss : List (List Place)). call_places Y.right ∷ pss) (calls-push done X)

-- so many equations are checked
pub record AreDone (S : Spec) (xs : List Equation) (k : ℕ) (done : List declared.Equation) : Type 0 where
  pub faults : right_faults S (map equation_form xs) ≡ right_faults S (map equation_form (drop k xs))
  pub rights : map (elaborated_equation S) (all_erased xs) ≡ rights_of done ++ map (elaborated_equation S) (all_erased (drop k xs))
  pub loops : map (equation_loops S) (all_erased xs) ≡ loops_of done ++ map (equation_loops S) (all_erased (drop k xs))
  pub calls : map calls_of (map equation_form xs) ≡ tree_calls done ++ map calls_of (map equation_form (drop k xs))

pub done_begun : (S : Spec) (xs : List Equation) {done : List declared.Equation} → done ≡ [] → AreDone S xs 0 done
done_begun S xs e = record {
  faults = refl;
  rights = ap (λ (d : List declared.Equation). rights_of d ++ map (elaborated_equation S) (all_erased xs)) (sym e);
  loops = ap (λ (d : List declared.Equation). loops_of d ++ map (equation_loops S) (all_erased xs)) (sym e);
  calls = ap (λ (d : List declared.Equation). tree_calls d ++ map calls_of (map equation_form xs)) (sym e);
}

-- the faults of the equations that are left are those of the next one, and of those behind it
pub next_parts : {S : Spec} {xs : List Equation} {k : ℕ} {done : List declared.Equation} {X : Equation} → AreDone S xs k done → k < length xs → X ≡ get_or xs k X
    → right_faults S (map equation_form xs) ≡ right_own_faults S (equation_form X) ++ right_faults S (map equation_form (drop (k + 1) xs))
next_parts {S} {xs} {k} {done} {X} h below at = h.faults ∙ ap (λ (ys : List Equation). right_faults S (map equation_form ys)) (drop-at xs k X below at)

pub done_next : {S : Spec} {xs : List Equation} {k : ℕ} {done more : List declared.Equation} {X : Equation} (Y : declared.Equation) → AreDone S xs k done → k < length xs → X ≡ get_or xs k X
    → more ≡ done ++ Y ∷ [] → (right_own_faults S (equation_form X) ≡ []) × IsRight S (equation_form X) Y → AreDone S xs (k + 1) more
done_next {S} {xs} {k} {done} {more} {X} Y h below at pushed checked =
    let made = checked.1 in
    let left = drop-at xs k X below at in
    let rest = map (elaborated_equation S) (all_erased (drop (k + 1) xs)) in
    let others = map (equation_loops S) (all_erased (drop (k + 1) xs)) in
    let called = map calls_of (map equation_form (drop (k + 1) xs)) in
    record {
      faults = first_clear _ _ _ (next_parts h below at) checked.0;
      rights =
          h.rights
          ∙ (ap (λ (ys : List Equation). rights_of done ++ map (elaborated_equation S) (all_erased ys)) left
          ∙ (ap (λ (f : Formula). rights_of done ++ f ∷ rest) (sym made.right)
          ∙ (sym (append_assoc (rights_of done) (formula_view Y.right ∷ []) rest)
          ∙ (ap (λ (fs : List Formula). fs ++ rest) (sym (rights-push done Y)) ∙ ap (λ (d : List declared.Equation). rights_of d ++ rest) (sym pushed)))));
      loops =
          h.loops
          ∙ (ap (λ (ys : List Equation). loops_of done ++ map (equation_loops S) (all_erased ys)) left
          ∙ (ap (λ (f : List Shape). loops_of done ++ f ∷ others) (sym made.loops)
          ∙ (sym (append_assoc (loops_of done) (shapes_of Y.loops.items ∷ []) others)
          ∙ (ap (λ (fs : List (List Shape)). fs ++ others) (sym (loops-push done Y)) ∙ ap (λ (d : List declared.Equation). loops_of d ++ others) (sym pushed)))));
      calls =
          h.calls
          ∙ (ap (λ (ys : List Equation). tree_calls done ++ map calls_of (map equation_form ys)) left
          ∙ (ap (λ (ps : List Place). tree_calls done ++ ps ∷ called) (sym made.calls)
          ∙ (sym (append_assoc (tree_calls done) (call_places Y.right ∷ []) called)
          ∙ (ap (λ (pss : List (List Place)). pss ++ called) (sym (calls-push done Y)) ∙ ap (λ (d : List declared.Equation). tree_calls d ++ called) (sym pushed)))));
    }

-- all equations are checked
pub faults_ended : {S : Spec} {xs : List Equation} {k : ℕ} {done : List declared.Equation} → AreDone S xs k done → length xs ≤ k → right_faults S (map equation_form xs) ≡ []
faults_ended {S} {xs} {k} h end = h.faults ∙ ap (λ (ys : List Equation). right_faults S (map equation_form ys)) (drop_all k xs end)

pub rights_ended : {S : Spec} {xs : List Equation} {k : ℕ} {done : List declared.Equation} → AreDone S xs k done → length xs ≤ k → AreRights S (map equation_form xs) done
rights_ended {S} {xs} {k} {done} h end = record {
  rights = sym (h.rights ∙ (ap (λ (ys : List Equation). rights_of done ++ map (elaborated_equation S) (all_erased ys)) (drop_all k xs end) ∙ append-nil (rights_of done)));
  loops = sym (h.loops ∙ (ap (λ (ys : List Equation). loops_of done ++ map (equation_loops S) (all_erased ys)) (drop_all k xs end) ∙ append-nil (loops_of done)));
  calls = sym (h.calls ∙ (ap (λ (ys : List Equation). tree_calls done ++ map calls_of (map equation_form ys)) (drop_all k xs end) ∙ append-nil (tree_calls done)));
}
