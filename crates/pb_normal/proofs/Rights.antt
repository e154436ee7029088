-- The normal forms of a text's right sides, one by one, and what they are.
use Rattle.std.proofs.Common.{◌≡◌, ℕ, ◌+◌, ◌<◌, ◌≤◌, true, List, [], ◌∷◌, ◌++◌, map, length, get_or, drop, refl, sym, ◌∙◌, ap}
use Rattle.std.proofs.lemmas.List.{append-nil, append_assoc, drop_all, map-append}
use Rattle.pb_sorts.specs.declared.carrier.Carrier.{Carrier}
use Rattle.pb_sorts.proofs.Places.{drop-at}
use Rattle.pb_text_meaning.specs.Syntax as syntax
use Rattle.pb_text_meaning.specs.Syntax.{Spec}
use Rattle.pb_text_meaning.specs.Positive.{ArePositive}
use Rattle.pb_typing_declarations.specs.Shapes.{Shape}
use Rattle.pb_typing_declarations.specs.Entries.{shapes_of}
use Rattle.pb_typing_rules.specs.WellTyped.{parameter_scope, IsWellTyped}
use Rattle.pb_typing_rules.proofs.Fitting.{spec_positive}
use Rattle.pb_typing_tree.specs.declared.formula.Equation as tree
use Rattle.pb_typing_tree.specs.Elaboration.{unslotted, with_slots, elaborated_equations}
use Rattle.pb_typing_tree.specs.Expansion.{expanded}
use Rattle.pb_typing_tree.specs.View as typed
use Rattle.pb_normal.specs.declared.normal.Equation as declared
use Rattle.pb_normal.specs.Answer.{normal_equations}
use Rattle.pb_normal.specs.Equations.{normal_equation}
use Rattle.pb_normal.specs.Normal.{Formula}
use Rattle.pb_normal.specs.SignedForm.{signed_form}
use Rattle.pb_normal.specs.View.{formula_view, right_views, loop_shapes}
use Rattle.pb_normal.proofs.Positive.{expanded-positive}
use Rattle.pb_normal.proofs.SignedForms.{normal-signed}

-- ---- equation by equation

abbrev pub signed_rights : List tree.Equation → List Formula
signed_rights xs = map (signed_form true) (typed.right_views xs)

-- so many equations are in normal form
pub record AreDone (xs : List tree.Equation) (k : ℕ) (done : List declared.Equation) : Type 0 where
  pub rights : signed_rights xs ≡ right_views done ++ signed_rights (drop k xs)
  pub loops : typed.loop_shapes xs ≡ loop_shapes done ++ typed.loop_shapes (drop k xs)

pub done_begun : (xs : List tree.Equation) (done : List declared.Equation) → done ≡ [] → AreDone xs 0 done
done_begun xs done e = record {
  rights = ap (λ (d : List declared.Equation). right_views d ++ signed_rights xs) (sym e);
  loops = ap (λ (d : List declared.Equation). loop_shapes d ++ typed.loop_shapes xs) (sym e);
}

pub done_next : (xs : List tree.Equation) (k : ℕ) (X : tree.Equation) (Y : declared.Equation) (done more : List declared.Equation) → k < length xs → X ≡ get_or xs k X → more ≡ done ++ Y ∷ []
    → formula_view Y.right ≡ signed_form true (typed.formula_view X.right) → Y.loops.now ≡ X.loops.items → AreDone xs k done → AreDone xs (k + 1) more
done_next xs k X Y done more below at pushed right loops h =
    let left = drop-at xs k X below at in
    let rest = signed_rights (drop (k + 1) xs) in
    let others = typed.loop_shapes (drop (k + 1) xs) in
    record {
      rights =
          h.rights
          ∙ (ap (λ (ys : List tree.Equation). right_views done ++ signed_rights ys) left
          ∙ (ap (λ (f : Formula). right_views done ++ f ∷ rest) (sym right)
          ∙ (sym (append_assoc (right_views done) (formula_view Y.right ∷ []) rest)
          ∙ (ap (λ (fs : List Formula). fs ++ rest)
          (sym (map-append (λ (Z : declared.Equation). formula_view Z.right) done (Y ∷ [])))
          ∙ ap (λ (d : List declared.Equation). right_views d ++ rest) (sym pushed)))));
      loops =
          h.loops
          ∙ (ap (λ (ys : List tree.Equation). loop_shapes done ++ typed.loop_shapes ys) left
          ∙ (ap (λ (cs : List Carrier). loop_shapes done ++ shapes_of cs ∷ others) (sym loops)
          ∙ (sym (append_assoc (loop_shapes done) (shapes_of Y.loops.now ∷ []) others)
          ∙ (ap (λ (ss : List (List Shape)). ss ++ others)
          (sym (map-append (λ (Z : declared.Equation). shapes_of Z.loops.now) done (Y ∷ [])))
          ∙ ap (λ (d : List declared.Equation). loop_shapes d ++ others) (sym pushed)))));
    }

-- ---- all equations of a well-typed specification

signed-normal : (spec : Spec) (E : List syntax.Equation) → ArePositive E → map (signed_form true) (elaborated_equations spec E) ≡ map (normal_equation spec) E
signed-normal spec [] h = refl
signed-normal spec (X ∷ E) h =
    ap (λ (f : Formula). f ∷ map (signed_form true) (elaborated_equations spec E))
    (sym (normal-signed spec (expanded X.right) true (parameter_scope spec X) (with_slots X.parameters 0 unslotted) (length X.parameters) (expanded-positive true X.right h.0)))
    ∙ ap (λ (fs : List Formula). normal_equation spec X ∷ fs) (signed-normal spec E h.1)

pub rights_ended : (spec : Spec) (xs : List tree.Equation) (k : ℕ) (done : List declared.Equation) → IsWellTyped spec
    → typed.right_views xs ≡ elaborated_equations spec spec.equations → length xs ≤ k → AreDone xs k done
    → right_views done ≡ normal_equations spec
rights_ended spec xs k done well_typed rights end h =
    sym (h.rights ∙ (ap (λ (ys : List tree.Equation). right_views done ++ signed_rights ys) (drop_all k xs end) ∙ append-nil (right_views done)))
    ∙ (ap (map (signed_form true)) rights ∙ signed-normal spec spec.equations (spec_positive spec well_typed))

pub loops_ended : (xs : List tree.Equation) (k : ℕ) (done : List declared.Equation) → length xs ≤ k → AreDone xs k done → loop_shapes done ≡ typed.loop_shapes xs
loops_ended xs k done end h =
    sym (h.loops ∙ (ap (λ (ys : List tree.Equation). loop_shapes done ++ typed.loop_shapes ys) (drop_all k xs end) ∙ append-nil (loop_shapes done)))
