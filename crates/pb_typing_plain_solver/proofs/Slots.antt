-- The slots of a right side, in which the values of an instance come to stand.
use Rattle.std.proofs.Common.{◌≡◌, ℕ, zero, suc, ◌≤◌, [], ◌∷◌, ◌++◌, length, drop, replicate, get_or, Some, refl, sym, ◌∙◌, ap, subst, arith, true, pos}
use Rattle.std.specs.Prelude.{All}
use Rattle.std.specs.List.{slice_get}
use Rattle.std.proofs.lemmas.List.{length-replicate}
use Rattle.std.proofs.lemmas.Option.{slice_get_within, get_or_from_slice_get}
use Rattle.pb_fixpoint.specs.Solution.{Environment}
use Rattle.pb_base_values.specs.Carrier.{Tuple, is_within}
use Rattle.pb_text_meaning.specs.Syntax.{Equation, Spec}
use Rattle.pb_text_meaning.specs.Formula.{Instance, carriers_of}
use Rattle.pb_text_meaning.specs.Meaning.{equation_of}
use Rattle.pb_typing_rules.specs.WellTyped.{IsWellTyped}
use Rattle.pb_typing_tree.specs.Tree as tree
use Rattle.pb_typing_tree.specs.Meaning.{truth}
use Rattle.pb_typing_tree.specs.Elaboration.{elaborated_equation}
use Rattle.pb_typing_tree.specs.Equations.{Hold, KeepsTruth}
use Rattle.pb_typing_tree.specs.Fits.{EquationFits, FormulaFits, slot_count}
use Rattle.pb_typing_tree.proofs.Equations.{equations-keep-truth}
use Rattle.pb_typing_tree.proofs.EquationsFit.{equations-fit, within-length}
use Rattle.pb_typing_values.specs.Slots.{slots_of}
use Rattle.pb_typing_values.proofs.Slots.{length-put}
use Rattle.pb_typing_plain_solver.specs.Step.{AreSlots}
use Rattle.pb_typing_plain_solver.proofs.OneEquation.{get_or-replicate_same}

-- as many zeros as there are slots
pub slots-begin : (S : Spec) (X : Equation) (n : ℕ) (slots : Tuple) → slots ≡ replicate n (pos 0) → n ≡ slot_count S X → AreSlots S X slots
slots-begin S X n slots is count = record {
  count = ap (λ (vs : Tuple). length vs) is ∙ (length-replicate n (pos 0) ∙ count);
  free = λ s le. ap (λ (vs : Tuple). get_or vs s (pos 0)) is ∙ get_or-replicate_same n s (pos 0);
}

-- the first slots hold the values
abbrev pub filled : Tuple → Tuple → Tuple
filled vs old = vs ++ drop (length vs) old

hold-front : (vs rest : Tuple) → Hold (slots_of (vs ++ rest)) vs
hold-front [] rest s lt = absurd (omega (arith, lt))
hold-front (v ∷ vs) rest zero lt = refl
hold-front (v ∷ vs) rest (suc s) lt = hold-front vs rest s (omega (arith, lt))

behind-front : (vs old : Tuple) (s : ℕ) → length vs ≤ length old → length vs ≤ s → slots_of (filled vs old) s ≡ slots_of old s
behind-front [] old s room le = refl
behind-front (v ∷ vs) [] s room le = absurd (omega (arith, room))
behind-front (v ∷ vs) (o ∷ old) zero room le = absurd (omega (arith, le))
behind-front (v ∷ vs) (o ∷ old) (suc s) room le = behind-front vs old s (omega (arith, room)) (omega (arith, le))

module _ (S : Spec) (well : IsWellTyped S) (k : ℕ) (X : Equation) (at : slice_get S.equations k ≡ Some X)
    (vs old : Tuple) (within : is_within (carriers_of S X.parameters) vs ≡ true) (are : AreSlots S X old) where
  count : length vs ≡ length X.parameters
  count = within-length S X.parameters vs within

  pub room : length vs ≤ length old
  room = omega (arith, count, are.count)

  pub slots-filled : AreSlots S X (filled vs old)
  slots-filled = record {
    count = length-put old 0 vs (omega (arith, room)) ∙ are.count;
    free = λ s le. behind-front vs old s room (omega (arith, le, count)) ∙ are.free s le;
  }

  here : (P : Equation → Type 0) → All P S.equations → P X
  here P all = subst P (get_or_from_slice_get S.equations k X X at) (all k X (slice_get_within S.equations k X at))

  pub right-fits : (f : tree.Formula) (n : ℕ) → f ≡ elaborated_equation S X → n ≡ length S.equations → FormulaFits n (length (filled vs old)) (slots_of (filled vs old)) f
  right-fits f n is equations =
      subst (λ (g : tree.Formula). FormulaFits n (length (filled vs old)) (slots_of (filled vs old)) g) (sym is)
      (subst (λ (m : ℕ). FormulaFits m (length (filled vs old)) (slots_of (filled vs old)) (elaborated_equation S X)) (sym equations)
      (subst (λ (m : ℕ). FormulaFits (length S.equations) m (slots_of (filled vs old)) (elaborated_equation S X)) (sym slots-filled.count)
      (here (EquationFits S) (equations-fit S well) vs (slots_of (filled vs old)) within (hold-front vs (drop (length vs) old)) slots-filled.free)))

  pub right-truth : (f : tree.Formula) (t : Environment Instance) (i : Instance) → i.values ≡ vs → f ≡ elaborated_equation S X → truth S (slots_of (filled vs old)) t f ≡ (equation_of S X).holds i t
  right-truth f t i values is =
      ap (truth S (slots_of (filled vs old)) t) is
      ∙ here (KeepsTruth S) (equations-keep-truth S well) t (slots_of (filled vs old)) i (ap (λ (ws : Tuple). length ws) values ∙ count)
      (subst (λ (ws : Tuple). Hold (slots_of (filled vs old)) ws) (sym values) (hold-front vs (drop (length vs) old)))
