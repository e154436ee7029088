-- What is in a union, and when own values are those that are named.
use Rattle.std.proofs.Common.{◌≡◌, ◌∙◌, ◌<◌, ◌≤◌, ℕ, zero, suc, refl, sym, ap, Bool, true, false, ◌||◌, List, [], ◌∷◌, map, length, drop, nat_eq, arith, Option, Some, None, Vec, Global, Box}
use Rattle.std.specs.Prelude.{box_value}
use Rattle.std.specs.List.{list_any}
use Rattle.std.proofs.lemmas.Bool.Decides.{nat_tests}
use Rattle.pb_text_tree.specs.Form.{chained}
use Rattle.pb_text_meaning.specs.Syntax.{Term}
use Rattle.pb_protocol_tree.specs.declared.step_set.StepSet as set
use Rattle.pb_protocol_tree.specs.declared.step_set.StepSet.{StepSet}
use Rattle.pb_protocol_tree.specs.declared.step_set.StepSetLink.{StepSetLink}
use Rattle.pb_protocol_tree.specs.declared.step_set.StepValue.{StepValue}
use Rattle.pb_protocol_tree.specs.Form.{StepSetForm, step_set_form, step_value_form}
use Rattle.pb_protocol_meaning.specs.Erase.{erased_value}
use Rattle.pb_protocol_unfolding.specs.Unfolding.{Instance}
use Rattle.pb_protocol_unfolder_terms.specs.declared.scope.TermScope.{TermScope}
use Rattle.pb_protocol_unfolder_terms.specs.declared.written.Written.{Written}
use Rattle.pb_protocol_unfolder_terms.specs.Values.{written_term}
use Rattle.pb_protocol_unfolder_steps.specs.declared.unfolder.Unfolder.{Unfolder}
use Rattle.pb_protocol_unfolder.specs.Values.{are_values, is_member}
use Rattle.pb_protocol_unfolder.specs.View.{set_operand, set_link_form}
use Rattle.pb_protocol_unfolder.proofs.Chains.{union-form}

-- ---- two tests

pub or-true : (a b d : Bool) → d ≡ (a || b) → a ≡ true → true ≡ d
or-true true b d e h = sym e
or-true false b d e h = cc

pub or-false : (a b d : Bool) → d ≡ (a || b) → a ≡ false → b ≡ d
or-false true b d e h = cc
or-false false b d e h = sym e

or-end : (b : Bool) → b ≡ (b || false)
or-end true = refl
or-end false = refl

-- ---- unions

module _ (u : Unfolder) (scope : TermScope) (i : Instance) where
  member-united : (A : StepSetForm) (ls : List StepSetLink)
      → is_member u scope i (chained StepSetForm.union A (map set_link_form ls))
      ≡ (is_member u scope i A || list_any (is_member u scope i) (map set_operand ls))
  member-united A [] = or-end (is_member u scope i A)
  member-united A (l ∷ ls) = ap (λ b. is_member u scope i A || b) (member-united (step_set_form l.operand) ls)

  pub member-of-union : (x : StepSet) (p : Box StepSet Global) (v : Vec StepSetLink Global) (ls : List StepSetLink) (A : StepSet) → A ≡ set.Union p v → x ≡ box_value p → ls ≡ v.items
      → is_member u scope i (step_set_form A) ≡ (is_member u scope i (step_set_form x) || list_any (is_member u scope i) (map set_operand ls))
  member-of-union x p v ls A is at same =
      ap (λ (B : StepSet). is_member u scope i (step_set_form B)) is ∙ ap (is_member u scope i) (union-form p v) ∙ member-united (step_set_form (box_value p)) v.items
      ∙ ap (λ (B : StepSet). is_member u scope i (step_set_form B) || list_any (is_member u scope i) (map set_operand v.items)) (sym at)
      ∙ ap (λ (ks : List StepSetLink). is_member u scope i (step_set_form x) || list_any (is_member u scope i) (map set_operand ks)) (sym same)

-- ---- values, place by place

abbrev pub value_said : StepValue → Option Term
value_said x = erased_value (step_value_form x)

module _ (u : Unfolder) (scope : TermScope) where
  abbrev pub fit : List StepValue → List Written → Bool
  fit xs ks = are_values u scope (map erased_value (map step_value_form xs)) (map written_term ks)

  -- past the end of one of them
  pub fits-end : (xs : List StepValue) (ks : List Written) (p : ℕ) (b : Bool) → b ≡ nat_eq (length xs) (length ks)
      → ((q : ℕ) → q < length xs → q < length ks → q < p) → p ≤ length xs → p ≤ length ks → b ≡ fit (drop p xs) (drop p ks)
  fits-end [] [] zero b is past within inside = is
  fits-end [] [] (suc p) b is past within inside = absurd (omega (arith, within))
  fits-end [] (k ∷ ks) zero b is past within inside = is ∙ grind (arith, nat_tests)
  fits-end [] (k ∷ ks) (suc p) b is past within inside = absurd (omega (arith, within))
  fits-end (x ∷ xs) [] zero b is past within inside = is ∙ by (value_said x)
    where
      by : (o : Option Term) → nat_eq (length (x ∷ xs)) 0 ≡ are_values u scope (o ∷ map erased_value (map step_value_form xs)) []
      by None = grind (arith, nat_tests)
      by (Some y) = grind (arith, nat_tests)
  fits-end (x ∷ xs) [] (suc p) b is past within inside = absurd (omega (arith, inside))
  fits-end (x ∷ xs) (k ∷ ks) zero b is past within inside = absurd (omega (arith, past 0 (omega arith) (omega arith)))
  fits-end (x ∷ xs) (k ∷ ks) (suc p) b is past within inside =
      fits-end xs ks p b (is ∙ grind (arith, nat_tests))
      (λ q h l. omega (arith, past (suc q) (omega (arith, h)) (omega (arith, l)))) (omega (arith, within)) (omega (arith, inside))
