-- A data term over slots has the value of the term that it comes from.
use Rattle.std.proofs.Common.{◌≡◌, ℕ, pos, Bool, true, false, not, ◌||◌, List, [], ◌∷◌, map, Option, Some, None, refl, sym, ◌∙◌, ap, true≢false}
use Rattle.std.specs.Prelude.{unwrap_or, option_map, neg_ℤ}
use Rattle.pb_base_values.specs.Carrier.{Value, of_bool}
use Rattle.pb_text_meaning.specs.Syntax as syntax
use Rattle.pb_text_meaning.specs.Syntax.{Name, Terms, Spec}
use Rattle.pb_text_meaning.specs.declared.function.NamedFunction.{NamedFunction}
use Rattle.pb_text_meaning.specs.declared.function.NamedFunction.TheVariants.{If, Succ, Pred, Abs, Max, Min, Pos2Nat, Pos2Int, Nat2Int}
use Rattle.pb_text_meaning.specs.Functions.{named_function}
use Rattle.pb_typing_declarations.specs.Enumerators.{Position, enumerator_of, recogniser_of}
use Rattle.pb_typing_declarations.proofs.PlaceLaws.{enumerators-place_in, recognisers-place_in}
use Rattle.pb_text_meaning.specs.Value as meaning
use Rattle.pb_text_meaning.specs.Value.{Assignment, looked_up, is_true, is_place, binary, function_of_one, function_of_two, function_of_three, function_value, recognised, named_value, values}
use Rattle.pb_typing_tree.specs.Expansion.{has_quantifier, have_quantifier}
use Rattle.pb_typing_tree.specs.Tree.{Term}
use Rattle.pb_typing_tree.specs.Meaning.{Slots, value}
use Rattle.pb_typing_tree.specs.Elaboration as made
use Rattle.pb_typing_tree.specs.Plain.{Agree}
use Rattle.pb_typing_tree.specs.Elaboration.{Slotting, applied_to_one, applied_to_two, applied_to_three, applied, slotted, slotted_all}

-- ---- names

abbrev place : Position → ℕ
place p = p.place

enumerator-value : (a : Slots) (o : Option Position) → value a (made.term_of_enumerator o) ≡ pos (unwrap_or (option_map place o) 0)
enumerator-value a None = refl
enumerator-value a (Some p) = refl

named-value : (spec : Spec) (a : Slots) (o : Option ℕ) (x : Name) → value a (made.term_of_name spec o x) ≡ named_value spec (option_map a o) x
named-value spec a (Some s) x = refl
named-value spec a None x =
    enumerator-value a (enumerator_of spec x)
    ∙ ap (λ (o : Option ℕ). pos (unwrap_or o 0)) (enumerators-place_in 0 spec.sorts x)

-- ---- functions

recognised-value : (a : Slots) (o : Option Position) (x : Term) → value a (made.recognised o x) ≡ of_bool (is_place (option_map place o) (value a x))
recognised-value a None x = refl
recognised-value a (Some p) x = refl

one-value : (spec : Spec) (a : Slots) (f : Name) (g : Option NamedFunction) (x : Term) → value a (applied_to_one spec f g x) ≡ function_of_one spec f g (value a x)
one-value spec a f (Some If) x = refl
one-value spec a f (Some Succ) x = refl
one-value spec a f (Some Pred) x = refl
one-value spec a f (Some Abs) x = refl
one-value spec a f (Some Max) x = refl
one-value spec a f (Some Min) x = refl
one-value spec a f (Some Pos2Nat) x = refl
one-value spec a f (Some Pos2Int) x = refl
one-value spec a f (Some Nat2Int) x = refl
one-value spec a f None x =
    recognised-value a (recogniser_of spec f) x
    ∙ ap (λ (o : Option ℕ). of_bool (is_place o (value a x))) (recognisers-place_in 0 spec.sorts f)

two-value : (a : Slots) (g : Option NamedFunction) (x y : Term) → value a (applied_to_two g x y) ≡ function_of_two g (value a x) (value a y)
two-value a (Some If) x y = refl
two-value a (Some Succ) x y = refl
two-value a (Some Pred) x y = refl
two-value a (Some Abs) x y = refl
two-value a (Some Max) x y = refl
two-value a (Some Min) x y = refl
two-value a (Some Pos2Nat) x y = refl
two-value a (Some Pos2Int) x y = refl
two-value a (Some Nat2Int) x y = refl
two-value a None x y = refl

three-value : (a : Slots) (g : Option NamedFunction) (x y z : Term) → value a (applied_to_three g x y z) ≡ function_of_three g (value a x) (value a y) (value a z)
three-value a (Some If) x y z = refl
three-value a (Some Succ) x y z = refl
three-value a (Some Pred) x y z = refl
three-value a (Some Abs) x y z = refl
three-value a (Some Max) x y z = refl
three-value a (Some Min) x y z = refl
three-value a (Some Pos2Nat) x y z = refl
three-value a (Some Pos2Int) x y z = refl
three-value a (Some Nat2Int) x y z = refl
three-value a None x y z = refl

pub applied-value : (spec : Spec) (a : Slots) (f : Name) (xs : List Term) → value a (applied spec f xs) ≡ function_value spec f (map (value a) xs)
applied-value spec a f [] = refl
applied-value spec a f (x ∷ []) = one-value spec a f (named_function f) x
applied-value spec a f (x ∷ y ∷ []) = two-value a (named_function f) x y
applied-value spec a f (x ∷ y ∷ z ∷ []) = three-value a (named_function f) x y z
applied-value spec a f (x ∷ y ∷ z ∷ w ∷ ws) = refl

-- ---- terms

pub neither-left : (b c : Bool) → b || c ≡ false → b ≡ false
neither-left true c e = e
neither-left false c e = refl

pub neither-right : (b c : Bool) → b || c ≡ false → c ≡ false
neither-right true c e = absurd (true≢false e)
neither-right false c e = e

mutual
  pub slotted-value : (spec : Spec) (c : Slotting) (a : Slots) (assignment : Assignment) → Agree c a assignment
      → (x : syntax.Term) → has_quantifier x ≡ false → value a (slotted spec c x) ≡ meaning.value spec assignment x
  slotted-value spec c a g agree (syntax.Term.Truth b) e = refl
  slotted-value spec c a g agree (syntax.Term.Number n) e = refl
  slotted-value spec c a g agree (syntax.Term.Named x) e = named-value spec a (c x) x ∙ ap (λ o. named_value spec o x) (sym (agree x))
  slotted-value spec c a g agree (syntax.Term.Not x) e = ap (λ v. of_bool (not (is_true v))) (slotted-value spec c a g agree x e)
  slotted-value spec c a g agree (syntax.Term.Negative x) e = ap neg_ℤ (slotted-value spec c a g agree x e)
  slotted-value spec c a g agree (syntax.Term.Binary o x y) e =
      ap (λ v. binary o v (value a (slotted spec c y))) (slotted-value spec c a g agree x (neither-left (has_quantifier x) (has_quantifier y) e))
      ∙ ap (binary o (meaning.value spec g x)) (slotted-value spec c a g agree y (neither-right (has_quantifier x) (has_quantifier y) e))
  slotted-value spec c a g agree (syntax.Term.Apply f xs) e =
      applied-value spec a f (slotted_all spec c xs) ∙ ap (function_value spec f) (slotted-values spec c a g agree xs e)
  slotted-value spec c a g agree (syntax.Term.Quantified q xs x) e = absurd (true≢false e)

  pub slotted-values : (spec : Spec) (c : Slotting) (a : Slots) (assignment : Assignment) → Agree c a assignment
      → (xs : Terms) → have_quantifier xs ≡ false → map (value a) (slotted_all spec c xs) ≡ values spec assignment xs
  slotted-values spec c a g agree Terms.NoTerms e = refl
  slotted-values spec c a g agree (Terms.Then x xs) e =
      ap (λ v. v ∷ map (value a) (slotted_all spec c xs)) (slotted-value spec c a g agree x (neither-left (has_quantifier x) (have_quantifier xs) e))
      ∙ ap (λ vs. meaning.value spec g x ∷ vs) (slotted-values spec c a g agree xs (neither-right (has_quantifier x) (have_quantifier xs) e))
