-- Folding sees the sorts alone.
use Rattle.std.proofs.Common.{◌≡◌, Bool, true, false, Option, Some, None, refl, ◌∙◌, ap}
use Rattle.pb_base_values.specs.Carrier.{Value}
use Rattle.pb_text_meaning.specs.Syntax.{Name, same_name, Operator, Term, Terms, Spec}
use Rattle.pb_text_meaning.specs.Functions.{named_function}
use Rattle.pb_text_meaning.specs.Sorts.{is_recogniser, place_in}
use Rattle.pb_text_meaning.specs.declared.function.NamedFunction.{NamedFunction}
use Rattle.pb_protocol_folding.specs.Folding.{folded, folded_and, folded_application, folded_arguments, folded_implies, folded_negative, folded_not, folded_operation, folded_or, function_of_one, function_of_two, is_if, negative_of, operation_of, place_value, recogniser_of, written_value}

module _ (S T : Spec) (same : S.sorts ≡ T.sorts) where
  same-value : (x : Term) → written_value S x ≡ written_value T x
  same-value (Term.Truth b) = refl
  same-value (Term.Number n) = refl
  same-value (Term.Named x) = ap (λ ds. place_value (place_in (λ e. same_name e.name x) ds)) same
  same-value (Term.Not x) = refl
  same-value (Term.Negative (Term.Truth b)) = refl
  same-value (Term.Negative (Term.Number n)) = refl
  same-value (Term.Negative (Term.Named x)) = refl
  same-value (Term.Negative (Term.Not x)) = refl
  same-value (Term.Negative (Term.Negative x)) = refl
  same-value (Term.Negative (Term.Binary o x y)) = refl
  same-value (Term.Negative (Term.Apply f xs)) = refl
  same-value (Term.Negative (Term.Quantified q xs x)) = refl
  same-value (Term.Binary o x y) = refl
  same-value (Term.Apply f xs) = refl
  same-value (Term.Quantified q xs x) = refl

  same-negative : (x y : Term) → x ≡ y → folded_negative S x ≡ folded_negative T y
  same-negative x y e = ap (λ v. negative_of v x) (same-value x) ∙ ap (folded_negative T) e

  same-operation : (o : Operator) (x y z w : Term) → x ≡ z → y ≡ w → folded_operation S o x y ≡ folded_operation T o z w
  same-operation o x y z w e f =
      ap (λ v. operation_of o v (written_value S y) x y) (same-value x) ∙ ap (λ v. operation_of o (written_value T x) v x y) (same-value y)
      ∙ ap (λ u. folded_operation T o u y) e ∙ ap (folded_operation T o z) f

  same-two : (h : Bool → Term → Term → Term) (b : Bool) (x y z w : Term) → x ≡ z → y ≡ w → h b x y ≡ h b z w
  same-two h b x y z w e f = ap (λ u. h b u y) e ∙ ap (h b z) f

  same-one : (f : Name) (g : Option NamedFunction) (v : Option Value) (whole : Term) → function_of_one S f g v whole ≡ function_of_one T f g v whole
  same-one f (Some g) (Some v) whole = refl
  same-one f (Some g) None whole = refl
  same-one f None (Some v) whole = ap (λ ds. recogniser_of (place_in (λ e. is_recogniser f e.recogniser) ds) v whole) same
  same-one f None None whole = refl

  same-function : (f : Name) (xs : Terms) → folded_application S f xs ≡ folded_application T f xs
  same-function f Terms.NoTerms = refl
  same-function f (Terms.Then x Terms.NoTerms) =
      same-one f (named_function f) (written_value S x) (Term.Apply f (Terms.Then x Terms.NoTerms))
      ∙ ap (λ v. function_of_one T f (named_function f) v (Term.Apply f (Terms.Then x Terms.NoTerms))) (same-value x)
  same-function f (Terms.Then x (Terms.Then y Terms.NoTerms)) =
      ap (λ v. function_of_two (named_function f) v (written_value S y) (Term.Apply f (Terms.Then x (Terms.Then y Terms.NoTerms)))) (same-value x)
      ∙ ap (λ v. function_of_two (named_function f) (written_value T x) v (Term.Apply f (Terms.Then x (Terms.Then y Terms.NoTerms)))) (same-value y)
  same-function f (Terms.Then x (Terms.Then y (Terms.Then z Terms.NoTerms))) = refl
  same-function f (Terms.Then x (Terms.Then y (Terms.Then z (Terms.Then w xs)))) = refl

  mutual
    pub same-folded : (b : Bool) (x : Term) → folded S b x ≡ folded T b x
    same-folded b (Term.Truth c) = refl
    same-folded b (Term.Number n) = refl
    same-folded b (Term.Named x) = refl
    same-folded b (Term.Not x) = ap folded_not (same-folded true x)
    same-folded b (Term.Negative x) = same-negative (folded S false x) (folded T false x) (same-folded false x)
    same-folded b (Term.Binary Operator.And x y) = same-two folded_and b (folded S true x) (folded S true y) (folded T true x) (folded T true y) (same-folded true x) (same-folded true y)
    same-folded b (Term.Binary Operator.Or x y) = same-two folded_or b (folded S true x) (folded S true y) (folded T true x) (folded T true y) (same-folded true x) (same-folded true y)
    same-folded b (Term.Binary Operator.Implies x y) = same-two folded_implies b (folded S true x) (folded S true y) (folded T true x) (folded T true y) (same-folded true x) (same-folded true y)
    same-folded b (Term.Binary Operator.Equal x y) =
        same-operation Operator.Equal (folded S false x) (folded S false y) (folded T false x) (folded T false y)
        (same-folded false x) (same-folded false y)
    same-folded b (Term.Binary Operator.NotEqual x y) =
        same-operation Operator.NotEqual (folded S false x) (folded S false y) (folded T false x) (folded T false y)
        (same-folded false x) (same-folded false y)
    same-folded b (Term.Binary Operator.Less x y) = same-operation Operator.Less (folded S false x) (folded S false y) (folded T false x) (folded T false y) (same-folded false x) (same-folded false y)
    same-folded b (Term.Binary Operator.LessEqual x y) =
        same-operation Operator.LessEqual (folded S false x) (folded S false y) (folded T false x) (folded T false y)
        (same-folded false x) (same-folded false y)
    same-folded b (Term.Binary Operator.Greater x y) =
        same-operation Operator.Greater (folded S false x) (folded S false y) (folded T false x) (folded T false y)
        (same-folded false x) (same-folded false y)
    same-folded b (Term.Binary Operator.GreaterEqual x y) =
        same-operation Operator.GreaterEqual (folded S false x) (folded S false y) (folded T false x) (folded T false y)
        (same-folded false x) (same-folded false y)
    same-folded b (Term.Binary Operator.Plus x y) = same-operation Operator.Plus (folded S false x) (folded S false y) (folded T false x) (folded T false y) (same-folded false x) (same-folded false y)
    same-folded b (Term.Binary Operator.Minus x y) =
        same-operation Operator.Minus (folded S false x) (folded S false y) (folded T false x) (folded T false y)
        (same-folded false x) (same-folded false y)
    same-folded b (Term.Binary Operator.Times x y) =
        same-operation Operator.Times (folded S false x) (folded S false y) (folded T false x) (folded T false y)
        (same-folded false x) (same-folded false y)
    same-folded b (Term.Binary Operator.Div x y) = same-operation Operator.Div (folded S false x) (folded S false y) (folded T false x) (folded T false y) (same-folded false x) (same-folded false y)
    same-folded b (Term.Binary Operator.Mod x y) = same-operation Operator.Mod (folded S false x) (folded S false y) (folded T false x) (folded T false y) (same-folded false x) (same-folded false y)
    same-folded b (Term.Apply f xs) =
        same-function f (folded_arguments S (is_if (named_function f)) xs) ∙ ap (folded_application T f) (same-arguments (is_if (named_function f)) xs)
    same-folded b (Term.Quantified q xs x) = refl

    pub same-arguments : (b : Bool) (xs : Terms) → folded_arguments S b xs ≡ folded_arguments T b xs
    same-arguments b Terms.NoTerms = refl
    same-arguments b (Terms.Then x xs) = ap (λ y. Terms.Then y (folded_arguments S false xs)) (same-folded b x) ∙ ap (Terms.Then (folded T b x)) (same-arguments false xs)
