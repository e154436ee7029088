-- What stands in one group among the variables of a list.
use Rattle.std.proofs.Common.{◌≡◌, ◌∙◌, ℕ, ◌+◌, ◌*◌, ◌^◌, ◌<◌, ◌==◌, false, List, [], ◌∷◌, ◌++◌, length, get_or, drop, map, refl, sym, ap, arith}
use Rattle.std.specs.Prelude.{flat_map}
use Rattle.std.proofs.Math.Nat.{mul_assoc, one-mul}
use borrow.Author.Tests.{ne_eqb}
use Rattle.pb_sorts.proofs.Places.{drop-at}
use Rattle.pb_text_tree.specs.declared.name.Name as declared_name
use Rattle.pb_text_tree.specs.declared.variable.Variables.{Variables}
use Rattle.pb_text_tree.specs.Form.{Named, VariableForm, named, variable_forms, variables_form}
use Rattle.pb_text_meaning.specs.Syntax.{Spec}
use Rattle.pb_protocol_tree.specs.declared.protocol.StateVariables.{StateVariables}
use Rattle.pb_protocol_tree.specs.Form.{StateVariableForm, state_variables_form}
use Rattle.pb_model_sizes.specs.Counts.{element_sum, state_product, tuples_of, value_count}

-- names, each a variable of this sort
abbrev pub of_sort : Named → List declared_name.Name → List VariableForm
of_sort sort ns = map (λ (n : declared_name.Name). record { name = named n; sort = sort }) ns

-- a group with a name has a variable, and one without has none
pub some-named : (g : Variables) (gs : List Variables) → (length g.names.items ≡ 0 → ⊥) → (length (variable_forms (g ∷ gs)) == 0) ≡ false
some-named g gs some = go g.names.items some
  where
    go : (ns : List declared_name.Name) → (length ns ≡ 0 → ⊥) → (length (of_sort (named g.sort) ns ++ variable_forms gs) == 0) ≡ false
    go [] none = absurd (none refl)
    go (n ∷ ns) none = ne_eqb (length (of_sort (named g.sort) (n ∷ ns) ++ variable_forms gs)) 0 (λ e. omega arith)

pub none-named : (g : Variables) (gs : List Variables) → length g.names.items ≡ 0 → variable_forms (g ∷ gs) ≡ variable_forms gs
none-named g gs none = go g.names.items none
  where
    go : (ns : List declared_name.Name) → length ns ≡ 0 → of_sort (named g.sort) ns ++ variable_forms gs ≡ variable_forms gs
    go [] e = refl
    go (n ∷ ns) e = absurd (omega arith)

module _ (spec : Spec) where
  pub tuples-append : (xs ys : List VariableForm) → tuples_of spec (xs ++ ys) ≡ tuples_of spec xs * tuples_of spec ys
  tuples-append [] ys = sym (one-mul (tuples_of spec ys))
  tuples-append (x ∷ xs) ys =
      ap (λ (n : ℕ). value_count spec x.sort.text * n) (tuples-append xs ys)
      ∙ sym (mul_assoc (value_count spec x.sort.text) (tuples_of spec xs) (tuples_of spec ys))

  -- the tuples of the groups from the one at k on
  pub tuples-next : (gs : List Variables) (k : ℕ) (g : Variables) → k < length gs → g ≡ get_or gs k g
      → tuples_of spec (variable_forms (drop k gs)) ≡ tuples_of spec (variables_form g) * tuples_of spec (variable_forms (drop (k + 1) gs))
  tuples-next gs k g below at =
      ap (λ (hs : List Variables). tuples_of spec (variable_forms hs)) (drop-at gs k g below at)
      ∙ tuples-append (variables_form g) (variable_forms (drop (k + 1) gs))

  pub elements-append : (xs ys : List StateVariableForm) → element_sum spec (xs ++ ys) ≡ element_sum spec xs + element_sum spec ys
  elements-append [] ys = omega arith
  elements-append (x ∷ xs) ys = ap (λ (n : ℕ). tuples_of spec x.indices + n) (elements-append xs ys) ∙ (omega arith)

  pub states-append : (xs ys : List StateVariableForm) → state_product spec (xs ++ ys) ≡ state_product spec xs * state_product spec ys
  states-append [] ys = sym (one-mul (state_product spec ys))
  states-append (x ∷ xs) ys =
      let power = value_count spec x.sort.text ^ tuples_of spec x.indices in
      ap (λ (n : ℕ). power * n) (states-append xs ys) ∙ sym (mul_assoc power (state_product spec xs) (state_product spec ys))

  pub elements-next : (gs : List StateVariables) (k : ℕ) (g : StateVariables) → k < length gs → g ≡ get_or gs k g
      → element_sum spec (flat_map state_variables_form (drop k gs))
      ≡ element_sum spec (state_variables_form g) + element_sum spec (flat_map state_variables_form (drop (k + 1) gs))
  elements-next gs k g below at =
      ap (λ (hs : List StateVariables). element_sum spec (flat_map state_variables_form hs)) (drop-at gs k g below at)
      ∙ elements-append (state_variables_form g) (flat_map state_variables_form (drop (k + 1) gs))

  pub states-next : (gs : List StateVariables) (k : ℕ) (g : StateVariables) → k < length gs → g ≡ get_or gs k g
      → state_product spec (flat_map state_variables_form (drop k gs))
      ≡ state_product spec (state_variables_form g) * state_product spec (flat_map state_variables_form (drop (k + 1) gs))
  states-next gs k g below at =
      ap (λ (hs : List StateVariables). state_product spec (flat_map state_variables_form hs)) (drop-at gs k g below at)
      ∙ states-append (state_variables_form g) (flat_map state_variables_form (drop (k + 1) gs))
