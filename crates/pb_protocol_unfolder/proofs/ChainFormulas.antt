-- Chains, modalities and quantifiers of formulas that are unfolded and folded.
use Rattle.std.proofs.Common.{◌≡◌, ◌∙◌, refl, sym, ap, List, [], ◌∷◌, ◌++◌, map, length, Vec, Global, Box}
use Rattle.std.specs.Prelude.{box_value}
use Rattle.std.proofs.lemmas.List.{append_assoc}
use Rattle.pb_text_tree.specs.declared.place.Place.{Place}
use Rattle.pb_text_tree.specs.declared.operator.Connective.{Connective}
use Rattle.pb_text_tree.specs.declared.operator.Connective.TheVariants as connective
use Rattle.pb_text_tree.specs.declared.operator.Quantifier.{Quantifier}
use Rattle.pb_text_tree.specs.declared.variable.Variables.{Variables}
use Rattle.pb_text_tree.specs.Form.{VariableForm, chained, variable_forms}
use Rattle.pb_text_meaning.specs.Syntax as syntax
use Rattle.pb_text_meaning.specs.Syntax.{Term}
use Rattle.pb_text_meaning.specs.Erase.{erased_variables}
use Rattle.pb_model_tree.specs.declared.formula.Link as flat_link
use Rattle.pb_model_tree.specs.declared.formula.Modality.{Modality}
use Rattle.pb_model_tree.specs.declared.formula.Modality.TheVariants as modality
use Rattle.pb_model_meaning.specs.Syntax.{Formula}
use Rattle.pb_model_meaning.specs.Erase as flat_erase
use Rattle.pb_protocol_tree.specs.declared.formula.Formula as formula
use Rattle.pb_protocol_tree.specs.declared.formula.Link.{Link}
use Rattle.pb_protocol_tree.specs.Form.{FormulaForm, StepSetForm, formula_form}
use Rattle.pb_protocol_meaning.specs.Erase.{erased_formula}
use Rattle.pb_protocol_meaning.specs.Steps.{data_of}
use Rattle.pb_protocol_folding.specs.FoldedModels.{folded_formula, folded_joined_formula, is_left}
use Rattle.pb_protocol_unfolding.specs.Written.{written_tuples}
use Rattle.pb_protocol_unfolding.specs.PutIn.{TermScope, copies, standing}
use Rattle.pb_protocol_unfolding.specs.Unfolding.{terms_of, unfolded, unfolded_formula}
use Rattle.pb_protocol_unfolder_terms.specs.declared.scope.TermScope as declared_scope
use Rattle.pb_protocol_unfolder_terms.specs.declared.sorts.Variable.{Variable}
use Rattle.pb_protocol_unfolder_terms.specs.declared.written.Written.{Written}
use Rattle.pb_protocol_unfolder_terms.specs.Values.{tuple_of}
use Rattle.pb_protocol_unfolder_terms.specs.View.{variable_of}
use Rattle.pb_protocol_unfolder_steps.specs.declared.unfolder.Unfolder.{Unfolder}
use Rattle.pb_protocol_unfolder_steps.specs.Unfolder.{protocol_in, scope_within}
use Rattle.pb_protocol_unfolder.specs.declared.formula.Copies.{Copies}
use Rattle.pb_protocol_unfolder.specs.Copies.{copy_of, left_operand, tuples_in}
use Rattle.pb_protocol_unfolder.specs.Left.{left_formula, left_set}
use Rattle.pb_protocol_unfolder.specs.Links.{folded_chain, folded_connected, linked_formula}
use Rattle.pb_protocol_unfolder.specs.View.{link_form}
use Rattle.pb_protocol_unfolder.proofs.Chains.{chain-form}
use Rattle.pb_protocol_unfolder.proofs.FormulaLemmas.{copies-of-tuples, folded-joined}

-- ---- chains that are joined from the last link on

chain-last : (c : Connective) (f : Formula) (ys : List Formula) (a b : Formula) → folded_chain c f (ys ++ a ∷ b ∷ []) ≡ folded_chain c f (ys ++ folded_connected c a b ∷ [])
chain-last c f [] a b = refl
chain-last c f (y ∷ ys) a b = ap (folded_connected c f) (chain-last c y ys a b)

links-both : (xs ys : List flat_link.Link) → map linked_formula (xs ++ ys) ≡ map linked_formula xs ++ map linked_formula ys
links-both [] ys = refl
links-both (x ∷ xs) ys = ap (λ v. linked_formula x ∷ v) (links-both xs ys)

pub chain-begun : (c : Connective) (f : Formula) (ls left : List flat_link.Link) (last : flat_link.Link)
    → ls ≡ left ++ last ∷ []
    → folded_chain c f (map linked_formula left ++ linked_formula last ∷ []) ≡ folded_chain c f (map linked_formula ls)
chain-begun c f ls left last are =
    ap (folded_chain c f) (sym (links-both left (last ∷ [])) ∙ ap (map linked_formula) (sym are))

pub chain-goes : (c : Connective) (f g : Formula) (ls left : List flat_link.Link) (before last : flat_link.Link)
    → ls ≡ left ++ before ∷ [] → g ≡ folded_connected c (linked_formula before) (linked_formula last)
    → folded_chain c f (map linked_formula left ++ g ∷ []) ≡ folded_chain c f (map linked_formula ls ++ linked_formula last ∷ [])
chain-goes c f g ls left before last are is =
    ap (λ (h : Formula). folded_chain c f (map linked_formula left ++ h ∷ [])) is
    ∙ sym (chain-last c f (map linked_formula left) (linked_formula before) (linked_formula last))
    ∙ ap (folded_chain c f)
    (sym (append_assoc (map linked_formula left) (linked_formula before ∷ []) (linked_formula last ∷ []))
    ∙ ap (λ v. v ++ linked_formula last ∷ []) (sym (links-both left (before ∷ [])) ∙ ap (map linked_formula) (sym are)))

pub chain-ends : (c : Connective) (f g : Formula) (ls : List flat_link.Link) → length ls ≡ 0 → folded_chain c f (map linked_formula ls ++ g ∷ []) ≡ folded_connected c f g
chain-ends c f g [] none = refl
chain-ends c f g (l ∷ ls) none = cc

pub chain-alone : (c : Connective) (f : Formula) (ls : List flat_link.Link) → length ls ≡ 0 → f ≡ folded_chain c f (map linked_formula ls)
chain-alone c f [] none = refl
chain-alone c f (l ∷ ls) none = cc

-- ---- unfolded formulas

module _ (u : Unfolder) (scope : declared_scope.TermScope) where
  left-connected : (c : Connective) (p : Place) (F G : FormulaForm) → folded_connected c (left_formula u scope F) (left_formula u scope G) ≡ left_formula u scope (FormulaForm.connected c p F G)
  left-connected connective.And p F G = refl
  left-connected connective.Or p F G = refl
  left-connected connective.Implies p F G = refl

  left-links : (c : Connective) (F : FormulaForm) (ls : List Link)
      → folded_chain c (left_formula u scope F) (map (left_operand u scope) ls)
      ≡ left_formula u scope (chained (FormulaForm.connected c) F (map link_form ls))
  left-links c F [] = refl
  left-links c F (l ∷ ls) =
      ap (folded_connected c (left_formula u scope F)) (left-links c (formula_form l.operand) ls)
      ∙ left-connected c l.place F (chained (FormulaForm.connected c) (formula_form l.operand) (map link_form ls))

  pub left-chain : (c : Connective) (x : formula.Formula) (p : Box formula.Formula Global) (v : Vec Link Global)
      (ls : List Link) (f : formula.Formula) → f ≡ formula.Chain c p v → x ≡ box_value p → ls ≡ v.items
      → folded_chain c (left_formula u scope (formula_form x)) (map (left_operand u scope) ls) ≡ left_formula u scope (formula_form f)
  left-chain c x p v ls f is at same =
      ap (λ (y : formula.Formula). folded_chain c (left_formula u scope (formula_form y)) (map (left_operand u scope) ls)) at
      ∙ ap (λ (ks : List Link). folded_chain c (left_formula u scope (formula_form (box_value p))) (map (left_operand u scope) ks)) same
      ∙ left-links c (formula_form (box_value p)) v.items
      ∙ sym (ap (λ (y : formula.Formula). left_formula u scope (formula_form y)) is ∙ ap (left_formula u scope) (chain-form c p v))

  pub left-modal : (k : Modality) (p : Place) (A : StepSetForm) (F : FormulaForm) → flat_erase.modal k (left_set u scope A) (left_formula u scope F) ≡ left_formula u scope (FormulaForm.modal k p A F)
  left-modal modality.Box p A F = refl
  left-modal modality.Diamond p A F = refl

  map-twice : {A B C : Type 0} (f : B → C) (g : A → B) (xs : List A) → map f (map g xs) ≡ map (λ x. f (g x)) xs
  map-twice f g [] = refl
  map-twice f g (x ∷ xs) = ap (λ v. f (g x) ∷ v) (map-twice f g xs)

  pub left-quantified : (q : Quantifier) (p : Place) (xs : List VariableForm) (F : FormulaForm)
      → folded_joined_formula q
      (map (λ (ks : List Term). folded_formula (data_of (protocol_in u)) (is_left (unfolded (protocol_in u)))
      (unfolded_formula (protocol_in u) (standing (erased_variables xs) (terms_of ks) (scope_within u scope)) (erased_formula F)))
      (written_tuples (data_of (protocol_in u)) (erased_variables xs)))
      ≡ left_formula u scope (FormulaForm.quantified q p xs F)
  left-quantified q p xs F =
      let m = protocol_in u in
      let left = is_left (unfolded m) in
      let f : TermScope → Formula = λ σ. unfolded_formula m σ (erased_formula F) in
      let ys = erased_variables xs in
      ap (folded_joined_formula q)
      (sym (map-twice (folded_formula (data_of m) left) (λ (ks : List Term). f (standing ys (terms_of ks) (scope_within u scope))) (written_tuples (data_of m) ys))
      ∙ ap (map (folded_formula (data_of m) left)) (sym (copies-of-tuples (data_of m) ys f (scope_within u scope))))
      ∙ sym (folded-joined (data_of m) left q (copies (data_of m) ys f (scope_within u scope)))

  -- the copies are of a quantifier with these variables
  pub record AreCopies (made : Copies) (xs : List syntax.Variable) : Type 0 where
    pub variables : map variable_of made.variables.now ≡ xs
    pub outer : made.outer.now.names ≡ scope
    pub tuples : map tuple_of made.tuples.now ≡ tuples_in u xs

  pub are-copies : (made : Copies) (vs ws : List Variable) (ts : List (Vec Written Global)) (gs groups : List Variables) → made.outer.now.names ≡ scope → made.variables.now ≡ vs → made.tuples.now ≡ ts
      → map variable_of vs ≡ erased_variables (variable_forms gs) → gs ≡ groups → map tuple_of ts ≡ tuples_in u (map variable_of ws) → ws
      ≡ vs → AreCopies made (erased_variables (variable_forms groups))
  are-copies made vs ws ts gs groups outer variables tuples said same are given =
      let named = said ∙ ap (λ (hs : List Variables). erased_variables (variable_forms hs)) same in
      record {
        variables = ap (map variable_of) variables ∙ named;
        outer = outer;
        tuples = ap (map tuple_of) tuples ∙ are ∙ ap (tuples_in u) (ap (map variable_of) given ∙ named);
      }

  -- the copies that the code makes
  pub copies-made : (made : Copies) (f : formula.Formula) (xs : List syntax.Variable) → AreCopies made xs
      → map (copy_of u made f) made.tuples.now
      ≡ map (λ (ks : List Term). folded_formula (data_of (protocol_in u)) (is_left (unfolded (protocol_in u)))
      (unfolded_formula (protocol_in u) (standing xs (terms_of ks) (scope_within u scope)) (erased_formula (formula_form f)))) (tuples_in u xs)
  copies-made made f xs are =
      let at : List syntax.Variable → declared_scope.TermScope → List Term → Formula =
      λ ys s ks. folded_formula (data_of (protocol_in u)) (is_left (unfolded (protocol_in u)))
      (unfolded_formula (protocol_in u) (standing ys (terms_of ks) (scope_within u s)) (erased_formula (formula_form f))) in
      sym (map-twice (at (map variable_of made.variables.now) made.outer.now.names) tuple_of made.tuples.now)
      ∙ (λ i. map (at (are.variables i) (are.outer i)) (are.tuples i))
