-- How many operators terms and formulas have, and what room for them is left.
use Rattle.std.proofs.Common.{◌≡◌, ◌∙◌, ◌+◌, ◌<◌, ◌≤◌, ℕ, suc, refl, sym, ap, subst, arith, Bool, List, [], ◌∷◌, map, length, drop, get_or, Vec, Global, Box}
use Rattle.std.specs.Prelude.{box_value, sum_by}
use Rattle.std.proofs.lemmas.List.{at_drop_all}
use Rattle.std.proofs.lemmas.List.Sums.{sum_by-cons, sum_by-drop_more}
use Rattle.pb_base.specs.declared.limits.TheConstants.{MAX_OPERATORS}
use Rattle.pb_text_tree.specs.declared.name.Name as declared_name
use Rattle.pb_text_tree.specs.declared.place.Place.{Place}
use Rattle.pb_text_tree.specs.declared.operator.Connective.{Connective}
use Rattle.pb_text_tree.specs.declared.operator.Connective.TheVariants as connective
use Rattle.pb_text_tree.specs.declared.operator.Quantifier.{Quantifier}
use Rattle.pb_text_tree.specs.declared.operator.Quantifier.TheVariants.{Forall, Exists}
use Rattle.pb_text_tree.specs.declared.term.Argument.{Argument}
use Rattle.pb_text_tree.specs.declared.term.ArithmeticLink.{ArithmeticLink}
use Rattle.pb_text_tree.specs.declared.term.Term as term
use Rattle.pb_text_tree.specs.declared.term.TermLink.{TermLink}
use Rattle.pb_text_tree.specs.Form.{VariableForm, chained}
use Rattle.pb_text_meaning.specs.Syntax.{Name, Spec, Term}
use Rattle.pb_text_meaning.specs.Erase.{erased_variables, of_arithmetic}
use Rattle.pb_model_tree.specs.declared.formula.Modality.{Modality}
use Rattle.pb_model_tree.specs.declared.formula.Modality.TheVariants as modality
use Rattle.pb_model_meaning.specs.Syntax.{Formula}
use Rattle.pb_protocol_tree.specs.declared.formula.Formula as formula
use Rattle.pb_protocol_tree.specs.declared.formula.Link.{Link}
use Rattle.pb_protocol_tree.specs.Form.{FormulaForm, StepSetForm, formula_form}
use Rattle.pb_protocol_meaning.specs.Erase.{erased_formula}
use Rattle.pb_protocol_meaning.specs.Steps.{data_of}
use Rattle.pb_protocol_folding.specs.FoldedModels.{is_left}
use Rattle.pb_protocol_folding.specs.View as tree
use Rattle.pb_protocol_unfolding.specs.Written.{written_tuples}
use Rattle.pb_protocol_unfolding.specs.PutIn.{TermScope, copies, standing}
use Rattle.pb_protocol_unfolding.specs.Unfolding.{conjunction, disjunction, joined_formulas, named_steps, terms_of, unfolded, unfolded_formula}
use Rattle.pb_protocol_unfolder_terms.specs.Chains.{chain_term, operands_of}
use Rattle.pb_protocol_unfolder_terms.specs.Puts.{calculated_term}
use Rattle.pb_protocol_unfolder_terms.specs.Unfolding.{operator_count, operator_counts}
use Rattle.pb_protocol_unfolder_terms.specs.Values.{tuple_of}
use Rattle.pb_protocol_unfolder_terms.specs.View.{variable_of}
use Rattle.pb_protocol_unfolder_terms.specs.declared.scope.TermScope as declared_scope
use Rattle.pb_protocol_unfolder_terms.proofs.ChainLemmas.{application-said, chain-means}
use Rattle.pb_protocol_unfolder_terms.proofs.TermLemmas.{arithmetic-said}
use Rattle.pb_protocol_unfolder_steps.specs.declared.unfolder.Unfolder.{Unfolder}
use Rattle.pb_protocol_unfolder_steps.specs.Unfolder.{protocol_in, scope_within}
use Rattle.pb_protocol_unfolder.specs.declared.formula.Copies.{Copies}
use Rattle.pb_protocol_unfolder.specs.Copies.{copy_operators, link_operators, tuple_operators}
use Rattle.pb_protocol_unfolder.specs.Left.{left_operators, left_set}
use Rattle.pb_protocol_unfolder.specs.Operators.{argument_operators, formula_operators, name_count, operand_operators, operation_operators}
use Rattle.pb_protocol_unfolder.specs.View.{link_form}
use Rattle.pb_protocol_unfolder.proofs.Chains.{chain-form}
use Rattle.pb_protocol_unfolder.proofs.ChainFormulas.{AreCopies}
use Rattle.pb_protocol_unfolder.proofs.FormulaLemmas.{copies-of-tuples}

-- ---- room

-- for an operator and what stands behind it
pub one-spent : (a b c n k : ℕ) → a ≡ b + 1 → b ≡ c + n → n ≡ k → a ≡ c + suc k
one-spent a b c n k one more same = omega (arith, one, more, same)

pub one-over : (a k : ℕ) → a < 1 → a < suc k
one-over a k h = omega (arith, h)

pub more-over : (a b n k : ℕ) → a ≡ b + 1 → n ≡ k → b < n → a < suc k
more-over a b n k one same h = omega (arith, one, same, h)

pub token-over : (a n k : ℕ) → k ≡ suc n → a < 1 → a < k
token-over a n k whole h = omega (arith, whole, h)

pub behind-over : (a b n k : ℕ) → a ≡ b + 1 → k ≡ suc n → b < n → a < k
behind-over a b n k one whole h = omega (arith, one, whole, h)

pub behind-left : (a b d n k : ℕ) → a ≡ b + 1 → b ≡ d + n → k ≡ suc n → a ≡ d + k
behind-left a b d n k one more whole = omega (arith, one, more, whole)

-- for a modality, its set of steps and its operand
pub set-over : (a b n l k : ℕ) → a ≡ b + 1 → k ≡ suc (n + l) → b < n → a < k
set-over a b n l k one whole h = omega (arith, one, whole, h)

pub operand-over : (a b d n l k : ℕ) → a ≡ b + 1 → b ≡ d + n → k ≡ suc (n + l) → d < l → a < k
operand-over a b d n l k one set whole h = omega (arith, one, set, whole, h)

pub operand-left : (a b d e n l k : ℕ) → a ≡ b + 1 → b ≡ d + n → d ≡ e + l → k ≡ suc (n + l) → a ≡ e + k
operand-left a b d e n l k one set more whole = omega (arith, one, set, more, whole)

-- for what stands in front, and for what stands behind
pub first-over : (a n l k : ℕ) → k ≡ n + l → a < n → a < k
first-over a n l k whole h = omega (arith, whole, h)

pub rest-over : (a b n l k : ℕ) → a ≡ b + n → k ≡ n + l → b < l → a < k
rest-over a b n l k first whole h = omega (arith, first, whole, h)

pub both-left : (a b d n l k : ℕ) → a ≡ b + n → b ≡ d + l → k ≡ n + l → a ≡ d + k
both-left a b d n l k first rest whole = omega (arith, first, rest, whole)

pub same-over : (a n k : ℕ) → n ≡ k → a < n → a < k
same-over a n k same h = omega (arith, same, h)

pub same-left : (a b n k : ℕ) → a ≡ b + n → n ≡ k → a ≡ b + k
same-left a b n k taken same = omega (arith, taken, same)

pub within-room : (a k : ℕ) → a ≡ MAX_OPERATORS → a < k → MAX_OPERATORS < k
within-room a k whole h = subst (λ (n : ℕ). n < k) whole h

-- of what a loop goes over the rest is counted
pub loop-goes : (old rest rest' all room room' f : ℕ) → old + rest ≡ room + all → rest ≡ f + rest' → room ≡ room' + f → old + rest' ≡ room' + all
loop-goes old rest rest' all room room' f before item spent = omega (arith, before, item, spent)

pub loop-over : (old rest rest' all room f : ℕ) → old + rest ≡ room + all → rest ≡ f + rest' → room < f → old < all
loop-over old rest rest' all room f before item over = omega (arith, before, item, over)

pub loop-ends : (old rest all room : ℕ) → old + rest ≡ room + all → rest ≡ 0 → old ≡ room + all
loop-ends old rest all room before none = omega (arith, before, none)

pub item-counted : {X : Type 0} (f : X → ℕ) (xs : List X) (i : ℕ) (x : X) → i < length xs → x ≡ get_or xs i x → sum_by f (drop i xs) ≡ f x + sum_by f (drop (i + 1) xs)
item-counted f xs i x within is = sum_by-drop_more f xs i x within ∙ ap (λ y. f y + sum_by f (drop (i + 1) xs)) (sym is)

-- an item more is taken, or is too much
pub item-taken : {X : Type 0} (f : X → ℕ) (xs : List X) (i : ℕ) (x : X) (old room room' : ℕ) → i < length xs → x ≡ get_or xs i x → old + sum_by f (drop i xs) ≡ room + sum_by f xs → room ≡ room' + f x
    → old + sum_by f (drop (i + 1) xs) ≡ room' + sum_by f xs
item-taken f xs i x old room room' within is before spent = loop-goes _ _ _ _ _ _ _ before (item-counted f xs i x within is) spent

pub item-over : {X : Type 0} (f : X → ℕ) (xs : List X) (i : ℕ) (x : X) (old room : ℕ) → i < length xs → x ≡ get_or xs i x → old + sum_by f (drop i xs) ≡ room + sum_by f xs → room < f x
    → old < sum_by f xs
item-over f xs i x old room within is before over = loop-over _ _ _ _ _ _ before (item-counted f xs i x within is) over

pub end-counted : {X : Type 0} (f : X → ℕ) (xs : List X) (i : ℕ) → length xs ≤ i → sum_by f (drop i xs) ≡ 0
end-counted f xs i end = at_drop_all (sum_by f) xs i end

sum-mapped : {X Y : Type 0} (f : Y → ℕ) (g : X → Y) (xs : List X) → sum_by f (map g xs) ≡ sum_by (λ x. f (g x)) xs
sum-mapped f g [] = refl
sum-mapped f g (x ∷ xs) = sum_by-cons f (g x) (map g xs) ∙ ap (λ n. f (g x) + n) (sum-mapped f g xs) ∙ sym (sum_by-cons (λ y. f (g y)) x xs)

-- ---- terms

chain-counted : (c : Connective) (x : Term) (ls : List TermLink) → operator_count (chain_term c x (operands_of ls)) ≡ operator_count x + sum_by operand_operators ls
chain-counted c x [] = omega arith
chain-counted c x (l ∷ ls) =
    let rest = chain-counted c (tree.term_of l.operand) ls in
    let next : sum_by operand_operators (l ∷ ls) ≡ suc (operator_count (tree.term_of l.operand)) + sum_by operand_operators ls = sum_by-cons operand_operators l ls in
    omega (arith, rest, next)

calculated-counted : (x : Term) (ls : List ArithmeticLink) → operator_count (calculated_term x ls) ≡ operator_count x + sum_by operation_operators ls
calculated-counted x [] = omega arith
calculated-counted x (l ∷ ls) =
    let rest = calculated-counted (Term.Binary (of_arithmetic l.operator) x (tree.term_of l.operand)) ls in
    let next : sum_by operation_operators (l ∷ ls) ≡ suc (operator_count (tree.term_of l.operand)) + sum_by operation_operators ls = sum_by-cons operation_operators l ls in
    omega (arith, rest, next)

arguments-counted : (xs : List Argument) → operator_counts (tree.terms_of xs) ≡ sum_by argument_operators xs
arguments-counted [] = refl
arguments-counted (x ∷ xs) = ap (λ n. operator_count (tree.term_of x.term) + n) (arguments-counted xs) ∙ sym (sum_by-cons argument_operators x xs)

pub chain-operators : (c : Connective) (x : term.Term) (p : Box term.Term Global) (v : Vec TermLink Global) (ls : List TermLink) (t : term.Term) → t ≡ term.Chain c p v → x ≡ box_value p → ls ≡ v.items
    → operator_count (tree.term_of t) ≡ operator_count (tree.term_of x) + sum_by operand_operators ls
chain-operators c x p v ls t is at same = ap operator_count (sym (chain-means v is at same)) ∙ chain-counted c (tree.term_of x) ls

pub arithmetic-operators : (x : term.Term) (p : Box term.Term Global) (v : Vec ArithmeticLink Global)
    (ls : List ArithmeticLink) (t : term.Term) → t ≡ term.Arithmetic p v → x ≡ box_value p → ls ≡ v.items
    → operator_count (tree.term_of t) ≡ operator_count (tree.term_of x) + sum_by operation_operators ls
arithmetic-operators x p v ls t is at same =
    ap (λ (y : term.Term). operator_count (tree.term_of y)) is ∙ ap operator_count (arithmetic-said p v) ∙ calculated-counted (tree.term_of (box_value p)) v.items
    ∙ sym (ap (λ (y : term.Term). operator_count (tree.term_of y) + sum_by operation_operators ls) at
    ∙ ap (λ (ks : List ArithmeticLink). operator_count (tree.term_of (box_value p)) + sum_by operation_operators ks) same)

pub application-operators : (f : declared_name.Name) (v : Vec Argument Global) (xs : List Argument) (t : term.Term)
    → t ≡ term.Application f v → xs ≡ v.items → operator_count (tree.term_of t) ≡ suc (sum_by argument_operators xs)
application-operators f v xs t is same =
    ap (λ (y : term.Term). operator_count (tree.term_of y)) is ∙ ap operator_count (application-said f v)
    ∙ ap suc (arguments-counted v.items ∙ sym (ap (sum_by argument_operators) same))

-- ---- sets of steps

pub names-counted : (xs : List Name) → name_count (named_steps xs) ≡ length xs
names-counted [] = refl
names-counted (x ∷ []) = refl
names-counted (x ∷ y ∷ xs) =
    let rest = names-counted (y ∷ xs) in omega (arith, rest)

-- ---- quantifiers

conjunction-counted : (S : Spec) (left : Name → Bool) (fs : List Formula) → formula_operators S left (conjunction fs) ≡ sum_by (λ f. suc (formula_operators S left f)) fs
conjunction-counted S left [] = refl
conjunction-counted S left (f ∷ fs) =
    let rest = conjunction-counted S left fs in
    let next : sum_by (λ g. suc (formula_operators S left g)) (f ∷ fs)
    ≡ suc (formula_operators S left f) + sum_by (λ g. suc (formula_operators S left g)) fs =
    sum_by-cons (λ g. suc (formula_operators S left g)) f fs in
    omega (arith, rest, next)

disjunction-counted : (S : Spec) (left : Name → Bool) (fs : List Formula) → formula_operators S left (disjunction fs) ≡ sum_by (λ f. suc (formula_operators S left f)) fs
disjunction-counted S left [] = refl
disjunction-counted S left (f ∷ fs) =
    let rest = disjunction-counted S left fs in
    let next : sum_by (λ g. suc (formula_operators S left g)) (f ∷ fs)
    ≡ suc (formula_operators S left f) + sum_by (λ g. suc (formula_operators S left g)) fs =
    sum_by-cons (λ g. suc (formula_operators S left g)) f fs in
    omega (arith, rest, next)

joined-counted : (S : Spec) (left : Name → Bool) (q : Quantifier) (fs : List Formula) → formula_operators S left (joined_formulas q fs) ≡ sum_by (λ f. suc (formula_operators S left f)) fs
joined-counted S left Forall fs = conjunction-counted S left fs
joined-counted S left Exists fs = disjunction-counted S left fs

-- ---- formulas

module _ (u : Unfolder) (scope : declared_scope.TermScope) where
  connected-operators : (c : Connective) (q : Place) (F G : FormulaForm) → left_operators u scope (FormulaForm.connected c q F G) ≡ suc (left_operators u scope F + left_operators u scope G)
  connected-operators connective.And q F G = refl
  connected-operators connective.Or q F G = refl
  connected-operators connective.Implies q F G = refl

  links-operators : (c : Connective) (F : FormulaForm) (ls : List Link)
      → left_operators u scope (chained (FormulaForm.connected c) F (map link_form ls))
      ≡ left_operators u scope F + sum_by (link_operators u scope) ls
  links-operators c F [] = omega arith
  links-operators c F (l ∷ ls) =
      let whole = connected-operators c l.place F (chained (FormulaForm.connected c) (formula_form l.operand) (map link_form ls)) in
      let rest = links-operators c (formula_form l.operand) ls in
      let next : sum_by (link_operators u scope) (l ∷ ls) ≡ suc (left_operators u scope (formula_form l.operand)) + sum_by (link_operators u scope) ls = sum_by-cons (link_operators u scope) l ls in
      omega (arith, whole, rest, next)

  pub chain-formula : (c : Connective) (x : formula.Formula) (p : Box formula.Formula Global) (v : Vec Link Global)
      (ls : List Link) (f : formula.Formula) → f ≡ formula.Chain c p v → x ≡ box_value p → ls ≡ v.items
      → left_operators u scope (formula_form f) ≡ left_operators u scope (formula_form x) + sum_by (link_operators u scope) ls
  chain-formula c x p v ls f is at same =
      ap (λ (y : formula.Formula). left_operators u scope (formula_form y)) is ∙ ap (left_operators u scope) (chain-form c p v) ∙ links-operators c (formula_form (box_value p)) v.items
      ∙ sym (ap (λ (y : formula.Formula). left_operators u scope (formula_form y) + sum_by (link_operators u scope) ls)
      at ∙ ap (λ (ks : List Link). left_operators u scope (formula_form (box_value p)) + sum_by (link_operators u scope) ks) same)

  pub modal-operators : (k : Modality) (p : Place) (A : StepSetForm) (F : FormulaForm)
      → left_operators u scope (FormulaForm.modal k p A F) ≡ suc (name_count (left_set u scope A) + left_operators u scope F)
  modal-operators modality.Box p A F = refl
  modal-operators modality.Diamond p A F = refl

  pub quantified-operators : (q : Quantifier) (p : Place) (xs : List VariableForm) (F : FormulaForm)
      → left_operators u scope (FormulaForm.quantified q p xs F) ≡ sum_by (tuple_operators u scope (erased_variables xs) F) (written_tuples (data_of (protocol_in u)) (erased_variables xs))
  quantified-operators q p xs F =
      let m = protocol_in u in
      let left = is_left (unfolded m) in
      let f : TermScope → Formula = λ σ. unfolded_formula m σ (erased_formula F) in
      let ys = erased_variables xs in
      let ρ = scope_within u scope in
      joined-counted (data_of m) left q (copies (data_of m) ys f ρ)
      ∙ ap (sum_by (λ g. suc (formula_operators (data_of m) left g))) (copies-of-tuples (data_of m) ys f ρ)
      ∙ sum-mapped (λ g. suc (formula_operators (data_of m) left g)) (λ (ks : List Term). f (standing ys (terms_of ks) ρ)) (written_tuples (data_of m) ys)

  -- the copies that the code makes
  pub copies-counted : (made : Copies) (f : formula.Formula) (q : Quantifier) (place : Place) (xs : List VariableForm) → AreCopies u scope made (erased_variables xs)
      → sum_by (copy_operators u made f) made.tuples.now ≡ left_operators u scope (FormulaForm.quantified q place xs (formula_form f))
  copies-counted made f q place xs are =
      sym (sum-mapped (tuple_operators u made.outer.now.names (map variable_of made.variables.now) (formula_form f)) tuple_of made.tuples.now)
      ∙ (λ i. sum_by (tuple_operators u (are.outer i) (are.variables i) (formula_form f)) (are.tuples i)) ∙ sym (quantified-operators q place xs (formula_form f))
