-- Values in sets of steps that are no values.
use Rattle.std.proofs.Common.{◌≡◌, ◌∙◌, ◌⊎◌, inl, inr, refl, sym, ap, subst, true, List, [], ◌∷◌, map, Option, Some, None, Vec, Global, Box, Result}
use Rattle.std.specs.Prelude.{Contains, box_value, unwrap_or}
use Rattle.std.specs.Option.{ok_or}
use Rattle.std.specs.Prelude.{IfOk}
use Rattle.std.proofs.lemmas.Result.{IfOk-weaker}
use Rattle.pb_base_values.specs.Carrier.{Value}
use Rattle.pb_base.specs.OrMemory.{IfFault, IfRefused}
use Rattle.pb_base.specs.declared.or_memory.OrMemory.{OrMemory}
use Rattle.pb_text_tree.specs.declared.place.Place.{Place}
use Rattle.pb_text_tree.specs.declared.operator.Connective.{Connective}
use Rattle.pb_text_tree.specs.Form.{chained}
use Rattle.pb_text_meaning.specs.Syntax.{Name, Term, Variable}
use Rattle.pb_text_meaning.specs.Erase.{erased_variables}
use Rattle.pb_protocol_tree.specs.declared.step_set.StepSet as set
use Rattle.pb_protocol_tree.specs.declared.step_set.StepSet.{StepSet}
use Rattle.pb_protocol_tree.specs.declared.step_set.StepSetLink.{StepSetLink}
use Rattle.pb_protocol_tree.specs.declared.formula.Formula as formula
use Rattle.pb_protocol_tree.specs.declared.formula.Formula.{Formula}
use Rattle.pb_protocol_tree.specs.declared.formula.Link.{Link}
use Rattle.pb_protocol_tree.specs.Form.{FormulaForm, ProtocolForm, StepSetForm, StepValueForm, formula_form, step_set_form}
use Rattle.pb_protocol_meaning.specs.Syntax.{Protocol}
use Rattle.pb_protocol_meaning.specs.Erase.{erase}
use Rattle.pb_model_tree.specs.declared.formula.Modality.{Modality}
use Rattle.pb_protocol_unfolding.specs.PutIn.{TermScope, standing, term_of}
use Rattle.pb_protocol_unfolding.specs.Unfolding.{terms_of}
use Rattle.pb_protocol_folding.specs.Folding.{written_value}
use Rattle.pb_protocol_meaning.specs.Steps.{data_of, functions_at_start}
use Rattle.pb_protocol_unfolder_terms.specs.declared.scope.TermScope as declared_scope
use Rattle.pb_protocol_unfolder_steps.specs.declared.unfolder.Unfolder.{Unfolder}
use Rattle.pb_protocol_unfolder_steps.specs.Unfolder.{protocol_in, scope_within}
use Rattle.pb_protocol_unfolder.specs.declared.fault.UnfoldingFault.{UnfoldingFault}
use Rattle.pb_protocol_unfolder.specs.Defined.{stands_for}
use Rattle.pb_protocol_unfolder.specs.Faults.{HasNoValue, IsFaultOfFormula, IsFaultOfSet, IsFaultOfValue, OfMany, meant}
use Rattle.pb_protocol_unfolder.specs.Parts.{IsAt, IsFaultIn, IsFaultOfCopies, IsFaultOfLinks, IsFaultOfModality, IsFaultOfSets}
use Rattle.pb_protocol_unfolder.specs.View.{link_form, set_link_form, set_operand}
use Rattle.pb_protocol_unfolder.proofs.Chains.{chain-form, union-form}
use Rattle.pb_protocol_unfolder.proofs.FaultLemmas.{first-or-behind, none-in}
use Rattle.pb_protocol_unfolder.specs.Values.{value_of_named, valuation}
use Rattle.pb_protocol_unfolder.proofs.ValueLemmas.{is_nameless, nameless-value}

-- ---- what a term in a set of steps says

pub meant-bound : (m : Protocol) (ρ : TermScope) (x : Name) (k : Term) → Some k ≡ term_of ρ x → k ≡ meant m ρ (Term.Named x)
meant-bound m ρ x k found = ap (λ (o : Option Term). unwrap_or o (stands_for m.definitions x)) found

pub meant-free : (m : Protocol) (ρ : TermScope) (x : Name) → None ≡ term_of ρ x → stands_for m.definitions x ≡ meant m ρ (Term.Named x)
meant-free m ρ x none = ap (λ (o : Option Term). unwrap_or o (stands_for m.definitions x)) none

pub meant-nameless : (m : Protocol) (ρ : TermScope) (t : Term) → is_nameless t ≡ true → t ≡ meant m ρ t
meant-nameless m ρ (Term.Named x) e = absurd (cc e)
meant-nameless m ρ (Term.Truth b) e = refl
meant-nameless m ρ (Term.Number n) e = refl
meant-nameless m ρ (Term.Not x) e = refl
meant-nameless m ρ (Term.Negative x) e = refl
meant-nameless m ρ (Term.Binary o x y) e = refl
meant-nameless m ρ (Term.Apply f xs) e = refl
meant-nameless m ρ (Term.Quantified q xs x) e = refl

pub said-so : {A : Type 0} (m : Protocol) (place : Place) (s t : Term) (r : Result A (OrMemory UnfoldingFault)) → s ≡ t
    → IfRefused r (IsFaultIn (IsAt place (HasNoValue m s))) → IfRefused r (IsFaultIn (IsAt place (HasNoValue m t)))
said-so m place s t r same is = subst (λ (x : Term). IfRefused r (IsFaultIn (IsAt place (HasNoValue m x)))) same is

pub said-value : {E : Type 0} (m : Protocol) (s t : Term) (r : Result Value E) → s ≡ t → IfOk r (λ v. written_value (data_of m) s ≡ Some v) → IfOk r (λ v. written_value (data_of m) t ≡ Some v)
said-value m s t r same is = subst (λ (x : Term). IfOk r (λ v. written_value (data_of m) x ≡ Some v)) same is

-- ---- what a call says of the same term, and of one without a name

module _ (u : Unfolder) (scope : declared_scope.TermScope) where
  pub alone-value : {E : Type 0} (s t : Term) (r : Result Value E) → s ≡ t → IfOk r (λ v. v ≡ value_of_named u scope s) → IfOk r (λ v. v ≡ value_of_named u scope t)
  alone-value s t r same = IfOk-weaker r _ _ (λ v h. h ∙ ap (value_of_named u scope) same)

  pub alone-refused : {A : Type 0} (place : Place) (s t : Term) (r : Result A (OrMemory UnfoldingFault)) → s ≡ t
      → IfRefused r (IsFaultIn (IsAt place (HasNoValue (protocol_in u) (meant (protocol_in u) (scope_within u scope) s))))
      → IfRefused r (IsFaultIn (IsAt place (HasNoValue (protocol_in u) (meant (protocol_in u) (scope_within u scope) t))))
  alone-refused place s t r same = said-so (protocol_in u) place (meant (protocol_in u) (scope_within u scope) s) (meant (protocol_in u) (scope_within u scope) t) r
      (ap (meant (protocol_in u) (scope_within u scope)) same)

  pub plain-value : {E : Type 0} (t : Term) (r : Result Value E) → is_nameless t ≡ true → IfOk r (λ v. written_value (data_of (protocol_in u)) t ≡ Some v) → IfOk r (λ v. v ≡ value_of_named u scope t)
  plain-value t r nameless = IfOk-weaker r _ _ (λ v h. nameless-value (data_of (protocol_in u)) (functions_at_start (protocol_in u)) (valuation u scope) t v nameless h)

  pub plain-refused : {A : Type 0} (place : Place) (t : Term) (r : Result A (OrMemory UnfoldingFault)) → is_nameless t ≡ true
      → IfRefused r (IsFaultIn (IsAt place (HasNoValue (protocol_in u) t))) → IfRefused r (IsFaultIn (IsAt place (HasNoValue (protocol_in u) (meant (protocol_in u) (scope_within u scope) t))))
  plain-refused place t r nameless = said-so (protocol_in u) place t (meant (protocol_in u) (scope_within u scope) t) r (meant-nameless (protocol_in u) (scope_within u scope) t nameless)

-- a value, or the error
pub refused-or : {A : Type 0} (o : Option A) (e : OrMemory UnfoldingFault) (r : Result A (OrMemory UnfoldingFault))
    (P : UnfoldingFault → Type 0) → r ≡ ok_or o e → (o ≡ None → IfFault e P) → IfRefused r P
refused-or {A = A} (Some v) e r P is to = subst (λ (x : Result A (OrMemory UnfoldingFault)). IfRefused x P) (sym is) tt
refused-or {A = A} None e r P is to = subst (λ (x : Result A (OrMemory UnfoldingFault)). IfRefused x P) (sym is) (to refl)

-- ---- own values

-- a step's own values are compared one by one
pub own-value : (m : Protocol) (ρ : TermScope) (k : Term) (own : List Term) → Contains own k → (v : StepValueForm) (p : Place) → IsFaultOfValue m ρ (k ∷ []) v p → IsFaultOfValue m ρ own v p
own-value m ρ k own at (StepValueForm.any_value q) p is = is
own-value m ρ k own at (StepValueForm.given q x) p (same, inl none) = (same, inl none)
own-value m ρ k own at (StepValueForm.given q x) p (same, inr (l, among, none)) =
    elim (first-or-behind k [] l among) [
      | inl is ↦ (same, inr (l, subst (Contains own) is at, none))
      | inr none ↦ absurd (none-in l none)
    ]

-- ---- unions and chains

module _ (m : Protocol) (ρ : TermScope) (p : Place) where
  united : (own : List Term) (A : StepSetForm) (ls : List StepSetLink) → IsFaultOfSet m ρ own A p ⊎ IsFaultOfSets m ρ own (map set_operand ls) p
      → IsFaultOfSet m ρ own (chained StepSetForm.union A (map set_link_form ls)) p
  united own A [] (inl is) = is
  united own A [] (inr (B, at, is)) = absurd (none-in B at)
  united own A (l ∷ ls) (inl is) = inl is
  united own A (l ∷ ls) (inr (B, at, is)) =
      elim (first-or-behind (set_operand l) (map set_operand ls) B at) [
        | inl same ↦ inr (united own (set_operand l) ls (inl (subst (λ (C : StepSetForm). IsFaultOfSet m ρ own C p) (sym same) is)))
        | inr behind ↦ inr (united own (set_operand l) ls (inr (B, behind, is)))
      ]

  pub fault-of-union : (own : List Term) (x : StepSet) (b : Box StepSet Global) (v : Vec StepSetLink Global) (ls : List StepSetLink) (A : StepSet) → A ≡ set.Union b v → x ≡ box_value b → ls ≡ v.items
      → IsFaultOfSet m ρ own (step_set_form x) p ⊎ IsFaultOfSets m ρ own (map set_operand ls) p → IsFaultOfSet m ρ own (step_set_form A) p
  fault-of-union own x b v ls A is at same fault =
      subst (λ (B : StepSetForm). IsFaultOfSet m ρ own B p)
      (ap (λ (y : StepSet). chained StepSetForm.union (step_set_form y) (map set_link_form ls)) at
      ∙ ap (λ (ks : List StepSetLink). chained StepSetForm.union (step_set_form (box_value b)) (map set_link_form ks)) same
      ∙ sym (ap step_set_form is ∙ union-form b v))
      (united own (step_set_form x) ls fault)

-- of what is too large the more follows
pub fault-so : (m : ProtocolForm) (A B : Type 0) → (A → B) → (p : UnfoldingFault) (ρ : TermScope) (f : FormulaForm) → IsFaultOfFormula m A ρ f p → IsFaultOfFormula m B ρ f p
fault-so m A B to p ρ (FormulaForm.constant q b) is = is
fault-so m A B to p ρ (FormulaForm.«data» q x) (inl o) = inl o
fault-so m A B to p ρ (FormulaForm.«data» q x) (inr o) = inr (to o.0, o.1)
fault-so m A B to p ρ (FormulaForm.variable x) is = is
fault-so m A B to p ρ (FormulaForm.negation q f) (inl o) = inl (to o.0, o.1)
fault-so m A B to p ρ (FormulaForm.negation q f) (inr is) = inr (fault-so m A B to p ρ f is)
fault-so m A B to p ρ (FormulaForm.connected c q f g) (inl o) = inl (to o.0, o.1)
fault-so m A B to p ρ (FormulaForm.connected c q f g) (inr (inl is)) = inr (inl (fault-so m A B to p ρ f is))
fault-so m A B to p ρ (FormulaForm.connected c q f g) (inr (inr is)) = inr (inr (fault-so m A B to p ρ g is))
fault-so m A B to p ρ (FormulaForm.modal k q C f) (inl o) = inl (to o.0, o.1)
fault-so m A B to p ρ (FormulaForm.modal k q C f) (inr (inl v)) = inr (inl v)
fault-so m A B to p ρ (FormulaForm.modal k q C f) (inr (inr is)) = inr (inr (fault-so m A B to p ρ f is))
fault-so m A B to p ρ (FormulaForm.fixpoint sign q x f) (inl o) = inl (to o.0, o.1)
fault-so m A B to p ρ (FormulaForm.fixpoint sign q x f) (inr is) = inr (fault-so m A B to p ρ f is)
fault-so m A B to p ρ (FormulaForm.quantified k q xs f) (inl o) = inl o
fault-so m A B to p ρ (FormulaForm.quantified k q xs f) (inr (inl o)) = inr (inl (to o.0, o.1))
fault-so m A B to p ρ (FormulaForm.quantified k q xs f) (inr (inr is)) = inr (inr (is.0, is.1, fault-so m A B to p (standing (erased_variables xs) (terms_of is.0) ρ) f is.2))

pub modality-so : (m : Protocol) (X Y : Type 0) → (X → Y) → (p : UnfoldingFault) (ρ : TermScope) (q : Place) (A : StepSetForm) → IsFaultOfModality m X ρ q A p → IsFaultOfModality m Y ρ q A p
modality-so m X Y to p ρ q A (inl o) = inl (to o.0, o.1)
modality-so m X Y to p ρ q A (inr v) = inr v

pub links-so : (m : ProtocolForm) (A B : Type 0) → (A → B) → (p : UnfoldingFault) (ρ : TermScope) (ls : List Link) → IsFaultOfLinks m A ρ ls p → IsFaultOfLinks m B ρ ls p
links-so m A B to p ρ ls (l, at, inl o) = (l, at, inl (to o.0, o.1))
links-so m A B to p ρ ls (l, at, inr is) = (l, at, inr (fault-so m A B to p ρ (formula_form l.operand) is))

pub copies-so : (m : ProtocolForm) (A B : Type 0) → (A → B) → (p : UnfoldingFault) (ρ : TermScope) (q : Place) (xs : List Variable) (kss : List (List Term)) (f : FormulaForm)
    → IsFaultOfCopies m A ρ q xs kss f p → IsFaultOfCopies m B ρ q xs kss f p
copies-so m A B to p ρ q xs kss f (inl o) = inl (to o.0, o.1)
copies-so m A B to p ρ q xs kss f (inr (ks, at, is)) = inr (ks, at, fault-so m A B to p (standing xs (terms_of ks) ρ) f is)

module _ (m : ProtocolForm) (Many : Type 0) (ρ : TermScope) (p : UnfoldingFault) where
  linked-fault : (c : Connective) (f : FormulaForm) (ls : List Link) → IsFaultOfFormula m Many ρ f p ⊎ IsFaultOfLinks m Many ρ ls p
      → IsFaultOfFormula m Many ρ (chained (FormulaForm.connected c) f (map link_form ls)) p
  linked-fault c f [] (inl is) = is
  linked-fault c f [] (inr (l, at, is)) = absurd (none-in l at)
  linked-fault c f (l ∷ ls) (inl is) = inr (inl is)
  linked-fault c f (l ∷ ls) (inr (k, at, is)) =
      elim (first-or-behind l ls k at) [
        | inl same ↦ by (λ fault. linked-fault c (formula_form l.operand) ls (inl fault))
            (subst (λ (j : Link). OfMany Many j.place p ⊎ IsFaultOfFormula m Many ρ (formula_form j.operand) p) (sym same) is)
        | inr behind ↦ inr (inr (linked-fault c (formula_form l.operand) ls (inr (k, behind, is))))
      ]
    where
      by : (IsFaultOfFormula m Many ρ (formula_form l.operand) p → IsFaultOfFormula m Many ρ (chained (FormulaForm.connected c) (formula_form l.operand) (map link_form ls)) p)
          → OfMany Many l.place p ⊎ IsFaultOfFormula m Many ρ (formula_form l.operand) p → IsFaultOfFormula m Many ρ (chained (FormulaForm.connected c) f (map link_form (l ∷ ls))) p
      by behind (inl token) = inl token
      by behind (inr fault) = inr (inr (behind fault))

  -- the set of steps of a modality
  pub fault-of-set : (k : Modality) (q : Place) (A : StepSetForm) (f : FormulaForm) → IsFaultOfModality (erase m) Many ρ q A p → IsFaultOfFormula m Many ρ (FormulaForm.modal k q A f) p
  fault-of-set k q A f (inl token) = inl token
  fault-of-set k q A f (inr value) = inr (inl value)

  pub fault-of-chain : (c : Connective) (x : Formula) (b : Box Formula Global) (v : Vec Link Global) (ls : List Link) (f : Formula) → f ≡ formula.Chain c b v → x ≡ box_value b → ls ≡ v.items
      → IsFaultOfFormula m Many ρ (formula_form x) p ⊎ IsFaultOfLinks m Many ρ ls p → IsFaultOfFormula m Many ρ (formula_form f) p
  fault-of-chain c x b v ls f is at same fault =
      subst (λ (g : FormulaForm). IsFaultOfFormula m Many ρ g p)
      (ap (λ (y : Formula). chained (FormulaForm.connected c) (formula_form y) (map link_form ls)) at
      ∙ ap (λ (ks : List Link). chained (FormulaForm.connected c) (formula_form (box_value b)) (map link_form ks)) same
      ∙ sym (ap formula_form is ∙ chain-form c b v))
      (linked-fault c (formula_form x) ls fault)
