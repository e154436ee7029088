-- The equations of a formula as it is read, and those of the formula that it is unfolded to.
use Rattle.std.proofs.Common.{◌≡◌, ◌∙◌, ℕ, zero, suc, ◌+◌, ◌*◌, Bool, true, false, not, if◌then◌else◌, List, [], ◌∷◌, ◌++◌, length, refl, sym, ap, arith, Option, Some, None}
use Rattle.std.specs.Prelude.{pos, codes, flat_map}
use Rattle.std.proofs.lemmas.List.{length-map}
use Rattle.std.proofs.Math.Nat.{add-mul, mul_assoc}
use Rattle.pb_base_values.specs.Carrier.{Carrier, tuple_count}
use Rattle.pb_sorts.proofs.Intervals.{length-numbers_from}
use Rattle.pb_text_tree.specs.declared.operator.Connective.TheVariants as connective
use Rattle.pb_text_tree.specs.declared.operator.Quantifier.{Quantifier}
use Rattle.pb_text_tree.specs.declared.operator.Quantifier.TheVariants.{Forall, Exists}
use Rattle.pb_text_tree.specs.Form.{VariableForm}
use Rattle.pb_text_meaning.specs.Syntax.{Name, same_name, Variable, Term, Terms, Sort, Struct, Alias, Range, Spec}
use Rattle.pb_text_meaning.specs.Sorts.{carrier_by, carrier_of, carrier_within, declared, range_of}
use Rattle.pb_text_meaning.specs.Formula.{carriers_of}
use Rattle.pb_text_meaning.specs.Erase.{erased_variables}
use Rattle.pb_text_meaning.specs.Erase as texts
use Rattle.pb_model_tree.specs.declared.formula.Modality.TheVariants as modality
use Rattle.pb_model_meaning.specs.Syntax as flat
use Rattle.pb_model_translation.specs.Translation as translation
use Rattle.pb_model_translation.proofs.Data.{carriers-same}
use Rattle.pb_protocol_tree.specs.Form.{FormulaForm, ProtocolForm}
use Rattle.pb_protocol_meaning.specs.Steps.{data_of}
use Rattle.pb_protocol_meaning.specs.Syntax.{Protocol}
use Rattle.pb_protocol_meaning.specs.Erase.{erase, erased_formula}
use Rattle.pb_protocol_typing.specs.Faults.{data_form}
use Rattle.pb_protocol_unfolding.specs.Written.{written_by, written_values, written_within}
use Rattle.pb_protocol_unfolding.specs.PutIn.{TermScope, copies}
use Rattle.pb_protocol_unfolding.specs.Unfolding.{joined_formulas, unfolded_formula}
use Rattle.pb_model_sizes.specs.Counts.{tuples_of}
use Rattle.pb_model_sizes.specs.Equations.{formula_equations, total_equations, has_own_equation, is_fixpoint_form}

-- ---- written values, as many as values

length-by : (r : Option Range) (b : Bool) (d : Option Sort) (f : Name → List Term) (g : Name → Carrier) → ((s : Name) → length (f s) ≡ length (g s))
    → length (written_by r b d f) ≡ length (carrier_by r b d g)
length-by (Some r) b d f g same = length-map _ _
length-by None true d f g same = refl
length-by None false (Some (Struct es)) f g same = length-map es _ ∙ sym (length-numbers_from (pos 0) (length es))
length-by None false (Some (Alias s)) f g same = same s
length-by None false None f g same = refl

length-within : (n : ℕ) (spec : Spec) (s : Name) → length (written_within n spec s) ≡ length (carrier_within n spec s)
length-within zero spec s = refl
length-within (suc n) spec s =
    length-by (range_of spec.ranges s) (same_name s (codes "Bool")) (declared spec.sorts s) (written_within n spec) (carrier_within n spec) (length-within n spec)

length-written : (spec : Spec) (s : Name) → length (written_values spec s) ≡ length (carrier_of spec s)
length-written spec s = length-within (suc (length spec.sorts)) spec s

-- ---- copies

-- the equations of formulas together
abbrev all_counts : List flat.Formula → ℕ
all_counts [] = 0
all_counts (f ∷ fs) = translation.equation_count f + all_counts fs

counts-append : (fs gs : List flat.Formula) → all_counts (fs ++ gs) ≡ all_counts fs + all_counts gs
counts-append [] gs = omega arith
counts-append (f ∷ fs) gs = ap (λ (n : ℕ). translation.equation_count f + n) (counts-append fs gs) ∙ (omega arith)

joined-counts : (q : Quantifier) (fs : List flat.Formula) → translation.equation_count (joined_formulas q fs) ≡ all_counts fs
joined-counts Forall [] = refl
joined-counts Forall (f ∷ fs) = ap (λ (n : ℕ). translation.equation_count f + n) (joined-counts Forall fs)
joined-counts Exists [] = refl
joined-counts Exists (f ∷ fs) = ap (λ (n : ℕ). translation.equation_count f + n) (joined-counts Exists fs)

each-counts : (n : ℕ) (g : Term → List flat.Formula) → ((k : Term) → all_counts (g k) ≡ n) → (ks : List Term) → all_counts (flat_map g ks) ≡ length ks * n
each-counts n g same [] = omega arith
each-counts n g same (k ∷ ks) = counts-append (g k) (flat_map g ks) ∙ (omega (arith, same k, each-counts n g same ks, add-mul 1 (length ks) n))

copies-counts : (spec : Spec) (n : ℕ) (xs : List Variable) (f : TermScope → flat.Formula) → ((σ : TermScope) → translation.equation_count (f σ) ≡ n) → (ρ : TermScope)
    → all_counts (copies spec xs f ρ) ≡ tuple_count (carriers_of spec xs) * n
copies-counts spec n [] f same ρ = omega (arith, same ρ)
copies-counts spec n (x ∷ xs) f same ρ =
    let inner = tuple_count (carriers_of spec xs) * n in
    each-counts inner (λ (k : Term). copies spec xs f ((x.name, k) ∷ ρ)) (λ k. copies-counts spec n xs f same ((x.name, k) ∷ ρ)) (written_values spec x.sort)
    ∙ (ap (λ (m : ℕ). m * inner) (length-written spec x.sort) ∙ sym (mul_assoc (length (carrier_of spec x.sort)) (tuple_count (carriers_of spec xs)) n))

-- ---- formulas

joined-has : (q : Quantifier) (fs : List flat.Formula) → translation.has_equation (joined_formulas q fs) ≡ true
joined-has Forall [] = refl
joined-has Forall (f ∷ fs) = refl
joined-has Exists [] = refl
joined-has Exists (f ∷ fs) = refl

joined-fixpoint : (q : Quantifier) (fs : List flat.Formula) → translation.is_fixpoint (joined_formulas q fs) ≡ false
joined-fixpoint Forall [] = refl
joined-fixpoint Forall (f ∷ fs) = refl
joined-fixpoint Exists [] = refl
joined-fixpoint Exists (f ∷ fs) = refl

next-same : (b c : Bool) (m n : ℕ) → b ≡ c → m ≡ n → translation.next_if b m ≡ (if c then n + 1 else n)
next-same true true m n same is = omega arith
next-same false false m n same is = is
next-same true false m n same is = absurd (cc same)
next-same false true m n same is = absurd (cc same)

module _ (text : ProtocolForm) where
  abbrev m : Protocol
  m = erase text

  abbrev spec : Spec
  spec = texts.erase (data_form text)

  tuples-same : (xs : List VariableForm) → tuple_count (carriers_of (data_of m) (erased_variables xs)) ≡ tuples_of spec xs
  tuples-same xs = ap tuple_count (sym (carriers-same (data_of m) [] (codes "_") Terms.NoTerms (erased_variables xs)))

  abbrev unfolds : TermScope → FormulaForm → flat.Formula
  unfolds ρ f = unfolded_formula m ρ (erased_formula f)

  has-same : (ρ : TermScope) (f : FormulaForm) → translation.has_equation (unfolds ρ f) ≡ has_own_equation f
  has-same ρ (FormulaForm.constant p b) = refl
  has-same ρ (FormulaForm.«data» p x) = refl
  has-same ρ (FormulaForm.variable x) = refl
  has-same ρ (FormulaForm.negation p f) = refl
  has-same ρ (FormulaForm.connected connective.And p f g) = refl
  has-same ρ (FormulaForm.connected connective.Or p f g) = refl
  has-same ρ (FormulaForm.connected connective.Implies p f g) = refl
  has-same ρ (FormulaForm.modal modality.Box p A f) = refl
  has-same ρ (FormulaForm.modal modality.Diamond p A f) = refl
  has-same ρ (FormulaForm.fixpoint sign p x f) = refl
  has-same ρ (FormulaForm.quantified q p xs f) = joined-has q (copies (data_of m) (erased_variables xs) (λ σ. unfolds σ f) ρ)

  fixpoint-same : (ρ : TermScope) (f : FormulaForm) → translation.is_fixpoint (unfolds ρ f) ≡ is_fixpoint_form f
  fixpoint-same ρ (FormulaForm.constant p b) = refl
  fixpoint-same ρ (FormulaForm.«data» p x) = refl
  fixpoint-same ρ (FormulaForm.variable x) = refl
  fixpoint-same ρ (FormulaForm.negation p f) = refl
  fixpoint-same ρ (FormulaForm.connected connective.And p f g) = refl
  fixpoint-same ρ (FormulaForm.connected connective.Or p f g) = refl
  fixpoint-same ρ (FormulaForm.connected connective.Implies p f g) = refl
  fixpoint-same ρ (FormulaForm.modal modality.Box p A f) = refl
  fixpoint-same ρ (FormulaForm.modal modality.Diamond p A f) = refl
  fixpoint-same ρ (FormulaForm.fixpoint sign p x f) = refl
  fixpoint-same ρ (FormulaForm.quantified q p xs f) = joined-fixpoint q (copies (data_of m) (erased_variables xs) (λ σ. unfolds σ f) ρ)

  count-same : (ρ : TermScope) (f : FormulaForm) → translation.equation_count (unfolds ρ f) ≡ formula_equations spec f
  count-same ρ (FormulaForm.constant p b) = refl
  count-same ρ (FormulaForm.«data» p x) = refl
  count-same ρ (FormulaForm.variable x) = refl
  count-same ρ (FormulaForm.negation p f) = count-same ρ f
  count-same ρ (FormulaForm.connected connective.And p f g) = omega (arith, count-same ρ f, count-same ρ g)
  count-same ρ (FormulaForm.connected connective.Or p f g) = omega (arith, count-same ρ f, count-same ρ g)
  count-same ρ (FormulaForm.connected connective.Implies p f g) = omega (arith, count-same ρ f, count-same ρ g)
  count-same ρ (FormulaForm.modal modality.Box p A f) = next-same _ _ _ _ (has-same ρ f) (count-same ρ f)
  count-same ρ (FormulaForm.modal modality.Diamond p A f) = next-same _ _ _ _ (has-same ρ f) (count-same ρ f)
  count-same ρ (FormulaForm.fixpoint sign p x f) = omega (arith, count-same ρ f)
  count-same ρ (FormulaForm.quantified q p xs f) =
      joined-counts q (copies (data_of m) (erased_variables xs) (λ σ. unfolds σ f) ρ)
      ∙ (copies-counts (data_of m) (formula_equations spec f) (erased_variables xs) (λ σ. unfolds σ f) (λ σ. count-same σ f) ρ
      ∙ ap (λ (n : ℕ). n * formula_equations spec f) (tuples-same xs))

  pub total-same : (f : FormulaForm) → total_equations spec f ≡ translation.total_count (unfolds [] f)
  total-same f = sym (next-same _ _ _ _ (ap not (fixpoint-same [] f)) (count-same [] f))
