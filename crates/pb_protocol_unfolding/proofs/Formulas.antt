-- Formulas of the flat model are satisfied where those of the protocol are.
use Rattle.std.proofs.Common.{◌≡◌, Bool, false, not, ◌&&◌, ◌||◌, if◌then◌else◌, List, [], ◌∷◌, ◌++◌, refl, sym, ap, ◌∙◌}
use Rattle.std.specs.List.{list_any, list_all}
use Rattle.std.proofs.Math.Path.{fun_ext}
use Rattle.pb_fixpoint.specs.Solution.{iterate, start}
use Rattle.pb_base_values.specs.Carrier.{Value, Carrier, is_within, tuple_count}
use Rattle.pb_text_tree.specs.declared.operator.Quantifier.{Quantifier}
use Rattle.pb_text_tree.specs.declared.operator.Quantifier.TheVariants.{Forall, Exists}
use Rattle.pb_text_meaning.specs.Syntax.{Name, Variable, Term}
use Rattle.pb_text_meaning.specs.Sorts.{carrier_of}
use Rattle.pb_text_meaning.specs.Value as data_value
use Rattle.pb_text_meaning.specs.Value.{of_values, quantified, is_true, value}
use Rattle.pb_model_meaning.specs.Syntax as flat
use Rattle.pb_model_meaning.specs.Steps.{State}
use Rattle.pb_model_meaning.specs.Steps as flat_steps
use Rattle.pb_model_meaning.specs.Satisfaction.{States, Valuation, with_set}
use Rattle.pb_model_meaning.specs.Satisfaction as flat_satisfaction
use Rattle.pb_model_translation.proofs.Lists.{of_list, of_list-cons, of_list-one, of_list-flat_map, of_list-map, both}
use Rattle.pb_protocol_meaning.specs.Syntax.{Formula, Protocol}
use Rattle.pb_protocol_meaning.specs.Steps.{data_of, is_state}
use Rattle.pb_protocol_meaning.specs.Satisfaction.{state_count, is_truth, holds_at, satisfying}
use Rattle.pb_protocol_unfolding.specs.Written.{written_values}
use Rattle.pb_protocol_unfolding.specs.PutIn.{TermScope, copies}
use Rattle.pb_protocol_unfolding.specs.Whole.{valued_in, valued_in_set}
use Rattle.pb_protocol_unfolding.specs.Unfolding.{valued, joined_formulas, unfolded_set, unfolded_formula, unfolded}
use Rattle.pb_protocol_unfolding.specs.Hygiene.{HidesNothing}
use Rattle.pb_protocol_unfolding.specs.ModelLaws.{NamesNoWhole, of_formulas, QuantifiedFormulasAreCopies, FormulasAreUnfolded}
use Rattle.pb_protocol_unfolding.proofs.States.{AreSettled, ScopeIsSettled, put_in-here, keeps-nowhere, written-settled, carriers-same}
use Rattle.pb_protocol_unfolding.proofs.PutIn.{of_values-list}
use Rattle.pb_protocol_unfolding.proofs.Successors.{successors-here}
use Rattle.pb_protocol_unfolding.proofs.WholeSteps.{among-front, among-behind}

-- ---- what is joined

pub joined-satisfying : (m : flat.Model) (V : Valuation) (q : Quantifier) (fs : List flat.Formula) (s : State) →
    flat_satisfaction.satisfying m V (joined_formulas q fs) s ≡ of_list q (λ f. flat_satisfaction.satisfying m V f s) fs
joined-satisfying m V Forall [] s = refl
joined-satisfying m V Exists [] s = refl
joined-satisfying m V Forall (f ∷ fs) s = ap (λ b. flat_satisfaction.satisfying m V f s && b) (joined-satisfying m V Forall fs s)
joined-satisfying m V Exists (f ∷ fs) s = ap (λ b. flat_satisfaction.satisfying m V f s || b) (joined-satisfying m V Exists fs s)

joined-truth : (q : Quantifier) (fs : List flat.Formula) → flat_satisfaction.is_truth (joined_formulas q fs) ≡ false
joined-truth Forall [] = refl
joined-truth Exists [] = refl
joined-truth Forall (f ∷ fs) = refl
joined-truth Exists (f ∷ fs) = refl

truth-unfolded : (m : Protocol) (f : Formula) (ρ : TermScope) → flat_satisfaction.is_truth (unfolded_formula m ρ f) ≡ is_truth f
truth-unfolded m (Formula.Truth b) ρ = refl
truth-unfolded m (Formula.Data x) ρ = refl
truth-unfolded m (Formula.Named X) ρ = refl
truth-unfolded m (Formula.Not f) ρ = refl
truth-unfolded m (Formula.And f g) ρ = refl
truth-unfolded m (Formula.Or f g) ρ = refl
truth-unfolded m (Formula.Implies f g) ρ = refl
truth-unfolded m (Formula.Box A f) ρ = refl
truth-unfolded m (Formula.Diamond A f) ρ = refl
truth-unfolded m (Formula.Fixpoint sign X f) ρ = refl
truth-unfolded m (Formula.Quantified q xs f) ρ = joined-truth q (copies (data_of m) xs (λ σ. unfolded_formula m σ f) ρ)

-- of more names those in front, and those behind
pub front-names : (m : Protocol) (xs ys : List Name) → NamesNoWhole m (xs ++ ys) → NamesNoWhole m xs
front-names m xs ys names a whole = among-front xs ys a.name (names a whole)

pub behind-names : (m : Protocol) (xs ys : List Name) → NamesNoWhole m (xs ++ ys) → NamesNoWhole m ys
behind-names m xs ys names a whole = among-behind xs ys a.name (names a whole)

module _ (m : Protocol) (hides : HidesNothing m) where
  pub states-same : (s : State) → flat_steps.is_state (unfolded m) s ≡ is_state m s
  states-same s = ap (λ (cs : List Carrier). is_within cs s) (carriers-same m hides)

  -- what holds of all or some copies holds of all or some values, where written values are in scope
  copies-satisfying : (q : Quantifier) (xs : List Variable) (f : TermScope → flat.Formula) (p : flat.Formula → Bool) (P : data_value.Assignment → Bool) →
      ((σ : TermScope) → ScopeIsSettled m σ → p (f σ) ≡ P (valued (data_of m) [] σ)) → (ρ : TermScope) → ScopeIsSettled m ρ →
      of_list q p (copies (data_of m) xs f ρ) ≡ quantified (data_of m) q xs P (valued (data_of m) [] ρ)
  copies-satisfying q [] f p P h ρ settled = of_list-one q p (f ρ) ∙ h ρ settled
  copies-satisfying q (x ∷ xs) f p P h ρ settled =
      let inner : Value → Bool = λ v. quantified (data_of m) q xs P ((x.name, v) ∷ valued (data_of m) [] ρ) in
      let ks = written_values (data_of m) x.sort in
      of_list-flat_map q p (λ k. copies (data_of m) xs f ((x.name, k) ∷ ρ)) ks ∙
      (over ks (written-settled m hides x.sort) (λ k here. copies-satisfying q xs f p P h ((x.name, k) ∷ ρ) (here.0, settled)) ∙
      (sym (of_list-map q inner (value (data_of m) []) ks) ∙
      (ap (of_list q inner) (keeps-nowhere m hides x.sort) ∙ of_values-list q inner (carrier_of (data_of m) x.sort))))
    where
      over : (ks : List Term) → AreSettled m ks →
          ((k : Term) → AreSettled m (k ∷ []) → of_list q p (copies (data_of m) xs f ((x.name, k) ∷ ρ)) ≡ quantified (data_of m) q xs P ((x.name, value (data_of m) [] k) ∷ valued (data_of m) [] ρ)) →
          of_list q (λ k. of_list q p (copies (data_of m) xs f ((x.name, k) ∷ ρ))) ks ≡ of_list q (λ k. quantified (data_of m) q xs P ((x.name, value (data_of m) [] k) ∷ valued (data_of m) [] ρ)) ks
      over [] h each = none q
        where
          none : (q : Quantifier)
              → of_list q (λ k. of_list q p (copies (data_of m) xs f ((x.name, k) ∷ ρ))) []
              ≡ of_list q (λ (k : Term). quantified (data_of m) q xs P ((x.name, value (data_of m) [] k) ∷ valued (data_of m) [] ρ)) []
          none Forall = refl
          none Exists = refl
      over (k ∷ ks) h each =
          let left : Term → Bool = λ k. of_list q p (copies (data_of m) xs f ((x.name, k) ∷ ρ)) in
          let right : Term → Bool = λ k. quantified (data_of m) q xs P ((x.name, value (data_of m) [] k) ∷ valued (data_of m) [] ρ) in
          of_list-cons q left k ks ∙ (ap (λ b. both q b (of_list q left ks)) (each k (h.0, tt)) ∙
          (ap (both q (right k)) (over ks h.1 each) ∙ sym (of_list-cons q right k ks)))

  holds-unfolded : (V : Valuation) (ρ : TermScope) (f : Formula) →
      ((t : State) → flat_satisfaction.satisfying (unfolded m) V (unfolded_formula m ρ f) t ≡ satisfying m V (valued (data_of m) [] ρ) f t) → (t : State) →
      flat_satisfaction.holds_at (unfolded m) (unfolded_formula m ρ f) (flat_satisfaction.satisfying (unfolded m) V (unfolded_formula m ρ f)) t
      ≡ holds_at m f (satisfying m V (valued (data_of m) [] ρ) f) t
  holds-unfolded V ρ f same t =
      ap (λ b. if b then flat_satisfaction.satisfying (unfolded m) V (unfolded_formula m ρ f) t else flat_satisfaction.is_truth (unfolded_formula m ρ f)) (states-same t) ∙
      (ap (λ b. if is_state m t then b else flat_satisfaction.is_truth (unfolded_formula m ρ f)) (same t) ∙
      ap (λ b. if is_state m t then satisfying m V (valued (data_of m) [] ρ) f t else b) (truth-unfolded m f ρ))

  pub satisfying-unfolded : (f : Formula) (V : Valuation) (ρ : TermScope) → ScopeIsSettled m ρ → NamesNoWhole m (valued_in f) → (s : State) →
      flat_satisfaction.satisfying (unfolded m) V (unfolded_formula m ρ f) s ≡ satisfying m V (valued (data_of m) [] ρ) f s
  satisfying-unfolded (Formula.Truth b) V ρ h names s = refl
  satisfying-unfolded (Formula.Data x) V ρ h names s = ap is_true (put_in-here m hides s ρ h x)
  satisfying-unfolded (Formula.Named X) V ρ h names s = refl
  satisfying-unfolded (Formula.Not f) V ρ h names s = ap not (satisfying-unfolded f V ρ h names s)
  satisfying-unfolded (Formula.And f g) V ρ h names s =
      ap (λ b. b && flat_satisfaction.satisfying (unfolded m) V (unfolded_formula m ρ g) s) (satisfying-unfolded f V ρ h (front-names m (valued_in f) (valued_in g) names) s) ∙
      ap (λ b. satisfying m V (valued (data_of m) [] ρ) f s && b) (satisfying-unfolded g V ρ h (behind-names m (valued_in f) (valued_in g) names) s)
  satisfying-unfolded (Formula.Or f g) V ρ h names s =
      ap (λ b. b || flat_satisfaction.satisfying (unfolded m) V (unfolded_formula m ρ g) s) (satisfying-unfolded f V ρ h (front-names m (valued_in f) (valued_in g) names) s) ∙
      ap (λ b. satisfying m V (valued (data_of m) [] ρ) f s || b) (satisfying-unfolded g V ρ h (behind-names m (valued_in f) (valued_in g) names) s)
  satisfying-unfolded (Formula.Implies f g) V ρ h names s =
      ap (λ b. not b || flat_satisfaction.satisfying (unfolded m) V (unfolded_formula m ρ g) s) (satisfying-unfolded f V ρ h (front-names m (valued_in f) (valued_in g) names) s) ∙
      ap (λ b. not (satisfying m V (valued (data_of m) [] ρ) f s) || b) (satisfying-unfolded g V ρ h (behind-names m (valued_in f) (valued_in g) names) s)
  satisfying-unfolded (Formula.Box A f) V ρ h names s =
      ap (λ (p : State → Bool). list_all p (flat_steps.successors (unfolded m) (unfolded_set m ρ A) s))
      (fun_ext (holds-unfolded V ρ f (λ t. satisfying-unfolded f V ρ h (behind-names m (valued_in_set A) (valued_in f) names) t))) ∙
      ap (list_all (holds_at m f (satisfying m V (valued (data_of m) [] ρ) f))) (successors-here m hides ρ A s (front-names m (valued_in_set A) (valued_in f) names))
  satisfying-unfolded (Formula.Diamond A f) V ρ h names s =
      ap (λ (p : State → Bool). list_any p (flat_steps.successors (unfolded m) (unfolded_set m ρ A) s))
      (fun_ext (holds-unfolded V ρ f (λ t. satisfying-unfolded f V ρ h (behind-names m (valued_in_set A) (valued_in f) names) t))) ∙
      ap (list_any (holds_at m f (satisfying m V (valued (data_of m) [] ρ) f))) (successors-here m hides ρ A s (front-names m (valued_in_set A) (valued_in f) names))
  satisfying-unfolded (Formula.Fixpoint sign X f) V ρ h names s =
      ap (λ (cs : List Carrier). iterate (tuple_count cs) (λ S. flat_satisfaction.satisfying (unfolded m) (with_set V X S) (unfolded_formula m ρ f)) (start sign) s) (carriers-same m hides) ∙
      ap (λ (g : States → States). iterate (state_count m) g (start sign) s)
      (fun_ext (λ S. fun_ext (λ t. satisfying-unfolded f (with_set V X S) ρ h names t)))
  satisfying-unfolded (Formula.Quantified q xs f) V ρ h names s =
      joined-satisfying (unfolded m) V q (copies (data_of m) xs (λ σ. unfolded_formula m σ f) ρ) s ∙
      copies-satisfying q xs (λ σ. unfolded_formula m σ f) (λ g. flat_satisfaction.satisfying (unfolded m) V g s) (λ d. satisfying m V d f s)
      (λ σ k. satisfying-unfolded f V σ k names s) ρ h

pub formulas_are_unfolded : FormulasAreUnfolded
formulas_are_unfolded m hides V f names s = satisfying-unfolded m hides f V [] tt names s

pub quantified_formulas_are_copies : QuantifiedFormulasAreCopies
quantified_formulas_are_copies m V ρ q xs f s =
    let fs = copies (data_of m) xs (λ σ. unfolded_formula m σ f) ρ in
    joined-satisfying (unfolded m) V q fs s ∙ by q fs
  where
    by : (q : Quantifier) (fs : List flat.Formula) →
        of_list q (λ g. flat_satisfaction.satisfying (unfolded m) V g s) fs ≡ of_formulas q (λ g. flat_satisfaction.satisfying (unfolded m) V g s) fs
    by Forall fs = refl
    by Exists fs = refl
