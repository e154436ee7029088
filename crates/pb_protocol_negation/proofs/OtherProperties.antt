-- A protocol with other properties satisfies what the protocol does: nothing else differs.
use Rattle.std.proofs.Common.{◌≡◌, Bool, not, ◌&&◌, ◌||◌, List, [], ◌∷◌, map, filter, flat_map, refl, ap, ◌∙◌, Some, None}
use Rattle.std.specs.Prelude.{Option}
use Rattle.std.specs.List.{list_any, list_all}
use Rattle.std.specs.Ordering.{int_eq}
use Rattle.std.proofs.Math.Path.{fun_ext}
use Rattle.pb_base_values.specs.Carrier.{Tuple, tuples}
use Rattle.pb_fixpoint.specs.Solution.{iterate, start}
use Rattle.pb_text_meaning.specs.Syntax.{Name, same_name, Term}
use Rattle.pb_text_meaning.specs.Formula.{carriers_of}
use Rattle.pb_text_meaning.specs.Value.{Assignment, quantified}
use Rattle.pb_model_meaning.specs.Steps.{State}
use Rattle.pb_model_meaning.specs.Satisfaction.{States, Valuation, with_set, no_sets}
use Rattle.pb_protocol_meaning.specs.Syntax.{Step, StepSet, Formula, Property, Protocol}
use Rattle.pb_protocol_meaning.specs.Meaning.{meaning}
use Rattle.pb_protocol_meaning.specs.Steps.{data_of, functions_at_start, is_state, initial_state, is_enabled, next_state, fits, has_step, successors}
use Rattle.pb_protocol_meaning.specs.Satisfaction.{state_count, holds_at, satisfying}
use Rattle.pb_protocol_negation.specs.Laws.{SatisfactionIsKept}

module _ (m : Protocol) (properties : List Property) where
  abbrev w : Protocol
  w = record m { properties = properties }

  fits-same : (c : Assignment) (xs : List (Option Term)) (vs : Tuple) → fits w c xs vs ≡ fits m c xs vs
  fits-same c [] [] = refl
  fits-same c [] (v ∷ vs) = refl
  fits-same c (Some x ∷ xs) [] = refl
  fits-same c (None ∷ xs) [] = refl
  fits-same c (Some x ∷ xs) (v ∷ vs) = ap (λ b. int_eq (meaning (data_of m) (functions_at_start m) c x) v && b) (fits-same c xs vs)
  fits-same c (None ∷ xs) (v ∷ vs) = fits-same c xs vs

  has-step-same : (c : Assignment) (A : StepSet) (x : Name) (own : Tuple) → has_step w c A x own ≡ has_step m c A x own
  has-step-same c StepSet.All x own = refl
  has-step-same c (StepSet.Only y) x own = refl
  has-step-same c (StepSet.With y xs) x own = ap (λ b. same_name y x && b) (fits-same c xs own)
  has-step-same c (StepSet.Complement A) x own = ap not (has-step-same c A x own)
  has-step-same c (StepSet.Union A B) x own =
      ap (λ b. b || has_step w c B x own) (has-step-same c A x own) ∙ ap (λ b. has_step m c A x own || b) (has-step-same c B x own)

  abbrev led : (Name → Tuple → Bool) → State → List State
  led has s = flat_map (λ (a : Step). map (next_state m s a) (filter (λ (own : Tuple). has a.name own && is_enabled m s a own) (tuples (carriers_of (data_of m) a.variables)))) m.steps

  successors-same : (c : Assignment) (A : StepSet) (s : State) → successors w c A s ≡ successors m c A s
  successors-same c A s = ap (λ (has : Name → Tuple → Bool). led has s) (fun_ext (λ x. fun_ext (has-step-same c A x)))

  abbrev negated_set : States → States
  negated_set S s = not (S s)

  abbrev joint : (Bool → Bool → Bool) → States → States → States
  joint o S T s = o (S s) (T s)

  joint-same : (o : Bool → Bool → Bool) {S T U R : States} → S ≡ T → U ≡ R → joint o S U ≡ joint o T R
  joint-same o {S} {T} {U} {R} h k = ap (λ (X : States). joint o X U) h ∙ ap (joint o T) k

  abbrev boxed : Formula → (State → List State) → States → States
  boxed f leads S s = list_all (holds_at m f S) (leads s)

  abbrev diamonded : Formula → (State → List State) → States → States
  diamonded f leads S s = list_any (holds_at m f S) (leads s)

  satisfying-same : (f : Formula) (V : Valuation) (c : Assignment) → satisfying w V c f ≡ satisfying m V c f
  satisfying-same (Formula.Truth b) V c = refl
  satisfying-same (Formula.Data x) V c = refl
  satisfying-same (Formula.Named X) V c = refl
  satisfying-same (Formula.Not f) V c = ap negated_set (satisfying-same f V c)
  satisfying-same (Formula.And f g) V c = joint-same (λ a b. a && b) (satisfying-same f V c) (satisfying-same g V c)
  satisfying-same (Formula.Or f g) V c = joint-same (λ a b. a || b) (satisfying-same f V c) (satisfying-same g V c)
  satisfying-same (Formula.Implies f g) V c = joint-same (λ a b. not a || b) (satisfying-same f V c) (satisfying-same g V c)
  satisfying-same (Formula.Box A f) V c =
      ap (boxed f (successors w c A)) (satisfying-same f V c)
      ∙ ap (λ (leads : State → List State). boxed f leads (satisfying m V c f)) (fun_ext (successors-same c A))
  satisfying-same (Formula.Diamond A f) V c =
      ap (diamonded f (successors w c A)) (satisfying-same f V c)
      ∙ ap (λ (leads : State → List State). diamonded f leads (satisfying m V c f)) (fun_ext (successors-same c A))
  satisfying-same (Formula.Fixpoint sign X f) V c =
      ap (λ (g : States → States). iterate (state_count m) g (start sign)) (fun_ext (λ S. satisfying-same f (with_set V X S) c))
  satisfying-same (Formula.Quantified q xs f) V c =
      fun_ext (λ s. ap (λ (p : Assignment → Bool). quantified (data_of m) q xs p c) (fun_ext (λ d. ap (λ (S : States). S s) (satisfying-same f V d))))

pub satisfaction_is_kept : SatisfactionIsKept
satisfaction_is_kept m properties f =
    ap (λ (S : States). is_state m (initial_state m) && S (initial_state m)) (satisfying-same m properties f no_sets [])
