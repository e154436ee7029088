-- Where a step of the flat model leads.
use Rattle.std.proofs.Common.{◌≡◌, if◌then◌else◌, List, [], ◌∷◌, map, refl, ap, ◌∙◌}
use Rattle.std.specs.Prelude.{Some}
use Rattle.pb_base_values.specs.Carrier.{Value}
use Rattle.pb_text_meaning.specs.Syntax.{Name, Term}
use Rattle.pb_text_meaning.specs.Value as data_value
use Rattle.pb_text_meaning.specs.Value.{is_true, value}
use Rattle.pb_model_meaning.specs.Syntax as flat
use Rattle.pb_model_meaning.specs.Steps.{State, assigned_term}
use Rattle.pb_model_meaning.specs.Steps as flat_steps
use Rattle.pb_protocol_folding.specs.Names.{IsNot, AreDistinct, HidesNoEnumerator}
use Rattle.pb_protocol_meaning.specs.Syntax.{Step, Protocol}
use Rattle.pb_protocol_meaning.specs.Steps.{Position, positions, data_of, functions_at, value_at, Update, updates, value_after, state_after, own_values, is_enabled, next_state}
use Rattle.pb_protocol_unfolding.specs.PutIn.{TermScope}
use Rattle.pb_protocol_unfolding.specs.Unfolding.{Element, name_of, variable_of, variables_of, all_elements, forms_of, term_after, unfolded_term, unfolded_assignment, with_own, unfolded_step, unfolded, written, values_of, valued}
use Rattle.pb_protocol_unfolding.specs.Hygiene.{HidesNothing}
use Rattle.pb_protocol_unfolding.specs.TermLaws.{elements_at}
use Rattle.pb_protocol_folding.proofs.FoldedModels.{same-self}
use Rattle.pb_protocol_unfolding.proofs.Reading.{Finds}
use Rattle.pb_protocol_unfolding.proofs.Assigned.{term_after-value}
use Rattle.pb_protocol_unfolding.proofs.PutIn.{put_in-value}
use Rattle.pb_protocol_unfolding.proofs.States.{same-not, AreSettled, settled-values, scope-values, standing-settled, written-scope, means-at, hides-here, found-here, position_of, positions-are}

-- ---- what is assigned

-- the assignments of a term to each element
abbrev made : (Element → Term) → List Element → List flat.Assignment
made t es = map (λ (e : Element). record { variable = name_of e; term = t e }) es

-- of these elements each has its own term
abbrev AllFound : (Element → Term) → List flat.Assignment → List Element → Type 0
AllFound t assignments [] = Unit {0}
AllFound t assignments (e ∷ es) = (assigned_term assignments (name_of e) ≡ Some (t e)) × AllFound t assignments es

all-in-front : (x : Name) (u : Term) (t : Element → Term) (assignments : List flat.Assignment) (es : List Element) → IsNot x (map name_of es) →
    AllFound t assignments es → AllFound t (record { variable = x; term = u } ∷ assignments) es
all-in-front x u t assignments [] new h = tt
all-in-front x u t assignments (e ∷ es) new h = (
  ap (λ b. if b then Some u else assigned_term assignments (name_of e)) (same-not (name_of e) x new.0) ∙ h.0,
  all-in-front x u t assignments es new.1 h.1,
)

all-found : (t : Element → Term) (es : List Element) → AreDistinct (map name_of es) → AllFound t (made t es) es
all-found t [] apart = tt
all-found t (e ∷ es) apart = (
  ap (λ b. if b then Some (t e) else assigned_term (made t es) (name_of e)) (same-self (name_of e)),
  all-in-front (name_of e) (t e) t (made t es) es apart.0 (all-found t es apart.1),
)

-- ---- the next state

-- the indices of elements are settled
abbrev pub IndicesAreSettled : Protocol → List Element → Type 0
IndicesAreSettled m [] = Unit {0}
IndicesAreSettled m (e ∷ es) = AreSettled m e.index × IndicesAreSettled m es

-- where names stand for these values, which hide no enumerator and no element, and in the terms that are put in for what is here
module _ (m : Protocol) (hides : HidesNothing m) (s : State) (a : data_value.Assignment) (hidden : HidesNoEnumerator (data_of m) a)
    (found : Finds (data_of m) a (map name_of (all_elements m)) s) (step : Step) (ρ : TermScope) (here : data_value.Assignment) (scope-is : valued (data_of m) a ρ ≡ here) where
  abbrev evaluated : Term → Value
  evaluated = value (data_of m) a

  abbrev after : Element → Term
  after e = term_after (data_of m) (forms_of m) ρ step.assignments e (Term.Named (name_of e))

  -- what the step's assignments do
  abbrev done : List Update
  done = updates (data_of m) (functions_at m s) here step.assignments

  element-after : (e : Element) (v : Value) → AreSettled m e.index → evaluated (Term.Named (name_of e)) ≡ v →
      evaluated (after e) ≡ value_after done e.array (values_of m e.index) v
  element-after e v settled before =
      term_after-value (data_of m) a (forms_of m) (functions_at m s) (means-at m hides a hidden s found) ρ step.assignments e (Term.Named (name_of e)) ∙
      (ap (λ d. value_after (updates (data_of m) (functions_at m s) d step.assignments) e.array (map evaluated e.index) (evaluated (Term.Named (name_of e)))) scope-is ∙
      (ap (λ vs. value_after done e.array vs (evaluated (Term.Named (name_of e)))) (settled-values m e.index settled a hidden) ∙
      ap (value_after done e.array (values_of m e.index)) before))

  states-after : (es : List Element) (vs : State) → IndicesAreSettled m es → Finds (data_of m) a (map name_of es) vs → (assignments : List flat.Assignment) →
      AllFound after assignments es →
      flat_steps.state_after evaluated assignments (map variable_of es) vs
      ≡ state_after done (map (position_of m hides) es) vs
  states-after [] [] settled finds assignments among = refl
  states-after [] (v ∷ vs) settled finds assignments among = refl
  states-after (e ∷ es) [] settled finds assignments among = refl
  states-after (e ∷ es) (v ∷ vs) settled finds assignments among =
      let first = value_after done e.array (values_of m e.index) v in
      ap (λ o. flat_steps.value_after evaluated o v ∷ flat_steps.state_after evaluated assignments (map variable_of es) vs) among.0 ∙
      (ap (λ u. u ∷ flat_steps.state_after evaluated assignments (map variable_of es) vs)
      (element-after e v settled.0 finds.0) ∙
      ap (λ us. first ∷ us) (states-after es vs settled.1 finds.1 assignments among.1))

  pub next-at : IndicesAreSettled m (all_elements m) →
      flat_steps.state_after evaluated (map (unfolded_assignment m ρ step.assignments) (all_elements m)) (variables_of m) s ≡ state_after done (positions m) s
  next-at settled =
      states-after (all_elements m) s settled found (made after (all_elements m)) (all-found after (all_elements m) hides.elements) ∙
      ap (λ (ps : List Position). state_after done ps s) (positions-are m hides)

  pub enabled-at : is_true (evaluated (unfolded_term m ρ step.guard)) ≡ is_true (value_at m s here step.guard)
  enabled-at =
      ap is_true (put_in-value (data_of m) a (forms_of m) (functions_at m s) (means-at m hides a hidden s found) step.guard ρ) ∙
      ap (λ c. is_true (value_at m s c step.guard)) scope-is

-- ---- steps with written values

module _ (m : Protocol) (hides : HidesNothing m) (s : State) (step : Step) (ks : List Term) (settled : AreSettled m ks) where
  -- what is in scope
  scope-is : valued (data_of m) (elements_at m s) (written step.variables ks) ≡ own_values step (values_of m ks)
  scope-is =
      scope-values m (written step.variables ks) (standing-settled m step.variables ks [] settled tt) (elements_at m s) (hides-here m hides s) ∙
      written-scope m step.variables ks

  pub next-here : IndicesAreSettled m (all_elements m) → flat_steps.next_state (unfolded m) s (unfolded_step m (with_own step ks)) [] ≡ next_state m s step (values_of m ks)
  next-here indices =
      next-at m hides s (elements_at m s) (hides-here m hides s) (found-here m hides s) step (written step.variables ks) (own_values step (values_of m ks)) scope-is indices

  pub enabled-here : flat_steps.is_enabled (unfolded m) s (unfolded_step m (with_own step ks)) [] ≡ is_enabled m s step (values_of m ks)
  enabled-here =
      enabled-at m hides s (elements_at m s) (hides-here m hides s) (found-here m hides s) step (written step.variables ks) (own_values step (values_of m ks)) scope-is
