-- What the parts of a formula say of it: how many operators it has as it is unfolded, and which faults.
use Rattle.std.proofs.Common.{◌≡◌, ◌∙◌, ◌+◌, ◌<◌, ◌⊎◌, ℕ, suc, inl, inr, refl, sym, ap, subst, List, Vec, Global, Box, Result}
use Rattle.std.specs.Prelude.{IsErrAnd, box_value, sum_by}
use Rattle.pb_base.specs.OrMemory.{IfFault, IfRefused}
use Rattle.pb_base.specs.declared.or_memory.OrMemory.{OrMemory}
use Rattle.pb_text_tree.specs.declared.name.Name.{Name}
use Rattle.pb_text_tree.specs.declared.place.Place.{Place}
use Rattle.pb_text_tree.specs.declared.operator.Connective.{Connective}
use Rattle.pb_fixpoint.specs.declared.Sign.{Sign}
use Rattle.pb_model_tree.specs.declared.formula.Modality.{Modality}
use Rattle.pb_protocol_tree.specs.declared.formula.Formula as tree
use Rattle.pb_protocol_tree.specs.declared.formula.Formula.{Formula}
use Rattle.pb_protocol_tree.specs.declared.formula.Link.{Link}
use Rattle.pb_protocol_tree.specs.declared.step_set.StepSet.{StepSet}
use Rattle.pb_protocol_tree.specs.Form.{formula_form, step_set_form}
use Rattle.pb_protocol_meaning.specs.Erase.{erase}
use Rattle.pb_protocol_unfolder_terms.specs.declared.scope.TermScope.{TermScope}
use Rattle.pb_protocol_unfolder_steps.specs.declared.unfolder.Unfolder.{Unfolder}
use Rattle.pb_protocol_unfolder_steps.specs.Unfolder.{form_in, scope_within}
use Rattle.pb_protocol_unfolder.specs.declared.fault.UnfoldingFault.{UnfoldingFault}
use Rattle.pb_protocol_unfolder.specs.Copies.{link_operators}
use Rattle.pb_protocol_unfolder.specs.Faults.{IsFaultOfFormula, OfMany}
use Rattle.pb_protocol_unfolder.specs.Left.{left_operators, left_set}
use Rattle.pb_protocol_unfolder.specs.Operators.{name_count}
use Rattle.pb_protocol_unfolder.specs.Parts.{IsFaultBy, IsFaultOfLinks, IsFaultOfModality}
use Rattle.pb_protocol_unfolder.proofs.FaultLemmas.{of-many-by, part-of}
use Rattle.pb_protocol_unfolder.proofs.OperatorLemmas.{chain-formula, modal-operators, token-over}
use Rattle.pb_protocol_unfolder.proofs.ValueFaults.{fault-of-chain, fault-of-set, fault-so}

abbrev pub operators_in : Unfolder → TermScope → Formula → ℕ
operators_in u scope f = left_operators u scope (formula_form f)

-- of a formula, for which there is so much room, in a part of it
abbrev pub IsFaultWithin : Unfolder → TermScope → ℕ → Formula → Formula → UnfoldingFault → Type 0
IsFaultWithin u scope room f x p = IsFaultOfFormula (form_in u) (room < operators_in u scope f) (scope_within u scope) (formula_form x) p

-- it has n operators, and what is a fault of one of two parts is one of it
pub record HasParts (u : Unfolder) (scope : TermScope) (room : ℕ) (f : Formula) (n : ℕ) (First Second : UnfoldingFault → Type 0) : Type 0 where
  pub counted : operators_in u scope f ≡ n
  pub first : (p : UnfoldingFault) → First p → IsFaultWithin u scope room f f p
  pub second : (p : UnfoldingFault) → Second p → IsFaultWithin u scope room f f p

module _ (u : Unfolder) (scope : TermScope) (room : ℕ) (f : Formula) where
  abbrev pub IsFault : Formula → UnfoldingFault → Type 0
  IsFault x p = IsFaultWithin u scope room f x p

  abbrev pub IsTooLarge : Type 0
  IsTooLarge = room < operators_in u scope f

  -- ---- the parts

  -- a token, and an operand
  operand-parts : (node x : Formula) (place : Place) (b : Box Formula Global) → operators_in u scope node ≡ suc (operators_in u scope (box_value b))
      → ((p : UnfoldingFault) → OfMany IsTooLarge place p ⊎ IsFault (box_value b) p → IsFault node p)
      → f ≡ node → x ≡ box_value b → HasParts u scope room f (suc (operators_in u scope x)) (OfMany IsTooLarge place) (IsFault x)
  operand-parts node x place b count up is at = record {
    counted = ap (operators_in u scope) is ∙ count ∙ ap (λ (g : Formula). suc (operators_in u scope g)) (sym at);
    first = λ p o. subst (λ (g : Formula). IsFault g p) (sym is) (up p (inl o));
    second = λ p fault. subst (λ (g : Formula). IsFault g p) (sym is) (up p (inr (subst (λ (g : Formula). IsFault g p) at fault)));
  }

  pub negation-parts : (x : Formula) (place : Place) (b : Box Formula Global) → f ≡ tree.Negation place b → x ≡ box_value b
      → HasParts u scope room f (suc (operators_in u scope x)) (OfMany IsTooLarge place) (IsFault x)
  negation-parts x place b = operand-parts (tree.Negation place b) x place b refl (λ p fault. fault)

  pub fixpoint-parts : (x : Formula) (place : Place) (sign : Sign) (name : Name) (b : Box Formula Global) → f ≡ tree.Fixpoint place sign name b → x ≡ box_value b
      → HasParts u scope room f (suc (operators_in u scope x)) (OfMany IsTooLarge place) (IsFault x)
  fixpoint-parts x place sign name b = operand-parts (tree.Fixpoint place sign name b) x place b refl (λ p fault. fault)

  -- a token with a set of steps, and an operand
  pub modal-parts : (x : Formula) (place : Place) (k : Modality) (A : StepSet) (b : Box Formula Global) → f ≡ tree.Modal place k A b → x ≡ box_value b
      → HasParts u scope room f (suc (name_count (left_set u scope (step_set_form A)) + operators_in u scope x))
      (IsFaultOfModality (erase (form_in u)) IsTooLarge (scope_within u scope) place (step_set_form A)) (IsFault x)
  modal-parts x place k A b is at = record {
    counted = ap (operators_in u scope) is ∙ modal-operators u scope k place (step_set_form A) (formula_form (box_value b))
        ∙ ap (λ (g : Formula). suc (name_count (left_set u scope (step_set_form A)) + operators_in u scope g)) (sym at);
    first = λ p fault. subst (λ (g : Formula). IsFault g p) (sym is) (fault-of-set (form_in u) IsTooLarge (scope_within u scope) p k place (step_set_form A) (formula_form (box_value b)) fault);
    second = λ p fault. subst (λ (g : Formula). IsFault g p) (sym is) (inr (inr (subst (λ (g : Formula). IsFault g p) at fault)));
  }

  -- a first operand, and links
  pub chain-parts : (x : Formula) (links : List Link) (c : Connective) (b : Box Formula Global) (v : Vec Link Global) → f ≡ tree.Chain c b v → x ≡ box_value b → links ≡ v.items
      → HasParts u scope room f (operators_in u scope x + sum_by (link_operators u scope) links) (IsFault x) (IsFaultOfLinks (form_in u) IsTooLarge (scope_within u scope) links)
  chain-parts x links c b v is at same =
      let up = λ (p : UnfoldingFault). fault-of-chain (form_in u) IsTooLarge (scope_within u scope) p c x b v links f is at same in
      record {
        counted = chain-formula u scope c x b v links f is at same;
        first = λ p fault. up p (inl fault);
        second = λ p fault. up p (inr fault);
      }

-- ---- where a part is refused

-- since there is no room for a token
pub token-refused : {u : Unfolder} {scope : TermScope} {room k : ℕ} {f : Formula} {Second : UnfoldingFault → Type 0} {A : Type 0} (place : Place) (r : Result A (OrMemory UnfoldingFault))
    (e : OrMemory UnfoldingFault) → HasParts u scope room f (suc k) (OfMany (room < operators_in u scope f) place) Second → IsErrAnd r (λ d. d ≡ e) → IfFault e (OfMany (room < 1) place)
    → IfRefused r (IsFaultBy (IsFaultWithin u scope room f f))
token-refused {u = u} {scope = scope} {room = room} {f = f} place r e parts h is =
    of-many-by r e (room < 1) place (IsFaultWithin u scope room f f) h (λ p o. parts.first p (token-over _ _ _ parts.counted o.0, o.1)) is

-- since there is a fault in an operand, for which less room is left
pub first-refused : {u : Unfolder} {scope : TermScope} {room n : ℕ} {f : Formula} {Second : UnfoldingFault → Type 0} {A : Type 0} (x : Formula) (left : ℕ) (r : Result A (OrMemory UnfoldingFault))
    (e : OrMemory UnfoldingFault) → HasParts u scope room f n (IsFaultWithin u scope room f x) Second → (left < operators_in u scope x → room < operators_in u scope f) → IsErrAnd r (λ d. d ≡ e)
    → IfFault e (IsFaultBy (IsFaultWithin u scope left x x)) → IfRefused r (IsFaultBy (IsFaultWithin u scope room f f))
first-refused {u = u} {scope = scope} {room = room} {f = f} x left r e parts more h is =
    part-of r e (IsFaultWithin u scope left x x) (IsFaultWithin u scope room f f) h is (λ p fault. parts.first p (fault-so (form_in u) _ _ more p (scope_within u scope) (formula_form x) fault))

pub second-refused : {u : Unfolder} {scope : TermScope} {room n : ℕ} {f : Formula} {First : UnfoldingFault → Type 0} {A : Type 0} (x : Formula) (left : ℕ) (r : Result A (OrMemory UnfoldingFault))
    (e : OrMemory UnfoldingFault) → HasParts u scope room f n First (IsFaultWithin u scope room f x) → (left < operators_in u scope x → room < operators_in u scope f) → IsErrAnd r (λ d. d ≡ e)
    → IfFault e (IsFaultBy (IsFaultWithin u scope left x x)) → IfRefused r (IsFaultBy (IsFaultWithin u scope room f f))
second-refused {u = u} {scope = scope} {room = room} {f = f} x left r e parts more h is =
    part-of r e (IsFaultWithin u scope left x x) (IsFaultWithin u scope room f f) h is (λ p fault. parts.second p (fault-so (form_in u) _ _ more p (scope_within u scope) (formula_form x) fault))
