-- Equations and the carriers of their parameters, equation by equation.
use Rattle.std.proofs.Common.{◌≡◌, ◌≤◌, ◌<◌, ◌+◌, ◌∙◌, ◌++◌, ℕ, zero, suc, Bool, false, List, [], ◌∷◌, length, get_or, drop, map, sym, ap, subst, arith, Vec, Global}
use Rattle.std.specs.Prelude.{All, nat_le}
use Rattle.std.proofs.lemmas.List.{map-append}
use Rattle.pb_sorts.specs.declared.carrier.Carrier.{Carrier}
use Rattle.pb_sorts.specs.Carrier.{values_of}
use Rattle.pb_sorts.specs.Layout.{lists_of}
use Rattle.pb_base_values.specs.Carrier as carriers
use Rattle.pb_base_values.specs.Carrier.{tuple_count}
use Rattle.pb_base.specs.declared.limits.TheConstants.{MAX_PARAMETERS}
use Rattle.pb_base.specs.declared.or_memory.OrMemory.{OrMemory}
use Rattle.pb_text_tree.specs.declared.spec.Equation.{Equation}
use Rattle.pb_text_tree.specs.Form.{equation_form}
use Rattle.pb_text_meaning.specs.Syntax as syntax
use Rattle.pb_text_meaning.specs.Syntax.{Spec}
use Rattle.pb_text_meaning.specs.Erase.{erased_equation}
use Rattle.pb_text_meaning.specs.Formula.{carriers_of}
use Rattle.pb_typing_declarations.specs.declared.fault.TypingRule.TheVariants.{Limit}
use Rattle.pb_typing_declarations.specs.declared.fault.TypingFault.{TypingFault}
use Rattle.pb_typing_declarations.specs.Faults.{unless, IsAmong}
use Rattle.pb_typing_declarations.specs.Declarations.{stays_within, limit_faults, equation_names, equation_faults, equations_faults_behind}
use Rattle.pb_typing_declarations.specs.Reading.{HasParameters, AddsInstances}
use Rattle.pb_typing_declarations.proofs.Parts.{among_first, first_clear}
use Rattle.pb_typing_declarations.proofs.Passing.{stays}
use Rattle.pb_typing_declarations.proofs.Structs.{grown}

abbrev Parameters : Type 0
Parameters = Vec Carrier Global

abbrev Short : List Carrier → Type 0
Short cs = length cs ≤ MAX_PARAMETERS

all_one : (xs : List (List Carrier)) (x : List Carrier) → All Short xs → Short x → All Short (xs ++ (x ∷ []))
all_one [] x hs h zero d below = h
all_one [] x hs h (suc k) d below = absurd (omega (arith, below))
all_one (y ∷ xs) x hs h zero d below = hs zero d (omega arith)
all_one (y ∷ xs) x hs h (suc k) d below = all_one xs x (λ j e lt. hs (suc j) e (omega (arith, lt))) h k d (omega (arith, below))

pub all_pushed : (old new : List Parameters) (v : Parameters) → new ≡ old ++ (v ∷ []) → All Short (lists_of old) → length v.items ≤ MAX_PARAMETERS → All Short (lists_of new)
all_pushed old new v is hs h =
    subst (λ (ls : List (List Carrier)). All Short ls) (sym (ap lists_of is ∙ map-append (λ (u : Parameters). u.items) old (v ∷ []))) (all_one (lists_of old) v.items hs h)

-- ---- the equation that passes a limit

pub equation_beyond : (xs : List Equation) (limit : ℕ) (X : Equation) → limit < length xs → X ≡ get_or xs limit X
    → limit_faults limit (equation_names (map equation_form xs)) ≡ unless false Limit X.name.place
equation_beyond [] limit X below at = absurd (omega (arith, below))
equation_beyond (Y ∷ xs) zero X below at = ap (λ (Z : Equation). unless false Limit Z.name.place) (sym at)
equation_beyond (Y ∷ xs) (suc limit) X below at = equation_beyond xs limit X (omega (arith, below)) at

-- ---- faults, equation by equation

-- behind n instances this equation is the next one, and all faults are those from it on
pub record IsNext (limit : ℕ) (S : Spec) (E : List Equation) (k n : ℕ) (X : Equation) : Type 0 where
  pub few : n ≤ limit
  pub following : drop k E ≡ X ∷ drop (k + 1) E
  pub left : equations_faults_behind limit S 0 (map equation_form E) ≡ equations_faults_behind limit S n (map equation_form (X ∷ drop (k + 1) E))

module _ {limit : ℕ} {S : Spec} {E : List Equation} {k n : ℕ} {X : Equation} (next : IsNext limit S E k n X) where
  abbrev size : List carriers.Carrier
  size = carriers_of S (erased_equation (equation_form X)).parameters

  pub in_equation : (e : OrMemory TypingFault) → IsAmong (equation_faults S (equation_form X)) e → IsAmong (equations_faults_behind limit S 0 (map equation_form E)) e
  in_equation e h = among_first _ (equation_faults S (equation_form X)) _ e next.left h

  -- what is made of each equation by its parameters
  pub one_listed : {Y : Type 0} (f : List Carrier → Y) (g : syntax.Equation → Y) (old new : List Parameters) (v : Parameters)
      → new ≡ old ++ (v ∷ []) → f v.items ≡ g (erased_equation (equation_form X))
      → map g (map erased_equation (map equation_form E)) ≡ map f (lists_of old) ++ map g (map erased_equation (map equation_form (drop k E)))
      → map g (map erased_equation (map equation_form E)) ≡ map f (lists_of new) ++ map g (map erased_equation (map equation_form (drop (k + 1) E)))
  one_listed {Y} f g old new v pushed is so_far =
      grown _ (map f (lists_of old)) (map f (lists_of new)) _ (g (erased_equation (equation_form X)))
      (so_far ∙ ap (λ (xs : List Equation). map f (lists_of old) ++ map g (map erased_equation (map equation_form xs))) next.following)
      (ap (λ (vs : List Parameters). map f (lists_of vs)) pushed
      ∙ (ap (λ (ls : List (List Carrier)). map f ls) (map-append (λ (u : Parameters). u.items) old (v ∷ []))
      ∙ (map-append f (lists_of old) (v.items ∷ []) ∙ ap (λ (y : Y). map f (lists_of old) ++ (y ∷ [])) is)))

  -- its parameters were read, and they are these
  module _ {cs slice : List Carrier} (has : HasParameters S (equation_form X) cs) (same : slice ≡ cs) where
    sizes_are : map values_of slice ≡ size
    sizes_are = ap (map values_of) same ∙ has.values

    -- the limit in the code's words
    limit_is : unless (stays_within limit n (n + tuple_count size)) Limit X.name.place ≡ unless (nat_le (n + tuple_count (map values_of slice)) limit) Limit X.name.place
    limit_is =
        ap (λ (b : Bool). unless b Limit X.name.place) (stays limit n (n + tuple_count size) next.few)
        ∙ ap (λ ds. unless (nat_le (n + tuple_count ds) limit) Limit X.name.place) (sym sizes_are)

    behind_parameters : equations_faults_behind limit S 0 (map equation_form E)
        ≡ unless (stays_within limit n (n + tuple_count size)) Limit X.name.place ++ equations_faults_behind limit S (n + tuple_count size) (map equation_form (drop (k + 1) E))
    behind_parameters = first_clear _ (equation_faults S (equation_form X)) _ next.left has.clear

    pub in_instances : (e : OrMemory TypingFault) → IsAmong (unless (nat_le (n + tuple_count (map values_of slice)) limit) Limit X.name.place) e
        → IsAmong (equations_faults_behind limit S 0 (map equation_form E)) e
    in_instances e h =
        among_first _ (unless (stays_within limit n (n + tuple_count size)) Limit X.name.place) _ e behind_parameters
        (subst (λ (zs : List TypingFault). IsAmong zs e) (sym limit_is) h)

    pub left_behind : {m : ℕ} → AddsInstances limit n (map values_of slice) X.name.place m
        → equations_faults_behind limit S 0 (map equation_form E) ≡ equations_faults_behind limit S m (map equation_form (drop (k + 1) E))
    left_behind adds =
        first_clear _ _ _ behind_parameters (limit_is ∙ adds.clear)
        ∙ ap (λ (i : ℕ). equations_faults_behind limit S i (map equation_form (drop (k + 1) E))) (sym (adds.is ∙ ap (λ ds. n + tuple_count ds) sizes_are))
