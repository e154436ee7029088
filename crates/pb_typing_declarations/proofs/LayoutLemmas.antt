-- The carriers of equations without a fault have a layout.
use Rattle.std.proofs.Common.{◌≡◌, ◌≤◌, ◌<◌, ◌∙◌, ◌+◌, ℕ, zero, suc, List, [], ◌∷◌, length, get_or, map, refl, sym, ap, arith, Vec, Global}
use Rattle.std.specs.Prelude.{All, vec_len}
use Rattle.std.proofs.lemmas.List.{length-map}
use Rattle.std.proofs.lemmas.Bool.{leb-true}
use Rattle.pb_sorts.specs.declared.carrier.Carrier.{Carrier}
use Rattle.pb_base.specs.declared.limits.TheConstants.{MAX_EQUATIONS, MAX_PARAMETERS}
use Rattle.pb_sorts.specs.Carrier.{values_of}
use Rattle.pb_sorts.specs.Instance.{instances_from}
use Rattle.pb_sorts.specs.Layout as layouts
use Rattle.pb_sorts.specs.Layout.{lists_of, count_of}
use Rattle.pb_sorts.proofs.InstancePlaces.{length-instances_from-cons}
use Rattle.pb_text_tree.specs.Form.{EquationForm}
use Rattle.pb_text_meaning.specs.Syntax.{Equation, Spec}
use Rattle.pb_text_meaning.specs.Formula.{carriers_of}
use Rattle.pb_text_meaning.specs.Erase.{erased_equation}
use Rattle.pb_typing_declarations.specs.declared.fault.TypingRule.TheVariants.{Limit}
use Rattle.pb_typing_declarations.specs.Faults.{unless}
use Rattle.pb_typing_declarations.specs.Instances.{instance_count, all_instances}
use Rattle.pb_typing_declarations.specs.Reading.{HasCarriers}
use Rattle.pb_typing_declarations.specs.Declarations.{stays_within, equation_faults, equations_faults_behind, equation_names, limit_faults}
use Rattle.pb_typing_declarations.proofs.Parts.{no_parts, holds_unless}
use Rattle.pb_typing_declarations.proofs.Passing.{stays}
use Rattle.pb_typing_declarations.proofs.VariableLemmas.{few_names}

abbrev Parameters : Type 0
Parameters = Vec Carrier Global

-- ---- at most MAX_EQUATIONS lists

pub few_lists : {limit : ℕ} (S : Spec) (E : List EquationForm) (vs : List Parameters) → HasCarriers limit S 0 E (lists_of vs) → limit_faults MAX_EQUATIONS (equation_names E) ≡ [] → length vs ≤ MAX_EQUATIONS
few_lists S E vs has clear =
    let few = few_names MAX_EQUATIONS (equation_names E) clear in
    let names = length-map E (λ (X : EquationForm). X.name) in
    let erased = length-map E erased_equation in
    let sorts = length-map (map erased_equation E) (λ (X : Equation). carriers_of S X.parameters) in
    let values = length-map (lists_of vs) (λ (cs : List Carrier). map values_of cs) in
    let lists = length-map vs (λ (v : Parameters). v.items) in
    let same : length (layouts.carriers_of (lists_of vs)) ≡ length (map (λ (X : Equation). carriers_of S X.parameters) (map erased_equation E)) = ap length has.values in
    omega (arith, few, names, erased, sorts, values, lists, same)

-- ---- of at most MAX_PARAMETERS carriers

pub few_carriers : (vs : List Parameters) → All (λ (cs : List Carrier). length cs ≤ MAX_PARAMETERS) (lists_of vs) → (k : ℕ) (d : Parameters) → k < length vs → vec_len (get_or vs k d) ≤ MAX_PARAMETERS
few_carriers [] h k d below = absurd (omega (arith, below))
few_carriers (v ∷ vs) h zero d below = let few = h zero v.items (omega arith) in omega (arith, few, v.ok.0)
few_carriers (v ∷ vs) h (suc k) d below = few_carriers vs (λ j e lt. h (suc j) e (omega (arith, lt))) k d (omega (arith, below))

-- ---- with few instances

pub within : {limit : ℕ} (S : Spec) (n : ℕ) (E : List EquationForm) → equations_faults_behind limit S n E ≡ [] → n ≤ limit → n + all_instances S (map erased_equation E) ≤ limit
within {limit} S n [] e low = omega (arith, low)
within {limit} S n (X ∷ E) e low =
    let p = no_parts (equation_faults S X) _ e in
    let q = no_parts (unless (stays_within limit n (n + instance_count S (erased_equation X))) Limit X.name.place) _ p.1 in
    let first = leb-true (n + instance_count S (erased_equation X)) limit
    (sym (stays limit n (n + instance_count S (erased_equation X)) low) ∙ holds_unless _ _ _ q.0) in
    let rest = within S (n + instance_count S (erased_equation X)) E q.1 first in
    omega (arith, rest)

counted : (m : ℕ) (S : Spec) (E : List Equation) → length (instances_from m (map (λ (X : Equation). carriers_of S X.parameters) E)) ≡ all_instances S E
counted m S [] = refl
counted m S (X ∷ E) =
    length-instances_from-cons m (carriers_of S X.parameters) (map (λ (Y : Equation). carriers_of S Y.parameters) E)
    ∙ ap (λ n. instance_count S X + n) (counted (suc m) S E)

pub few_instances : {limit : ℕ} (S : Spec) (E : List EquationForm) (ls : List (List Carrier)) → HasCarriers limit S 0 E ls → count_of ls ≤ limit
few_instances S E ls has =
    let count : count_of ls ≡ all_instances S (map erased_equation E) = ap (λ css. length (instances_from 0 css)) has.values ∙ counted 0 S (map erased_equation E) in
    let low = within S 0 E has.clear (omega arith) in
    omega (arith, count, low)
