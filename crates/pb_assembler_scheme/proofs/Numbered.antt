-- The truth of a formula where instances are numbers, and that it is the truth where they are names with values.
use Rattle.std.proofs.Common.{◌≡◌, ◌≢◌, ℕ, zero, suc, ◌+◌, ◌<◌, Bool, true, false, ◌&&◌, List, [], ◌∷◌, map, length, Option, Some, None, refl, sym, ap, ◌∙◌, arith}
use Rattle.std.specs.Prelude.{ℤ, pos}
use Rattle.std.specs.List.{slice_get, position_or_len}
use Rattle.std.proofs.lemmas.Option.{slice_get_within, get_or_from_slice_get}
use Rattle.std.proofs.lemmas.List.{get_or-map, length-map}
use Rattle.std.proofs.lemmas.List.Sums.{position_or_len_is}
use Rattle.std.proofs.lemmas.List.Folds.{find_at}
use Rattle.std.proofs.lemmas.Slice.Eq.{bytes_eq-Decides}
use Rattle.pb_fixpoint.specs.Solution.{Environment}
use Rattle.pb_fixpoint.specs.Transfer.{Matches}
use Rattle.pb_base_values.specs.Carrier.{numbers_from, is_within}
use Rattle.pb_sorts.specs.declared.carrier.Carrier.{Carrier}
use Rattle.pb_sorts.specs.declared.carrier.Carrier.TheVariants as carrier
use Rattle.pb_sorts.specs.Carrier.{values_of}
use Rattle.pb_sorts.specs.Instance.{number_of}
use Rattle.pb_sorts.specs.Layout as layout
use Rattle.pb_text_tree.specs.declared.operator.Quantifier.{Quantifier}
use Rattle.pb_text_tree.specs.declared.operator.Quantifier.TheVariants.{Forall, Exists}
use Rattle.pb_text_meaning.specs.Syntax.{Name, same_name, Equation, Spec}
use Rattle.pb_text_meaning.specs.Value.{is_true, of_values}
use Rattle.pb_text_meaning.specs.Formula.{Instance, carriers_of, equation_named, fits, is_instance}
use Rattle.pb_typing_declarations.specs.Shapes.{shape_carrier}
use Rattle.pb_typing_declarations.specs.Entries.{carrier_shape}
use Rattle.pb_typing_declarations.specs.WellDeclared.{AreApart}
use Rattle.pb_typing_values.specs.Environment.{all_carriers}
use Rattle.pb_bytecode_program.specs.Values.{tagged, untagged, tagged_values}
use Rattle.pb_bytecode_program.specs.Machine.{Program, carrier_of}
use Rattle.pb_fixpoint_trees.specs.declared.junction.Junction.{Junction}
use Rattle.pb_fixpoint_trees.specs.declared.junction.Junction.TheVariants.{Disjunction}
use Rattle.pb_normal.specs.Normal.{Argument, Formula, Test, Join, Each, Call, Slots, set, value, joined, name_of, called_instance, truth}
use Rattle.pb_assembler_scheme.specs.Scheme.{neutral, junction_of, parameters}
use Rattle.pb_assembler_scheme.specs.Correct.{IsFullCall, HasFullCalls, Declares, number_in}

-- ---- truth over numbers

-- the values that a loop slot takes, without their kind
abbrev pub loop_values : Option Carrier → List ℤ
loop_values None = []
loop_values (Some c) = map untagged (tagged_values c)

-- of these, all or some
abbrev pub all_joined : Junction → List Bool → Bool
all_joined m [] = neutral m
all_joined m (b ∷ bs) = joined m b (all_joined m bs)

abbrev pub argument_values : Slots → List Argument → List ℤ
argument_values a xs = map (λ (x : Argument). value a x.term) xs

abbrev pub call_number : Program → ℕ → List ℤ → ℕ
call_number p equation vs = number_of (layout.carriers_of p.callees) (record { equation = equation; values = vs })

abbrev pub numbered_truth : Program → Slots → Environment ℕ → Formula → Bool
numbered_truth p a t (Test x) = is_true (value a x)
numbered_truth p a t (Join m f g) = joined m (numbered_truth p a t f) (numbered_truth p a t g)
numbered_truth p a t (Each q s shape f) = all_joined (junction_of q) (map (λ v. numbered_truth p (set a s v) t f) (loop_values (carrier_of p s)))
numbered_truth p a t (Call equation xs) =
    is_within (map values_of (parameters (slice_get p.callees equation))) (argument_values a xs) && t (call_number p equation (argument_values a xs))

-- the slot of each quantifier has the carrier of its shape
abbrev pub HasSlots : Program → Formula → Type 0
HasSlots p (Test x) = Unit {0}
HasSlots p (Join m f g) = HasSlots p f × HasSlots p g
HasSlots p (Each q s shape f) = (carrier_shape (carrier_of p s) ≡ shape) × HasSlots p f
HasSlots p (Call equation xs) = Unit {0}

-- ---- values of loop slots

untagged-bools : map untagged (tagged_values carrier.Bool) ≡ shape_carrier (carrier_shape (Some carrier.Bool))
untagged-bools = refl

untagged-places : (e : _) (k n : ℕ) → map untagged (map (tagged (carrier.Enum e)) (numbers_from (pos k) n)) ≡ numbers_from (pos k) n
untagged-places e k zero = refl
untagged-places e k (suc n) = ap (λ (zs : List ℤ). pos k ∷ zs) (untagged-places e (k + 1) n)

untagged-numbers : (r : _) (zs : List ℤ) → map untagged (map (tagged (carrier.Range r)) zs) ≡ zs
untagged-numbers r [] = refl
untagged-numbers r (z ∷ zs) = ap (λ (ys : List ℤ). z ∷ ys) (untagged-numbers r zs)

loop-values : (o : Option Carrier) → loop_values o ≡ shape_carrier (carrier_shape o)
loop-values None = refl
loop-values (Some carrier.Bool) = untagged-bools
loop-values (Some (carrier.Enum e)) = untagged-places e 0 e.count
loop-values (Some (carrier.Range r)) = untagged-numbers r _

of-values : (q : Quantifier) (φ : ℤ → Bool) (zs : List ℤ) → all_joined (junction_of q) (map φ zs) ≡ of_values q φ zs
of-values Forall φ [] = refl
of-values Forall φ (z ∷ zs) = ap (λ b. φ z && b) (of-values Forall φ zs)
of-values Exists φ [] = refl
of-values Exists φ (z ∷ zs) = ap (joined Disjunction (φ z)) (of-values Exists φ zs)

same-map : (φ ψ : ℤ → Bool) → ((z : ℤ) → φ z ≡ ψ z) → (zs : List ℤ) → map φ zs ≡ map ψ zs
same-map φ ψ e [] = refl
same-map φ ψ e (z ∷ zs) = ap (λ b. b ∷ map φ zs) (e z) ∙ ap (λ (bs : List Bool). ψ z ∷ bs) (same-map φ ψ e zs)

-- ---- equations

-- the equation at the place of a callee, whose parameters have the callee's values
pub record IsEquationAt (spec : Spec) (E : List Equation) (k : ℕ) (cs : List Carrier) : Type 0 where
  pub equation : Equation
  pub at : slice_get E k ≡ Some equation
  pub carriers : map values_of cs ≡ carriers_of spec equation.parameters

equation-at : (spec : Spec) (ds : List (List Carrier)) (E : List Equation) (k : ℕ) (cs : List Carrier)
    → map (λ (parameters : List Carrier). map values_of parameters) ds ≡ map (λ (X : Equation). carriers_of spec X.parameters) E → slice_get ds k ≡ Some cs → IsEquationAt spec E k cs
equation-at spec [] E k cs e at = cc
equation-at spec (d ∷ ds) [] k cs e at = cc
equation-at spec (d ∷ ds) (X ∷ E) zero cs e at = let same : d ≡ cs = cc in record { equation = X; at = refl; carriers = ap (λ (c : List Carrier). map values_of c) (sym same) ∙ cc }
equation-at spec (d ∷ ds) (X ∷ E) (suc k) cs e at = let h = equation-at spec ds E k cs (cc) at in record { equation = h.equation; at = h.at; carriers = h.carriers }

differ : (x y : Name) → x ≢ y → same_name x y ≡ false
differ x y apart = by (same_name x y) refl
  where
    by : (b : Bool) → same_name x y ≡ b → same_name x y ≡ false
    by true e = absurd (apart ((bytes_eq-Decides x y).0 e))
    by false e = e

-- names being apart, an equation is the first one of its name
pub first-named : (E : List Equation) (k : ℕ) (X : Equation) → AreApart (map (λ (Y : Equation). Y.name) E) → slice_get E k ≡ Some X
    → position_or_len (λ (Y : Equation). same_name Y.name X.name) E ≡ k
first-named E k X apart at =
    let below = slice_get_within E k X at in
    let here = get_or_from_slice_get E k X X at in
    position_or_len_is (λ (Y : Equation). same_name Y.name X.name) E k X (omega arith)
    (λ j less. differ _ _ (λ e.
    let j-below : j < length E = omega arith in
    let long : k < length (map (λ (Y : Equation). Y.name) E) = let l = length-map E (λ (Y : Equation). Y.name) in omega arith in
    apart j k X.name less long
    (get_or-map (λ (Y : Equation). Y.name) E j X X.name j-below ∙ e ∙ sym (get_or-map (λ (Y : Equation). Y.name) E k X X.name below ∙ ap (λ (Y : Equation). Y.name) here))))
    (λ h. ap (λ (Y : Equation). same_name Y.name X.name) here ∙ (bytes_eq-Decides X.name X.name).1 refl)

pub found-named : (E : List Equation) (k : ℕ) (X : Equation) → AreApart (map (λ (Y : Equation). Y.name) E) → slice_get E k ≡ Some X → equation_named E X.name ≡ Some X
found-named E k X apart at = find_at (λ (Y : Equation). same_name Y.name X.name) E ∙ ap (slice_get E) (first-named E k X apart at) ∙ at

-- ---- both truths

module _ (spec : Spec) (p : Program) (declares : Declares spec p.callees) (numbers : Environment ℕ) (t : Environment Instance) (matches : Matches (is_instance spec) (number_in spec) numbers t) where
  same-call : (k : ℕ) (xs : List Argument) (a : Slots) (o : Option (List Carrier)) → slice_get p.callees k ≡ o → IsFullCall o xs
      → (is_within (map values_of (parameters o)) (argument_values a xs) && numbers (call_number p k (argument_values a xs))) ≡ truth spec a t (Call k xs)
  same-call k xs a None e full = absurd full
  same-call k xs a (Some cs) e full =
      let h = equation-at spec p.callees spec.equations k cs declares.carriers e in
      let X = h.equation in
      let vs = argument_values a xs in
      let i : Instance = record { name = X.name; values = vs } in
      let found : is_instance spec i ≡ is_within (map values_of cs) vs =
      ap (λ (o : Option Equation). fits spec o vs) (found-named spec.equations k X declares.apart h.at) ∙ ap (λ cs. is_within cs vs) (sym h.carriers) in
      let number : number_in spec i ≡ call_number p k vs =
      ap (λ (j : ℕ). number_of (all_carriers spec) (record { equation = j; values = vs })) (first-named spec.equations k X declares.apart h.at)
      ∙ ap (λ cs. number_of cs (record { equation = k; values = vs })) (sym declares.carriers) in
      let named : called_instance spec a k xs ≡ i = ap (λ o. record { name = name_of o; values = vs }) h.at in
      both (is_within (map values_of cs) vs) (numbers (call_number p k vs)) (t i)
      (λ w. ap numbers (sym number) ∙ sym (matches i (found ∙ w)))
      ∙ ap (λ b. b && t i) (sym found)
      ∙ ap (λ i. is_instance spec i && t i) (sym named)
    where
      both : (b c d : Bool) → (b ≡ true → c ≡ d) → (b && c) ≡ (b && d)
      both true c d e = e refl
      both false c d e = refl

  pub same-truth : (f : Formula) (a : Slots) → HasSlots p f → HasFullCalls p.callees f → numbered_truth p a numbers f ≡ truth spec a t f
  same-truth (Test x) a slots full = refl
  same-truth (Join m f g) a slots full =
      ap (λ b. joined m b (numbered_truth p a numbers g)) (same-truth f a slots.0 full.0) ∙ ap (joined m (truth spec a t f)) (same-truth g a slots.1 full.1)
  same-truth (Each q s shape f) a slots full =
      ap (all_joined (junction_of q)) (same-map _ _ (λ z. same-truth f (set a s z) slots.1 full) (loop_values (carrier_of p s)))
      ∙ of-values q (λ z. truth spec (set a s z) t f) (loop_values (carrier_of p s))
      ∙ ap (of_values q (λ z. truth spec (set a s z) t f)) (loop-values (carrier_of p s) ∙ ap shape_carrier slots.0)
  same-truth (Call k xs) a slots full = same-call k xs a (slice_get p.callees k) refl full
