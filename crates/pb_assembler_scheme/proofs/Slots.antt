-- The slots of the scheme's programs: at the start they hold the instance's values, and each quantifier's slot has the
-- carrier of its shape.
use Rattle.std.proofs.Common.{◌≡◌, ℕ, zero, suc, ◌+◌, ◌-◌, false, cond, List, [], ◌∷◌, ◌++◌, map, length, Some, None, refl, sym, ap, ◌∙◌, subst, arith, append_assoc, length-append}
use Rattle.std.specs.Prelude.{ℤ, nat_lt}
use Rattle.std.specs.List.{slice_get}
use Rattle.std.proofs.lemmas.Bool.{and_parts, le-ltb}
use Rattle.pb_base_values.specs.Carrier as carriers
use Rattle.pb_sorts.specs.declared.carrier.Carrier.{Carrier}
use Rattle.pb_sorts.specs.declared.carrier.Carrier.TheVariants as carrier
use Rattle.pb_sorts.specs.Carrier.{values_of}
use Rattle.pb_typing_declarations.specs.Shapes.{Shape}
use Rattle.pb_typing_declarations.specs.Entries.{carrier_shape}
use Rattle.pb_bytecode_program.specs.Values.{TaggedValue, tagged, untagged}
use Rattle.pb_bytecode_program.specs.Machine.{Program, carrier_of}
use Rattle.pb_bytecode_program.specs.Safety.{AreArguments, arguments}
use Rattle.pb_bytecode_program.proofs.CarrierValues.{untagged-tagged}
use Rattle.pb_normal.specs.Normal.{Formula, Test, Join, Each, Call}
use Rattle.pb_normal.specs.Answer.{slots_of}
use Rattle.pb_assembler_scheme.specs.Correct.{quantifiers, slots_from}
use Rattle.pb_assembler_scheme.proofs.Numbered.{HasSlots}

-- ---- values of parameters

pub start-slots : (cs : List Carrier) (tuple : List ℤ) → AreArguments cs tuple → (i : ℕ) (v : TaggedValue) → slice_get (arguments cs tuple) i ≡ Some v → untagged v ≡ slots_of tuple i
start-slots [] tuple a i v e = cc
start-slots (c ∷ cs) [] a i v e = cc
start-slots (c ∷ cs) (z ∷ zs) a zero v e =
    let two = and_parts (carriers.contains (values_of c) z) (carriers.is_within (map values_of cs) zs) a in
    let same : tagged c z ≡ v = cc in
    ap untagged (sym same) ∙ untagged-tagged c z two.0
start-slots (c ∷ cs) (z ∷ zs) a (suc i) v e =
    let two = and_parts (carriers.contains (values_of c) z) (carriers.is_within (map values_of cs) zs) a in
    start-slots cs zs two.1 i v e

-- ---- carriers of loop slots

module _ (p : Program) where
  abbrev Have : List (ℕ × Shape) → Type 0
  Have [] = Unit {0}
  Have (q ∷ qs) = (carrier_shape (carrier_of p q.0) ≡ q.1) × Have qs

  have-front : (xs ys : List (ℕ × Shape)) → Have (xs ++ ys) → Have xs
  have-front [] ys h = tt
  have-front (x ∷ xs) ys h = (h.0, have-front xs ys h.1)

  have-back : (xs ys : List (ℕ × Shape)) → Have (xs ++ ys) → Have ys
  have-back [] ys h = h
  have-back (x ∷ xs) ys h = have-back xs ys h.1

  has-slots : (f : Formula) → Have (quantifiers f) → HasSlots p f
  has-slots (Test x) h = tt
  has-slots (Join m f g) h =
      (has-slots f (have-front (quantifiers f) (quantifiers g) h), has-slots g (have-back (quantifiers f) (quantifiers g) h))
  has-slots (Each q s shape f) h = (h.0, has-slots f h.1)
  has-slots (Call k xs) h = tt

  behind : (xs : List Carrier) (c : Carrier) (cs : List Carrier) → slice_get (xs ++ c ∷ cs) (length xs) ≡ Some c
  behind [] c cs = refl
  behind (x ∷ xs) c cs = behind xs c cs

  -- the carrier at a slot behind the parameters
  loop-carrier : (i k : ℕ) (c : Carrier) → i ≡ length p.parameters + k → slice_get p.loops k ≡ Some c → carrier_of p i ≡ Some c
  loop-carrier i k c e at =
      let n = length p.parameters in
      let far : nat_lt i n ≡ false = le-ltb i n (omega arith) in
      let back : i - n ≡ k = omega arith in
      ap (λ b. cond b None (slice_get p.loops (i - n))) far ∙ ap (slice_get p.loops) back ∙ at

  have-loops : (xs cs : List Carrier) (i : ℕ) → i ≡ length p.parameters + length xs → p.loops ≡ xs ++ cs → Have (slots_from i cs)
  have-loops xs [] i e split = tt
  have-loops xs (c ∷ cs) i e split =
      let long = length-append xs (c ∷ []) in (
        ap carrier_shape (loop-carrier i (length xs) c e (ap (λ (ds : List Carrier). slice_get ds (length xs)) split ∙ behind xs c cs)),
        have-loops (xs ++ c ∷ []) cs (suc i) (omega (arith, long)) (split ∙ sym (append_assoc xs (c ∷ []) cs)),
      )

  pub program-slots : (f : Formula) → quantifiers f ≡ slots_from (length p.parameters) p.loops → HasSlots p f
  program-slots f e = has-slots f (subst Have (sym e) (have-loops [] p.loops (length p.parameters) (omega arith) refl))
