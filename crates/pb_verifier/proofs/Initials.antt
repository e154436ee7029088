-- The initial instance of a module is one of its instances.
use Rattle.std.proofs.Common.{◌≡◌, ℕ, zero, suc, true, List, [], ◌∷◌, map, Some, sym, ap, ◌∙◌, subst, ◌+◌}
use Rattle.std.proofs.lemmas.Option.{slice_get_within}
use Rattle.std.specs.Prelude.{◌&&◌, nat_le, length, slice_get}
use Rattle.std.specs.List.{list_all}
use Rattle.std.proofs.lemmas.Bool.{and_parts}
use Rattle.pb_base_values.specs.Carrier.{Tuple, is_within}
use Rattle.pb_base.specs.declared.limits.TheConstants.{MAX_STRUCTS, MAX_EQUATIONS}
use Rattle.pb_sorts.specs.declared.counting.TheConstants.{MAX_NUMBERS}
use Rattle.pb_sorts.specs.Carrier.{values_of}
use Rattle.pb_sorts.specs.Instance.{Instance, instances, is_instance, is_tuple_of}
use Rattle.pb_sorts.specs.Layout.{carriers_of}
use Rattle.pb_sorts.specs.declared.carrier.Carrier.{Carrier}
use Rattle.pb_sorts.proofs.Numbers.{number_of-slice_get}
use Rattle.pb_bytecode.specs.Contents.{EquationContents, Contents, counts}
use Rattle.pb_bytecode.specs.Limits.{fits, fits_sort, fits_equation, is_tuple, is_between, is_byte, instance_count, parameters_if_any, is_i64}
use Rattle.pb_bytecode.specs.Meaning.{parameters}
use Rattle.pb_verifier.specs.Acceptance.{IsInitialNumber}

values_fit : (es : List EquationContents) (k : ℕ) (values : Tuple)
    → is_tuple (parameters_if_any (slice_get es k)) values ≡ true
    → is_tuple_of (slice_get (carriers_of (map (λ (e : EquationContents). e.parameters) es)) k) values ≡ true
values_fit [] k values h = cc
values_fit (e ∷ es) zero values h = (and_parts (list_all is_i64 values) (is_within (map values_of e.parameters) values) h).1
values_fit (e ∷ es) (suc k) values h = values_fit es k values h

initial_fits : (m : Contents) → fits m ≡ true → is_tuple_of (slice_get (carriers_of (parameters m)) m.initial.equation) m.initial.values ≡ true
initial_fits m h =
    let sorts = is_between 0 (MAX_STRUCTS + 1) (length m.sorts) && list_all fits_sort m.sorts in
    let equations = is_between 1 (MAX_EQUATIONS + 1) (length m.equations) && list_all (fits_equation m.version (counts m.sorts)) m.equations in
    let few = nat_le (instance_count m.equations) MAX_NUMBERS in
    let initial = is_tuple (parameters_if_any (slice_get m.equations m.initial.equation)) m.initial.values in
    values_fit m.equations m.initial.equation m.initial.values
    ((and_parts (is_byte m.initial.equation) initial
    ((and_parts few (is_byte m.initial.equation && initial)
    ((and_parts equations (few && (is_byte m.initial.equation && initial))
    ((and_parts sorts (equations && (few && (is_byte m.initial.equation && initial))) h).1)).1)).1)).1)

-- the initial instance
abbrev pub initial_instance_of : Contents → Instance
initial_instance_of m = record { equation = m.initial.equation; values = m.initial.values }

module _ (m : Contents) (laid : List (List Carrier)) (instance : Instance) (laid_out : laid ≡ parameters m) (initial : instance ≡ initial_instance_of m) where
  pub initial_is_instance : fits m ≡ true → is_instance (carriers_of laid) instance ≡ true
  initial_is_instance h =
      subst (λ (x : List (List Carrier)). is_instance (carriers_of x) instance ≡ true) (sym laid_out)
      (subst (λ (i : Instance). is_instance (carriers_of (parameters m)) i ≡ true) (sym initial) (initial_fits m h))

  pub initial_number_is : (n : ℕ) → slice_get (instances (carriers_of laid)) n ≡ Some instance → IsInitialNumber m n
  initial_number_is n at =
      let here = subst (λ (x : List (List Carrier)). slice_get (instances (carriers_of x)) n ≡ Some instance) laid_out at in
      let there = here ∙ ap (λ (i : Instance). Some i) initial in
      record {
        same = number_of-slice_get (parameters m) n (initial_instance_of m) there;
        inside = slice_get_within (instances (carriers_of (parameters m))) n (initial_instance_of m) there;
      }
