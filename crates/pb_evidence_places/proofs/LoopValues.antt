-- The values that a loop's slot takes are those of its carrier.
use Rattle.std.proofs.Common.{◌≡◌, ℕ, zero, suc, ◌+◌, List, [], ◌∷◌, map, Option, Some, None, refl, ap}
use Rattle.std.specs.Prelude.{ℤ, pos}
use Rattle.pb_base_values.specs.Carrier.{numbers_from}
use Rattle.pb_sorts.specs.declared.carrier.Carrier.{Carrier}
use Rattle.pb_sorts.specs.declared.carrier.Carrier.TheVariants as carrier
use Rattle.pb_typing_declarations.specs.Entries.{carrier_shape}
use Rattle.pb_typing_declarations.specs.Shapes.{shape_carrier}
use Rattle.pb_bytecode_program.specs.Values.{tagged, untagged}
use Rattle.pb_assembler_scheme.proofs.Numbered.{loop_values}

of-enumerators : (e : _) (k n : ℕ)
    → map untagged (map (tagged (carrier.Enum e)) (numbers_from (pos k) n)) ≡ numbers_from (pos k) n
of-enumerators e k zero = refl
of-enumerators e k (suc n) = ap (λ (zs : List ℤ). pos k ∷ zs) (of-enumerators e (k + 1) n)

of-range : (r : _) (zs : List ℤ) → map untagged (map (tagged (carrier.Range r)) zs) ≡ zs
of-range r [] = refl
of-range r (z ∷ zs) = ap (λ (ys : List ℤ). z ∷ ys) (of-range r zs)

pub values-of-loop : (o : Option Carrier) → loop_values o ≡ shape_carrier (carrier_shape o)
values-of-loop None = refl
values-of-loop (Some carrier.Bool) = refl
values-of-loop (Some (carrier.Enum e)) = of-enumerators e 0 e.count
values-of-loop (Some (carrier.Range r)) = of-range r _
