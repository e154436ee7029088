-- The machine of three variables can be packed.
use Rattle.std.proofs.Common.{◌≡◌, Bool, true, false, if◌then◌else◌, List, refl}
use Rattle.std.specs.Prelude.{Option, Some, None, codes}
use Rattle.pb_text_meaning.specs.Syntax.{Name, same_name, Struct, Enumerator, Range}
use Rattle.pb_text_meaning.specs.Sorts.{range_of}
use Rattle.pb_protocol_packing.specs.Apart.{ends_by}
use Rattle.pb_protocol_packing.specs.Packable.{IsPackable}
use Rattle.pb_protocol_packing.specs.Examples.{machine}

ends : (r : Option Range) (b c : Bool) (E : List Enumerator) (target : Name → Bool) → ends_by r b (if c then Some (Struct E) else None) target ≡ true
ends (Some r) b c E target = refl
ends None true c E target = refl
ends None false true E target = refl
ends None false false E target = refl

pub machine-packable : IsPackable machine
machine-packable = record {
  names = record { variables = ((refl, (refl, tt)), ((refl, tt), (tt, tt))); steps = ((tt, (tt, (tt, tt))), ((tt, (tt, (tt, tt))), (((refl, tt), ((refl, tt), ((refl, tt), tt))), tt))) };
  enumerators = (refl, (refl, (refl, tt)));
  variables = (refl, (refl, (refl, (refl, (refl, tt)))));
  chains = λ s. ends (range_of machine.ranges s) (same_name s (codes "Bool")) (same_name (codes "Place") s) _ _;
  count = refl;
}
