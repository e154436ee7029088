-- States that are unpacked group by group.
use Rattle.std.proofs.Common.{◌≡◌, List, [], ◌∷◌, ◌++◌, refl}
use Rattle.pb_base_values.specs.Carrier.{Value, Tuple}
use Rattle.pb_protocol_packing.specs.Packing.{Group, Alone, Joined}
use Rattle.pb_protocol_packing.specs.Unpacked.{unpacked}
use Rattle.pb_protocol_packer.specs.Groups.{values_at}

pub unpacked-none : (gs : List Group) → unpacked gs [] ≡ []
unpacked-none [] = refl
unpacked-none (g ∷ gs) = refl

pub unpacked-more : (g : Group) (gs : List Group) (v : Value) (t : Tuple) → unpacked (g ∷ gs) (v ∷ t) ≡ values_at g v ++ unpacked gs t
unpacked-more (Alone x) gs v t = refl
unpacked-more (Joined x ps) gs v t = refl
