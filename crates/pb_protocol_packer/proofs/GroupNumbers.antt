-- What tests stand in front of the number of a group.
use Rattle.std.proofs.Common.{◌≡◌, List, [], ◌∷◌, ◌++◌, refl, ap}
use Rattle.pb_text_meaning.specs.Syntax.{Term}
use Rattle.pb_protocol_packing.specs.Numbers.{either}
use Rattle.pb_protocol_packing.specs.Packing.{where_all}

pub where-last : (ts : List Term) (t x y : Term) → where_all (ts ++ t ∷ []) x y ≡ where_all ts (either t x y) y
where-last [] t x y = refl
where-last (s ∷ ts) t x y = ap (λ (z : Term). either s z y) (where-last ts t x y)
