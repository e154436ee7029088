-- Names in a set, and those of the constants that are left.
use Rattle.std.proofs.Common.{◌≡◌, Bool, true, false, ◌||◌, refl}

-- one name more in the set, and one constant less that is left
pub moved : (a b r : Bool) → ((a || b) || r) ≡ (b || (a || r))
moved true true r = refl
moved true false r = refl
moved false b r = refl

pub nothing-left : (b : Bool) → b ≡ (b || false)
nothing-left true = refl
nothing-left false = refl
