-- What a test is, as its sign decides.
use Rattle.std.proofs.Common.{◌≡◌, Bool, true, false, refl}
use Rattle.pb_normal.specs.Normal.{Term, Test}
use Rattle.pb_normal.specs.Normalisation.{signed_test}
use Rattle.pb_normal.specs.Small.{is_small}
use Rattle.pb_assembler_measures.specs.Tests.{signed_term}

pub signed : (even : Bool) (x : Term) → signed_test even x ≡ Test (signed_term even x)
signed true x = refl
signed false x = refl

-- a sign has no number and no slot
pub signed_small : (even : Bool) (x : Term) → is_small (signed_term even x) ≡ is_small x
signed_small true x = refl
signed_small false x = refl
