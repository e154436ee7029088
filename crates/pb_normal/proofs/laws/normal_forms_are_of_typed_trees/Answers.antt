use Rattle.pb_normal.proofs.SignedForms.{normal-signed}
use Rattle.pb_normal.proofs.laws.normal_forms_are_of_typed_trees.Goals as goal

pub returns : goal.returns
returns c = normal-signed
