use Rattle.pb_typing_declarations.proofs.ShapeLaws.{shape_carrier-sort_shape, known}
use Rattle.pb_typing_declarations.proofs.laws.shapes_have_carriers.Goals as goal

pub returns-clause-carrier : goal.returns-clause-carrier
returns-clause-carrier c = shape_carrier-sort_shape

pub returns-clause-known : goal.returns-clause-known
returns-clause-known c = known
