use Rattle.std.proofs.Common.{◌∙◌, ap}
use Rattle.pb_text_meaning.specs.Sorts.{carrier_of}
use Rattle.pb_typing_declarations.specs.Shapes.{shape_carrier, end_shape}
use Rattle.pb_typing_declarations.specs.View.{spec_of}
use Rattle.pb_typing_declarations.proofs.ShapeLaws.{values_found, shape_carrier-sort_shape}
use Rattle.pb_typing_declarations.proofs.declarations.Declarations.carrier.Goals as goal

pub returns-clause-values : goal.returns-clause-values
returns-clause-values c =
    let S = spec_of c.args.self.now in
    values_found c.carrier.result (carrier_of S c.args.sort.now)
    (ap shape_carrier (c.carrier.ensures ∙ ap end_shape c.end.ensures) ∙ shape_carrier-sort_shape S c.args.sort.now)
