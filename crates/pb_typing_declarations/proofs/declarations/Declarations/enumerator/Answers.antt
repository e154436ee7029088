use Rattle.std.proofs.Common.{◌∙◌, ap}
use Rattle.std.specs.Option.{option_map}
use Rattle.pb_typing_declarations.specs.Enumerators.{Position}
use Rattle.pb_typing_declarations.specs.View.{spec_of}
use Rattle.pb_typing_declarations.proofs.PlaceLaws.{enumerators-place_in}
use Rattle.pb_typing_declarations.proofs.declarations.Declarations.enumerator.Goals as goal

pub returns-clause-place : goal.returns-clause-place
returns-clause-place c =
    ap (option_map (λ (p : Position). p.place)) (c.as_enumerator.ensures ∙ c.data_name.ensures.enumerators)
    ∙ enumerators-place_in 0 (spec_of c.args.self.now).sorts c.args.name.now
