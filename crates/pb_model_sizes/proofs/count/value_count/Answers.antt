use Rattle.std.proofs.Common.{◌∙◌, length, sym, ap}
use Rattle.pb_base_values.specs.Carrier.{Carrier}
use Rattle.pb_typing_declarations.specs.View.{spec_of}
use Rattle.pb_model_sizes.specs.Counts.{value_count}
use Rattle.pb_model_sizes.proofs.count.value_count.Goals as goal

pub returns-in-Some-clause-count : goal.returns-in-Some-clause-count
returns-in-Some-clause-count c =
    let spec = spec_of c.args.declarations.now in
    c.size.ensures.count ∙ (ap (λ (vs : Carrier). length vs) c.in-Some.ensures.values ∙ ap (value_count spec) c.deref.ensures)

pub returns-in-None-clause-count : goal.returns-in-None-clause-count
returns-in-None-clause-count c =
    let spec = spec_of c.args.declarations.now in
    sym (sym (ap (value_count spec) c.deref.ensures) ∙ ap (λ (vs : Carrier). length vs) c.in-None.ensures.values)
