-- The fault is told at the property's name.
use Rattle.std.proofs.Common.{◌∙◌, ap}
use Rattle.pb_text_tree.specs.declared.place.Place.{Place}
use Rattle.pb_base.specs.declared.or_memory.OrMemory.TheVariants as or_memory
use Rattle.pb_command_faults.specs.declared.solve_fault.SolveFault.TheVariants as solve_fault
use Rattle.pb_command_models.proofs.told.refused_property.Goals as goal

pub returns : goal.returns
returns c q stands =
    c.into.ensures
    ∙ ap (λ (at : Place). or_memory.Refused (solve_fault.Property (record { excess = c.args.excess; place = at }))) (c.name_place-place.ensures q stands)
