use Rattle.std.proofs.Common.{◌≡◌, drop}
use Rattle.std.specs.List.{list_all}
use Rattle.pb_protocol_scalar_sets.specs.Formulas.{link_fits}
use Rattle.pb_protocol_scalar_sets.specs.View.{scope_of}
use Rattle.pb_protocol_scalar_sets.proofs.formula.+formulas.Given as goal

-- the operands that are left
abbrev pub invariant-links_fit-loop-link : goal.invariant-links_fit-loop-link
invariant-links_fit-loop-link l = let fit = list_all (link_fits l.readings (scope_of l.around)) in fit l.links ≡ fit (drop l.link-index l.links)
