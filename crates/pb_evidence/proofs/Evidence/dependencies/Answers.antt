use Rattle.std.proofs.Common.{◌+◌, arith}
use Rattle.std.proofs.lemmas.List.{get_or_default}
use Rattle.pb_evidence.proofs.Evidence.dependencies.Goals as goal

pub index-requires-2 : goal.index-requires-2
index-requires-2 c = omega (arith, c.args.self.now.divided.sized)

pub slice_bounds-result-count : goal.slice_bounds-result-count
slice_bounds-result-count c =
    let parts = c.args.self.now.divided in
    let here = get_or_default c.args.self.now.places.items c.args.place c.index.result.now 0 (omega (arith, parts.sized, c.requires)) in
    let next = get_or_default c.args.self.now.places.items (c.args.place + 1) c.index-2.result.now 0 (omega (arith, parts.sized, c.requires)) in
    omega (arith, parts.ordered c.args.place c.requires, here, next, c.index.ensures, c.index-2.ensures)
