use Rattle.std.proofs.Common.{◌≡◌, ◌+◌, ◌-◌, ◌<◌, ◌≤◌, ◌∙◌, ap, arith}
use Rattle.std.specs.List.{slice_get}
use Rattle.pb_sorts.specs.Instance.{first_of, size_of, instances}
use Rattle.pb_sorts.specs.Layout.{carriers_of}
use Rattle.pb_sorts.proofs.Layouts.{number_at, owner_bounds}
use Rattle.pb_sorts.proofs.layout.Layout.instance.Goals as goal

pub returns : goal.returns
returns c =
    let equations = c.args.self.now in
    let k = c.equation_of-equation.result in
    let n = c.args.number in
    let bounds : (first_of (carriers_of equations) k ≤ n)
    × (n < first_of (carriers_of equations) k + size_of (carriers_of equations) k) =
    owner_bounds (first_of (carriers_of equations) k) (size_of (carriers_of equations) k) n c.equation_of-equation.ensures.owner in
    let sum : n ≡ first_of (carriers_of equations) k + (n - c.first.result) = omega (arith, c.first.ensures, bounds.0) in
    ap (slice_get (instances (carriers_of equations))) sum
    ∙ number_at equations k (n - c.first.result) c.carriers-carriers.result.now c.tuple_at.result.items c.carriers-carriers.ensures.list c.tuple_at.ensures
