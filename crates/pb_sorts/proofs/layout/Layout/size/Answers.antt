use Rattle.std.proofs.Common.{◌≡◌, ◌+◌, arith}
use Rattle.pb_sorts.specs.Instance.{first_of, size_of}
use Rattle.pb_sorts.specs.Layout.{carriers_of}
use Rattle.pb_sorts.proofs.Layouts.{numbered_view, start_read, first_of-after}
use Rattle.pb_sorts.proofs.layout.Layout.size.Goals as goal

-- the next equation begins where this one ends
ends : (c : goal.After-first) → c.index.result.now ≡ c.first.result + size_of (carriers_of c.args.self.now) c.args.equation
ends c =
    let equations = c.args.self.now in
    let k = c.args.equation in
    let numbered = numbered_view c.self.inside.carriers.items c.self.inside.firsts.items equations c.self.view_is c.self.invariant in
    let next : c.index.result.now ≡ first_of (carriers_of equations) (k + 1) =
    start_read equations c.self.inside.firsts.items (k + 1) c.index.result.now numbered (omega (arith, c.requires)) c.index.ensures in
    omega (arith, next, c.first.ensures, first_of-after equations k c.requires)

pub overflow_sub-result : goal.overflow_sub-result
overflow_sub-result c = omega (arith, ends c)

pub returns : goal.returns
returns c = omega (arith, ends c)
