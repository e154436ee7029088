use Rattle.pb_sorts.proofs.Layouts.{parameters_are_few, limits_view, carriers_read}
use Rattle.pb_sorts.proofs.layout.Layout.carriers.Goals as goal

pub returns-clause-few : goal.returns-clause-few
returns-clause-few c =
    let inside = c.self.inside in
    parameters_are_few c.args.self.now c.args.equation c.deref.result.now
    (limits_view inside.carriers.items inside.firsts.items c.args.self.now c.self.view_is c.self.invariant)
    (carriers_read inside.carriers.items c.args.self.now c.args.equation c.index.result.now c.deref.result.now c.self.view_is c.requires c.index.ensures c.deref.ensures.value)
