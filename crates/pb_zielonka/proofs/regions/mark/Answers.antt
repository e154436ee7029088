use Rattle.std.proofs.Common.{◌<◌, length, length-set, get_or, false, arith, ◌∙◌}
use Rattle.pb_zielonka.proofs.Lists.{overwritten_in, overwritten_more, overwritten_out}
use Rattle.pb_zielonka.proofs.regions.mark.Goals as goal

pub loop-v-preserved : goal.loop-v-preserved
loop-v-preserved c =
    let i = c.loop-v.invariant in
    let now = c.loop-v.region.items in
    let list = c.args.list.now in
    let here : get_or list c.loop-v.v-index 0 < length now = omega (arith, i.size, c.requires c.loop-v.v-index c.loop-v-test.true) in
    record {
      size = length-set now _ c.args.inside ∙ i.size;
      written = overwritten_more false c.args.region.now.items now list c.loop-v.v-index c.args.inside c.loop-v-test.true here i.written;
    }

pub returns-clause-listed : goal.returns-clause-listed
returns-clause-listed c =
    overwritten_in false c.args.region.now.items c.loop-v.region.items c.args.list.now c.loop-v.v-index c.args.inside c.loop-v-test.false c.loop-v.invariant.written

pub returns-clause-others : goal.returns-clause-others
returns-clause-others c = overwritten_out false c.args.region.now.items c.loop-v.region.items c.args.list.now c.loop-v.v-index c.args.inside c.loop-v.invariant.written
