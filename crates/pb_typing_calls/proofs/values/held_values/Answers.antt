use Rattle.std.proofs.Common.{◌∙◌, ◌∷◌, [], ◌++◌, get_or, map, ap, arith, SFits, w64, to_z-of_z}
use Rattle.pb_base_values.specs.Carrier.{Value}
use Rattle.pb_typing_values.specs.Slots.{slots_of}
use Rattle.pb_typing_calls.proofs.Pushed.{held-at, pushed}
use Rattle.pb_typing_calls.proofs.values.held_values.Goals as goal

pub loop-index-preserved : goal.loop-index-preserved
loop-index-preserved c =
    let a = slots_of c.args.slots.now in
    let own = c.args.own.now in
    let k = c.loop-index.index in
    let done = c.loop-index.values.items in
    let fits : SFits w64 c.held.result = record { sfits = omega arith } in
    pushed done c.push.new.self.items (map a own) (a (get_or own k 0)) k (held-at a own k c.loop-index-test.true)
    (c.in_ok-push.ensures.items ∙ ap (λ (u : Value). done ++ u ∷ []) (to_z-of_z fits ∙ c.held.ensures)) c.loop-index.invariant
