use Rattle.std.proofs.Common.{◌≡◌, ◌∙◌, ◌∷◌, [], ◌++◌, length, map, ap, sym, subst, arith}
use Rattle.std.proofs.Common.{SFits, w64, to_z-of_z}
use Rattle.pb_base_values.specs.Carrier.{Value}
use Rattle.pb_typing_tree.specs.Fits.{Fits}
use Rattle.pb_typing_tree.specs.Meaning.{value}
use Rattle.pb_typing_tree.specs.View.{argument_view, term_view}
use Rattle.pb_typing_tree.specs.declared.formula.Argument.{Argument}
use Rattle.pb_typing_values.specs.Slots.{slots_of}
use Rattle.pb_typing_values.proofs.Called.{argument_fits}
use Rattle.pb_typing_calls.specs.Made.{argument_values}
use Rattle.pb_typing_calls.proofs.Arguments.{values-at}
use Rattle.pb_typing_calls.proofs.Pushed.{pushed}
use Rattle.pb_typing_calls.proofs.values.argument_values.Goals as goal

pub value-requires : goal.value-requires
value-requires c =
    let n = length c.args.slots.now in
    let a = slots_of c.args.slots.now in
    subst (λ (e : Argument). Fits n a (term_view e.term)) c.index-arguments-index.is
    (argument_fits n a c.args.arguments.now c.loop-index.index c.index-arguments-index.result
    c.requires c.loop-index-test.true c.index-arguments-index.is)

pub loop-index-preserved : goal.loop-index-preserved
loop-index-preserved c =
    let a = slots_of c.args.slots.now in
    let es = c.args.arguments.now in
    let k = c.loop-index.index in
    let e = c.index-arguments-index.result in
    let done = c.loop-index.values.items in
    let is : c.value.result ≡ value a (term_view e.term) =
    c.value.ensures ∙ ap (λ (d : Argument). value a (term_view d.term))
    (sym c.index-arguments-index.is) in
    let fits : SFits w64 c.value.result = record { sfits = omega arith } in
    pushed done c.push.new.self.items (argument_values a (map argument_view es))
    (value a (term_view e.term)) k
    (values-at a es k e c.loop-index-test.true c.index-arguments-index.is)
    (c.in_ok-push.ensures.items ∙ ap (λ (v : Value). done ++ v ∷ [])
    (to_z-of_z fits ∙ is)) c.loop-index.invariant
