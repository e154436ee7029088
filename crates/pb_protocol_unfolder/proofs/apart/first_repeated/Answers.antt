use Rattle.pb_protocol_unfolder.proofs.ApartLemmas.{repeats-at}
use Rattle.pb_protocol_unfolder.proofs.SeenNames.{in_set, met-again, met-more, met-none, not-met, was-met}
use Rattle.pb_protocol_unfolder.proofs.apart.first_repeated.Goals as goal

pub loop-index-init : goal.loop-index-init
loop-index-init c = met-none c.new-before.result c.new-before.ensures.empty

pub returns-then-not-is_new : goal.returns-then-not-is_new
returns-then-not-is_new c =
    let set = c.loop-index.before in
    let ns = c.args.names.now in
    let again = was-met c.in_ok-is_new.is_new (in_set set c.as_str.result.now) c.in_ok-is_new.ensures.added c.if-not-is_new.true in
    repeats-at ns c.loop-index.index c.index-names-index.result c.loop-index-test.true c.index-names-index.is
    (met-again set c.as_str.result ns c.loop-index.index c.index-names-index.result c.as_str.ensures.value c.loop-index.invariant again)

pub loop-index-preserved : goal.loop-index-preserved
loop-index-preserved c =
    let set = c.loop-index.before in
    met-more set c.insert.new.self c.as_str.result c.args.names.now c.loop-index.index c.index-names-index.result c.loop-index-test.true c.index-names-index.is
    c.in_ok-is_new.ensures.updates c.as_str.ensures.value c.loop-index.invariant
    (not-met c.in_ok-is_new.is_new (in_set set c.as_str.result.now) c.in_ok-is_new.ensures.added c.if-not-is_new.false)
