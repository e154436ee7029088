use Rattle.std.proofs.Common.{refl}
use Rattle.pb_protocol_folding.specs.View.{spec_of}
use Rattle.pb_protocol_unfolder_terms.proofs.ArgumentLemmas.{with-one-more}
use Rattle.pb_protocol_unfolder_terms.proofs.arguments.with_argument.Goals as goal

pub returns : goal.returns
returns c = λ xs x n truth h u.
    with-one-more (spec_of c.args.folding.now.sorts.now) truth n xs x c.args.before (record { arguments = c.push.new.self; room = c.args.last.room }) c.args.last
    (record { place = c.args.place; term = c.args.last.term }) h u refl c.in_ok-push.ensures.items refl
