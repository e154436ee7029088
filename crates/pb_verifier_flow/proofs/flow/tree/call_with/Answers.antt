use Rattle.std.proofs.lemmas.Result.{err_from_is_err_and}
use Rattle.pb_verifier_flow.proofs.SecondRoot.{no_root}
use Rattle.pb_verifier_flow.proofs.flow.tree.call_with.Goals as goal

pub returns-in_err-add_root-clause-err : goal.returns-in_err-add_root-clause-err
returns-in_err-add_root-clause-err c =
    let p = err_from_is_err_and c.from_residual-in_err-add_root.result c.from_residual-in_err-add_root.ensures.1 in
    rw (p.1) (no_root c.args.callee.now c.args.state.now c.pop_arguments.new.self c.in_ok-pop_arguments.ensures.same c.in_ok-pop_arguments.ensures.ok c.in_err-add_root.ensures.err)
