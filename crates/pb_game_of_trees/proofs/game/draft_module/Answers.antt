use Rattle.std.proofs.Common.{IfOk, map, subst}
use Rattle.std.proofs.lemmas.Result.{IfOk-weaker}
use Rattle.pb_base.proofs.Faults.{if_refused}
use Rattle.pb_bytecode.specs.Meaning.{signature_of}
use Rattle.pb_game_of_trees.specs.Drafted.{IsDraftOf}
use Rattle.pb_game_of_trees.specs.TreeGame.{IsRefusedExactly}
use Rattle.pb_game_of_trees.proofs.Refused.{too_large}
use Rattle.pb_game_of_trees.proofs.game.draft_module.Goals as goal

pub of_rows-requires-after_bounds : goal.of_rows-requires-after_bounds
of_rows-requires-after_bounds g c κs within =
    rw (c.in_ok-signatures.ensures, c.initial.ensures.number) (c.requires.trees.0, c.requires.rows c.requires.trees.0 c.requires.trees.1)

pub returns-clause-draft : goal.returns-clause-draft
returns-clause-draft g c =
    let of_module = subst (λ s. IfOk c.of_rows.result (IsDraftOf s c.args.rows.now c.initial.result)) c.in_ok-signatures.ensures c.of_rows.ensures.draft in
    let whole = subst (λ n. IfOk c.of_rows.result (IsDraftOf (map signature_of c.args.verified.now.equations) c.args.rows.now n)) c.initial.ensures.number of_module in
    IfOk-weaker c.of_rows.result _ _ (λ drafted is trees have. is trees (c.requires.rows trees have)) whole

pub returns-clause-too_many : goal.returns-clause-too_many
returns-clause-too_many g c =
    if_refused c.of_rows.result
    (λ _ large trees have. large trees (c.requires.rows trees have).are)
    (too_large _ _ _ c.of_rows.result
    (subst (λ s. IsRefusedExactly c.args.counting c.of_rows.result s c.args.rows.now) c.in_ok-signatures.ensures c.of_rows.ensures.too_many))
