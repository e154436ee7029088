use Rattle.std.proofs.Common.{◌≡◌, true, false, ap, arith, sym, ◌∙◌}
use Rattle.pb_text_lexer.specs.Kinds.{is_last}
use Rattle.pb_text_lexer.proofs.LanguagePieceLemmas.{blank-takes, token-takes, token-ascii, token-past, stop-takes}
use Rattle.pb_text_lexer.proofs.NameLemmas.{token-spelled}
use Rattle.pb_text_lexer.proofs.RemainingLemmas.{blank-step, token-step, stop-step}
use Rattle.pb_text_lexer.proofs.lexer.first_token.Goals as goal

pub split_at-requires : goal.split_at-requires
split_at-requires c = (blank-takes c.args.language _ _ c.in-Blank.len c.in-Blank.ensures).1

pub pieces-smaller : goal.pieces-smaller
pieces-smaller c =
    let some = (blank-takes c.args.language _ _ c.in-Blank.len c.in-Blank.ensures).0 in
    omega arith

pub pieces-preserved : goal.pieces-preserved
pieces-preserved c =
    let takes = blank-takes c.args.language _ _ c.in-Blank.len c.in-Blank.ensures in
    let step = blank-step c.args.language c.pieces.rest.now c.in-Blank.len c.pieces.place (sym c.in-Blank.ensures) takes.0 takes.1 in
    record {
      tokens = rw (c.past-place.ensures.value, c.split_at.ensures.front, c.split_at.ensures.back) (sym step ∙ c.pieces.invariant.tokens);
      within = record { line = omega arith; column = omega arith };
    }

pub split_at-requires-in-Token : goal.split_at-requires-in-Token
split_at-requires-in-Token c = (token-takes c.args.language _ _ c.in-Token.kind c.in-Token.len c.in-Token.ensures).1

pub returns-in-Token-clause-gives : goal.returns-in-Token-clause-gives
returns-in-Token-clause-gives c =
    let takes = token-takes c.args.language _ _ c.in-Token.kind c.in-Token.len c.in-Token.ensures in
    let step = token-step c.args.language c.pieces.rest.now c.in-Token.kind c.in-Token.len c.pieces.place (sym c.in-Token.ensures) takes.0 takes.1 in
    let moved = token-past c.args.language c.pieces.place c.pieces.rest.now c.in-Token.kind c.in-Token.len c.in-Token.ensures in
    rw (takes.2, ← moved, c.split_at-in-Token.ensures.front, c.split_at-in-Token.ensures.back) (sym step ∙ c.pieces.invariant.tokens)

pub returns-in-Stop-clause-gives : goal.returns-in-Stop-clause-gives
returns-in-Stop-clause-gives c =
    let last = (stop-takes c.args.language _ _ c.in-Stop.kind c.in-Stop.ensures).0 in
    let step = stop-step c.args.language c.pieces.rest.now c.in-Stop.kind c.pieces.place (sym c.in-Stop.ensures) in
    rw last (sym step ∙ c.pieces.invariant.tokens)

pub returns-in-Token-clause-number : goal.returns-in-Token-clause-number
returns-in-Token-clause-number c is =
    let takes = token-takes c.args.language _ _ c.in-Token.kind c.in-Token.len c.in-Token.ensures in
    rw c.split_at-in-Token.ensures.front (takes.4 is)

pub returns-in-Token-clause-spelled : goal.returns-in-Token-clause-spelled
returns-in-Token-clause-spelled c is = rw c.split_at-in-Token.ensures.front (token-spelled c.args.language _ _ c.in-Token.kind c.in-Token.len (sym c.in-Token.ensures) is)

pub returns-in-Stop-clause-spelled : goal.returns-in-Stop-clause-spelled
returns-in-Stop-clause-spelled c is =
    let last = (stop-takes c.args.language _ _ c.in-Stop.kind c.in-Stop.ensures).0 in
    let name : is_last c.in-Stop.kind ≡ false = ap is_last is in
    absurd (let q : true ≡ false = sym last ∙ name in cc)

pub returns-in-Token-clause-ascii : goal.returns-in-Token-clause-ascii
returns-in-Token-clause-ascii c = rw c.split_at-in-Token.ensures.front (token-ascii c.args.language _ _ c.in-Token.kind c.in-Token.len c.in-Token.ensures)
