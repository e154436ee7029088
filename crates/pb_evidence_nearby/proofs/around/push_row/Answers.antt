use Rattle.std.proofs.Common.{Bool, List, length, get_or, not, refl, sym, ap, ◌∙◌, arith}
use Rattle.pb_fixpoint_trees.specs.Row.{TokenRow, nothing}
use Rattle.pb_evidence_nearby.specs.Around.{leaf_of}
use Rattle.pb_evidence_nearby.proofs.Rowing.{explored_is, frontier_is}
use Rattle.pb_evidence_nearby.proofs.around.push_row.Goals as goal

pub returns-in_ok-push_row : goal.returns-in_ok-push_row
returns-in_ok-push_row c =
    let x = c.args.nearby.now in (
      _,
      refl,
      explored_is c.requires.nearby.0 x c.requires.nearby.1 c.args.number c.in-Some.place c.in-Some.ensures.0 c.in-Some.ensures.1 c.args.truth
          (omega (arith, c.if-place-len.true, c.len.ensures, ap length c.rows-explored.ensures)) c.tokens.result
          (c.tokens.ensures ∙ ap (λ (rs : List TokenRow). (get_or rs c.in-Some.place nothing).tree) c.rows-explored.ensures),
      c.in_ok-push_row.ensures.ok,
    )

pub returns-in_ok-push : goal.returns-in_ok-push
returns-in_ok-push c =
    let x = c.args.nearby.now in (
      _,
      refl,
      frontier_is c.requires.nearby.0 x c.requires.nearby.1 c.args.number c.in-Some.place c.in-Some.ensures.0 c.in-Some.ensures.1 c.args.truth
          (omega (arith, c.if-place-len.false, c.len.ensures, ap length c.rows-explored.ensures)) _ (ap (λ (b : Bool). leaf_of (not b)) (sym c.if-truth.true)),
      c.in_ok-push.ensures.ok,
    )

pub returns-in_ok-push-2 : goal.returns-in_ok-push-2
returns-in_ok-push-2 c =
    let x = c.args.nearby.now in (
      _,
      refl,
      frontier_is c.requires.nearby.0 x c.requires.nearby.1 c.args.number c.in-Some.place c.in-Some.ensures.0 c.in-Some.ensures.1 c.args.truth
          (omega (arith, c.if-place-len.false, c.len.ensures, ap length c.rows-explored.ensures)) _ (ap (λ (b : Bool). leaf_of (not b)) (sym c.if-truth.false)),
      c.in_ok-push-2.ensures.ok,
    )
