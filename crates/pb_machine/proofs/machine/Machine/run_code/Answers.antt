use Rattle.pb_fixpoint_trees.specs.Tokens.{tree_tokens}
use Rattle.pb_machine.proofs.machine.Machine.run_code.Goals as goal

pub advance-requires : goal.advance-requires
advance-requires c =
    let p = c.requires.0 in
    let can = c.requires.1 in
    let run = c.loop-left.invariant p can in
    (p, c.loop-left.left, tree_tokens run.tree, can.calls, can.same_code.same_loops, run.underway)

pub returns-then-not-advance : goal.returns-then-not-advance
returns-then-not-advance c p can =
    let run = c.loop-left.invariant p can in
    record {
      tree = run.tree;
      ends = run.ends;
      written = c.if-not-advance.ensures p c.loop-left.left (tree_tokens run.tree) can.calls can.same_code.same_loops run.underway;
    }

pub loop-left-preserved : goal.loop-left-preserved
loop-left-preserved c p can =
    let run = c.loop-left.invariant p can in
    record {
      tree = run.tree;
      ends = run.ends;
      underway = c.if-not-advance.ensures p c.loop-left.left (tree_tokens run.tree) can.calls can.same_code.same_loops run.underway;
    }
