-- One line more, of a property of which no elements may be permuted.
use Rattle.std.proofs.Common.{◌≡◌, ◌∙◌, ◌++◌, ℕ, List, ap, sym, inl, codes}
use Rattle.pb_command_models.proofs.Symmetries.{line_step, lines_end}
use Rattle.pb_command_models.proofs.symmetry.without_symmetry.Goals as goal

pub loop-preserved : goal.loop-preserved
loop-preserved c = record {
  satisfied = c.loop.invariant.satisfied;
  lines = λ protocol. line_step protocol c.args.places.now c.loop.index 0 c.loop.findings.lines.items c.push.new.self.items c.push_str.new.self
      c.loop-test.true c.in_ok-push.ensures.items (λ p at. inl (c.in_ok-push_str.ensures.bytes ∙ ap (λ (b : List ℕ). b ++ codes "no symmetry\n") c.new-line.ensures.bytes))
      (c.loop.invariant.lines protocol);
}

pub returns-clause-lines : goal.returns-clause-lines
returns-clause-lines c protocol = lines_end protocol c.args.places.now c.loop.index _ c.loop-test.false (c.loop.invariant.lines protocol)
