use Rattle.std.proofs.Common.{◌≡◌, length, sym, ◌∙◌, ap}
use Rattle.pb_bytecode_program.specs.Transfer.{set_loop, set_param}
use Rattle.pb_verifier_states.proofs.Ordered.{set_loop_ordered, set_param_ordered, written_back, set_loop_long, set_param_long}
use Rattle.pb_verifier_states.proofs.state.AbstractState.narrow_slot.Goals as goal

pub invariant_of-self : goal.invariant_of-self
invariant_of-self c =
    let before = c.self.invariant in
    let e = c.write_loop.ensures ∙ ap (λ ls. set_loop ls c.args.slot c.numbers-value.result) c.deref_mut.ensures.value in
    let long : c.self.inside.loops.len ≡ length c.write_loop.new.loops = c.self.inside.loops.ok.0 ∙ sym (ap length e ∙ set_loop_long c.self.inside.loops.items c.args.slot c.numbers-value.result) in (
      before.0,
      before.1,
      before.2,
      rw (written_back c.self.inside.loops.len c.write_loop.new.loops _ long, e)
          (set_loop_ordered c.self.inside.loops.items c.args.slot c.numbers-value.result before.3 c.numbers-value.ensures.ordered),
    )

pub invariant_of-self-else-is_among : goal.invariant_of-self-else-is_among
invariant_of-self-else-is_among c =
    let before = c.self.invariant in
    let e = c.write_param.ensures ∙ ap (λ vs. set_param vs c.args.slot c.numbers-value.result) c.deref_mut-else-is_among.ensures.value in
    let long : c.self.inside.parameters.len ≡ length c.write_param.new.parameters =
    c.self.inside.parameters.ok.0
    ∙ sym (ap length e ∙ set_param_long c.self.inside.parameters.items c.args.slot c.numbers-value.result) in (
      before.0,
      before.1,
      rw (written_back c.self.inside.parameters.len c.write_param.new.parameters _ long, e)
          (set_param_ordered c.self.inside.parameters.items c.args.slot c.numbers-value.result before.2 c.numbers-value.ensures.ordered),
      before.3,
    )
