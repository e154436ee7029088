use Rattle.std.proofs.Common.{ℕ, true, true≢false, ◌==◌, vec_len, ◌≡◌, ◌∙◌, ◌+◌, sym, ap, drop, length, arith, List, ◌∷◌}
use Rattle.std.proofs.lemmas.List.{at_drop_more}
use Rattle.pb_text_tree.specs.declared.variable.Variables.{Variables}
use Rattle.pb_text_tree.specs.Form.{variable_forms}
use Rattle.pb_protocol_unfolder.specs.Plain.{has_no_variables}
use Rattle.pb_protocol_unfolder.proofs.PlainState.{some-declared}
use Rattle.pb_protocol_unfolder.proofs.plain_test.declares_none.Goals as goal

pub returns-then-not-is_empty : goal.returns-then-not-is_empty
returns-then-not-is_empty c =
    let groups = c.args.groups.now in
    let k = c.loop-group.group-index in
    let x = c.group-item.result in
    let some : length x.names.items ≡ 0 → ⊥ = λ e.
    let zero : vec_len x.names ≡ 0 = omega (arith, e, x.names.ok.0) in
    let test : (vec_len x.names == 0) ≡ true = ap (λ (n : ℕ). n == 0) zero in
    true≢false (sym test ∙ sym c.is_empty.ensures ∙ c.if-not-is_empty.true) in
    sym (some-declared x (drop (k + 1) groups) some)
    ∙ ap (λ (y : Variables). has_no_variables (variable_forms (y ∷ drop (k + 1) groups))) c.group-item.is
    ∙ sym (at_drop_more (λ (gs : List Variables). has_no_variables (variable_forms gs)) groups k x c.loop-group-test.true)
    ∙ c.loop-group.invariant
