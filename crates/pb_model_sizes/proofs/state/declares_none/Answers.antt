-- The first group that has a name declares a variable.
use Rattle.std.proofs.Common.{◌≡◌, ◌∙◌, ℕ, ◌+◌, true, true≢false, ◌==◌, List, length, vec_len, drop, sym, ap, arith}
use Rattle.std.proofs.lemmas.Bool.{eqb-true}
use Rattle.pb_sorts.proofs.Places.{drop-at}
use Rattle.pb_text_tree.specs.declared.variable.Variables.{Variables}
use Rattle.pb_text_tree.specs.Form.{variable_forms}
use Rattle.pb_model_sizes.proofs.Groups.{none-named, some-named}
use Rattle.pb_model_sizes.proofs.state.declares_none.Goals as goal

pub returns-then-not-is_empty : goal.returns-then-not-is_empty
returns-then-not-is_empty c =
    let groups = c.args.groups.now in
    let k = c.loop-group.group-index in
    let x = c.group-item.result in
    let some : length x.names.items ≡ 0 → ⊥ = λ e.
    let zero : vec_len x.names ≡ 0 = omega (arith, e, x.names.ok.0) in
    let test : (vec_len x.names == 0) ≡ true = ap (λ (n : ℕ). n == 0) zero in
    true≢false (sym test ∙ sym c.is_empty.ensures ∙ c.if-not-is_empty.true) in
    sym (ap (λ (xs : List _). length xs == 0) c.loop-group.invariant
    ∙ (ap (λ (gs : List Variables). length (variable_forms gs) == 0) (drop-at groups k x c.loop-group-test.true c.group-item.is)
    ∙ some-named x (drop (k + 1) groups) some))

pub loop-group-preserved : goal.loop-group-preserved
loop-group-preserved c =
    let groups = c.args.groups.now in
    let k = c.loop-group.group-index in
    let x = c.group-item.result in
    let zero : vec_len x.names ≡ 0 = eqb-true (vec_len x.names) 0 (sym c.is_empty.ensures ∙ c.if-not-is_empty.false) in
    c.loop-group.invariant ∙ (ap variable_forms (drop-at groups k x c.loop-group-test.true c.group-item.is) ∙ none-named x (drop (k + 1) groups) (omega (arith, zero, x.names.ok.0)))
