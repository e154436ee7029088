use Rattle.std.proofs.Common.{ℕ, true, true≢false, ◌==◌, vec_len, length, arith, sym, ◌≡◌, ◌∙◌, ap}
use Rattle.std.proofs.lemmas.Bool.Decides.{nat_tests}
use Rattle.pb_model_tree.specs.declared.step_set.StepSet as tree
use Rattle.pb_model_meaning.specs.Syntax.{StepSet}
use Rattle.pb_protocol_folding.specs.View.{set_of}
use Rattle.pb_protocol_unfolder.proofs.SetLemmas.{none-united, links-united, first-left}
use Rattle.pb_protocol_unfolder.proofs.named_steps.union_of_links.Goals as goal

pub returns-then-is_empty : goal.returns-then-is_empty
returns-then-is_empty c =
    let none : length c.args.links.items ≡ 0 = grind (arith, nat_tests) in
    ap (λ (A : tree.StepSet). StepSet.Complement (set_of A)) c.in_ok-operand.ensures.ok ∙ none-united c.args.links.items none

pub returns : goal.returns
returns c =
    let some : length c.args.links.items ≡ 0 → ⊥ = λ e.
    let zero : vec_len c.args.links ≡ 0 = omega (arith, e, c.args.links.ok.0) in
    let test : (vec_len c.args.links == 0) ≡ true = ap (λ (n : ℕ). n == 0) zero in
    true≢false (sym test ∙ sym c.is_empty.ensures ∙ c.if-is_empty.false) in
    links-united c.args.links.items c.remove-first.result c.in_ok-first.first c.remove-first.new.self
    (first-left c.args.links.items c.remove-first.result c.remove-first.new.self.items some c.remove-first.ensures.value c.remove-first.ensures.by_index.2) c.in_ok-first.ensures.ok
