-- A call whose leaf would be a second root is refused.
use Rattle.std.proofs.Common.{◌≡◌, ℕ, List, reverse, Some, None, ap, ◌∙◌}
use Rattle.pb_bytecode_program.specs.Transfer.{AbstractState, Flow, abstract_pop_args, abstract_root, abstract_call, to_next_place}
use Rattle.pb_bytecode_program.specs.declared.domain.AbstractValue.{AbstractValue}
use Rattle.pb_sorts.specs.declared.carrier.Carrier.{Carrier}

pub no_root : (cs : List Carrier) (k m : AbstractState) → m ≡ record k { operands = m.operands }
    → ((go : List AbstractValue → Flow) → abstract_pop_args (reverse cs) k.operands go ≡ go m.operands)
    → ((go : ℕ → Flow) → abstract_root m.brackets m.roots go ≡ None) → (q : ℕ) → abstract_call q k (Some cs) ≡ None
no_root cs k m e h r q =
    let b : m.brackets ≡ k.brackets = ap (λ (s : AbstractState). s.brackets) e in
    let n : m.roots ≡ k.roots = ap (λ (s : AbstractState). s.roots) e in
    let none = r (λ x. to_next_place q (record k { operands = m.operands; roots = x })) in
    h _ ∙ (rw (b, n) at none)
