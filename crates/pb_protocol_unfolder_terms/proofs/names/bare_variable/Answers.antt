use Rattle.std.proofs.Common.{◌≡◌, ◌∙◌, ◌==◌, ℕ, true, true≢false, vec_len, length, sym, ap, arith, string_bytes}
use Rattle.pb_text_meaning.specs.Syntax.{Name}
use Rattle.pb_protocol_folding.specs.Folding.{folded}
use Rattle.pb_protocol_unfolder_terms.proofs.UnfoldLemmas.{read-missing}
use Rattle.pb_protocol_unfolder_terms.proofs.names.bare_variable.Goals as goal

pub returns : goal.returns
returns c = λ folding sorts truth.
    let v = c.args.variable.now in
    let x : Name = string_bytes v.name.now.text in
    let some : length v.indices.items ≡ 0 → ⊥ = λ e.
    let zero : vec_len v.indices ≡ 0 = omega (arith, e, v.indices.ok.0) in
    let test : (vec_len v.indices == 0) ≡ true = ap (λ (n : ℕ). n == 0) zero in
    true≢false (sym test ∙ sym c.is_empty.ensures ∙ c.if-is_empty.false) in
    record {
      term = ap (folded folding truth) (sym (read-missing sorts x v.indices.items some));
      form = read-missing sorts x v.indices.items some;
      room = omega arith;
    }
