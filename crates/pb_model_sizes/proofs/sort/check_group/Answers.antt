use Rattle.std.proofs.Common.{◌≡◌, ◌∙◌, ℕ, true, true≢false, ◌==◌, length, vec_len, sym, ap, arith}
use Rattle.pb_typing_declarations.specs.View.{spec_of}
use Rattle.pb_model_sizes.proofs.Sorts.{group-checked}
use Rattle.pb_model_sizes.proofs.sort.check_group.Goals as goal

pub returns : goal.returns
returns c =
    let g = c.args.group.now in
    let some : length g.variables.items ≡ 0 → ⊥ = λ e.
    let zero : vec_len g.variables ≡ 0 = omega (arith, e, g.variables.ok.0) in
    let test : (vec_len g.variables == 0) ≡ true = ap (λ (n : ℕ). n == 0) zero in
    true≢false (sym test ∙ sym c.is_empty.ensures ∙ c.if-is_empty.false) in
    group-checked (spec_of c.args.declarations.now) g c.check_sort.result some c.check_sort.ensures
