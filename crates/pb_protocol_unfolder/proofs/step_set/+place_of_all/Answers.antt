use Rattle.std.proofs.Common.{◌≡◌, ◌∙◌, ℕ, sym, ap, length, vec_len, ◌==◌, true, true≢false, arith}
use Rattle.std.proofs.lemmas.Bool.Decides.{nat_tests}
use Rattle.pb_protocol_unfolder.proofs.LeftLemmas.{each-alone, each-many}
use Rattle.pb_protocol_unfolder.proofs.step_set.+place_of_all.Goals as goal

pub returns-then-is_empty : goal.returns-then-is_empty
returns-then-is_empty t c =
    let none : length c.in-Union.links.items ≡ 0 = grind (arith, nat_tests) in
    c.place_of_all.ensures ∙ each-alone c.args.set.now c.deref.result.now c.in-Union.first c.in-Union.links c.in-Union.is c.deref.ensures none

pub returns-else-is_empty : goal.returns-else-is_empty
returns-else-is_empty t c =
    let some : length c.in-Union.links.items ≡ 0 → ⊥ = λ e.
    let zero : vec_len c.in-Union.links ≡ 0 = omega (arith, e, c.in-Union.links.ok.0) in
    let test : (vec_len c.in-Union.links == 0) ≡ true = ap (λ (n : ℕ). n == 0) zero in
    true≢false (sym test ∙ sym c.is_empty.ensures ∙ c.if-is_empty.false) in
    each-many c.args.set.now c.in-Union.first c.in-Union.links c.in-Union.is some
