use Rattle.std.proofs.Common.{◌≡◌, ◌∙◌, ℕ, suc, ◌+◌, ◌++◌, pos, drop, get_or, sym, ap, append_assoc, arith, SFits, w64, to_z, of_z, to_z-of_z}
use Rattle.std.proofs.lemmas.List.{append-nil}
use Rattle.pb_base_values.specs.Carrier.{Value, Tuple}
use Rattle.pb_protocol_packer.specs.declared.group.Group.{Group}
use Rattle.pb_model_words.proofs.GroupValues.{values_after, group_after, values-at, values-end}
use Rattle.pb_model_words.proofs.unpacking.unpacked_after.Goals as goal

pub loop-k-preserved : goal.loop-k-preserved
loop-k-preserved c =
    let gs = c.args.groups.now in
    let us = c.args.before.now in
    let vs = c.args.after.now in
    let k = c.loop-k.k in
    let g = c.index-groups-k.result in
    let made = c.loop-k.state.items in
    let u = get_or us k (pos 0) in
    let v = get_or vs k (pos 0) in
    let old = c.value_at.result in
    let u_fits : SFits w64 old = record { sfits = omega arith } in
    let v_fits : SFits w64 v = record { sfits = omega arith } in
    let next : k + 1 ≡ suc k = omega arith in
    let rest = values_after (drop (suc k) gs) (drop (suc k) us) (drop (suc k) vs) in
    let more : c.push_values.new.state.items ≡ made ++ group_after g u v =
    c.in_ok-push_values.ensures
    ∙ ap (λ (w : Value). made ++ group_after g w (to_z w64 (of_z w64 v))) (to_z-of_z u_fits ∙ c.value_at.ensures)
    ∙ ap (λ (w : Value). made ++ group_after g u w) (to_z-of_z v_fits) in
    ap (λ (n : ℕ). c.push_values.new.state.items ++ values_after (drop n gs) (drop n us) (drop n vs)) next
    ∙ ap (λ (xs : Tuple). xs ++ rest) more
    ∙ append_assoc made (group_after g u v) rest
    ∙ ap (λ (h : Group). made ++ (group_after h u v ++ rest)) c.index-groups-k.is
    ∙ ap (λ (xs : Tuple). made ++ xs) (sym (values-at gs us vs k g (omega arith) (omega arith)))
    ∙ c.loop-k.invariant

pub returns : goal.returns
returns c =
    sym (append-nil c.loop-k.state.items)
    ∙ ap (λ (xs : Tuple). c.loop-k.state.items ++ xs) (sym (values-end c.args.groups.now c.args.before.now c.args.after.now c.loop-k.k (omega arith)))
    ∙ c.loop-k.invariant
