use Rattle.std.proofs.Common.{rules, ◌≡◌, ◌∙◌, ◌+◌, ◌++◌, List, ◌∷◌, ap, sym, append_assoc, drop}
use Rattle.std.proofs.lemmas.List.{at_drop_more}
use Rattle.pb_base_values.specs.Carrier.{Value, Tuple}
use Rattle.pb_protocol_packing.specs.Unpacked.{unpacked}
use Rattle.pb_protocol_packer.specs.declared.group.Group.{Group}
use Rattle.pb_protocol_packer.specs.Groups.{group_of, groups_in, values_at}
use Rattle.pb_protocol_packer.proofs.LoopRows.{row-ends}
use Rattle.pb_protocol_packer.proofs.UnpackedRows.{unpacked-none, unpacked-more}
use Rattle.pb_protocol_packer.proofs.unpacking.unpack.Goals as goal

pub returns-in_default : goal.returns-in_default
returns-in_default c =
    let gs = groups_in (drop c.loop-index.index c.args.groups.now) in
    row-ends (λ (vs : Tuple). unpacked gs vs) c.loop-index.state.items c.args.packed.now c.loop-index.index _ (unpacked-none gs) c.in_default.ensures.lookup.3 c.loop-index.invariant

pub loop-index-preserved : goal.loop-index-preserved
loop-index-preserved c =
    let gs = c.args.groups.now in
    let ps = c.args.packed.now in
    let k = c.loop-index.index in
    let g = c.index-groups-index.result in
    let v = c.in-Some.value.now in
    let old = c.loop-index.state.items in
    let after = drop (k + 1) ps in
    let rest = unpacked (groups_in (drop (k + 1) gs)) after in
    let more : c.push_values.new.state.items ≡ old ++ values_at (group_of g) v = search rules in
    ap (λ (xs : Tuple). xs ++ rest) more
    ∙ append_assoc old (values_at (group_of g) v) rest
    ∙ ap (λ (xs : Tuple). old ++ xs)
    (sym (unpacked-more (group_of g) (groups_in (drop (k + 1) gs)) v after)
    ∙ ap (λ (h : Group). unpacked (groups_in (h ∷ drop (k + 1) gs)) (v ∷ after)) c.index-groups-index.is
    ∙ sym (at_drop_more (λ (hs : List Group). unpacked (groups_in hs) (v ∷ after)) gs k g c.loop-index-test.true)
    ∙ ap (λ (u : Value). unpacked (groups_in (drop k gs)) (u ∷ after)) c.in-Some.ensures.lookup.1
    ∙ sym (at_drop_more (λ (us : Tuple). unpacked (groups_in (drop k gs)) us) ps k v c.in-Some.ensures.lookup.3.0))
    ∙ c.loop-index.invariant
