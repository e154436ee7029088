use Rattle.std.proofs.Common.{false, refl, arith}
use Rattle.std.proofs.lemmas.List.{get_or_read}
use Rattle.pb_report.proofs.Sending.{sends_then, sends_err, sends_as}
use Rattle.pb_report.proofs.Lines.{instance_below, dependency_below, cut_within, line_is}
use Rattle.pb_report.proofs.evidence_text.write_line.Goals as goal

pub write_instance_name-requires : goal.write_instance_name-requires
write_instance_name-requires g c =
    let below = instance_below c.args.verified.now c.requires.placed.trees c.args.placed.now.explanation.now c.requires.placed.explanation c.args.k c.requires.place in
    omega (arith, get_or_read _ _ _ c.requires.place c.index.ensures 0, below)

pub invariant_of-basis : goal.invariant_of-basis
invariant_of-basis g c = record {
  inside = dependency_below c.args.verified.now c.requires.placed.trees c.args.placed.now.explanation.now c.requires.placed.explanation c.args.k c.requires.place
      c.dependencies.result.now c.dependencies.ensures;
}

pub index-requires-2 : goal.index-requires-2
index-requires-2 g c =
    let e = c.args.placed.now.explanation.now.evidence in
    omega (arith, e.divided.sized, e.places.ok.0)

pub index-requires-3 : goal.index-requires-3
index-requires-3 g c =
    let x = c.args.placed.now.explanation.now in
    omega (arith, x.cuts.ok.0, cut_within c.args.verified.now c.requires.placed.trees x c.requires.placed.explanation c.args.k c.requires.place)

pub returns-in_err-write_instance_name : goal.returns-in_err-write_instance_name
returns-in_err-write_instance_name g c = λ trees have place are.
    let x = c.args.placed.now.explanation.now in
    let number = get_or_read _ _ _ c.requires.place c.index.ensures 0 in
    sends_as (line_is c.args.verified.now c.requires.placed.trees x c.requires.placed.explanation trees have place _ are c.args.k c.requires.place _ _ _ _ _ number refl refl refl refl)
    (sends_err _ c.from_residual.ensures.0 c.in_err-write_instance_name.ensures)

pub returns : goal.returns
returns g c = λ trees have place are.
    let placed = c.requires.placed in
    let x = c.args.placed.now.explanation.now in
    let number = get_or_read _ _ _ c.requires.place c.index.ensures 0 in
    let first = get_or_read x.evidence.places.items c.args.k _ (omega (arith, c.requires.place, x.evidence.divided.sized)) c.index-2.ensures 0 in
    let cut = get_or_read x.cuts.items c.args.k _ (cut_within c.args.verified.now placed.trees x placed.explanation c.args.k c.requires.place) c.index-3.ensures false in
    sends_as (line_is c.args.verified.now placed.trees x placed.explanation trees have place _ are c.args.k c.requires.place _ _ _ _ _ number c.dependencies.ensures first c.behind.ensures cut)
    (sends_then c.in_ok-write_instance_name.ensures c.write_line_end.ensures)
