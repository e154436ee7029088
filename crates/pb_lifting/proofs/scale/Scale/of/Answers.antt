use Rattle.std.proofs.Common.{◌≡◌, ◌<◌, ◌≤◌, ◌+◌, ◌*◌, ℕ, set, length-set, sym, ap, ◌∙◌, arith}
use Rattle.std.specs.Prelude.{slice_index}
use Rattle.std.proofs.lemmas.List.{get_or-set_same, get_or-set_other}
use mathlib.Core.Logic.{dite}
use native.Mathlib.Decide.{ℕ_discrete}
use Rattle.pb_lifting.specs.Radix.{unit}
use Rattle.pb_lifting.specs.Measures.{base_of, top_of}
use Rattle.pb_lifting.proofs.Measures.{next_place, place_within, top_is}
use Rattle.pb_lifting.proofs.scale.Scale.of.Goals as goal

too_big : (x t : ℕ) → (x < 18446744073709551616 → ⊥) → x ≤ t → 18446744073709551615 < t + 1
too_big x t h l = grind (arith, h, l)

pub returns-in_default : goal.returns-in_default
returns-in_default c =
    let g = c.args.game.now in let p = c.args.player in let k = c.loop-priority.priority in
    let w = c.width-priority-end.ensures.value in let less = c.loop-priority-test.true in
    let b = place_within g p (k + 1) (omega arith) in
    let e = next_place g p k c.loop-priority.top c.base-base.result _ c.loop-priority.invariant.top (c.requires.counts k (omega arith)) c.base-base.ensures in
    too_big (c.loop-priority.top * c.base-base.result) (top_of g p) c.in_default.ensures (omega arith)

pub loop-priority-preserved : goal.loop-priority-preserved
loop-priority-preserved c =
    let g = c.args.game.now in let p = c.args.player in let k = c.loop-priority.priority in
    let places = c.loop-priority.places in let product = c.in-Some.product in
    let i = c.loop-priority.invariant in let sized = i.sized in let fits = c.in-Some.ensures.0 in let is = c.in-Some.ensures.1 in
    let w = c.width-priority-end.ensures.value in let small = c.width-priority-end.ensures.small in let less = c.loop-priority-test.true in
    let top : product ≡ unit (base_of g p) (k + 1) = is ∙ next_place g p k c.loop-priority.top c.base-base.result _ i.top (c.requires.counts k (omega arith)) c.base-base.ensures in
    record {
      top = top;
      small = omega arith;
      sized = length-set places (k + 1) product ∙ sized;
      places = λ q h. dite (ℕ_discrete q (k + 1))
          (λ e. ap (slice_index (set places (k + 1) product)) e ∙ (get_or-set_same places (k + 1) product 0 (omega arith) ∙ (top ∙ sym (ap (unit (base_of g p)) e))))
          (λ ne. get_or-set_other places (k + 1) q product 0 ne ∙ i.places q (omega arith));
    }

pub returns-then-top : goal.returns-then-top
returns-then-top c =
    let g = c.args.game.now in let p = c.args.player in
    let w = c.width-priority-end.ensures.value in let no = c.loop-priority-test.false in let auto = c.loop-priority.auto.priority-end in
    let t = top_is g p c.loop-priority.priority c.loop-priority.top (omega arith) c.loop-priority.invariant.top in
    let m = c.if-top.true in omega arith

pub returns : goal.returns
returns c =
    let g = c.args.game.now in let p = c.args.player in
    let w = c.width-priority-end.ensures.value in let no = c.loop-priority-test.false in let auto = c.loop-priority.auto.priority-end in
    let t = top_is g p c.loop-priority.priority c.loop-priority.top (omega arith) c.loop-priority.invariant.top in
    record {
      places = λ q h. c.loop-priority.invariant.places q (omega arith);
      fits = grind (arith, t, c.if-top.false, c.loop-priority.invariant.small);
    }
