use Rattle.std.proofs.Common.{◌≡◌, ◌∙◌, ◌++◌, ◌∷◌, [], List, length, map, ap, sym, subst}
use Rattle.std.specs.Prelude.{Contains}
use Rattle.std.proofs.lemmas.Iterator.Adapters.{YieldsList-from_vec}
use Rattle.std.proofs.lemmas.Iterator.Consumers.{YieldsList-turn, YieldsList-end}
use Rattle.std.proofs.lemmas.List.{map-id, map_push}
use Rattle.pb_text_tree.specs.Form.{RangeForm, range_form}
use Rattle.pb_protocol_tree.specs.Form.{BoundsForm, ProtocolForm, bounds_form, protocol_form}
use Rattle.pb_protocol_constants.specs.Faults.{IsBoundsFault, IsFaultOfSome}
use Rattle.pb_protocol_constants.specs.Rules.{AreAllBounds, AreBounds}
use Rattle.pb_protocol_constants.specs.Settled.{range_of, HasNoSorts}
use Rattle.pb_protocol_constants.proofs.Lists.{all-more, is-among}
use Rattle.pb_protocol_constants.proofs.Refusals.{handed-on}
use Rattle.pb_protocol_constants.proofs.bound.ranges_of.Goals as goal
use Rattle.pb_protocol_constants.proofs.bound.ranges_of.Goals.{In-Some, In-None}

-- this turn's bounds are among all
among : (c : In-Some) → Contains (map bounds_form c.args.bounds.items) (bounds_form c.in-Some.its_bounds)
among c =
    let gives = c.into_iter-its_bounds-iterator.ensures.into_iter_gives in
    let turn = YieldsList-turn (YieldsList-from_vec {s = c.into_iter-its_bounds-iterator.result} c.args.bounds.items gives.0 (gives.1 ∙ c.args.bounds.ok.0))
    c.loop-its_bounds.yielded c.loop-its_bounds.its_bounds-iterator c.loop-its_bounds.yielded_by _ c.next.new.self c.in-Some.its_bounds c.in-Some.is c.next.ensures.steps in
    is-among bounds_form c.args.bounds.items (length c.loop-its_bounds.yielded) c.in-Some.its_bounds turn.0 turn.1

pub loop-its_bounds-preserved : goal.loop-its_bounds-preserved
loop-its_bounds-preserved c =
    let at = c.loop-its_bounds in
    let m = protocol_form c.args.constants.now in
    let b = bounds_form c.in-Some.its_bounds in
    let kept = at.invariant.kept in
    record {
      ranges = λ none.
          let one : range_form c.in_ok-range.range ≡ range_of m b = c.in_ok-range.ensures.range (subst HasNoSorts (sym kept) none) ∙ ap (λ (x : ProtocolForm). range_of x b) kept in
          ap (map range_form) c.in_ok-push.ensures.items
          ∙ (map_push range_form at.ranges.items c.in_ok-range.range
          ∙ (ap (λ (rs : List RangeForm). rs ++ range_form c.in_ok-range.range ∷ []) (at.invariant.ranges none)
          ∙ (ap (λ (r : RangeForm). map (range_of m) (map bounds_form at.yielded) ++ r ∷ []) one
          ∙ sym (ap (map (range_of m)) (map_push bounds_form at.yielded c.in-Some.its_bounds) ∙ map_push (range_of m) (map bounds_form at.yielded) b))));
      bounds = λ none.
          all-more (AreBounds m) bounds_form at.yielded c.in-Some.its_bounds (at.invariant.bounds none)
          (subst (λ (x : ProtocolForm). AreBounds x b) kept (c.in_ok-range.ensures.bounds (subst HasNoSorts (sym kept) none)));
      kept = c.in_ok-range.ensures.kept ∙ kept;
    }

-- at the end all were yielded
all : (c : In-None) → map bounds_form c.loop-its_bounds.yielded ≡ map bounds_form c.args.bounds.items
all c =
    let gives = c.into_iter-its_bounds-iterator.ensures.into_iter_gives in
    let ended = YieldsList-end (YieldsList-from_vec {s = c.into_iter-its_bounds-iterator.result} c.args.bounds.items gives.0 (gives.1 ∙ c.args.bounds.ok.0))
    c.loop-its_bounds.yielded c.loop-its_bounds.its_bounds-iterator c.loop-its_bounds.yielded_by _ c.next.new.self c.in-None.is c.next.ensures.steps in
    ap (map bounds_form) (sym (map-id c.loop-its_bounds.yielded) ∙ ended.0)

pub returns-clause-ranges : goal.returns-clause-ranges
returns-clause-ranges c = λ none.
    c.loop-its_bounds.invariant.ranges none
    ∙ ap (λ (xs : List BoundsForm). map (range_of (protocol_form c.args.constants.now)) xs) (all (goal.at.returns-clause-ranges c).In-None)

pub returns-clause-bounds : goal.returns-clause-bounds
returns-clause-bounds c = λ none.
    subst (λ (xs : List BoundsForm). AreAllBounds (protocol_form c.args.constants.now) xs) (all (goal.at.returns-clause-bounds c).In-None) (c.loop-its_bounds.invariant.bounds none)

pub returns-in_err-range-clause-refused : goal.returns-in_err-range-clause-refused
returns-in_err-range-clause-refused c = λ none.
    let m = protocol_form c.args.constants.now in
    let b = bounds_form c.in-Some.its_bounds in
    let all-bounds = map bounds_form c.args.bounds.items in
    let here = among (goal.at.returns-in_err-range-clause-refused c).In-Some in
    handed-on (IsBoundsFault (protocol_form c.loop-its_bounds.constants) b) (IsFaultOfSome (IsBoundsFault m) all-bounds)
    (λ f h. (b, here, subst (λ (x : ProtocolForm). IsBoundsFault x b f) c.loop-its_bounds.invariant.kept h))
    c.in_err-range.field-0.0 c.from_residual.result (c.in_err-range.ensures.refused (subst HasNoSorts (sym c.loop-its_bounds.invariant.kept) none)) c.from_residual.ensures.1
