use Rattle.std.proofs.Common.{◌≡◌, ℕ, ◌<◌, List, length, get_or, map, sym, ap, ◌∙◌, subst, arith}
use Rattle.std.specs.Prelude.{Contains}
use Rattle.std.proofs.lemmas.List.{get_or_read, length-map, take_all}
use Rattle.pb_game.proofs.Rising.{rising_le}
use Rattle.pb_fixpoint_trees.specs.Row.{TokenRow}
use Rattle.pb_fixpoint_trees.specs.Reached.{numbers_of}
use Rattle.pb_report.specs.Rising.{IsRising}
use Rattle.pb_report.specs.Cuts.{is_cut}
use Rattle.pb_report.proofs.Called.{instance_listed}
use Rattle.pb_report.proofs.Cutting.{true_values, tokens_there, one_more}
use Rattle.pb_report.proofs.cuts.cuts_of.Goals.{After-index}
use Rattle.pb_report.proofs.cuts.cuts_of.Goals as goal

-- the number at the loop's place
number : (c : After-index) → c.index.result.now ≡ get_or c.args.evidence.now.instances.items c.loop-place.place 0
number c = get_or_read c.args.evidence.now.instances.items c.loop-place.place _ (omega (arith, c.loop-place-test.true)) c.index.ensures 0

pub returns-then-evidence : goal.returns-then-evidence
returns-then-evidence c = λ sigs trees initial from shown.
    true_values sigs trees initial c.args.evidence.now c.if-evidence.true shown c.len.result c.in_ok-none.none.items (omega (arith, c.len.ensures, c.args.evidence.now.instances.ok.0))
    (c.in_ok-none.ensures.items_if_clones_equal (λ y e. e))

pub place_of-requires-clause-rising : goal.place_of-requires-clause-rising
place_of-requires-clause-rising c =
    subst IsRising (sym (c.deref.ensures.value ∙ c.in_ok-numbers.ensures))
    (rising_le (numbers_of c.args.rows.now) c.requires.3.are.rising)

pub place_of-requires-clause-listed : goal.place_of-requires-clause-listed
place_of-requires-clause-listed c =
    let e = c.args.evidence.now in
    let l : c.loop-place.place < length e.instances.items = omega (arith, c.loop-place-test.true) in
    subst (λ (ns : List ℕ). Contains ns c.index.result.now) (sym (c.deref.ensures.value ∙ c.in_ok-numbers.ensures))
    (subst (Contains (numbers_of c.args.rows.now)) (sym (number (goal.at.place_of-requires-clause-listed c).After-index))
    (instance_listed c.requires.0 c.requires.1 c.args.rows.now c.requires.2 c.requires.3 e c.requires.4 c.loop-place.place l))

pub loop-place-preserved : goal.loop-place-preserved
loop-place-preserved c = λ sigs trees initial from shown.
    let e = c.args.evidence.now in
    let rows = c.args.rows.now in
    let k = c.loop-place.place in
    let l : k < length e.instances.items = omega (arith, c.loop-place-test.true) in
    let listed = c.deref.ensures.value ∙ c.in_ok-numbers.ensures in
    let within : c.place_of.result < length rows =
    omega (arith, c.place_of.ensures.within, ap length listed, length-map rows (λ (r : TokenRow). r.number)) in
    let spelled = tokens_there sigs trees rows initial from e shown c.deref.result.now c.place_of.result (get_or e.instances.items k 0)
    c.tokens-tokens.result listed within (c.place_of.ensures.there ∙ number (goal.at.loop-place-preserved c).After-index) c.tokens-tokens.ensures in
    c.in_ok-push.ensures.items
    ∙ one_more sigs trees rows initial from e shown k l c.loop-place.cuts.items c.in_ok-is_cut.field-0 (c.loop-place.invariant sigs trees initial from shown)
    (c.in_ok-is_cut.ensures (trees (get_or e.instances.items k 0)) spelled)

pub returns : goal.returns
returns c = λ sigs trees initial from shown.
    let e = c.args.evidence.now in
    c.loop-place.invariant sigs trees initial from shown
    ∙ ap (map (is_cut trees e)) (take_all c.loop-place.place e.instances.items (omega (arith, c.loop-place-test.false)))
