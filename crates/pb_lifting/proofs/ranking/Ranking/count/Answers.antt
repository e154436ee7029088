use Rattle.std.proofs.Common.{◌/◌, ◌%◌, ◌≡◌, ◌+◌, ◌∙◌, arith}
use Rattle.pb_game.proofs.Laws.{is_game}
use Rattle.pb_lifting.specs.Radix.{unit}
use Rattle.pb_lifting.specs.Measures.{base_of}
use Rattle.pb_lifting.proofs.Radix.{next_unit, digit}
use Rattle.pb_lifting.proofs.Measures.{place_positive, base_positive}
use Rattle.pb_lifting.proofs.ranking.Ranking.count.Goals as goal
use Rattle.pb_lifting.proofs.ranking.Ranking.count.Goals.{After-at-place, After-at-above}

pub at-place-requires : goal.at-place-requires
at-place-requires c =
    let few = (is_game c.args.self.now.game.now).few_priorities in let b = c.requires.priority in omega arith

pub at-above-requires : goal.at-above-requires
at-above-requires c =
    let few = (is_game c.args.self.now.game.now).few_priorities in let b = c.requires.priority in omega arith

-- both places that are read are units
place_is : (c : After-at-place) → c.at-place.result ≡ unit (base_of c.args.self.now.game.now c.args.self.now.player) c.args.priority
place_is c = let b = c.requires.priority in c.at-place.ensures ∙ c.args.self.now.scale_of.places c.args.priority (omega arith)

above_is : (c : After-at-above) → c.at-above.result ≡ unit (base_of c.args.self.now.game.now c.args.self.now.player) (c.args.priority + 1)
above_is c = let b = c.requires.priority in c.at-above.ensures ∙ c.args.self.now.scale_of.places (c.args.priority + 1) (omega arith)

pub nonzero_rem-result : goal.nonzero_rem-result
nonzero_rem-result c =
    let above = above_is (goal.at.nonzero_rem-result c).After-at-above in
    let pos = place_positive c.args.self.now.game.now c.args.self.now.player (c.args.priority + 1) in omega arith

pub nonzero_div-result : goal.nonzero_div-result
nonzero_div-result c =
    let place = place_is (goal.at.nonzero_div-result c).After-at-place in
    let pos = place_positive c.args.self.now.game.now c.args.self.now.player c.args.priority in omega arith

pub returns : goal.returns
returns c =
    let g = c.args.self.now.game.now in let p = c.args.self.now.player in let k = c.args.priority in
    let place = place_is (goal.at.returns c).After-at-place in
    let above = above_is (goal.at.returns c).After-at-above ∙ next_unit (base_of g p) k in
    (λ i. c.args.rank % above i / place i) ∙ digit c.args.rank (base_of g p k) (unit (base_of g p) k) (base_positive g p k) (place_positive g p k)
