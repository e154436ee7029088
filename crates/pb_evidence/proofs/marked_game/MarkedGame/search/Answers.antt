use Rattle.std.proofs.Common.{◌≡◌, ◌<◌, ◌≤◌, ◌+◌, length, get_or, sym, subst, arith, rules}
use Rattle.std.proofs.lemmas.List.{get_or_read}
use Rattle.pb_game.specs.Games.{vertex_count}
use Rattle.pb_game.specs.Certificates.{IsKept}
use Rattle.pb_evidence.specs.Finding.{Gains}
use Rattle.pb_evidence.specs.Searching.{IsOpen}
use Rattle.pb_evidence.proofs.Searching.{IsSearching, search_start, looked_within, search_more, search_skip, search_end}
use Rattle.pb_evidence.proofs.Gaining.{kept_from}
use Rattle.pb_evidence.proofs.marked_game.MarkedGame.search.Goals as goal
use Rattle.pb_evidence.proofs.marked_game.MarkedGame.search.Goals.{After-index-u, then-is_open+in_ok-find_next-2, else-is_open}

pub loop-next-init : goal.loop-next-init
loop-next-init c = search_start c.args.self.now.checked.now.game.now c.args.self.now.checked.now.solution.now c.args.self.now.marks.now c.args.v c.args.found.now _ c.requires.none c.requires.width
    (kept_from c.position.result _ _ _ c.position.ensures.game c.position.ensures.solution c.position.ensures.number c.in_ok-find_next.ensures)

-- what is looked at was found, and is a vertex of the game
read : (c : After-index-u) → c.index-u.result.now ≡ get_or c.loop-next.found.vertices.items c.loop-next.next 0
read c = get_or_read c.loop-next.found.vertices.items c.loop-next.next _ (search rules) c.index-u.ensures 0

within : (c : After-index-u) → c.index-u.result.now < vertex_count c.args.self.now.checked.now.game.now
within c =
    let checked = c.args.self.now.checked.now in
    let below = looked_within checked.game.now checked.solution.now c.args.self.now.marks.now c.args.v c.loop-next.next c.loop-next.found c.loop-next.invariant (search rules) in
    omega (arith, read c, below)

pub is_open-requires : goal.is_open-requires
is_open-requires c = within (goal.at.is_open-requires c).After-index-u

pub position-requires-then-is_open : goal.position-requires-then-is_open
position-requires-then-is_open c = within (goal.at.position-requires-then-is_open c).After-index-u

pub loop-next-preserved : goal.loop-next-preserved
loop-next-preserved c =
    let g = c.args.self.now.checked.now.game.now in
    let s = c.args.self.now.checked.now.solution.now in
    let marks = c.args.self.now.marks.now in
    let k = c.loop-next.next in
    let f = c.loop-next.found in
    let below : k < length f.vertices.items = search rules in
    let same = read (goal.at.loop-next-preserved c).After-index-u in
    elim c.if-is_open.branch [
      | then-is_open+in_ok-find_next-2 w ↦
          subst (λ h. IsSearching g s marks c.args.v (k + 1) h) (sym w.found-is)
          (search_more g s marks c.args.v k f c.loop-next.invariant below _
          (subst (IsOpen g marks) same (c.is_open.ensures.0 w.if-is_open.true))
          (subst (λ u. Gains (λ x. IsKept g s u x) f w.find_next-then-is_open.new.found) same
          (let from = w.position-then-is_open in kept_from from.result _ _ _ from.ensures.game from.ensures.solution from.ensures.number w.in_ok-find_next-2.ensures)))
      | else-is_open w ↦
          subst (λ h. IsSearching g s marks c.args.v (k + 1) h) (sym w.found-is)
          (search_skip g s marks c.args.v k f c.loop-next.invariant below (λ is_open. search (rules, c.is_open.ensures.1 (subst (IsOpen g marks) (sym same) is_open))))
    ]

pub returns : goal.returns
returns c =
    let end : length c.loop-next.found.vertices.items ≤ c.loop-next.next = search rules in
    search_end c.args.self.now.checked.now.game.now c.args.self.now.checked.now.solution.now c.args.self.now.marks.now c.args.v c.loop-next.next c.loop-next.found c.loop-next.invariant end
