use Rattle.std.proofs.Common.{◌≡◌, ◌==◌, ◌||◌, ◌++◌, not, false, ℕ, List, [], codes, string_bytes, get_or, sym, ap, ◌∙◌, append-nil, rules}
use Rattle.std.specs.Prelude.{if◌then◌else◌}
use Rattle.pb_sorts.specs.Instance.{instance_of}
use Rattle.pb_evidence.proofs.Finding.{contained, place_of}
use Rattle.pb_evidence_words.specs.Order as order
use Rattle.pb_evidence_words.specs.Callers.{told_by}
use Rattle.pb_evidence_words.specs.Ready.{numbers_of}
use Rattle.pb_evidence_words.specs.WhyText.{edge_text, shown_instance, line_instance, move_between, target_text, to_text}
use Rattle.pb_evidence_words.proofs.ParentRead.{parent-read}
use Rattle.pb_evidence_words.proofs.Reached.{position-is}
use Rattle.pb_evidence_words.proofs.Listed.{listed-below}
use Rattle.pb_evidence_words.proofs.Pushed.{and_then, said_as}
use Rattle.pb_evidence_words.proofs.Told.{move-said}
use Rattle.pb_evidence_words.proofs.dependency.Dependency.push_edge.Goals as goal
use Rattle.pb_evidence_words.proofs.dependency.Dependency.push_edge.Goals.{After-is_edge}

pub target-target-requires : goal.target-target-requires
target-target-requires c = contained (numbers_of c.args.self.now.caller.now.line.telling.now.shown.now) c.args.self.now.number c.args.self.now.listed

pub instance-called-requires : goal.instance-called-requires
instance-called-requires c = listed-below c.args.self.now.caller.now.line.telling.now c.args.self.now.number c.args.self.now.listed

-- whether there is an edge is told by what was looked up
edge_is : (c : After-is_edge) → c.is_edge.result ≡ order.has_edge (told_by c.args.self.now.caller.now.line).graph c.args.self.now.caller.now.line.number c.args.self.now.number
edge_is c =
    let telling = c.args.self.now.caller.now.line.telling.now in
    let s = telling.shown.now in
    let graph = (told_by c.args.self.now.caller.now.line).graph in
    let n = c.args.self.now.number in
    let k = c.args.self.now.caller.now.line.number in
    let at = place_of (numbers_of s) n (contained (numbers_of s) n c.args.self.now.listed) in
    let target = c.target-target.result in
    let stands : target ≡ at.place = c.target-target.ensures.place ∙ position-is s.explanation.now.evidence telling.ready.evidence n at in
    let there : get_or (numbers_of s) target 0 ≡ n = ap (λ (j : ℕ). get_or (numbers_of s) j 0) stands ∙ at.there in
    let parent = parent-read telling target c.target-target.ensures.within c.index-parent.result.now c.index-parent.ensures ∙ ap (order.parent_of graph) there in
    c.is_edge.ensures
    ∙ (ap (λ (j : ℕ). (j == 0) || not (c.index-parent.result.now == k)) c.target-target.ensures.place
    ∙ ap (λ (p : ℕ). (order.place_of graph n == 0) || not (p == k)) parent)

pub returns-then-not-is_edge : goal.returns-then-not-is_edge
returns-then-not-is_edge c =
    let t = told_by c.args.self.now.caller.now.line in
    let s0 = string_bytes c.args.text.now in
    let none : c.is_edge.result ≡ false = search rules in
    sym (append-nil s0)
    ∙ ap (λ (b : _). s0 ++ (if b then to_text t c.args.self.now.caller.now.line.number c.args.self.now.number else [])) (sym none ∙ edge_is (goal.at.returns-then-not-is_edge c).After-is_edge)

pub returns : goal.returns
returns c =
    let t = told_by c.args.self.now.caller.now.line in
    let k = c.args.self.now.caller.now.line.number in
    let n = c.args.self.now.number in
    let r = c.push_target.result in
    let s0 = string_bytes c.args.text.now in
    let s1 = string_bytes c.push_str.new.self in
    let s2 = string_bytes c.push_move_to.new.text in
    let s3 = string_bytes c.push_target.new.text in
    let move = move_between t (line_instance t k) (shown_instance t n) in
    let moved : s2 ≡ s1 ++ move = c.in_ok-push_move_to.ensures ∙ ap (λ (x : List ℕ). s1 ++ x)
    (move-said t k _ _ c.args.self.now.caller.now.made (instance_of c.instance-called.result) (shown_instance t n) c.instance-called.ensures.value) in
    let target = target_text t k (order.place_of t.graph n) in
    said_as r s0 s3 (to_text t k n) (edge_text t k n)
    (ap (λ (b : _). if b then to_text t k n else []) (sym c.if-not-is_edge.false ∙ edge_is (goal.at.returns c).After-is_edge))
    (and_then r s0 s1 s3 (codes "  ") (move ++ target) c.in_ok-push_str.ensures.bytes
    (and_then r s1 s2 s3 move target moved
    (said_as r s2 s3 (target_text t k c.target-target.result) target (ap (target_text t k) c.target-target.ensures.place) c.push_target.ensures)))
