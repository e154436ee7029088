use Rattle.std.proofs.Common.{◌≡◌, ℕ, ◌+◌, ◌-◌, ◌<◌, List, length, sym, ap, ◌∙◌, arith, take, drop, refl, [], ◌++◌, append-nil, if◌then◌else◌}
use Rattle.std.specs.Prelude.{slice_index}
use Rattle.std.proofs.lemmas.List.{take_all, drop_all}
use Rattle.pb_game.specs.Adjacency.{is_among}
use Rattle.pb_evidence.specs.Evidence.{graph_of}
use Rattle.pb_evidence_words.proofs.Children.{numbers, row_at}
use Rattle.pb_evidence_words.proofs.Parents.{parent_behind, parent_more}
use Rattle.pb_evidence_words.proofs.lines.IndexedEvidence.parents.Goals as goal

pub loop-line-preserved : goal.loop-line-preserved
loop-line-preserved c =
    let e = c.args.self.now.evidence.now in
    let line = c.loop-line.line - 1 in
    let within : line < length (numbers e) = omega arith in
    let new = c.take_children.new.parents in
    let old = c.loop-line.parents.items in
    let gone : drop (length new) old ≡ [] = drop_all (length new) old (omega arith) in
    let back : take c.loop-line.parents.len (new ++ drop (length new) old) ≡ new =
    ap (λ (ys : List ℕ). take c.loop-line.parents.len (new ++ ys)) gone
    ∙ (ap (take c.loop-line.parents.len) (append-nil new) ∙ take_all c.loop-line.parents.len new (omega arith)) in
    record {
      within = omega arith;
      sized = ap length back ∙ omega arith;
      parents = λ k here.
          let same : line + 1 ≡ c.loop-line.line = omega arith in
          ap (λ (ps : List ℕ). slice_index ps k) back
          ∙ c.take_children.ensures k here
          ∙ ap (λ (ps : List ℕ). if is_among (row_at e line) (slice_index (numbers e) k) then line else slice_index ps k) c.deref_mut.ensures.value
          ∙ (ap (λ (ns : List ℕ). if is_among ns (slice_index (numbers e) k) then line else slice_index c.loop-line.parents.items k) (sym (c.args.self.now.lines.each line within))
          ∙ (ap (λ (p : ℕ). if is_among ((graph_of e).dependencies (slice_index (numbers e) line)) (slice_index (numbers e) k) then line else p)
          (c.loop-line.invariant.parents k here ∙ sym (ap (λ (j : ℕ). parent_behind (graph_of e) j k) same))
          ∙ sym (parent_more (graph_of e) line k _ within refl)));
    }
