use Rattle.std.proofs.Common.{◌≡◌, ℕ, suc, ◌+◌, ◌<◌, List, length, sym, ap, ◌∙◌, arith, take, drop, [], ◌++◌, append-nil, if◌then◌else◌}
use Rattle.std.specs.Prelude.{slice_index}
use Rattle.std.proofs.lemmas.List.{take_all, drop_all}
use Rattle.pb_game.specs.Adjacency.{is_among}
use Rattle.pb_evidence.specs.Evidence.{graph_of}
use Rattle.pb_evidence_words.specs.Order.{last_below}
use Rattle.pb_evidence_words.proofs.Children.{numbers, row_at}
use Rattle.pb_evidence_words.proofs.lines.IndexedEvidence.lasts.Goals as goal

pub loop-line-preserved : goal.loop-line-preserved
loop-line-preserved c =
    let e = c.args.self.now.evidence.now in
    let line = c.loop-line.line in
    let within : line < length (numbers e) = omega arith in
    let new = c.take_children.new.parents in
    let old = c.loop-line.lasts.items in
    let gone : drop (length new) old ≡ [] = drop_all (length new) old (omega arith) in
    let back : take c.loop-line.lasts.len (new ++ drop (length new) old) ≡ new =
    ap (λ (ys : List ℕ). take c.loop-line.lasts.len (new ++ ys)) gone
    ∙ (ap (take c.loop-line.lasts.len) (append-nil new) ∙ take_all c.loop-line.lasts.len new (omega arith)) in
    record {
      within = omega arith;
      sized = ap length back ∙ omega arith;
      lasts = λ k here.
          let n = slice_index (numbers e) k in
          let next : suc line ≡ line + 1 = omega arith in
          ap (λ (ps : List ℕ). slice_index ps k) back
          ∙ c.take_children.ensures k here
          ∙ ap (λ (ps : List ℕ). if is_among (row_at e line) n then line else slice_index ps k) c.deref_mut.ensures.value
          ∙ (ap (λ (ns : List ℕ). if is_among ns n then line else slice_index c.loop-line.lasts.items k) (sym (c.args.self.now.lines.each line within))
          ∙ (ap (λ (p : ℕ). if is_among ((graph_of e).dependencies (slice_index (numbers e) line)) n then line else p) (c.loop-line.invariant.lasts k here)
          ∙ ap (last_below (graph_of e) n) next));
    }
