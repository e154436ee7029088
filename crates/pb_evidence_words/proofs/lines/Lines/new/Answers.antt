use Rattle.std.proofs.Common.{◌≡◌, ℕ, ◌<◌, List, length, ap, ◌∙◌, subst, arith}
use Rattle.std.specs.Prelude.{slice_index}
use Rattle.pb_evidence.specs.Evidence.{graph_of}
use Rattle.pb_evidence_words.specs.Lines.{ArePlaces}
use Rattle.pb_evidence_words.specs.Order.{run_start, sole_parent_at}
use Rattle.pb_evidence_words.proofs.Runs.{same_runs}
use Rattle.pb_evidence_words.proofs.lines.Lines.new.Goals as goal

pub invariant_of-indexed : goal.invariant_of-indexed
invariant_of-indexed c = record {
  lines = c.requires;
  placed = subst (λ (ns : List ℕ). ArePlaces ns c.in_ok-places.places) c.deref.ensures.value c.in_ok-places.ensures;
}

pub returns : goal.returns
returns c =
    let e = c.args.evidence.now in
    let ps = c.in_ok-parents.parents.items in
    let count : length ps ≡ length e.instances.items = c.in_ok-parents.ensures.sized in
    let cuts = c.args.cuts.now in
    let qs = c.in_ok-sole.sole.items in
    let sole_count : length qs ≡ length e.instances.items = c.in_ok-sole.ensures.sized in
    let read : c.deref-3.result.now ≡ qs = c.deref-3.ensures.value in
    record {
      places = subst (λ (ns : List ℕ). ArePlaces ns c.in_ok-places.places) c.deref.ensures.value c.in_ok-places.ensures;
      parents_sized = count;
      parents = c.in_ok-parents.ensures.parents;
      starts_sized = c.in_ok-starts.ensures.sized ∙ (ap length read ∙ sole_count);
      starts = λ k within.
          let here : k < length c.deref-3.result.now = omega (arith, sole_count, ap length read) in
          c.in_ok-starts.ensures.starts k here
          ∙ (ap (λ (xs : List ℕ). run_start (slice_index xs) k) read
          ∙ same_runs (slice_index qs) (sole_parent_at (graph_of e) cuts) (length e.instances.items) c.in_ok-sole.ensures.sole k within);
      lasts_sized = c.in_ok-lasts.ensures.sized;
      lasts = c.in_ok-lasts.ensures.lasts;
    }
