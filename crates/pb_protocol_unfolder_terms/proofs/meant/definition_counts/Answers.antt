use Rattle.std.proofs.Common.{◌≡◌, ◌∙◌, ℕ, List, ◌+◌, length, take, Some, sym, ap, subst, arith, bytes_eq}
use Rattle.std.specs.HashMap.{Updates}
use Rattle.std.proofs.Math.Seq.{take-length}
use Rattle.pb_protocol_unfolder_terms.specs.declared.context.Definition.{Definition}
use Rattle.pb_protocol_unfolder_terms.specs.Counts.{AreCounts}
use Rattle.pb_protocol_unfolder_terms.proofs.CountLemmas.{counted-more}
use Rattle.pb_protocol_unfolder_terms.proofs.meant.definition_counts.Goals as goal

pub loop-place-preserved : goal.loop-place-preserved
loop-place-preserved c =
    let n = c.loop-place.place in
    let here = c.index-definitions-place.result in
    counted-more c.args.definitions.now n here c.loop-place.counts c.insert.new.self (omega (arith, c.loop-place-test.true)) c.index-definitions-place.is c.loop-place.invariant
    (subst (λ (d : Definition). Updates (λ x y. bytes_eq x.now y.now) c.loop-place.counts c.insert.new.self d.name (Some (n + 1))) (sym c.index-definitions-place.is) c.in_ok-insert.ensures.updates)

pub returns : goal.returns
returns c =
    let ds = c.args.definitions.now in
    let done : c.loop-place.place ≡ length ds = omega (arith, c.loop-place.auto.place-end, c.loop-place-test.false) in
    subst (λ (es : List Definition). AreCounts c.loop-place.counts es) (ap (λ (n : ℕ). take n ds) done ∙ take-length ds) c.loop-place.invariant
