use Rattle.std.proofs.Common.{◌≡◌, ◌<◌, ℕ, get_or, length, length-set, inl, inr, arith, ◌∙◌}
use Rattle.std.specs.Prelude.{Contains}
use Rattle.pb_zielonka.proofs.Lists.{copies, listed_or_not, overwritten_in, overwritten_more, overwritten_out}
use Rattle.pb_zielonka.proofs.RoundLemmas.{blank_ranks}
use Rattle.pb_zielonka.proofs.attractor.start.Goals as goal

pub index_mut-requires : goal.index_mut-requires
index_mut-requires c =
    omega (arith, c.loop-v.invariant.size, c.requires.vertices c.loop-v.v-index c.loop-v-test.true, blank_ranks _ _ c.requires.blank)

pub loop-v-preserved : goal.loop-v-preserved
loop-v-preserved c =
    let i = c.loop-v.invariant in
    let target = c.args.target.now in
    let now = c.loop-v.attractor.rank.items in
    let here : get_or target c.loop-v.v-index 0 < length now = omega (arith, i.size, c.requires.vertices c.loop-v.v-index c.loop-v-test.true, blank_ranks _ _ c.requires.blank) in
    record {
      rounds = i.rounds;
      choices = i.choices;
      passed = i.passed;
      listed = i.listed;
      size = length-set now _ 1 ∙ i.size;
      written = overwritten_more 0 c.args.attractor.now.rank.items now target c.loop-v.v-index 1 c.loop-v-test.true here i.written;
    }

pub returns-clause-ranks : goal.returns-clause-ranks
returns-clause-ranks c =
    let target = c.args.target.now in
    let old = c.args.attractor.now.rank.items in
    let new = c.loop-v.attractor.rank.items in
    let w = c.loop-v.invariant.written in
    let zero : (v : ℕ) → get_or old v 0 ≡ 0 = λ v. rw c.requires.blank.ranks (copies _ v 0) in
    let there : (v : ℕ) → Contains target v → get_or new v 0 ≡ 1 = overwritten_in 0 old new target c.loop-v.v-index 1 c.loop-v-test.false w in
    let away : (v : ℕ) → (Contains target v → ⊥) → get_or new v 0 ≡ 0 = λ v none. overwritten_out 0 old new target c.loop-v.v-index 1 w v none ∙ zero v in
    record {
      there = there;
      only = λ v h. elim (listed_or_not target v) [
        | inl inside ↦ inside
        | inr none ↦ absurd (omega (arith, h, away v none))
      ];
      low = λ v. elim (listed_or_not target v) [
        | inl inside ↦ omega (arith, there v inside)
        | inr none ↦ omega (arith, away v none)
      ];
    }
