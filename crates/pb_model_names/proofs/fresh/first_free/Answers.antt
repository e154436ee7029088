use Rattle.std.proofs.Common.{◌≡◌, ◌+◌, ◌∙◌, ℕ, inl, inr, ap, sym, arith, true}
use Rattle.std.specs.HashSet.{contains_text}
use Rattle.std.proofs.lemmas.Bool.{cases_lt}
use Rattle.pb_text_meaning.specs.Syntax.{Name}
use Rattle.pb_model_translation.specs.Names.{numbered}
use Rattle.pb_model_names.specs.Taken.{NameSet, IsStart}
use Rattle.pb_model_names.proofs.Sets.{start-most}
use Rattle.pb_model_names.proofs.fresh.first_free.Goals as goal

pub returns-then-not-contains : goal.returns-then-not-contains
returns-then-not-contains c = (
  c.loop-number.invariant.0,
  ap (λ (y : Name). contains_text c.args.taken.now y) (sym (c.as_str.ensures.value ∙ c.in_ok-text.ensures)) ∙ sym c.contains.ensures ∙ c.if-not-contains.true,
  c.in_ok-text.ensures,
)

-- a number that was tried before, or this one
tried : (set : NameSet) (x : Name) (k : ℕ) → IsStart set x k → contains_text set (numbered x k) ≡ true → IsStart set x (k + 1)
tried set x k before this = (
  omega arith,
  λ i some less. elim (cases_lt i k) [
    | inl earlier ↦ before.1 i some earlier
    | inr same ↦ ap (λ (n : ℕ). contains_text set (numbered x n)) (let e : i ≡ k = omega (arith, same, less) in e) ∙ this
  ],
)

pub loop-number-preserved : goal.loop-number-preserved
loop-number-preserved c = (
  tried c.args.taken.now c.args.name.now c.loop-number.number c.loop-number.invariant.0
      (ap (λ (y : Name). contains_text c.args.taken.now y) (sym (c.as_str.ensures.value ∙ c.in_ok-text.ensures)) ∙ sym c.contains.ensures ∙ c.if-not-contains.false),
  omega (arith, c.loop-number-test.true, c.loop-number.invariant.2),
  c.loop-number.invariant.2,
)

-- as many numbers aren't taken
pub unreachable-requires : goal.unreachable-requires
unreachable-requires c =
    let most = start-most c.args.taken.now c.args.name.now c.loop-number.number c.loop-number.invariant.1 c.loop-number.invariant.0 in
    omega (arith, most, c.len-end.ensures.len, c.loop-number-test.false)
