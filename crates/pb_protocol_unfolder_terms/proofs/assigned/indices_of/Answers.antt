use Rattle.std.proofs.Common.{inr, subst}
use Rattle.std.specs.Prelude.{Contains}
use Rattle.pb_protocol_unfolder_terms.proofs.assigned.indices_of.Goals as goal

pub returns-in-Some : goal.returns-in-Some
returns-in-Some c =
    let y = c.in-Some.variable.now in
    inr (y, subst (λ ys. Contains ys y) c.deref.ensures.value c.in-Some.ensures.named.0, c.in-Some.ensures.named.1, c.as_slice.ensures.value)
