-- Numbers of instances that have lines.
use Rattle.std.proofs.Common.{ℕ, ◌<◌, subst}
use Rattle.std.specs.Prelude.{Contains}
use Rattle.pb_sorts.specs.Layout.{count_of}
use Rattle.pb_bytecode.specs.Meaning.{parameters}
use Rattle.pb_evidence.proofs.Finding.{contained, place_of}
use Rattle.pb_evidence_words.specs.Ready.{numbers_of}
use Rattle.pb_evidence_words.specs.declared.telling.Telling.{Telling}

pub listed-below : (t : Telling) (n : ℕ) → ∥ Contains (numbers_of t.shown.now) n ∥₁ → n < count_of (parameters t.shown.now.verified.now)
listed-below t n listed =
    let at = place_of (numbers_of t.shown.now) n (contained (numbers_of t.shown.now) n listed) in
    subst (λ m. m < count_of (parameters t.shown.now.verified.now)) at.there (t.ready.below at.place at.within)
