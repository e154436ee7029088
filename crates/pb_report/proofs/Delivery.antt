-- What a call that writes leaves of its sink, by how it ends.
use Rattle.std.proofs.Common.{◌≡◌, ℕ, Bool, true, false, List, Result, Ok, Err, IsErrAnd, refl, sym, ap, ◌∙◌, subst}
use Rattle.pb_sorts.specs.Sink.{AppendsPrefix}
use Rattle.pb_sorts.specs.declared.sink.Sink.{Ghosts}
use Rattle.pb_report.specs.Delivery.{Delivers, Leaves, SomeText}

module _ {S T E : Type 0} (is_failed_write : E → Bool) (sink : Ghosts S) (IsWritten : List ℕ → Type 0) where
  -- nothing was written, and the error is no failed write
  pub left_nothing : (w : S) (r : Result T E) (e : E) → IsErrAnd r (λ x. x ≡ e) → is_failed_write e ≡ false → Delivers is_failed_write IsWritten r sink w w
  left_nothing w (Ok v) e made other = absurd made
  left_nothing w (Err x) e made other = subst (λ (b : Bool). Leaves b IsWritten sink w w) (sym (ap is_failed_write made ∙ other)) refl

  -- a part was written, and the error is a failed write
  pub left_part : (old new : S) (r : Result T E) (e : E) → IsErrAnd r (λ x. x ≡ e) → is_failed_write e ≡ true
      → (text : List ℕ) → IsWritten text → AppendsPrefix (sink.taken old) (sink.taken new) text → sink.has_failed new ≡ true
      → Delivers is_failed_write IsWritten r sink old new
  left_part old new (Ok v) e made is text written part failed = absurd made
  left_part old new (Err x) e made is text written part failed =
      subst (λ (b : Bool). Leaves b IsWritten sink old new) (sym (ap is_failed_write made ∙ is)) ((text, written, part), failed)

-- a text of which less is known
module _ {S : Type 0} (sink : Ghosts S) (More Less : List ℕ → Type 0) (less : (text : List ℕ) → More text → Less text) (old new : S) where
  pub less_text : (P : List ℕ → Type 0) → SomeText More P → SomeText Less P
  less_text P (text, more, holds) = (text, less text more, holds)

  less_left : (b : Bool) → Leaves b More sink old new → Leaves b Less sink old new
  less_left true h = (less_text _ h.0, h.1)
  less_left false h = h

pub less_delivered : {S T E : Type 0} (is_failed_write : E → Bool) (sink : Ghosts S) (More Less : List ℕ → Type 0) → ((text : List ℕ) → More text → Less text)
    → (old new : S) (r : Result T E) → Delivers is_failed_write More r sink old new → Delivers is_failed_write Less r sink old new
less_delivered is_failed_write sink More Less less old new (Ok x) h = (less_text sink More Less less old new _ h.0, h.1)
less_delivered is_failed_write sink More Less less old new (Err e) h = less_left sink More Less less old new (is_failed_write e) h
