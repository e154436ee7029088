-- What is kept in memory.
use Rattle.std.proofs.Common.{◌≡◌, ℕ, List, [], Option, Some, subst, sym}
use Rattle.std.specs.Io.KnownBytes.{Appends}

-- a text that was appended to nothing is all that is kept
pub kept_text : (old new : Option (List ℕ)) (items text : List ℕ) → old ≡ Some [] → Some items ≡ new → Appends old new text → items ≡ text
kept_text old new items text begins is appended =
    subst (λ (n : Option (List ℕ)). Appends (Some []) n text) (sym is) (subst (λ (o : Option (List ℕ)). Appends o new text) begins appended)
