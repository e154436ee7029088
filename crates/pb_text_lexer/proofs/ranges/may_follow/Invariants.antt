use Rattle.std.proofs.Common.{◌≡◌, ℕ, [], length}
use Rattle.pb_text_tree.specs.declared.place.Place.{Place}
use Rattle.pb_text_lexer.specs.declared.language.Language.{Language}
use Rattle.pb_text_lexer.specs.Remaining.{ranges_from}
use Rattle.pb_text_lexer.proofs.ranges.may_follow.Given as goal

abbrev pub invariant-bytes : goal.invariant-bytes
invariant-bytes l = (a : Language) → ((n : ℕ) (p : Place) → ranges_from a l.rest n p ≡ []) → (n : ℕ) (p : Place) → ranges_from a l.bytes n p ≡ []

abbrev pub decreases-bytes : goal.decreases-bytes
decreases-bytes l = length l.rest
