-- What is asked of a formula, of slots and of an assignment, so that elaboration keeps the truth.
use Rattle.std.specs.Prelude.{◌≡◌, ℕ, ◌<◌, ⊤, Bool, false, Some}
use Rattle.std.specs.Option.{option_map}
use Rattle.pb_text_meaning.specs.Syntax.{Name, Formula}
use Rattle.pb_text_meaning.specs.Value.{Assignment, looked_up}
use Rattle.pb_typing_tree.specs.Expansion.{has_quantifier, have_quantifier}
use Rattle.pb_typing_tree.specs.Meaning.{Slots}
use Rattle.pb_typing_tree.specs.Elaboration.{Slotting}

-- no data term has a quantifier
abbrev pub IsPlain : Formula → Type 0
IsPlain (Formula.Truth b) = ⊤
IsPlain (Formula.Val x) = has_quantifier x ≡ false
IsPlain (Formula.Not f) = IsPlain f
IsPlain (Formula.And f g) = IsPlain f × IsPlain g
IsPlain (Formula.Or f g) = IsPlain f × IsPlain g
IsPlain (Formula.Implies f g) = IsPlain f × IsPlain g
IsPlain (Formula.Quantified q xs f) = IsPlain f
IsPlain (Formula.Call X es) = have_quantifier es ≡ false

-- no variable in scope has a slot from n on
abbrev pub AreFree : Slotting → ℕ → Type 0
AreFree c n = (x : Name) (s : ℕ) → c x ≡ Some s → s < n

-- the slots of the variables in scope hold what the assignment gives them
abbrev pub Agree : Slotting → Slots → Assignment → Type 0
Agree c a assignment = (x : Name) → looked_up assignment x ≡ option_map a (c x)
