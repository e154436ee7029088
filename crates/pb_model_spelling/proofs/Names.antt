-- The names of a translation are names of the grammar, where those of the formula's variables are.
use Rattle.std.proofs.Common.{◌≡◌, ℕ, zero, suc, ◌+◌, ◌<◌, Bool, true, false, not, if◌then◌else◌, List, [], ◌∷◌, ◌++◌, length, refl, ap, subst, arith, length-append}
use Rattle.std.specs.Prelude.{All, codes}
use Rattle.std.proofs.lemmas.List.Elements.{All-append, All-cons, All-head, All-nil, All-tail}
use Rattle.pb_text_lexer.proofs.WordLemmas.{short_name}
use Rattle.pb_text_meaning.specs.Syntax.{Name}
use Rattle.pb_model_meaning.specs.Syntax.{Formula}
use Rattle.pb_model_translation.specs.Translation.{has_equation, is_fixpoint, next_if, equation_count, total_count}
use Rattle.pb_model_translation.specs.Names.{with_room, new_name, Wanted, operand_named, fixpoint_named, with_name, wanted_names, all_wanted, variables_of, given_names, name_at, names_of}
use Rattle.pb_model_translation.proofs.NumberedNames.{new_name-holds, with_room-holds}
use Rattle.pb_model_spelling.specs.Writable.{IsWord, ModalWritable}
use Rattle.pb_model_spelling.proofs.Words.{primed_word, spelled_word}

-- ---- a name that isn't taken

-- the name of an equation that no fixpoint is around
outer_word : IsWord (codes "X")
outer_word = spelled_word (codes "X") refl (short_name (codes "X") (omega arith))

new_word : (taken : List Name) (x : Name) → IsWord x → IsWord (new_name taken x)
new_word taken x h = new_name-holds IsWord x (λ bs names. primed_word (with_room x) bs (with_room-holds IsWord x h outer_word) names) h taken

-- ---- the names that a formula's equations get

abbrev WantsWord : Wanted → Type 0
WantsWord w = IsWord w.name

-- as many names as there are wanted, each one of the grammar
record AreGiven (count : ℕ) (names : List Name) : Type 0 where
  words : All IsWord names
  many : length names ≡ count

given : (variables taken : List Name) (ws : List Wanted) → All WantsWord ws → AreGiven (length ws) (given_names variables taken ws)
given variables taken [] h = record { words = All-nil IsWord; many = refl }
given variables taken (w ∷ ws) h =
    let x = new_name (if w.is_operand then variables ++ taken else taken) w.name in
    let rest = given variables (x ∷ taken) ws (All-tail WantsWord w ws h) in
    record {
      words = All-cons IsWord x (given_names variables (x ∷ taken) ws)
          (new_word (if w.is_operand then variables ++ taken else taken) w.name (All-head WantsWord w ws h)) rest.words;
      many = ap suc rest.many;
    }

-- as many are wanted as there are equations, each by a name of the grammar
record AreWanted (count : ℕ) (ws : List Wanted) : Type 0 where
  words : All WantsWord ws
  many : length ws ≡ count

none_wanted : AreWanted 0 []
none_wanted = record { words = All-nil WantsWord; many = refl }

both_wanted : (m n : ℕ) (ws vs : List Wanted) → AreWanted m ws → AreWanted n vs → AreWanted (m + n) (ws ++ vs)
both_wanted m n ws vs h g = record {
  words = All-append WantsWord ws vs h.words g.words;
  many = (let e = h.many in let f = g.many in let a = length-append ws vs in omega arith);
}

one_wanted : (b : Bool) (n : ℕ) (w : Wanted) (ws : List Wanted) → WantsWord w → AreWanted n ws → AreWanted (next_if b n) (with_name b w ws)
one_wanted true n w ws h g = record { words = All-cons WantsWord w ws h g.words; many = ap suc g.many }
one_wanted false n w ws h g = g

wanted : (around : Name) (f : Formula) → IsWord around → ModalWritable f → AreWanted (equation_count f) (wanted_names around f)
wanted around (Formula.Truth b) s h = none_wanted
wanted around (Formula.Data x) s h = none_wanted
wanted around (Formula.Named X) s h = none_wanted
wanted around (Formula.Not f) s h = wanted around f s h
wanted around (Formula.And f g) s h = both_wanted _ _ _ _ (wanted around f s h.0) (wanted around g s h.1)
wanted around (Formula.Or f g) s h = both_wanted _ _ _ _ (wanted around f s h.0) (wanted around g s h.1)
wanted around (Formula.Implies f g) s h = both_wanted _ _ _ _ (wanted around f s h.0) (wanted around g s h.1)
wanted around (Formula.Box A f) s h = one_wanted (has_equation f) _ (operand_named around) _ s (wanted around f s h)
wanted around (Formula.Diamond A f) s h = one_wanted (has_equation f) _ (operand_named around) _ s (wanted around f s h)
wanted around (Formula.Fixpoint sign X f) s h =
    let rest = wanted X f h.0 h.1 in
    record { words = All-cons WantsWord (fixpoint_named X) _ h.0 rest.words; many = ap suc rest.many }

names_given : (f : Formula) → ModalWritable f → AreGiven (total_count f) (given_names (variables_of f) [] (all_wanted f))
names_given f h =
    let all = one_wanted (not (is_fixpoint f)) (equation_count f) (operand_named (codes "X")) (wanted_names (codes "X") f) outer_word (wanted (codes "X") f outer_word h) in
    subst (λ (n : ℕ). AreGiven n (given_names (variables_of f) [] (all_wanted f))) all.many (given (variables_of f) [] (all_wanted f) all.words)

at_place : (xs : List Name) (k : ℕ) → k < length xs → All IsWord xs → IsWord (name_at xs k)
at_place [] k less h = absurd (omega arith)
at_place (x ∷ xs) zero less h = All-head IsWord x xs h
at_place (x ∷ xs) (suc k) less h = at_place xs k (omega arith) (All-tail IsWord x xs h)

pub names_are_words : (f : Formula) → ModalWritable f → (k : ℕ) → k < total_count f → IsWord (names_of f k)
names_are_words f h k less =
    let all = names_given f h in
    let many = all.many in
    at_place (given_names (variables_of f) [] (all_wanted f)) k (omega arith) all.words
