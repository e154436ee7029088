-- Variables that are written one behind another are those with their sorts.
use Rattle.std.proofs.Common.{◌≡◌, ℕ, ◌+◌, ◌<◌, Bool, true, false, List, [], ◌∷◌, ◌++◌, length, get_or, drop, map, refl, sym, ◌∙◌, ap}
use Rattle.std.specs.Prelude.{if◌then◌else◌, Option, Some, None}
use Rattle.std.specs.Str.{bytes_eq}
use Rattle.pb_text_tree.specs.declared.name.Name.{Name}
use Rattle.pb_text_tree.specs.Form.{Named, VariableForm, named}
use Rattle.pb_text_printer.specs.Words.{Word, variable_words, name_word, colon_word, comma_word}
use Rattle.pb_text_printer.specs.Page.{Page, after}
use Rattle.pb_text_printer.specs.Parts.{variable_behind, variables_behind}
use Rattle.pb_text_printer.proofs.PageLemmas.{left, left-next}

abbrev pub sorted : Name → List Name → List VariableForm
sorted sort ns = map (λ n. record { name = named n; sort = named sort }) ns

pub variable-next : (sort : Name) (ns : List Name) (k : ℕ) (n : Name) (before : Option Named) (p q : Page) (vs : List VariableForm) → k < length ns → n ≡ get_or ns k n
    → q ≡ after (variable_behind before (named n) (named sort)) p
    → after (variables_behind (Some (named sort)) (sorted sort (drop (k + 1) ns) ++ vs)) q ≡ after (variables_behind before (sorted sort (drop k ns) ++ vs)) p
variable-next sort ns k n before p q vs below at first =
    left (variable_behind before (named n) (named sort)) (variables_behind (Some (named sort)) (sorted sort (drop (k + 1) ns) ++ vs)) p q first
    ∙ ap (λ (v : List Name). after (variables_behind before (sorted sort v ++ vs)) p) (sym (left-next ns k n below at))

by-sort : (b : Bool) (n m c d s : Word) (r : List Word)
    → (if b then n ∷ c ∷ m ∷ r else n ∷ d ∷ s ∷ c ∷ m ∷ r) ≡ n ∷ ((if b then c ∷ m ∷ [] else d ∷ s ∷ c ∷ m ∷ []) ++ r)
by-sort true n m c d s r = refl
by-sort false n m c d s r = refl

pub from-first : (vs : List VariableForm) → variable_words vs ≡ variables_behind None vs
from-first [] = refl
from-first (v ∷ []) = refl
from-first (v ∷ w ∷ vs) =
    ap (λ (r : List Word). if bytes_eq v.sort.text w.sort.text then name_word v.name ∷ comma_word ∷ r else name_word v.name ∷ colon_word ∷ name_word v.sort ∷ comma_word ∷ r) (from-first (w ∷ vs))
    ∙ by-sort (bytes_eq v.sort.text w.sort.text) (name_word v.name) (name_word w.name) comma_word colon_word (name_word v.sort) (variables_behind (Some w.sort) vs)
