-- Counting as an application: `count xs . p` is `exists` applied to `exists xs . p`.
use Rattle.std.specs.Prelude.{ℕ, Bool, List, codes}
use Rattle.std.specs.Str.{bytes_eq}
use Rattle.pb_text_tree.specs.declared.place.Place.{Place}
use Rattle.pb_text_tree.specs.declared.operator.Quantifier.TheVariants.{Exists}
use Rattle.pb_text_tree.specs.Form.{VariableForm, TermForm, argument, no_arguments}

-- a reserved word: no name that is read is this one
abbrev pub counting : List ℕ
counting = codes "exists"

abbrev pub is_counting : List ℕ → Bool
is_counting f = bytes_eq f counting

-- `count xs . x`, where the word stands at this place
abbrev pub counted : Place → List VariableForm → TermForm → TermForm
counted place xs x =
    TermForm.application (record { place = place; text = counting })
    (argument place (TermForm.quantified Exists place xs x) no_arguments)
