-- What is sought among enumerators.
use Rattle.std.specs.Prelude.{Bool, List, map}
use Rattle.pb_text_tree.specs.declared.sort.Enumerator as declared_enumerator
use Rattle.pb_text_tree.specs.Form.{enumerator_form}
use Rattle.pb_text_meaning.specs.Syntax.{same_name, Enumerator}
use Rattle.pb_text_meaning.specs.Erase.{erased_enumerator}
use Rattle.pb_text_meaning.specs.Sorts.{is_recogniser}
use Rattle.pb_protocol_folding.specs.declared.enumerator.Sought.{Sought}
use Rattle.pb_protocol_folding.specs.declared.enumerator.Sought.TheVariants as sought

-- whether an enumerator has the name, or a recogniser of the name
abbrev pub passes : Sought → Enumerator → Bool
passes (sought.Named x) e = same_name e.name x.now
passes (sought.Recognised f) e = is_recogniser f.now e.recogniser

abbrev pub enumerators_of : List declared_enumerator.Enumerator → List Enumerator
enumerators_of enumerators =
    map (λ (e : declared_enumerator.Enumerator). erased_enumerator (enumerator_form e)) enumerators
