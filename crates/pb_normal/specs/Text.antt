-- What an accepted text says.
use Rattle.pb_text_tree.specs.Form.{spec_form}
use Rattle.pb_text_meaning.specs.Syntax.{Spec}
use Rattle.pb_text_meaning.specs.Erase.{erase}
use Rattle.pb_typing.specs.declared.typed.Typed.{Typed}

abbrev pub said : Typed → Spec
said typed = erase (spec_form typed.spec)
