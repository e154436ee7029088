-- How terms are written: as a name, as a written value, or else.
use Rattle.std.specs.Prelude.{◌≡◌, Bool, true, false}
use Rattle.pb_text_meaning.specs.Syntax.{Name, Term}
use Rattle.pb_protocol_unfolder_terms.specs.declared.form.Form as declared_form
use Rattle.pb_protocol_unfolder_terms.specs.declared.form.Form.TheVariants as form
use Rattle.pb_protocol_unfolder_terms.specs.declared.written.Written as declared_written
use Rattle.pb_protocol_unfolder_terms.specs.declared.written.Written.TheVariants as written

-- whether a term is a number
abbrev pub is_number : Term → Bool
is_number (Term.Number n) = true
is_number x = false

-- whether a term is a name or written as a value
abbrev pub is_plain : Term → Bool
is_plain (Term.Truth b) = true
is_plain (Term.Number n) = true
is_plain (Term.Negative x) = is_number x
is_plain (Term.Named x) = true
is_plain x = false

-- a term has the form, and this name if it is one
abbrev pub HasForm : declared_form.Form → Name → Term → Type 0
HasForm (form.Truth b) x t = t ≡ Term.Truth b
HasForm (form.Number n) x t = t ≡ Term.Number n
HasForm (form.Negative n) x t = t ≡ Term.Negative (Term.Number n)
HasForm form.Name x t = t ≡ Term.Named x
HasForm form.Other x t = is_plain t ≡ false

abbrev pub written_form : declared_written.Written → declared_form.Form
written_form (written.Truth b) = form.Truth b
written_form (written.Number n) = form.Number n
written_form (written.Negative n) = form.Negative n
written_form (written.Enumerator x) = form.Name
