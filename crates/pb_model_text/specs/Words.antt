-- Words for the formulas of the usual patterns: which names are words, and the formula that each
-- stands for, over all steps. They are operators of branching time (Clarke, Emerson and Sistla
-- 1986: always is AG, possibly EF, inevitably AF, until AU) on paths that may end, where what is
-- put off to the end never comes. What is inserted stands at the place of the word.
use Rattle.std.specs.Prelude.{ℕ, Bool, true, if◌then◌else◌, ◌||◌, List, codes}
use Rattle.std.specs.Prelude.{Option, Some, None, is_some, map}
use Rattle.std.specs.Str.{bytes_eq}
use Rattle.pb_fixpoint.specs.declared.Sign.{Sign}
use Rattle.pb_fixpoint.specs.declared.Sign.TheVariants as sign
use Rattle.pb_text_tree.specs.declared.place.Place.{Place}
use Rattle.pb_text_tree.specs.declared.operator.Connective.TheVariants as connective
use Rattle.pb_text_tree.specs.Form.{Named, chained}
use Rattle.pb_model_tree.specs.declared.formula.Modality.{Modality}
use Rattle.pb_model_tree.specs.declared.formula.Modality.TheVariants as modality
use Rattle.pb_protocol_tree.specs.Form.{StepSetForm, FormulaForm}
use Rattle.pb_model_text.specs.declared.word.Prefix.{Prefix}
use Rattle.pb_model_text.specs.declared.word.Prefix.TheVariants as prefix
use Rattle.pb_model_text.specs.declared.word.Leading.{Leading}
use Rattle.pb_model_text.specs.declared.word.Leading.TheVariants as leading
use Rattle.pb_model_text.specs.declared.word.Infix.{Infix}
use Rattle.pb_model_text.specs.declared.word.Infix.TheVariants as between

-- ---- which names are words

-- with which an operand begins
abbrev pub leading_of : List ℕ → Option Leading
leading_of text =
    if bytes_eq text (codes "always") then Some (leading.Before prefix.Always)
    else if bytes_eq text (codes "possibly") then Some (leading.Before prefix.Possibly)
    else if bytes_eq text (codes "inevitably") then Some (leading.Before prefix.Inevitably)
    else if bytes_eq text (codes "no_deadlock") then Some leading.NoDeadlock
    else if bytes_eq text (codes "fair") then Some leading.Fair
    else None

-- which stand between two operands
abbrev pub infix_of : List ℕ → Option Infix
infix_of text =
    if bytes_eq text (codes "until") then Some between.Until
    else if bytes_eq text (codes "leads_to") then Some between.LeadsTo
    else None

-- which stands behind the sets of `fair`
abbrev pub fairly_of : List ℕ → Option (Unit {0})
fairly_of text = if bytes_eq text (codes "inevitably") then Some tt else None

abbrev pub is_word : List ℕ → Bool
is_word text = is_some (leading_of text) || is_some (infix_of text)

-- ---- the parts of what they stand for

-- a word as the variable of its fixpoint: no operand speaks of it, since none begins with a word
abbrev pub variable_at : Place → List ℕ → Named
variable_at place text = record { place = place; text = text }

abbrev pub conjunction : Place → FormulaForm → FormulaForm → FormulaForm
conjunction = FormulaForm.connected connective.And

abbrev pub disjunction : Place → FormulaForm → FormulaForm → FormulaForm
disjunction = FormulaForm.connected connective.Or

abbrev pub implication : Place → FormulaForm → FormulaForm → FormulaForm
implication = FormulaForm.connected connective.Implies

-- `<true> true`: some step can be taken
abbrev pub some_step : Place → FormulaForm
some_step place =
    FormulaForm.modal modality.Diamond place (StepSetForm.all place)
    (FormulaForm.constant place true)

-- `[true] X` or `<true> X`: behind each step X, or behind some
abbrev pub behind_steps : Modality → Place → List ℕ → FormulaForm
behind_steps kind place text =
    FormulaForm.modal kind place (StepSetForm.all place)
    (FormulaForm.variable (variable_at place text))

abbrev pub fixpoint_of : Sign → Place → List ℕ → FormulaForm → FormulaForm
fixpoint_of sign place text body = FormulaForm.fixpoint sign place (variable_at place text) body

-- `<true> true && [true] X`: some step can be taken, and behind each stands X
abbrev pub goes_on : Place → List ℕ → FormulaForm
goes_on place text =
    conjunction place (some_step place) (behind_steps modality.Box place text)

-- ---- what the words stand for

-- `nu always . p && [true] always`
abbrev pub always : Place → FormulaForm → FormulaForm
always place p =
    fixpoint_of sign.Nu place (codes "always")
    (conjunction place p (behind_steps modality.Box place (codes "always")))

-- `mu possibly . p || <true> possibly`
abbrev pub possibly : Place → FormulaForm → FormulaForm
possibly place p =
    fixpoint_of sign.Mu place (codes "possibly")
    (disjunction place p (behind_steps modality.Diamond place (codes "possibly")))

-- `mu inevitably . p || (<true> true && [true] inevitably)`
abbrev pub inevitably : Place → FormulaForm → FormulaForm
inevitably place p =
    fixpoint_of sign.Mu place (codes "inevitably")
    (disjunction place p (goes_on place (codes "inevitably")))

-- `nu no_deadlock . <true> true && [true] no_deadlock`
abbrev pub no_deadlock : Place → FormulaForm
no_deadlock place =
    fixpoint_of sign.Nu place (codes "no_deadlock") (goes_on place (codes "no_deadlock"))

-- `mu until . q || (p && (<true> true && [true] until))`
abbrev pub until : Place → FormulaForm → FormulaForm → FormulaForm
until place p q =
    fixpoint_of sign.Mu place (codes "until")
    (disjunction place q (conjunction place p (goes_on place (codes "until"))))

-- `nu leads_to . [true] leads_to && (p => inevitably q)`
abbrev pub leads_to : Place → FormulaForm → FormulaForm → FormulaForm
leads_to place p q =
    fixpoint_of sign.Nu place (codes "leads_to")
    (conjunction place (behind_steps modality.Box place (codes "leads_to"))
    (implication place p (inevitably place q)))

-- `[A] fair`
abbrev pub behind_process : Place → StepSetForm → FormulaForm
behind_process place A =
    FormulaForm.modal modality.Box place A
    (FormulaForm.variable (variable_at place (codes "fair")))

-- `<A> true || [true] fair`
abbrev pub tries : Place → StepSetForm → FormulaForm
tries place A =
    disjunction place
    (FormulaForm.modal modality.Diamond place A (FormulaForm.constant place true))
    (behind_steps modality.Box place (codes "fair"))

-- `<true> true && ([A] fair && ((<A> true || [true] fair) && [true] inevitably))`
abbrev pub waits : Place → StepSetForm → FormulaForm
waits place A =
    conjunction place (some_step place)
    (conjunction place (behind_process place A)
    (conjunction place (tries place A) (behind_steps modality.Box place (codes "inevitably"))))

-- `nu inevitably . p || waits`: p, unless from some state on A can take a step and takes none
abbrev pub unfair_to : Place → FormulaForm → StepSetForm → FormulaForm
unfair_to place p A =
    fixpoint_of sign.Nu place (codes "inevitably") (disjunction place p (waits place A))

abbrev pub unfair_to_others :
    Place → FormulaForm → List StepSetForm → List (Place × FormulaForm)
unfair_to_others place p = map (λ A. (place, unfair_to place p A))

-- `mu fair .` that of one set, or of another
abbrev pub fair : Place → StepSetForm → List StepSetForm → FormulaForm → FormulaForm
fair place A others p =
    fixpoint_of sign.Mu place (codes "fair")
    (chained (FormulaForm.connected connective.Or) (unfair_to place p A)
    (unfair_to_others place p others))

-- a word before an operand
abbrev pub prefixed : Prefix → Place → FormulaForm → FormulaForm
prefixed prefix.Always = always
prefixed prefix.Possibly = possibly
prefixed prefix.Inevitably = inevitably

-- a word between two
abbrev pub infixed : Infix → Place → FormulaForm → FormulaForm → FormulaForm
infixed between.Until = until
infixed between.LeadsTo = leads_to
