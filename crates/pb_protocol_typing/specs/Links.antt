-- The kind and the first fault of operands that are joined, link by link.
use Rattle.std.specs.Prelude.{List, [], ◌∷◌, Option, Some, None}
use Rattle.pb_text_tree.specs.declared.place.Place.{Place}
use Rattle.pb_text_tree.specs.declared.term.TermLink.{TermLink}
use Rattle.pb_text_tree.specs.declared.term.ArithmeticLink.{ArithmeticLink}
use Rattle.pb_text_tree.specs.Form.{term_form}
use Rattle.pb_typing_declarations.specs.declared.fault.TypingFault.{TypingFault}
use Rattle.pb_typing_declarations.specs.declared.fault.TypingRule.TheVariants.{WrongKind}
use Rattle.pb_protocol_typing.specs.declared.kind.Kind.{Kind}
use Rattle.pb_protocol_typing.specs.declared.kind.Kind.TheVariants.{Truth, Whole}
use Rattle.pb_protocol_typing.specs.Fault.{fault_unless, either_fault}
use Rattle.pb_protocol_typing.specs.Kinds.{are_whole, truth_fault}
use Rattle.pb_protocol_typing.specs.Scopes.{Scope}
use Rattle.pb_protocol_typing.specs.Terms.{kind, term_fault}

-- the kind of a first operand with others behind it, or with none
abbrev pub chain_kind : Kind → List TermLink → Kind
chain_kind k [] = k
chain_kind k (link ∷ links) = Truth

abbrev pub arithmetic_kind : Kind → List ArithmeticLink → Kind
arithmetic_kind k [] = k
arithmetic_kind k (link ∷ links) = Whole

-- a first operand of this kind is a Boolean where others stand behind it
abbrev pub head_fault : Kind → List TermLink → Option TypingFault
head_fault k [] = None
head_fault k (link ∷ links) = truth_fault k link.place

-- the place of the first of these connectives, where there is one, else of the one before
abbrev pub next_place : Place → List TermLink → Place
next_place p [] = p
next_place p (link ∷ links) = link.place

-- Operands behind connectives: each is a Boolean, judged at the connective behind it, and the last
-- at the one before it.
abbrev pub links_fault : Scope → List TermLink → Option TypingFault
links_fault s [] = None
links_fault s (link ∷ links) =
    either_fault (term_fault s (term_form link.operand))
    (either_fault (truth_fault (kind s (term_form link.operand)) (next_place link.place links))
    (links_fault s links))

-- operands of arithmetic behind one of this kind
abbrev pub operations_fault : Scope → Kind → List ArithmeticLink → Option TypingFault
operations_fault s k [] = None
operations_fault s k (link ∷ links) =
    either_fault (term_fault s (term_form link.operand))
    (either_fault
    (fault_unless (are_whole k (kind s (term_form link.operand))) WrongKind link.place)
    (operations_fault s Whole links))

-- where the next connective stands, if there is one, else the one before
abbrev pub place_before : Place → Option Place → Place
place_before p None = p
place_before p (Some q) = q
