-- What follows of an error of constants from that of a call.
use Rattle.std.proofs.Common.{◌≡◌, List, [], refl, sym, subst, Result, Ok, Err, inr}
use Rattle.std.specs.Prelude.{◌⊎◌, Contains, IsErrAnd, MatchResult, OnOk, None}
use Rattle.pb_base.specs.OrMemory.{IfFault, IfRefused, raised}
use Rattle.pb_base.specs.declared.or_memory.OrMemory.{OrMemory}
use Rattle.pb_base.proofs.Faults.{if_fault, if_raised}
use Rattle.pb_text_tree.specs.declared.place.Place.{Place}
use Rattle.pb_text_tree.specs.Form.{TermForm}
use Rattle.pb_typing_declarations.specs.declared.fault.TypingFault.{TypingFault}
use Rattle.pb_typing_declarations.specs.declared.fault.TypingRule.TheVariants.{WrongKind}
use Rattle.pb_protocol_tree.specs.Form.{ProtocolForm}
use Rattle.pb_protocol_unfolder_terms.specs.declared.fault.UnfoldFault.{UnfoldFault}
use Rattle.pb_protocol_unfolder_terms.specs.TermFaults.{IsFaultAt, IsFaultInTerm, surroundings_at_start}
use Rattle.pb_protocol_constants.specs.declared.fault.ConstantsFault.{ConstantsFault}
use Rattle.pb_protocol_constants.specs.declared.fault.ConstantsFault.TheVariants.{Typing}
use Rattle.pb_protocol_constants.specs.Settled.{number_in, unfolded_value}
use Rattle.pb_protocol_constants.specs.Faults.{typing_fault, IsOfTerm, IsTypingFaultIn, IsValueFault}

-- the error of a call is that of its caller
pub handed-on : {T : Type 0} (P Q : ConstantsFault → Type 0) → ((f : ConstantsFault) → P f → Q f) → (e : OrMemory ConstantsFault) (r : Result T (OrMemory ConstantsFault))
    → IfFault e P → IsErrAnd r (λ x. x ≡ e) → IfRefused r Q
handed-on P Q more e (Ok x) h made = tt
handed-on P Q more e (Err x) h made = subst (λ (y : OrMemory ConstantsFault). IfFault y Q) (sym made) (if_fault e more h)

-- a value that isn't written as a number
pub no-value : (m : ProtocolForm) (p : Place) (x : TermForm) (g : ConstantsFault) → number_in (unfolded_value m x) ≡ None → g ≡ typing_fault WrongKind p → IsValueFault m p x g
no-value m p x g none is = subst (IsValueFault m p x) (sym is) (refl, none)

-- one that isn't unfolded
pub term-refused : (m : ProtocolForm) (p : Place) (x : TermForm) (e : OrMemory UnfoldFault) (above : OrMemory ConstantsFault) → raised IsOfTerm e above
    → IfFault e (IsFaultAt (IsFaultInTerm (surroundings_at_start m) [] x)) → IfFault above (IsValueFault m p x)
term-refused m p x e above made h = if_raised e above made (λ f g is fails. subst (IsValueFault m p x) (sym is) fails) h

-- one among the faults of typing
pub typing-refused : (faults : List TypingFault) (e : OrMemory TypingFault) (above : OrMemory ConstantsFault) → raised (λ f g. g ≡ Typing f) e above
    → IfFault e (Contains faults) → IfFault above (IsTypingFaultIn faults)
typing-refused faults e above made h = if_raised e above made (λ f g is among. subst (IsTypingFaultIn faults) (sym is) among) h

-- two checks, of which the first finds nothing
pub checked : {T : Type 0} (A B : Type 0) (X Y : ConstantsFault → Type 0) (r : Result T (OrMemory ConstantsFault)) → A → MatchResult r (λ _. B) (λ e. IfFault e Y)
    → MatchResult r (λ _. A × B) (λ e. IfFault e (λ f. X f ⊎ Y f))
checked A B X Y (Ok x) a h = (a, h)
checked A B X Y (Err e) a h = if_fault e (λ f y. inr y) h

-- the error of a call, where more is said of what there is without one
pub handed-up : {T : Type 0} (B : T → Type 0) (P Q : ConstantsFault → Type 0) → ((f : ConstantsFault) → P f → Q f) → (e : OrMemory ConstantsFault) (r : Result T (OrMemory ConstantsFault))
    → IfFault e P → IsErrAnd r (λ x. x ≡ e) → MatchResult r B (λ d. IfFault d Q)
handed-up B P Q more e (Ok x) h made = absurd made
handed-up B P Q more e (Err x) h made = subst (λ (y : OrMemory ConstantsFault). IfFault y Q) (sym made) (if_fault e more h)

pub on-ok : {T : Type 0} (P : Type 0) (r : Result T (OrMemory ConstantsFault)) → P → OnOk r P
on-ok P (Ok x) p = p
on-ok P (Err e) p = tt

pub on-both : {T : Type 0} (A B C : Type 0) (r : Result T (OrMemory ConstantsFault)) → (A → B → C) → OnOk r A → OnOk r B → OnOk r C
on-both A B C (Ok x) f a b = f a b
on-both A B C (Err e) f a b = tt
