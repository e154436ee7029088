-- Faults of parts and of the whole.
use Rattle.std.proofs.Common.{◌≡◌, Bool, true, false, List, [], ◌∷◌, ◌++◌, refl, sym, ◌∙◌, ap, subst}
use Rattle.std.proofs.Common.{inl, inr}
use Rattle.std.specs.Prelude.{Contains, ◌⊎◌}
use Rattle.std.proofs.lemmas.List.Elements.{Contains-append_left, Contains-append_right, Contains-append_cases}
use Rattle.pb_text_tree.specs.declared.place.Place.{Place}
use Rattle.pb_typing_declarations.specs.declared.fault.TypingRule.{TypingRule}
use Rattle.pb_typing_declarations.specs.declared.fault.TypingFault.{TypingFault}
use Rattle.pb_base.specs.declared.or_memory.OrMemory.{OrMemory}
use Rattle.pb_base.specs.declared.or_memory.OrMemory.TheVariants.{Refused, Memory}
use Rattle.pb_base.proofs.Faults.{if_fault}
use Rattle.pb_typing_declarations.specs.Faults.{unless, IsAmong}

pub among_left : (xs ys : List TypingFault) (e : OrMemory TypingFault) → IsAmong xs e → IsAmong (xs ++ ys) e
among_left xs ys e = if_fault e (Contains-append_left xs ys)

pub among_right : (xs ys : List TypingFault) (e : OrMemory TypingFault) → IsAmong ys e → IsAmong (xs ++ ys) e
among_right xs ys e = if_fault e (Contains-append_right xs ys)

-- what each part is among, the whole is among
pub among_parts : (xs ys all : List TypingFault) → ((e : OrMemory TypingFault) → IsAmong xs e → IsAmong all e) → ((e : OrMemory TypingFault) → IsAmong ys e → IsAmong all e)
    → (e : OrMemory TypingFault) → IsAmong (xs ++ ys) e → IsAmong all e
among_parts xs ys all f g Memory h = h
among_parts xs ys all f g (Refused fault) h = by_part (Contains-append_cases xs ys fault h)
  where
    by_part : Contains xs fault ⊎ Contains ys fault → Contains all fault
    by_part (inl a) = f (Refused fault) a
    by_part (inr b) = g (Refused fault) b

-- where the whole has no fault, neither part has one
pub no_parts : (xs ys : List TypingFault) → xs ++ ys ≡ [] → (xs ≡ []) × (ys ≡ [])
no_parts [] ys e = (refl, e)
no_parts (x ∷ xs) ys e = cc

pub no_whole : (xs ys : List TypingFault) → xs ≡ [] → ys ≡ [] → xs ++ ys ≡ []
no_whole xs ys e f = ap (λ (zs : List TypingFault). zs ++ ys) e ∙ f

pub holds_unless : (b : Bool) (rule : TypingRule) (place : Place) → unless b rule place ≡ [] → b ≡ true
holds_unless true rule place e = refl
holds_unless false rule place e = cc

pub unless_holds : (b : Bool) (rule : TypingRule) (place : Place) → b ≡ true → unless b rule place ≡ []
unless_holds b rule place e = ap (λ c. unless c rule place) e

-- a fault of the first part of what is all is a fault of it all
pub among_first : (all xs ys : List TypingFault) (e : OrMemory TypingFault) → all ≡ xs ++ ys → IsAmong xs e → IsAmong all e
among_first all xs ys e is h = subst (λ (zs : List TypingFault). IsAmong zs e) (sym is) (among_left xs ys e h)

-- where the first part has no fault, the second part is all
pub first_clear : (all xs ys : List TypingFault) → all ≡ xs ++ ys → xs ≡ [] → all ≡ ys
first_clear all xs ys is clear = is ∙ ap (λ (zs : List TypingFault). zs ++ ys) clear
