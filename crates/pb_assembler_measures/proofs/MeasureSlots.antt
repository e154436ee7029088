-- The quantifiers of a normal form take the slots behind the parameters, with the carriers of the text's variables.
use Rattle.std.proofs.Common.{◌≡◌, ℕ, suc, true, List, [], ◌∷◌, length, Some, refl, sym, ap, ◌∙◌}
use Rattle.pb_sorts.specs.declared.carrier.Carrier.{Carrier}
use Rattle.pb_text_meaning.specs.Syntax.{Equation, Spec}
use Rattle.pb_typing_declarations.specs.Shapes.{Shape}
use Rattle.pb_typing_declarations.specs.Entries.{carrier_shape}
use Rattle.pb_typing_rules.specs.WellTyped.{parameter_scope}
use Rattle.pb_normal.specs.Equations.{normal_equation}
use Rattle.pb_normal.specs.Expansion.{expanded}
use Rattle.pb_normal.specs.Loops.{equation_loops}
use Rattle.pb_normal.specs.Normalisation.{unslotted, with_slots}
use Rattle.pb_normal.specs.View.{shapes_of}
use Rattle.pb_normal.proofs.LoopSlots.{normal-quantifiers}
use Rattle.pb_assembler_scheme.specs.Correct.{quantifiers, slots_from}

-- shapes with the slots from n on
abbrev pub numbered : ℕ → List Shape → List (ℕ × Shape)
numbered n [] = []
numbered n (s ∷ ss) = (n, s) ∷ numbered (suc n) ss

slots_numbered : (n : ℕ) (cs : List Carrier) → numbered n (shapes_of cs) ≡ slots_from n cs
slots_numbered n [] = refl
slots_numbered n (c ∷ cs) = ap (λ (qs : List (ℕ × Shape)). (n, carrier_shape (Some c)) ∷ qs) (slots_numbered (suc n) cs)

pub equation_quantifiers : (spec : Spec) (X : Equation) (cs : List Carrier) → shapes_of cs ≡ equation_loops spec X → quantifiers (normal_equation spec X) ≡ slots_from (length X.parameters) cs
equation_quantifiers spec X cs e =
    normal-quantifiers spec (expanded X.right) true (parameter_scope spec X) (with_slots X.parameters 0 unslotted) (length X.parameters)
    ∙ ap (numbered (length X.parameters)) (sym e)
    ∙ slots_numbered (length X.parameters) cs

-- there are as many as there are slots
pub slots_long : (n : ℕ) (cs : List Carrier) → length (slots_from n cs) ≡ length cs
slots_long n [] = refl
slots_long n (c ∷ cs) = ap suc (slots_long (suc n) cs)
