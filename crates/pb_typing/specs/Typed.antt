-- What an accepted text has.
use Rattle.std.specs.Prelude.{◌≡◌, Bool, true, false, List, [], ◌∷◌, map}
use Rattle.pb_sorts.specs.declared.carrier.Carrier.{Carrier}
use Rattle.pb_sorts.specs.Layout as layouts
use Rattle.pb_sorts.specs.declared.counting.TheConstants.{MAX_NUMBERS}
use Rattle.pb_text_tree.specs.Form.{SpecForm}
use Rattle.pb_text_meaning.specs.Syntax.{Equation, Spec}
use Rattle.pb_text_meaning.specs.Formula.{carriers_of}
use Rattle.pb_typing_declarations.specs.declared.fault.TypingFault.{TypingFault}
use Rattle.pb_typing_declarations.specs.Entries.{shapes_of}
use Rattle.pb_typing_declarations.specs.Shapes.{variable_shapes}
use Rattle.pb_typing_rules.specs.Faults.{faults}

abbrev pub is_none : List TypingFault → Bool
is_none [] = true
is_none (f ∷ fs) = false

-- no rule fails anywhere, where those instances count that are reached
abbrev pub is_faultless : SpecForm → Bool
is_faultless text = is_none (faults MAX_NUMBERS text)

-- the layout has the carriers of each equation's parameters: their values, and what they are, the
-- Booleans, a struct by its number or a range
pub record IsLayout (spec : Spec) (layout : List (List Carrier)) : Type 0 where
  pub values : layouts.carriers_of layout
      ≡ map (λ (X : Equation). carriers_of spec X.parameters) spec.equations
  pub shapes : map shapes_of layout
      ≡ map (λ (X : Equation). variable_shapes spec X.parameters) spec.equations
