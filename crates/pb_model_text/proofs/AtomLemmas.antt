-- Data in formulas, and the variables of fixpoints, as they are read.
use Rattle.std.proofs.Common.{◌≡◌, ◌≢◌, ℕ, true, false, List, [], ◌∷◌, length, refl, ap, ◌∙◌, Ok, Err}
use Rattle.pb_text_tree.specs.declared.place.Place.{Place}
use Rattle.pb_text_tree.specs.declared.term.Argument.{Argument}
use Rattle.pb_text_tree.specs.Form.{Named, TermForm, ArgumentForms, no_arguments, argument, InstanceForm, argument_forms}
use Rattle.pb_protocol_tree.specs.Form.{FormulaForm}
use Rattle.pb_text_lexer.specs.declared.fault.Refusal.{Refusal}
use Rattle.pb_text_lexer.specs.declared.kind.Kind.TheVariants as k
use Rattle.pb_text_lexer.specs.Grammar.{State}
use Rattle.pb_text_lexer.specs.Steps.{kind, place}
use Rattle.pb_text_terms.specs.Operators.{is_operator}
use Rattle.pb_text_terms.specs.Grammar.{applied}
use Rattle.pb_text_terms.specs.Reading.{equated, unary, instance}
use Rattle.pb_text_terms.proofs.ReadLemmas.{placed-fails, placed-read, begun-at, name-is, equated-first-fails, equated-alone}
use Rattle.pb_model_text.specs.Grammar.{FixpointNames, is_bound, atom_of}
use Rattle.pb_model_text.specs.Reading.{atom, data_operand}
use Rattle.pb_model_text.proofs.PlainLemmas.{operated-data}

module _ (made : Place → TermForm → FormulaForm) (depth : ℕ) (s : State) where
  pub atom-fails : (bad : Refusal) → equated (unary depth) s ≡ Err bad → atom made (data_operand depth) s ≡ Err bad
  unfolding data_operand
  atom-fails bad fails = rw (placed-fails (equated (unary depth)) s bad fails) refl

  pub atom-read : (z : State) (at : Place) (x : TermForm) → at ≡ place s → equated (unary depth) s ≡ Ok (x, z) → atom made (data_operand depth) s ≡ Ok (made at x, z)
  unfolding data_operand
  atom-read z at x here reads = rw (placed-read (equated (unary depth)) s z at x here reads) refl

module _ (scope : FixpointNames) (depth : ℕ) (s : State) (is : kind s ≡ k.Name) where
  name-fails : (bad : Refusal) → instance depth s ≡ Err bad → unary depth s ≡ Err bad
  name-fails bad fails = begun-at depth s k.Name is ∙ rw fails refl

  pub named-fails : (bad : Refusal) → instance depth s ≡ Err bad → atom (atom_of scope) (data_operand depth) s ≡ Err bad
  named-fails bad fails = atom-fails (atom_of scope) depth s bad (equated-first-fails depth s bad (name-fails bad fails))

  pub named-alone : (z : State) (at : Place) (i : InstanceForm) → at ≡ place s → instance depth s ≡ Ok (i, z) → is_operator (kind z) ≡ false
      → atom (atom_of scope) (data_operand depth) s ≡ Ok (atom_of scope at (applied i.name i.arguments), z)
  named-alone z at i here reads other =
      atom-read (atom_of scope) depth s z at (applied i.name i.arguments) here (equated-alone depth s z (applied i.name i.arguments) (name-is depth s z i is reads) other)

  pub named-operated : (s1 z : State) (at : Place) (i : InstanceForm) (y : TermForm) → at ≡ place s → instance depth s ≡ Ok (i, s1) → is_operator (kind s1) ≡ true → equated (unary depth) s ≡ Ok (y, z)
      → atom (atom_of scope) (data_operand depth) s ≡ Ok (FormulaForm.«data» at y, z)
  named-operated s1 z at i y here reads on h =
      atom-read (atom_of scope) depth s z at y here h
      ∙ ap (λ v. Ok (v, z)) (operated-data (unary depth) s s1 (applied i.name i.arguments) y z (name-is depth s s1 i is reads) on h scope at)

-- ---- what is data

pub unbound-data : (scope : FixpointNames) (p : Place) (n : Named) (arguments : ArgumentForms)
    → is_bound scope n.text ≡ false → FormulaForm.«data» p (applied n arguments) ≡ atom_of scope p (applied n arguments)
unbound-data scope p n no_arguments other = rw other refl
unbound-data scope p n (argument q x rest) other = refl

pub applied-data : (scope : FixpointNames) (p : Place) (n : Named) (arguments : List Argument) → length arguments ≢ 0
    → FormulaForm.«data» p (applied n (argument_forms arguments)) ≡ atom_of scope p (applied n (argument_forms arguments))
applied-data scope p n [] some = absurd (some refl)
applied-data scope p n (a ∷ arguments) some = refl
