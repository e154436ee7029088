-- A model that counts nothing has words where the protocol that it is written as has.
use Rattle.std.proofs.Common.{◌≡◌, ◌∙◌, Bool, true, false, true≢false, sym, List, [], ◌∷◌, map, ◌⊎◌, inl, inr}
use Rattle.pb_text_meaning.specs.Syntax.{Variable, Term, Terms}
use Rattle.pb_text_counting.specs.Counting.{is_counting}
use Rattle.pb_text_printer.specs.Sayable.{Each}
use Rattle.pb_model_meaning.specs.Syntax as flat
use Rattle.pb_protocol_unfolding.specs.Plain.{plain_variable, plain_assignment, plain_step, plain_formula, plain}
use Rattle.pb_protocol_unfolding.specs.Plain.{CountsNothing, CountNothing, AssignmentsCountNothing, StepsCountNothing, FormulaCountsNothing}
use Rattle.pb_model_spelling.specs.Writable.{IsWord, TermWritable, AllWritable, SomeWritable, VariableWritable, ModalWritable, ModelWritable}
use Rattle.pb_model_spelling.specs.Writable as model
use Rattle.pb_model_spelling.specs.Protocols.{DataWritable, AllDataWritable, SomeDataWritable, StateVariableWritable, AssignmentWritable, StepWritable, FormulaWritable, ProtocolWritable}

-- ---- data terms

-- what is applied is a word, since it isn't the word that counts
applied-word : {A : Type 0} (b : Bool) → b ≡ false → A ⊎ (b ≡ true) → A
applied-word b e (inl h) = h
applied-word b e (inr h) = absurd (true≢false (sym h ∙ e))

mutual
  pub term-writable : (x : Term) → CountsNothing x → DataWritable x → TermWritable x
  term-writable (Term.Truth b) c h = tt
  term-writable (Term.Number n) c h = h
  term-writable (Term.Named x) c h = h
  term-writable (Term.Not x) c h = term-writable x c h
  term-writable (Term.Negative x) c h = term-writable x c h
  term-writable (Term.Binary o x y) c h = (term-writable x c.0 h.0, term-writable y c.1 h.1)
  term-writable (Term.Apply f xs) c h = (applied-word (is_counting f) c.0 h.0, some-writable xs c.1 h.1)
  term-writable (Term.Quantified q vars x) c h = (h.0, term-writable x c h.1)

  pub all-writable : (xs : Terms) → CountNothing xs → AllDataWritable xs → AllWritable xs
  all-writable Terms.NoTerms c h = tt
  all-writable (Terms.Then x xs) c h = (term-writable x c.0 h.0, all-writable xs c.1 h.1)

  some-writable : (xs : Terms) → CountNothing xs → SomeDataWritable xs → SomeWritable xs
  some-writable Terms.NoTerms c h = absurd h
  some-writable (Terms.Then x xs) c h = (term-writable x c.0 h.0, all-writable xs c.1 h.1)

-- ---- models

variables-writable : (vs : List Variable) → Each StateVariableWritable (map plain_variable vs) → Each VariableWritable vs
variables-writable [] h = tt
variables-writable (v ∷ vs) h = ((h.0.0, h.0.2), variables-writable vs h.1)

assignments-writable : (assigned : List flat.Assignment) → AssignmentsCountNothing assigned → Each AssignmentWritable (map plain_assignment assigned) → Each model.AssignmentWritable assigned
assignments-writable [] c h = tt
assignments-writable (a ∷ assigned) c h = (term-writable a.term c.0 h.0.3, assignments-writable assigned c.1 h.1)

steps-writable : (steps : List flat.Step) → StepsCountNothing steps → Each StepWritable (map plain_step steps) → Each model.StepWritable steps
steps-writable [] c h = tt
steps-writable (a ∷ steps) c h =
    ((h.0.1, term-writable a.guard c.0.0 h.0.2, assignments-writable a.assignments c.0.1 h.0.3), steps-writable steps c.1 h.1)

pub plain-writable : (m : flat.Model) → StepsCountNothing m.steps → CountNothing m.initial → ProtocolWritable (plain m) → ModelWritable m
plain-writable m steps initial h = record {
  sorts = h.sorts;
  ranges = h.ranges;
  variables = variables-writable m.variables h.variables;
  steps = steps-writable m.steps steps h.steps;
  initial = all-writable m.initial initial h.initial;
}

pub plain-formula-writable : (f : flat.Formula) → FormulaCountsNothing f → FormulaWritable (plain_formula f) → ModalWritable f
plain-formula-writable (flat.Formula.Truth b) c h = tt
plain-formula-writable (flat.Formula.Data x) c h = term-writable x c h
plain-formula-writable (flat.Formula.Named X) c h = tt
plain-formula-writable (flat.Formula.Not f) c h = plain-formula-writable f c h
plain-formula-writable (flat.Formula.And f g) c h = (plain-formula-writable f c.0 h.0, plain-formula-writable g c.1 h.1)
plain-formula-writable (flat.Formula.Or f g) c h = (plain-formula-writable f c.0 h.0, plain-formula-writable g c.1 h.1)
plain-formula-writable (flat.Formula.Implies f g) c h = (plain-formula-writable f c.0 h.0, plain-formula-writable g c.1 h.1)
plain-formula-writable (flat.Formula.Box A f) c h = plain-formula-writable f c h
plain-formula-writable (flat.Formula.Diamond A f) c h = plain-formula-writable f c h
plain-formula-writable (flat.Formula.Fixpoint sign X f) c h = (h.0, plain-formula-writable f c h.1)
