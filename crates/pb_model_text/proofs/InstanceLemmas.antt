-- The step of a name in a set of steps, as it is read.
use Rattle.std.proofs.Common.{◌≡◌, ◌≢◌, List, [], ◌∷◌, length, arith, refl, sym, ap, ◌∙◌, map, Vec, Global, Box}
use Rattle.std.specs.Prelude.{box_value}
use Rattle.pb_text_tree.specs.declared.place.Place.{Place}
use Rattle.pb_text_tree.specs.declared.operator.Arithmetic.{Arithmetic}
use Rattle.pb_text_tree.specs.declared.operator.Connective.{Connective}
use Rattle.pb_text_tree.specs.declared.term.Term as term
use Rattle.pb_text_tree.specs.declared.term.Term.{Term}
use Rattle.pb_text_tree.specs.declared.term.TermLink.{TermLink}
use Rattle.pb_text_tree.specs.declared.term.ArithmeticLink.{ArithmeticLink}
use Rattle.pb_text_tree.proofs.FormLemmas.{term-chain, term-arithmetic}
use Rattle.pb_text_tree.specs.declared.term.Argument.{Argument}
use Rattle.pb_text_tree.specs.Form.{Named, TermForm, argument_forms, chained, calculated, term_form, term_links, arithmetic_links}
use Rattle.pb_protocol_tree.specs.Form.{StepValueForm, StepSetForm}
use Rattle.pb_model_text.specs.Grammar.{values_of, named_set}
use Rattle.pb_model_text.specs.Links.{step_value_of}

pub values-are : (xs : List Argument) → map step_value_of xs ≡ values_of (argument_forms xs)
values-are [] = refl
values-are (x ∷ xs) = ap (λ (v : List StepValueForm). step_value_of x ∷ v) (values-are xs)

-- a name with arguments
pub some-instances : (n : Named) (xs : List Argument) → length xs ≢ 0 → StepSetForm.instances n (values_of (argument_forms xs)) ≡ named_set n (argument_forms xs)
some-instances n [] some = absurd (some refl)
some-instances n (x ∷ xs) some = refl

-- ---- what is the same of a chain, and of arithmetic, as of its operand, where it has no links, and else nothing

module _ {R : Type 0} (f : TermForm → R) (nothing : R) (connects : (c : Connective) (p : Place) (x y : TermForm) → f (TermForm.connected c p x y) ≡ nothing)
    (computes : (o : Arithmetic) (p : Place) (x y : TermForm) → f (TermForm.computed o p x y) ≡ nothing) where
  no-links : (c : Connective) (x : TermForm) (ls : List TermLink) → length ls ≡ 0 → f (chained (TermForm.connected c) x (term_links ls)) ≡ f x
  no-links c x [] none = refl
  no-links c x (l ∷ ls) none = absurd (cc none)

  some-links : (c : Connective) (x : TermForm) (ls : List TermLink) → length ls ≢ 0 → f (chained (TermForm.connected c) x (term_links ls)) ≡ nothing
  some-links c x [] some = absurd (some refl)
  some-links c x (l ∷ ls) some = connects c l.place x (chained (TermForm.connected c) (term_form l.operand) (term_links ls))

  module _ (t : Term) (c : Connective) (x : Box Term Global) (v : Vec TermLink Global) (is : t ≡ term.Chain c x v) where
    chain-is : f (term_form t) ≡ f (chained (TermForm.connected c) (term_form (box_value x)) (term_links v.items))
    chain-is = ap (λ u. f (term_form u)) is ∙ ap f (term-chain c x v)

    pub chain-alone : length v.items ≡ 0 → f (term_form (box_value x)) ≡ f (term_form t)
    chain-alone none = sym (chain-is ∙ no-links c (term_form (box_value x)) v.items none)

    pub chain-more : length v.items ≢ 0 → nothing ≡ f (term_form t)
    chain-more some = sym (chain-is ∙ some-links c (term_form (box_value x)) v.items some)

  computed-other : (ls : List (Arithmetic × Place × TermForm)) (o : Arithmetic) (p : Place) (x y : TermForm) → f (calculated (TermForm.computed o p x y) ls) ≡ nothing
  computed-other [] o p x y = computes o p x y
  computed-other ((a, q, z) ∷ ls) o p x y = computed-other ls a q (TermForm.computed o p x y) z

  no-operations : (x : TermForm) (ls : List ArithmeticLink) → length ls ≡ 0 → f (calculated x (arithmetic_links ls)) ≡ f x
  no-operations x [] none = refl
  no-operations x (l ∷ ls) none = absurd (cc none)

  some-operations : (x : TermForm) (ls : List ArithmeticLink) → length ls ≢ 0 → f (calculated x (arithmetic_links ls)) ≡ nothing
  some-operations x [] some = absurd (some refl)
  some-operations x (l ∷ ls) some = computed-other (arithmetic_links ls) l.operator l.place x (term_form l.operand)

  module _ (t : Term) (x : Box Term Global) (v : Vec ArithmeticLink Global) (is : t ≡ term.Arithmetic x v) where
    arithmetic-is : f (term_form t) ≡ f (calculated (term_form (box_value x)) (arithmetic_links v.items))
    arithmetic-is = ap (λ u. f (term_form u)) is ∙ ap f (term-arithmetic x v)

    pub arithmetic-alone : length v.items ≡ 0 → f (term_form (box_value x)) ≡ f (term_form t)
    arithmetic-alone none = sym (arithmetic-is ∙ no-operations (term_form (box_value x)) v.items none)

    pub arithmetic-more : length v.items ≢ 0 → nothing ≡ f (term_form t)
    arithmetic-more some = sym (arithmetic-is ∙ some-operations (term_form (box_value x)) v.items some)

pub nothing-left : {X : Type 0} (xs : List X) → length xs ≡ 0 → xs ≡ []
nothing-left [] h = refl
nothing-left (x ∷ xs) h = absurd (omega arith)
