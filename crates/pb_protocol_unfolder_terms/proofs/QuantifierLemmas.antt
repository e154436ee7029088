-- A term that is no quantifier counts nothing.
use Rattle.std.proofs.Common.{◌≡◌, ◌<◌, ℕ, List, [], ◌∷◌, length, refl, ap, sym, ◌∙◌, arith, Vec, Global, Box}
use Rattle.pb_text_tree.specs.declared.operator.Arithmetic.{Arithmetic}
use Rattle.pb_text_tree.specs.declared.operator.Connective.{Connective}
use Rattle.pb_text_tree.specs.declared.operator.Quantifier.{Quantifier}
use Rattle.pb_text_tree.specs.declared.place.Place.{Place}
use Rattle.pb_text_tree.specs.declared.term.Term as term
use Rattle.pb_text_tree.specs.declared.term.Term.{Term, Row_of-TermLink, end_of-TermLink, more_of-TermLink, items-the_row-TermLink}
use Rattle.pb_text_tree.specs.declared.term.Term.{Row_of-ArithmeticLink, end_of-ArithmeticLink, more_of-ArithmeticLink, items-the_row-ArithmeticLink}
use Rattle.pb_text_tree.specs.declared.variable.Variables.{Variables}
use Rattle.pb_text_tree.specs.Form.{TermForm, arithmetic_links_in, calculated, chained, term_form, term_links_in}
use Rattle.pb_text_meaning.specs.Erase.{erased_term}
use Rattle.pb_text_meaning.specs.Syntax as syntax
use Rattle.pb_protocol_unfolding.specs.PutIn.{Forms, TermScope, count_of_put_in}
use Rattle.pb_protocol_unfolder_terms.specs.Chains.{HasLinks}

module _ (S : syntax.Spec) (forms : Forms) (ρ : TermScope) where
  abbrev CountsNothing : TermForm → Type 0
  CountsNothing x = count_of_put_in S forms ρ (erased_term x) ≡ syntax.Term.Number 0

  chain-counts : (c : Connective) (x : TermForm) (n : _) (row : Row_of-TermLink n)
      → 0 < length (items-the_row-TermLink n row) → CountsNothing (chained (TermForm.connected c) x (term_links_in row))
  chain-counts c x n end_of-TermLink links = absurd (omega (arith, links))
  chain-counts c x n (more_of-TermLink place operand row) links = refl

  computed-counts : (o : Arithmetic) (p : Place) (x y : TermForm) (ls : List (Arithmetic × Place × TermForm)) → CountsNothing (calculated (TermForm.computed o p x y) ls)
  computed-counts o p x y [] = refl
  computed-counts o p x y ((q, r, z) ∷ ls) = computed-counts q r (TermForm.computed o p x y) z ls

  arithmetic-counts : (x : TermForm) (n : _) (row : Row_of-ArithmeticLink n) → 0 < length (items-the_row-ArithmeticLink n row) → CountsNothing (calculated x (arithmetic_links_in row))
  arithmetic-counts x n end_of-ArithmeticLink links = absurd (omega (arith, links))
  arithmetic-counts x n (more_of-ArithmeticLink place operator operand row) links = computed-counts operator place x (term_form operand) (arithmetic_links_in row)

  pub no-quantifier : (t : Term) → HasLinks t
      → ((p : Place) (q : Quantifier) (vs : Vec Variables Global) (body : Box Term Global) → t ≡ term.Quantified p q vs body → ⊥) → CountsNothing (term_form t)
  no-quantifier (term.Constant place value) links other = refl
  no-quantifier (term.Number place value) links other = refl
  no-quantifier (term.Name n) links other = refl
  no-quantifier (term.Not' place p operand) links other = refl
  no-quantifier (term.Negative' place p operand) links other = refl
  no-quantifier (term.Chain' connective p first shape row) links other = chain-counts connective (term_form first) _ row links
  no-quantifier (term.Comparison' place comparison p left q right) links other = refl
  no-quantifier (term.Arithmetic' p first shape row) links other = arithmetic-counts (term_form first) _ row links
  no-quantifier (term.Application' function shape row) links other = refl
  no-quantifier (term.Quantified' place quantifier variables p body) links other = absurd (other place quantifier variables (record { ptr = p.ptr; alloc = p.alloc; value = body }) refl)
