-- What an unfolded term is to its term, and when there is none.
use Rattle.std.specs.Prelude.{◌≡◌, ◌+◌, ◌≤◌, ◌<◌, ℕ, suc, Bool, [], Result, string_bytes}
use Rattle.std.specs.Prelude.{MatchResult}
use Rattle.pb_text_tree.specs.declared.term.Term as declared_term
use Rattle.pb_text_meaning.specs.Syntax.{Name, Term, Terms, Spec}
use Rattle.pb_base.specs.OrMemory.{IfFault}
use Rattle.pb_base.specs.declared.or_memory.OrMemory.{OrMemory}
use Rattle.pb_protocol_folding.specs.Folding.{folded}
use Rattle.pb_protocol_folding.specs.View.{term_of}
use Rattle.pb_protocol_unfolder_terms.specs.declared.fault.UnfoldFault.{UnfoldFault}
use Rattle.pb_protocol_unfolder_terms.specs.declared.fault.UnfoldRule.{UnfoldRule}
use Rattle.pb_protocol_unfolder_terms.specs.declared.fault.UnfoldRule.TheVariants as rule
use Rattle.pb_protocol_unfolder_terms.specs.declared.form.Form as declared_form
use Rattle.pb_protocol_unfolder_terms.specs.declared.form.Form.TheVariants as form
use Rattle.pb_protocol_unfolder_terms.specs.declared.unfolded.Unfolded as declared_unfolded
use Rattle.pb_protocol_unfolder_terms.specs.Forms.{HasForm}

-- how many operators a term has
abbrev mutual
  pub operator_count : Term → ℕ
  operator_count (Term.Truth b) = 0
  operator_count (Term.Number n) = 0
  operator_count (Term.Named x) = 0
  operator_count (Term.Not x) = suc (operator_count x)
  operator_count (Term.Negative x) = suc (operator_count x)
  operator_count (Term.Binary o x y) = suc (operator_count x + operator_count y)
  operator_count (Term.Apply f xs) = suc (operator_counts xs)
  operator_count (Term.Quantified q xs x) = suc (operator_count x)

  pub operator_counts : Terms → ℕ
  operator_counts Terms.NoTerms = 0
  operator_counts (Terms.Then x xs) = operator_count x + operator_counts xs

-- the name that a term is, and nothing of another term
abbrev pub name_in : declared_term.Term → Name
name_in (declared_term.Name n) = string_bytes n.text
name_in x = []

-- how `-` before a term of this form is written
abbrev pub negative_form : declared_form.Form → declared_form.Form
negative_form (form.Number n) = form.Negative n
negative_form f = form.Other

-- u is the term `whole` folded, with the form of `whole`; of room for n operators `whole` takes at
-- least what isn't left
pub record IsUnfolded (spec : Spec) (truth : Bool) (n : ℕ) (whole : Term)
    (u : declared_unfolded.Unfolded) : Type 0 where
  pub term : term_of u.term ≡ folded spec truth whole
  pub form : HasForm u.form (name_in u.term) whole
  pub room : n ≤ u.room + operator_count whole

-- where the rule is that of operators, P
abbrev pub OnOperators : UnfoldRule → Type 0 → Type 0
OnOperators rule.Operators P = P
OnOperators r P = Unit {0}

-- there is no room: the term has more than n operators, if that is the fault
abbrev pub IsRefusal : ℕ → Term → OrMemory UnfoldFault → Type 0
IsRefusal n whole error = IfFault error (λ fault. OnOperators fault.rule (n < operator_count whole))

-- a term is unfolded, or refused
abbrev pub Unfolds : Spec → Bool → ℕ → Term →
    Result declared_unfolded.Unfolded (OrMemory UnfoldFault) → Type 0
Unfolds spec truth n whole result =
    MatchResult result (IsUnfolded spec truth n whole) (IsRefusal n whole)
