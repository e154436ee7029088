-- Terms in which digits stand for names.
use Rattle.std.specs.Prelude.{ℕ, ℤ}
use Rattle.std.specs.Prelude.{if◌then◌else◌, List, [], ◌∷◌, Option}
use Rattle.std.specs.Prelude.{Some, None}
use Rattle.pb_text_meaning.specs.Syntax.{Name, same_name, Variable, Operator, Term, Terms}
use Rattle.pb_protocol_packing.specs.Numbers.{Kind, Enumeration}
use Rattle.pb_protocol_packing.specs.Numbers.{from_number, place_among}

-- the number of a variable's value, as a term
pub record Digit : Type 0 where
  pub kind : Kind
  pub low : ℤ
  pub term : Term

-- names with what they stand for, a digit or themselves, the innermost first
abbrev pub Scope : Type 0
Scope = List (Name × Option Digit)

abbrev pub digit_for : Scope → Name → Option Digit
digit_for [] x = None
digit_for ((y, d) ∷ σ) x = if same_name y x then d else digit_for σ x

abbrev pub term_for : Option Digit → Name → Term
term_for None x = Term.Named x
term_for (Some d) x = from_number d.kind d.low d.term

-- variables of a quantifier or a step stand for themselves
abbrev pub hidden : List Variable → Scope → Scope
hidden [] σ = σ
hidden (x ∷ xs) σ = hidden xs ((x.name, None) ∷ σ)

-- an enumerator's place, where a comparison needs no more
abbrev pub compared_place : Operator → Kind → Term → Option ℕ
compared_place Operator.Equal (Enumeration es) (Term.Named e) = place_among 0 es e
compared_place Operator.NotEqual (Enumeration es) (Term.Named e) = place_among 0 es e
compared_place o k y = None

abbrev pub by_place : Operator → Term → Option ℕ → Term → Term → Term
by_place o t (Some n) x y = Term.Binary o t (Term.Number n)
by_place o t None x y = Term.Binary o x y

-- x o y, where x is said by a digit
abbrev pub compared : Operator → Option Digit → Term → Term → Term
compared o (Some d) x y = by_place o d.term (compared_place o d.kind y) x y
compared o None x y = Term.Binary o x y

abbrev pub digit_in : Scope → Term → Option Digit
digit_in σ (Term.Named x) = digit_for σ x
digit_in σ x = None

abbrev mutual
  -- a term over the variables of the packed model
  pub said : Scope → Term → Term
  said σ (Term.Truth b) = Term.Truth b
  said σ (Term.Number n) = Term.Number n
  said σ (Term.Named x) = term_for (digit_for σ x) x
  said σ (Term.Not x) = Term.Not (said σ x)
  said σ (Term.Negative x) = Term.Negative (said σ x)
  said σ (Term.Binary o x y) = compared o (digit_in σ x) (said σ x) (said σ y)
  said σ (Term.Apply f xs) = Term.Apply f (all_said σ xs)
  said σ (Term.Quantified q xs x) = Term.Quantified q xs (said (hidden xs σ) x)

  pub all_said : Scope → Terms → Terms
  all_said σ Terms.NoTerms = Terms.NoTerms
  all_said σ (Terms.Then x xs) = Terms.Then (said σ x) (all_said σ xs)
