-- The names that data terms are: their places are those of tokens.
use Rattle.std.proofs.Common.{ℕ, zero, suc, Bool, List, [], ◌∷◌, ◌++◌}
use Rattle.std.specs.Prelude.{Contains}
use Rattle.pb_text_tree.specs.declared.place.Place.{Place}
use Rattle.pb_text_tree.specs.Form.{Named, TermForm, ArgumentForms, no_arguments, argument, InstanceForm}
use Rattle.pb_text_lexer.specs.declared.kind.Kind.{Kind}
use Rattle.pb_text_lexer.specs.declared.kind.Kind.TheVariants as k
use Rattle.pb_text_lexer.specs.Grammar.{Reads, ◌>>=◌, Is, Nothing, One, First}
use Rattle.pb_text_lexer.specs.LeftGrammar.{OperatorOf, Link, Links, Linked, grouped, Comparison}
use Rattle.pb_text_lexer.specs.Tokens.{Tok}
use Rattle.pb_text_terms.specs.Operators.{connected_by, compared_by, computed_by, is_order, is_equality, is_additive, is_times, is_division}
use Rattle.pb_text_terms.specs.Grammar.{Name, Group, Variables, QuantifiedBy, BoundBy, Placed, Arguments, Instance, applied, Begun, Product, Sum, Ordered, Equated, Connections, IsUnary, IsTerm}
use Rattle.pb_model_runs.proofs.Elements.{in-left}
use Rattle.pb_model_places.proofs.Keeping.{Keeps, Skips, no-place, keeps-nothing, keeps-is, skips-is, keeps-one, keeps-bind, skips-of, skip, skips-one, keeps-first, keeps-extended, keeps-either, keeps-placed, skips-series, keeps-connected}

-- the place of a term that is a name
abbrev pub name_places : TermForm → List Place
name_places (TermForm.name x) = x.place ∷ []
name_places x = []

abbrev pub named_at : Named → List Place
named_at x = x.place ∷ []

abbrev pub instance_at : InstanceForm → List Place
instance_at i = i.name.place ∷ []

pub keeps-name : Keeps [] named_at Name
keeps-name = keeps-bind (One k.Name) (λ token. Is (record { place = token.place; text = token.text })) [] (λ t. t.place ∷ []) named_at (keeps-one k.Name)
    (λ t. keeps-is (t.place ∷ []) named_at (record { place = t.place; text = t.text }) (λ p e. e))

pub skips-name : Skips Name
skips-name = skips-of Name named_at keeps-name

skips-group : Skips Group
skips-group =
    skip _ _ [] _ (skips-series Name (One k.Comma) _ _ skips-name (skips-one k.Comma)) (λ names.
    skip _ _ [] _ (skips-one k.Colon) (λ colon. skip _ _ [] _ skips-name (λ sort. skips-is _)))

pub skips-variables : Skips Variables
skips-variables = skip _ _ [] _ (skips-series Group (One k.Comma) _ _ skips-group (skips-one k.Comma)) (λ groups. skips-is _)

skips-arguments : (Term : Reads TermForm) → Skips Term → Skips (Arguments Term)
skips-arguments Term term =
    skip _ _ [] _ (skips-one k.Open) (λ open_bracket.
    skip _ _ [] _ (skips-series (Placed Term) (One k.Comma) _ _ (keeps-placed (λ x. []) Term term) (skips-one k.Comma)) (λ arguments.
    skip _ _ [] _ (skips-one k.Close) (λ close_bracket. skips-is _)))

pub keeps-instance : (Term : Reads TermForm) → Skips Term → Keeps [] instance_at (Instance Term)
keeps-instance Term term =
    let alone : Keeps [] instance_at (Name >>= (λ name. Is (record { name = name; arguments = no_arguments }))) =
    keeps-bind _ _ [] named_at instance_at keeps-name (λ name. keeps-is (named_at name) instance_at _ (λ p e. e)) in
    keeps-extended [] instance_at _ _ alone
    (keeps-bind _ _ [] instance_at instance_at alone (λ i. skip _ _ (instance_at i) instance_at (skips-arguments Term term) (λ arguments. keeps-is _ instance_at _ (λ p e. e))))

applied-places : (x : Named) (xs : ArgumentForms) (p : Place) → Contains (name_places (applied x xs)) p → Contains (named_at x) p
applied-places x no_arguments p e = e
applied-places x (argument q y ys) p e = no-place p e

keeps-begun : (Unary Term : Reads TermForm) → Skips Unary → Keeps [] name_places Term → (kind : Kind) → Keeps [] name_places (Begun Unary Term kind)
keeps-begun Unary Term unary term k.Not =
    skip _ _ [] name_places (skips-one k.Not) (λ sign. skip _ _ [] name_places unary (λ operand. keeps-is [] name_places _ (λ p e. e)))
keeps-begun Unary Term unary term k.Minus =
    skip _ _ [] name_places (skips-one k.Minus) (λ sign. skip _ _ [] name_places unary (λ operand. keeps-is [] name_places _ (λ p e. e)))
keeps-begun Unary Term unary term k.Open =
    skip _ _ [] name_places (skips-one k.Open) (λ open_bracket. keeps-bind Term _ [] name_places name_places term (λ inner.
    skip _ _ (name_places inner ++ []) name_places (skips-one k.Close) (λ close_bracket. keeps-is _ name_places inner (λ p e. in-left (name_places inner) [] p e))))
keeps-begun Unary Term unary term k.Number =
    skip _ _ [] name_places (skips-one k.Number) (λ token. keeps-is [] name_places _ (λ p e. e))
keeps-begun Unary Term unary term k.True =
    skip _ _ [] name_places (skips-one k.True) (λ token. keeps-is [] name_places _ (λ p e. e))
keeps-begun Unary Term unary term k.False =
    skip _ _ [] name_places (skips-one k.False) (λ token. keeps-is [] name_places _ (λ p e. e))
keeps-begun Unary Term unary term k.Name =
    keeps-bind (Instance Term) _ [] instance_at name_places (keeps-instance Term (skips-of Term name_places term)) (λ i.
    keeps-is (instance_at i) name_places (applied i.name i.arguments) (λ p e. applied-places i.name i.arguments p e))
keeps-begun Unary Term unary term _ = keeps-nothing [] name_places

-- ---- arithmetic and comparisons

skips-operator-of : (test : Kind → Bool) → Skips (OperatorOf test)
skips-operator-of test s t z h = record { front = t ∷ []; tokens = h.0; among = λ p e. no-place p e }

grouped-places : (x : TermForm) (links : List (Tok × TermForm)) (p : Place) → Contains (name_places (grouped computed_by x links)) p → Contains (name_places x) p
grouped-places x [] p e = e
grouped-places x (link ∷ links) p e = no-place p (grouped-places (computed_by x link.0 link.1) links p e)

module _ (test : Kind → Bool) (Item : Reads TermForm) (item : Skips Item) where
  skips-links : Skips (Links test Item)
  skips-links =
      skips-series (Link test Item) (Is {X = Unit {0}} tt) _ _
      (skip _ _ [] _ (skips-operator-of test) (λ operator. skip _ _ [] _ item (λ operand. skips-is _))) (skips-is tt)

  keeps-linked : (x : TermForm) → Keeps (name_places x ++ []) name_places (Linked test computed_by Item x)
  keeps-linked x = skip _ _ (name_places x ++ []) name_places skips-links (λ links.
      keeps-is _ name_places (grouped computed_by x links) (λ p e. in-left (name_places x) [] p (grouped-places x links p e)))

keeps-product : (Unary : Reads TermForm) → Keeps [] name_places Unary → Keeps [] name_places (Product Unary)
keeps-product Unary unary =
    let skips = skips-of Unary name_places unary in
    keeps-extended [] name_places _ _ unary (keeps-bind _ _ [] name_places name_places unary (λ x.
    keeps-either _ name_places _ _ (keeps-linked is_times Unary skips x) (keeps-linked is_division Unary skips x)))

keeps-sum : (Unary : Reads TermForm) → Keeps [] name_places Unary → Keeps [] name_places (Sum Unary)
keeps-sum Unary unary =
    let product = keeps-product Unary unary in
    keeps-extended [] name_places _ _ product (keeps-bind _ _ [] name_places name_places product (λ x.
    keeps-linked is_additive (Product Unary) (skips-of (Product Unary) name_places product) x))

keeps-compared : (test : Kind → Bool) (Item : Reads TermForm) → Keeps [] name_places Item → Keeps [] name_places (Comparison test compared_by Item)
keeps-compared test Item item =
    keeps-extended [] name_places _ _ item (keeps-bind _ _ [] name_places name_places item (λ x.
    skip _ _ (name_places x ++ []) name_places (skips-operator-of test) (λ operator.
    skip _ _ (name_places x ++ []) name_places (skips-of Item name_places item) (λ y. keeps-is _ name_places _ (λ p e. no-place p e)))))

pub keeps-equated : (Unary : Reads TermForm) → Keeps [] name_places Unary → Keeps [] name_places (Equated Unary)
keeps-equated Unary unary = keeps-compared is_equality (Ordered Unary) (keeps-compared is_order (Sum Unary) (keeps-sum Unary unary))

-- ---- quantifiers and counting

keeps-quantified-by : (Body : Reads TermForm) → Skips Body → (kind : Kind) → Keeps [] name_places (QuantifiedBy TermForm.quantified Body kind)
keeps-quantified-by Body body k.Forall =
    skip _ _ [] name_places (skips-one k.Forall) (λ word. skip _ _ [] name_places skips-variables (λ variables.
    skip _ _ [] name_places (skips-one k.Period) (λ period. skip _ _ [] name_places body (λ x. keeps-is [] name_places _ (λ p e. e)))))
keeps-quantified-by Body body k.Exists =
    skip _ _ [] name_places (skips-one k.Exists) (λ word. skip _ _ [] name_places skips-variables (λ variables.
    skip _ _ [] name_places (skips-one k.Period) (λ period. skip _ _ [] name_places body (λ x. keeps-is [] name_places _ (λ p e. e)))))
keeps-quantified-by Body body _ = keeps-nothing [] name_places

keeps-bound-by : (Body : Reads TermForm) → Skips Body → (kind : Kind) → Keeps [] name_places (BoundBy Body kind)
keeps-bound-by Body body k.Count =
    skip _ _ [] name_places (skips-one k.Count) (λ word. skip _ _ [] name_places skips-variables (λ variables.
    skip _ _ [] name_places (skips-one k.Period) (λ period. skip _ _ [] name_places body (λ x. keeps-is [] name_places _ (λ p e. e)))))
keeps-bound-by Body body k.Forall = keeps-quantified-by Body body k.Forall
keeps-bound-by Body body k.Exists = keeps-quantified-by Body body k.Exists
keeps-bound-by Body body _ = keeps-nothing [] name_places

keeps-connections : (Unary Body : Reads TermForm) → Keeps [] name_places Unary → Skips Body → Keeps [] name_places (Connections Unary Body)
keeps-connections Unary Body unary body =
    keeps-connected (connected_by TermForm.connected) _ _ name_places (λ kind x t y p e. no-place p e) (keeps-equated Unary unary)
    (keeps-first [] name_places (BoundBy Body) (keeps-bound-by Body body))

mutual
  pub keeps-unary : (depth : ℕ) → Keeps [] name_places (IsUnary depth)
  keeps-unary zero = keeps-first [] name_places (Begun Nothing Nothing) (keeps-begun Nothing Nothing (keeps-nothing [] (λ x. [])) (keeps-nothing [] name_places))
  keeps-unary (suc depth) =
      keeps-first [] name_places (Begun (IsUnary depth) (IsTerm depth)) (keeps-begun (IsUnary depth) (IsTerm depth) (skips-of (IsUnary depth) name_places (keeps-unary depth)) (keeps-term depth))

  pub keeps-term : (depth : ℕ) → Keeps [] name_places (IsTerm depth)
  keeps-term zero =
      keeps-connections (First (Begun Nothing Nothing)) Nothing
      (keeps-first [] name_places (Begun Nothing Nothing) (keeps-begun Nothing Nothing (keeps-nothing [] (λ x. [])) (keeps-nothing [] name_places))) (keeps-nothing [] (λ x. []))
  keeps-term (suc depth) =
      keeps-connections (First (Begun (IsUnary depth) (IsTerm depth))) (IsTerm depth)
      (keeps-first [] name_places (Begun (IsUnary depth) (IsTerm depth)) (keeps-begun (IsUnary depth) (IsTerm depth) (skips-of (IsUnary depth) name_places (keeps-unary depth)) (keeps-term depth)))
      (skips-of (IsTerm depth) name_places (keeps-term depth))

pub skips-term : (depth : ℕ) → Skips (IsTerm depth)
skips-term depth = skips-of (IsTerm depth) name_places (keeps-term depth)
