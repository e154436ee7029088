-- Operators of data terms and the levels that they make: what goes on with each level, and that reading arithmetic and
-- comparisons is right over signs and brackets.
use Rattle.std.proofs.Common.{◌≡◌, ℕ, Bool, true, false, ◌||◌, refl}
use Rattle.pb_text_tree.specs.Form.{TermForm}
use Rattle.pb_text_lexer.specs.declared.kind.Kind.{Kind}
use Rattle.pb_text_lexer.specs.declared.kind.Kind.TheVariants as k
use Rattle.pb_text_lexer.specs.Kinds.{same_kind, is_last, is_limited}
use Rattle.pb_text_lexer.specs.Steps.{Step}
use Rattle.pb_text_lexer.proofs.Correct.{Family, never, Correct}
use Rattle.pb_text_lexer.proofs.CorrectSeries.{going}
use Rattle.pb_text_lexer.proofs.CorrectPlain.{Always}
use Rattle.pb_text_lexer.proofs.CorrectLeftChains.{AreOperators, left_chain-correct, unmixed_chain-correct, comparison-correct}
use Rattle.pb_text_lexer.proofs.CorrectEither.{connects, IsBelow}
use Rattle.pb_text_terms.specs.Operators.{is_equality, is_order, compared_by, is_additive, is_times, is_division, computed_by}
use Rattle.pb_text_terms.specs.Grammar.{Product, Sum, Ordered, Equated}
use Rattle.pb_text_terms.specs.Reading.{is_comma, is_open, product, sum, ordered, equated}

-- ---- what goes on with each level

-- a bracket, behind a name
abbrev pub unary_goes : Kind → Bool
unary_goes = going never is_open

abbrev product_goes : Kind → Bool
product_goes = going unary_goes (λ kind. is_times kind || is_division kind)

abbrev sum_goes : Kind → Bool
sum_goes = going product_goes is_additive

abbrev ordered_goes : Kind → Bool
ordered_goes = going sum_goes is_order

abbrev pub equated_goes : Kind → Bool
equated_goes = going ordered_goes is_equality

abbrev pub term_goes : Kind → Bool
term_goes = connects equated_goes

-- ---- operators

times-are : AreOperators is_times
times-are = record { one = k.Times; passes = refl; not_last = last; limited = limit }
  where
    last : (kind : Kind) → is_times kind ≡ true → is_last kind ≡ false
    last k.Times h = refl
    last _ h = cc

    limit : (kind : Kind) → is_times kind ≡ true → is_limited kind ≡ true
    limit k.Times h = refl
    limit _ h = cc

divisions-are : AreOperators is_division
divisions-are = record { one = k.Div; passes = refl; not_last = last; limited = limit }
  where
    last : (kind : Kind) → is_division kind ≡ true → is_last kind ≡ false
    last k.Div h = refl
    last k.Mod h = refl
    last _ h = cc

    limit : (kind : Kind) → is_division kind ≡ true → is_limited kind ≡ true
    limit k.Div h = refl
    limit k.Mod h = refl
    limit _ h = cc

additives-are : AreOperators is_additive
additives-are = record { one = k.Plus; passes = refl; not_last = last; limited = limit }
  where
    last : (kind : Kind) → is_additive kind ≡ true → is_last kind ≡ false
    last k.Plus h = refl
    last k.Minus h = refl
    last _ h = cc

    limit : (kind : Kind) → is_additive kind ≡ true → is_limited kind ≡ true
    limit k.Plus h = refl
    limit k.Minus h = refl
    limit _ h = cc

orders-are : AreOperators is_order
orders-are = record { one = k.Less; passes = refl; not_last = last; limited = limit }
  where
    last : (kind : Kind) → is_order kind ≡ true → is_last kind ≡ false
    last k.Less h = refl
    last k.LessOrEqual h = refl
    last k.Greater h = refl
    last k.GreaterOrEqual h = refl
    last _ h = cc

    limit : (kind : Kind) → is_order kind ≡ true → is_limited kind ≡ true
    limit k.Less h = refl
    limit k.LessOrEqual h = refl
    limit k.Greater h = refl
    limit k.GreaterOrEqual h = refl
    limit _ h = cc

equalities-are : AreOperators is_equality
equalities-are = record { one = k.Equal; passes = refl; not_last = last; limited = limit }
  where
    last : (kind : Kind) → is_equality kind ≡ true → is_last kind ≡ false
    last k.Equal h = refl
    last k.NotEqual h = refl
    last _ h = cc

    limit : (kind : Kind) → is_equality kind ≡ true → is_limited kind ≡ true
    limit k.Equal h = refl
    limit k.NotEqual h = refl
    limit _ h = cc

times-apart : (kind : Kind) → is_times kind ≡ true → unary_goes kind ≡ false
unfolding same_kind
times-apart k.Times h = refl
times-apart _ h = cc

divisions-apart : (kind : Kind) → is_division kind ≡ true → unary_goes kind ≡ false
unfolding same_kind
divisions-apart k.Div h = refl
divisions-apart k.Mod h = refl
divisions-apart _ h = cc

unmixed : (kind : Kind) → is_times kind ≡ true → is_division kind ≡ true → ⊥
unmixed k.Times h e = cc
unmixed _ h e = cc

additives-apart : (kind : Kind) → is_additive kind ≡ true → product_goes kind ≡ false
unfolding same_kind
additives-apart k.Plus h = refl
additives-apart k.Minus h = refl
additives-apart _ h = cc

orders-apart : (kind : Kind) → is_order kind ≡ true → sum_goes kind ≡ false
unfolding same_kind
orders-apart k.Less h = refl
orders-apart k.LessOrEqual h = refl
orders-apart k.Greater h = refl
orders-apart k.GreaterOrEqual h = refl
orders-apart _ h = cc

equalities-apart : (kind : Kind) → is_equality kind ≡ true → ordered_goes kind ≡ false
unfolding same_kind
equalities-apart k.Equal h = refl
equalities-apart k.NotEqual h = refl
equalities-apart _ h = cc

pub below-connectives : IsBelow equated_goes
unfolding same_kind
below-connectives = record { conjunction = refl; disjunction = refl; implication = refl }

pub comma-apart : term_goes k.Comma ≡ false
unfolding same_kind
comma-apart = refl

abbrev pub list_goes : Kind → Bool
list_goes = going term_goes is_comma

pub list-closes : list_goes k.Close ≡ false
unfolding same_kind
list-closes = refl

pub term-closes : term_goes k.Close ≡ false
unfolding same_kind
term-closes = refl

-- ---- arithmetic and comparisons over signs and brackets

module _ (u : Step TermForm) (fam : Family TermForm) (depth : ℕ) (right : Correct Always u fam unary_goes depth) where
  products : Correct Always (product u) (λ d. Product (fam d)) product_goes depth
  unfolding product
  products = unmixed_chain-correct fam unary_goes is_times is_division computed_by depth times-are divisions-are times-apart divisions-apart unmixed u right

  sums : Correct Always (sum u) (λ d. Sum (fam d)) sum_goes depth
  unfolding sum
  sums = left_chain-correct (λ d. Product (fam d)) product_goes is_additive computed_by depth additives-are additives-apart (product u) products

  ordereds : Correct Always (ordered u) (λ d. Ordered (fam d)) ordered_goes depth
  unfolding ordered
  ordereds = comparison-correct (λ d. Sum (fam d)) sum_goes is_order compared_by depth orders-are orders-apart (sum u) sums

  pub equateds : Correct Always (equated u) (λ d. Equated (fam d)) equated_goes depth
  unfolding equated
  equateds = comparison-correct (λ d. Ordered (fam d)) ordered_goes is_equality compared_by depth equalities-are equalities-apart (ordered u) ordereds
