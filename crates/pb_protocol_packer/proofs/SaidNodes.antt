-- What is said of nodes with operands in a row.
use Rattle.std.proofs.Common.{◌≡◌, List, [], ◌∷◌, ◌++◌, map, refl, ap, ◌∙◌}
use Rattle.std.specs.Prelude.{Option, None, Some}
use Rattle.pb_text_tree.specs.declared.operator.Connective.{Connective}
use Rattle.pb_text_tree.specs.declared.operator.Connective.TheVariants as connective
use Rattle.pb_text_tree.specs.declared.operator.Arithmetic.{Arithmetic}
use Rattle.pb_text_tree.specs.declared.operator.Arithmetic.TheVariants as operator
use Rattle.pb_text_tree.specs.declared.term.ArithmeticLink.{ArithmeticLink}
use Rattle.pb_text_tree.specs.declared.term.Argument.{Argument}
use Rattle.pb_text_meaning.specs.Syntax.{Term, Terms}
use Rattle.pb_text_meaning.specs.Erase.{of_connective, of_arithmetic}
use Rattle.pb_protocol_packing.specs.Said.{Digit, Scope, digit_in, compared, said}
use Rattle.pb_protocol_packer.specs.View.{term_of, operations_of, terms_of, joined_terms, calculated_terms}
use Rattle.pb_protocol_packer.specs.Scopes.{operation_said}

-- ---- connectives and arithmetic compare nothing

said-connected : (σ : Scope) (c : Connective) (x y : Term) → said σ (Term.Binary (of_connective c) x y) ≡ Term.Binary (of_connective c) (said σ x) (said σ y)
said-connected σ c x y = by c (digit_in σ x)
  where
    by : (c : Connective) (d : Option Digit) → compared (of_connective c) d (said σ x) (said σ y) ≡ Term.Binary (of_connective c) (said σ x) (said σ y)
    by c None = refl
    by connective.And (Some d) = refl
    by connective.Or (Some d) = refl
    by connective.Implies (Some d) = refl

said-computed : (σ : Scope) (o : Arithmetic) (x y : Term) → said σ (Term.Binary (of_arithmetic o) x y) ≡ Term.Binary (of_arithmetic o) (said σ x) (said σ y)
said-computed σ o x y = by o (digit_in σ x)
  where
    by : (o : Arithmetic) (d : Option Digit) → compared (of_arithmetic o) d (said σ x) (said σ y) ≡ Term.Binary (of_arithmetic o) (said σ x) (said σ y)
    by o None = refl
    by operator.Plus (Some d) = refl
    by operator.Minus (Some d) = refl
    by operator.Times (Some d) = refl
    by operator.Div (Some d) = refl
    by operator.Mod (Some d) = refl

pub said-joined : (σ : Scope) (c : Connective) (x : Term) (ys : List Term) → said σ (joined_terms (of_connective c) x ys) ≡ joined_terms (of_connective c) (said σ x) (map (said σ) ys)
said-joined σ c x [] = refl
said-joined σ c x (y ∷ ys) =
    said-connected σ c x (joined_terms (of_connective c) y ys) ∙ ap (Term.Binary (of_connective c) (said σ x)) (said-joined σ c y ys)

pub said-calculated : (σ : Scope) (x : Term) (ls : List ArithmeticLink) → said σ (calculated_terms x (operations_of ls)) ≡ calculated_terms (said σ x) (map (operation_said σ) (operations_of ls))
said-calculated σ x [] = refl
said-calculated σ x (l ∷ ls) =
    said-calculated σ (Term.Binary (of_arithmetic l.operator) x (term_of l.operand)) ls
    ∙ ap (λ (z : Term). calculated_terms z (map (operation_said σ) (operations_of ls))) (said-computed σ l.operator x (term_of l.operand))

-- ---- arguments, one after another

abbrev pub terms_behind : List Argument → Terms → Terms
terms_behind [] rest = rest
terms_behind (a ∷ xs) rest = Terms.Then (term_of a.term) (terms_behind xs rest)

pub terms-behind-none : (xs : List Argument) → terms_behind xs Terms.NoTerms ≡ terms_of xs
terms-behind-none [] = refl
terms-behind-none (a ∷ xs) = ap (Terms.Then (term_of a.term)) (terms-behind-none xs)

pub terms-behind-push : (xs : List Argument) (a : Argument) (rest : Terms) → terms_behind (xs ++ a ∷ []) rest ≡ terms_behind xs (Terms.Then (term_of a.term) rest)
terms-behind-push [] a rest = refl
terms-behind-push (b ∷ xs) a rest = ap (Terms.Then (term_of b.term)) (terms-behind-push xs a rest)
