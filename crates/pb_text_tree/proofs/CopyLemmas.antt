-- Terms whose parts are equal are equal.
use Rattle.std.proofs.Common.{◌≡◌, List, [], ◌∷◌, ◌++◌, map, refl, sym, ◌∙◌, ap, Vec, Box, Global}
use Rattle.std.specs.Prelude.{box_value}
use Rattle.pb_text_tree.specs.declared.place.Place.{Place}
use Rattle.pb_text_tree.specs.declared.operator.Connective.{Connective}
use Rattle.pb_text_tree.specs.declared.operator.Comparison.{Comparison}
use Rattle.pb_text_tree.specs.declared.operator.Quantifier.{Quantifier}
use Rattle.pb_text_tree.specs.declared.name.Name.{Name}
use Rattle.pb_text_tree.specs.declared.variable.Variables.{Variables}
use Rattle.pb_text_tree.specs.declared.term.Term as term
use Rattle.pb_text_tree.specs.declared.term.Term.{Term}
use Rattle.pb_text_tree.specs.declared.term.TermLink.{TermLink}
use Rattle.pb_text_tree.specs.declared.term.ArithmeticLink.{ArithmeticLink}
use Rattle.pb_text_tree.specs.declared.term.Argument.{Argument}
use Rattle.pb_text_tree.specs.Form.{Named, VariableForm, TermForm, ArgumentForms, no_arguments, argument, named, variables_form, variable_forms, term_form, term_links, arithmetic_links, argument_forms, chained, calculated}
use Rattle.pb_text_tree.proofs.FormLemmas.{term-chain, term-arithmetic, term-application}

-- an argument with its place
abbrev pub placed_argument : Argument → Place × TermForm
placed_argument a = (a.place, term_form a.term)

pub group-copied : (a b : Variables) → map named a.names.items ≡ map named b.names.items → named a.sort ≡ named b.sort → variables_form a ≡ variables_form b
group-copied a b names sorts =
    by (named a.sort) a.names.items ∙ ap (λ v. map (sorted v) (map named a.names.items)) sorts
    ∙ ap (map (sorted (named b.sort))) names ∙ sym (by (named b.sort) b.names.items)
  where
    sorted : Named → Named → VariableForm
    sorted sort name = record { name = name; sort = sort }

    by : (sort : Named) (ns : List Name) → map (λ n. record { name = named n; sort = sort }) ns ≡ map (sorted sort) (map named ns)
    by sort [] = refl
    by sort (n ∷ ns) = ap (λ v. sorted sort (named n) ∷ v) (by sort ns)

abbrev joined : List (List VariableForm) → List VariableForm
joined [] = []
joined (g ∷ gs) = g ++ joined gs

groups-joined : (gs : List Variables) → variable_forms gs ≡ joined (map variables_form gs)
groups-joined [] = refl
groups-joined (g ∷ gs) = ap (λ v. variables_form g ++ v) (groups-joined gs)

pub variables-copied : (xs ys : List Variables) → map variables_form xs ≡ map variables_form ys → variable_forms xs ≡ variable_forms ys
variables-copied xs ys e = groups-joined xs ∙ ap joined e ∙ sym (groups-joined ys)

abbrev arguments_of : List (Place × TermForm) → ArgumentForms
arguments_of [] = no_arguments
arguments_of (x ∷ xs) = argument x.0 x.1 (arguments_of xs)

arguments-listed : (xs : List Argument) → argument_forms xs ≡ arguments_of (map placed_argument xs)
arguments-listed [] = refl
arguments-listed (x ∷ xs) = ap (argument x.place (term_form x.term)) (arguments-listed xs)

pub arguments-copied : (xs ys : List Argument) → map placed_argument xs ≡ map placed_argument ys → argument_forms xs ≡ argument_forms ys
arguments-copied xs ys e = arguments-listed xs ∙ ap arguments_of e ∙ sym (arguments-listed ys)

pub not-copied : (p : Place) (x y : Box Term Global) (b : Term) → b ≡ term.Not p y
    → term_form (box_value x) ≡ term_form (box_value y) → term_form (term.Not p x) ≡ term_form b
not-copied p x y b is operand = ap (TermForm.not p) operand ∙ ap term_form (sym is)

pub negative-copied : (p : Place) (x y : Box Term Global) (b : Term) → b ≡ term.Negative p y
    → term_form (box_value x) ≡ term_form (box_value y) → term_form (term.Negative p x) ≡ term_form b
negative-copied p x y b is operand = ap (TermForm.negative p) operand ∙ ap term_form (sym is)

pub comparison-copied : (p : Place) (o : Comparison) (x y u v : Box Term Global) (b : Term) → b ≡ term.Comparison p o y v
    → term_form (box_value x) ≡ term_form (box_value y) → term_form (box_value u) ≡ term_form (box_value v) → term_form (term.Comparison p o x u) ≡ term_form b
comparison-copied p o x y u v b is left right =
    ap (λ l. TermForm.compared o p l (term_form (box_value u))) left
    ∙ ap (TermForm.compared o p (term_form (box_value y))) right ∙ ap term_form (sym is)

pub chain-copied : (c : Connective) (x y : Box Term Global) (xs ys : Vec TermLink Global) (b : Term) → b ≡ term.Chain c y ys
    → term_form (box_value x) ≡ term_form (box_value y) → term_links xs.items ≡ term_links ys.items → term_form (term.Chain c x xs) ≡ term_form b
chain-copied c x y xs ys b is first links =
    term-chain c x xs ∙ ap (λ v. chained (TermForm.connected c) v (term_links xs.items)) first
    ∙ ap (λ v. chained (TermForm.connected c) (term_form (box_value y)) v) links ∙ sym (term-chain c y ys) ∙ ap term_form (sym is)

pub arithmetic-copied : (x y : Box Term Global) (xs ys : Vec ArithmeticLink Global) (b : Term) → b ≡ term.Arithmetic y ys
    → term_form (box_value x) ≡ term_form (box_value y) → arithmetic_links xs.items ≡ arithmetic_links ys.items → term_form (term.Arithmetic x xs) ≡ term_form b
arithmetic-copied x y xs ys b is first links =
    term-arithmetic x xs ∙ ap (λ v. calculated v (arithmetic_links xs.items)) first
    ∙ ap (λ v. calculated (term_form (box_value y)) v) links ∙ sym (term-arithmetic y ys) ∙ ap term_form (sym is)

pub application-copied : (f g : Name) (xs ys : Vec Argument Global) (b : Term) → b ≡ term.Application g ys
    → named f ≡ named g → argument_forms xs.items ≡ argument_forms ys.items → term_form (term.Application f xs) ≡ term_form b
application-copied f g xs ys b is name arguments =
    term-application f xs ∙ ap (λ v. TermForm.application v (argument_forms xs.items)) name
    ∙ ap (TermForm.application (named g)) arguments ∙ sym (term-application g ys) ∙ ap term_form (sym is)

pub quantified-copied : (p : Place) (q : Quantifier) (xs ys : Vec Variables Global) (x y : Box Term Global) (b : Term) → b ≡ term.Quantified p q ys y
    → variable_forms xs.items ≡ variable_forms ys.items → term_form (box_value x) ≡ term_form (box_value y) → term_form (term.Quantified p q xs x) ≡ term_form b
quantified-copied p q xs ys x y b is variables body =
    ap (λ v. TermForm.quantified q p v (term_form (box_value x))) variables
    ∙ ap (TermForm.quantified q p (variable_forms ys.items)) body ∙ ap term_form (sym is)
