-- A typed formula of the code has a place for each of its calls, and what data is read as has none.
use Rattle.std.proofs.Common.{◌≡◌, ℕ, suc, ◌+◌, Bool, true, false, ◌||◌, if◌then◌else◌, List, [], ◌∷◌, ◌++◌, length, refl, sym, ◌∙◌, ap, arith, Vec, Global, Box, flat_map}
use Rattle.std.specs.Prelude.{box_value}
use Rattle.std.proofs.lemmas.List.{append-nil, length-append}
use mathlib.Core.Former.{Count}
use Rattle.pb_sorts.specs.declared.carrier.Carrier.{Carrier}
use Rattle.pb_text_tree.specs.declared.operator.Connective.{Connective}
use Rattle.pb_text_tree.specs.declared.operator.Quantifier.{Quantifier}
use Rattle.pb_text_tree.specs.declared.place.Place.{Place}
use Rattle.pb_text_meaning.specs.Syntax as syntax
use Rattle.pb_text_meaning.specs.Syntax.{Variable, Operator, Spec}
use Rattle.pb_typing_rules.specs.Scope.{Scope, bound}
use Rattle.pb_typing_tree.specs.Tree as tree
use Rattle.pb_typing_tree.specs.Tree.{Connected}
use Rattle.pb_typing_tree.specs.declared.formula.Formula as formula
use Rattle.pb_typing_tree.specs.declared.formula.Formula.{Formula, Row_of-Formula, end_of-Formula, more_of-Formula, items-the_row-Formula, items_hidden-the_row-Formula-0}
use Rattle.pb_typing_tree.specs.Calls.{call_places, places_in, places_of, calls}
use Rattle.pb_typing_tree.specs.Elaboration.{Slotting, with_slot, each, elaborated, width}
use Rattle.pb_typing_tree.specs.Expansion.{connected, expanded_term, has_quantifier}
use Rattle.pb_typing_tree.specs.View.{chained_formula, nested, formula_view, formulas_in, formula_views}

-- ---- the operands of a chain

places-items : (n : _) (row : Row_of-Formula n) → places_in row ≡ places_of (items-the_row-Formula n row)
places-items n end_of-Formula = refl
places-items n (more_of-Formula f row) = ap (λ (ps : List Place). call_places f ++ ps) (places-items _ row)

abbrev row_in : Formula → (n : Count) × Row_of-Formula n
row_in (formula.Chain' c p first shape row) = (_, row)
row_in _ = (_, end_of-Formula)

pub chain-places : (c : Connective) (first : Box Formula Global) (v : Vec Formula Global) → call_places (formula.Chain c first v) ≡ call_places (box_value first) ++ places_of v.items
chain-places c first v =
    let row = row_in (formula.Chain c first v) in
    ap (λ (ps : List Place). call_places (box_value first) ++ ps) (places-items row.0 row.1 ∙ ap places_of (items_hidden-the_row-Formula-0 v))

-- ---- a place for each call

pub nested-calls : (q : Quantifier) (slot : ℕ) (cs : List Carrier) (f : tree.Formula) → calls (nested q slot cs f) ≡ calls f
nested-calls q slot [] f = refl
nested-calls q slot (c ∷ cs) f = nested-calls q (suc slot) cs f

mutual
  pub calls-counted : (f : Formula) → length (call_places f) ≡ calls (formula_view f)
  calls-counted (formula.Test x) = refl
  calls-counted (formula.Negation' p f) = calls-counted f
  calls-counted (formula.Chain' c p first shape row) = chain-counted c (call_places first) (formula_view first) (calls-counted first) row
  calls-counted (formula.Quantified' q slot cs p body) = calls-counted body ∙ sym (nested-calls q slot cs.items (formula_view body))
  calls-counted (formula.Call place X es) = refl

  chain-counted : {m : _} (c : Connective) (ps : List Place) (f : tree.Formula) → length ps ≡ calls f
      → (row : Row_of-Formula m) → length (ps ++ places_in row) ≡ calls (chained_formula (Connected c) f (formulas_in row))
  chain-counted c ps f counted end_of-Formula = ap length (append-nil ps) ∙ counted
  chain-counted c ps f counted (more_of-Formula g row) =
      omega (arith, length-append ps (call_places g ++ places_in row), counted, chain-counted c (call_places g) (formula_view g) (calls-counted g) row)

-- ---- data has no calls

each-calls : (S : Spec) (q : Quantifier) (xs : List Variable) (c : Slotting) (n : ℕ)
    (body : Slotting → ℕ → tree.Formula) → ((d : Slotting) (m : ℕ) → calls (body d m) ≡ 0) → calls (each S q xs c n body) ≡ 0
each-calls S q [] c n body h = h c n
each-calls S q (x ∷ xs) c n body h = each-calls S q xs (with_slot x.name n c) (suc n) body h

-- no call, in whatever scope
abbrev NoCalls : Spec → syntax.Formula → Type 0
NoCalls S f = (c : Slotting) (scope : Scope) (n : ℕ) → calls (elaborated S c scope n f) ≡ 0

either-calls : (S : Spec) (b : Bool) (f g : syntax.Formula) → NoCalls S f → NoCalls S g → NoCalls S (if b then f else g)
either-calls S true f g h k = h
either-calls S false f g h k = k

connected-calls : (S : Spec) (o : Operator) (f g other : syntax.Formula) → NoCalls S f → NoCalls S g → NoCalls S other → NoCalls S (connected o f g other)
connected-calls S Operator.And f g other h k l c scope n = omega (arith, h c scope n, k c scope (n + width f))
connected-calls S Operator.Or f g other h k l c scope n = omega (arith, h c scope n, k c scope (n + width f))
connected-calls S Operator.Implies f g other h k l c scope n = omega (arith, h c scope n, k c scope (n + width f))
connected-calls S Operator.Equal f g other h k l c scope n = l c scope n
connected-calls S Operator.NotEqual f g other h k l c scope n = l c scope n
connected-calls S Operator.Less f g other h k l c scope n = l c scope n
connected-calls S Operator.LessEqual f g other h k l c scope n = l c scope n
connected-calls S Operator.Greater f g other h k l c scope n = l c scope n
connected-calls S Operator.GreaterEqual f g other h k l c scope n = l c scope n
connected-calls S Operator.Plus f g other h k l c scope n = l c scope n
connected-calls S Operator.Minus f g other h k l c scope n = l c scope n
connected-calls S Operator.Times f g other h k l c scope n = l c scope n
connected-calls S Operator.Div f g other h k l c scope n = l c scope n
connected-calls S Operator.Mod f g other h k l c scope n = l c scope n

pub data-calls : (S : Spec) (x : syntax.Term) → NoCalls S (expanded_term x)
data-calls S (syntax.Term.Truth b) c scope n = refl
data-calls S (syntax.Term.Number k) c scope n = refl
data-calls S (syntax.Term.Named x) c scope n = refl
data-calls S (syntax.Term.Not x) c scope n =
    either-calls S (has_quantifier x) (syntax.Formula.Not (expanded_term x)) (syntax.Formula.Val (syntax.Term.Not x)) (data-calls S x) (λ d s m. refl) c scope n
data-calls S (syntax.Term.Negative x) c scope n = refl
data-calls S (syntax.Term.Binary o x y) c scope n =
    either-calls S (has_quantifier x || has_quantifier y)
    (connected o (expanded_term x) (expanded_term y) (syntax.Formula.Val (syntax.Term.Binary o x y)))
    (syntax.Formula.Val (syntax.Term.Binary o x y))
    (connected-calls S o (expanded_term x) (expanded_term y) _ (data-calls S x) (data-calls S y) (λ d s m. refl)) (λ d s m. refl) c scope n
data-calls S (syntax.Term.Apply f xs) c scope n = refl
data-calls S (syntax.Term.Quantified q xs x) c scope n =
    each-calls S q xs c n (λ d m. elaborated S d (bound S xs scope) m (expanded_term x)) (λ d m. data-calls S x d (bound S xs scope) m)

nothing_left : (ps : List Place) → length ps ≡ 0 → ps ≡ []
nothing_left [] none = refl
nothing_left (p ∷ ps) none = absurd (omega (arith, none))

-- a formula of the code without calls has no places
pub no_places : (f : Formula) → calls (formula_view f) ≡ 0 → call_places f ≡ []
no_places f none = nothing_left (call_places f) (calls-counted f ∙ none)
