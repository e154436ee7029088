-- Chains and their negations: the links as they stand in their node are those of their vector, and the `!` of implications, which are put in from the last operand on.
use Rattle.std.proofs.Common.{◌≡◌, ◌∙◌, refl, sym, ap, List, [], ◌∷◌, ◌++◌, map, reverse, Some, None, Vec, Global, Box}
use Rattle.std.specs.Prelude.{box_value, Option}
use Rattle.std.proofs.lemmas.List.{reverse-append}
use Rattle.pb_text_tree.specs.declared.place.Place.{Place}
use Rattle.pb_text_tree.specs.declared.operator.Connective.{Connective}
use Rattle.pb_text_tree.specs.declared.operator.Connective.TheVariants as connective
use Rattle.pb_text_tree.specs.Form.{chained}
use Rattle.pb_protocol_tree.specs.declared.formula.Formula as formula
use Rattle.pb_protocol_tree.specs.declared.formula.Formula.{Formula, Row_of-Link, end_of-Link, more_of-Link, items-the_row-Link, items_hidden-the_row-Link-0}
use Rattle.pb_protocol_tree.specs.declared.formula.Link.{Link}
use Rattle.pb_protocol_tree.specs.Form.{FormulaForm, formula_form, links_in}
use Rattle.pb_protocol_negation.specs.Negated.{negated, negated_connection}
use Rattle.pb_protocol_negation.specs.Links.{link_form, negated_link, antecedent}
use mathlib.Core.Former.{Count}

links-items : (n : _) (row : Row_of-Link n) → links_in row ≡ map link_form (items-the_row-Link n row)
links-items n end_of-Link = refl
links-items n (more_of-Link place operand row) = ap (λ v. (place, formula_form operand) ∷ v) (links-items _ row)

abbrev row_in : Formula → (n : Count) × Row_of-Link n
row_in (formula.Chain' c p first shape row) = (_, row)
row_in _ = (_, end_of-Link)

pub chain-form : (c : Connective) (first : Box Formula Global) (v : Vec Link Global)
    → formula_form (formula.Chain c first v) ≡ chained (FormulaForm.connected c) (formula_form (box_value first)) (map link_form v.items)
chain-form c first v =
    let row = row_in (formula.Chain c first v) in
    ap (chained (FormulaForm.connected c) (formula_form (box_value first))) (links-items row.0 row.1 ∙ ap (map link_form) (items_hidden-the_row-Link-0 v))

negated-chained : (c : Connective) (f : FormulaForm) (ls : List (Place × FormulaForm))
    → negated (chained (FormulaForm.connected c) f ls) ≡ chained (negated_connection c) (negated f) (map negated_link ls)
negated-chained c f [] = refl
negated-chained c f (l ∷ ls) = ap (negated_connection c l.0 (negated f)) (negated-chained c l.1 ls)

pub chain-negated : (c : Connective) (x : Box Formula Global) (xs : List Link) (y : Box Formula Global) (ys : Vec Link Global) → formula_form (box_value x) ≡ negated (formula_form (box_value y))
    → map link_form xs ≡ map negated_link (map link_form ys.items) → chained (negated_connection c) (formula_form (box_value x)) (map link_form xs) ≡ negated (formula_form (formula.Chain c y ys))
chain-negated c x xs y ys first links =
    ap (λ v. chained (negated_connection c) v (map link_form xs)) first ∙ ap (chained (negated_connection c) (negated (formula_form (box_value y)))) links
    ∙ sym (negated-chained c (formula_form (box_value y)) (map link_form ys.items)) ∙ ap negated (sym (chain-form c y ys))

-- ---- connectives that become their duals

same-joined : (j k : Place → FormulaForm → FormulaForm → FormulaForm) → ((p : Place) (f g : FormulaForm) → j p f g ≡ k p f g) → (f : FormulaForm) (ls : List (Place × FormulaForm)) →
    chained j f ls ≡ chained k f ls
same-joined j k same f [] = refl
same-joined j k same f (l ∷ ls) = same l.0 f (chained j l.1 ls) ∙ ap (k l.0 f) (same-joined j k same l.1 ls)

pub chain-and : (x : Box Formula Global) (v : Vec Link Global)
    → formula_form (formula.Chain connective.Or x v)
    ≡ chained (negated_connection connective.And) (formula_form (box_value x)) (map link_form v.items)
chain-and x v =
    chain-form connective.Or x v
    ∙ same-joined (FormulaForm.connected connective.Or) (negated_connection connective.And) (λ p f g. refl)
    (formula_form (box_value x)) (map link_form v.items)

pub chain-or : (x : Box Formula Global) (v : Vec Link Global)
    → formula_form (formula.Chain connective.And x v)
    ≡ chained (negated_connection connective.Or) (formula_form (box_value x)) (map link_form v.items)
chain-or x v =
    chain-form connective.And x v
    ∙ same-joined (FormulaForm.connected connective.And) (negated_connection connective.Or) (λ p f g. refl)
    (formula_form (box_value x)) (map link_form v.items)

-- ---- implications

-- the negation where these links are left and those behind them, of which the first is by this `=>`, are done
abbrev pub begun : FormulaForm → List (Place × FormulaForm) → Option Place → List (Place × FormulaForm) → FormulaForm
begun f [] implication done = chained (FormulaForm.connected connective.And) (antecedent implication f) done
begun f (l ∷ ls) implication done = negated_connection connective.Implies l.0 f (begun l.1 ls implication done)

pub begun-nowhere : (f : FormulaForm) (ls : List (Place × FormulaForm)) → begun f ls None [] ≡ chained (negated_connection connective.Implies) f ls
begun-nowhere f [] = refl
begun-nowhere f (l ∷ ls) = ap (negated_connection connective.Implies l.0 f) (begun-nowhere l.1 ls)

begun-last : (f : FormulaForm) (xs : List Link) (l : Link) (implication : Option Place) (done : List (Place × FormulaForm)) →
    begun f (map link_form (xs ++ (l ∷ []))) implication done ≡ begun f (map link_form xs) (Some l.place) ((l.place, antecedent implication (formula_form l.operand)) ∷ done)
begun-last f [] l implication done = refl
begun-last f (x ∷ xs) l implication done = ap (negated_connection connective.Implies x.place f) (begun-last (formula_form x.operand) xs l implication done)

-- a link that is pushed stands first, in reverse
pushed-first : (xs : List Link) (x : Link) → map link_form (reverse (xs ++ (x ∷ []))) ≡ link_form x ∷ map link_form (reverse xs)
pushed-first xs x = ap (map link_form) (reverse-append xs (x ∷ []))

pub begun-next : (f : FormulaForm) (xs ys : List Link) (l n : Link) (implication : Option Place) (done pushed : List Link) (whole : FormulaForm) → ys ≡ xs ++ (l ∷ []) → pushed ≡ done ++ (n ∷ []) →
    n.place ≡ l.place → formula_form n.operand ≡ antecedent implication (formula_form l.operand) → begun f (map link_form ys) implication (map link_form (reverse done)) ≡ whole →
    begun f (map link_form xs) (Some l.place) (map link_form (reverse pushed)) ≡ whole
begun-next f xs ys l n implication done pushed whole popped push place operand e =
    let go : List (Place × FormulaForm) → FormulaForm = begun f (map link_form xs) (Some l.place) in
    ap (λ (ks : List Link). go (map link_form (reverse ks))) push ∙ ap go (pushed-first done n)
    ∙ ap (λ (p : Place). go ((p, formula_form n.operand) ∷ map link_form (reverse done))) place
    ∙ ap (λ (g : FormulaForm). go ((l.place, g) ∷ map link_form (reverse done))) operand
    ∙ sym (begun-last f xs l implication (map link_form (reverse done)))
    ∙ ap (λ (ks : List Link). begun f (map link_form ks) implication (map link_form (reverse done))) (sym popped) ∙ e

-- where no link is left the chain is whole
pub begun-all : (f : FormulaForm) (x : Box Formula Global) (v : Vec Link Global) (ys : List Link)
    (implication : Option Place) (done : List Link) (whole : FormulaForm) → ys ≡ [] → v.items ≡ reverse done →
    formula_form (box_value x) ≡ antecedent implication f → begun f (map link_form ys) implication (map link_form (reverse done)) ≡ whole → formula_form (formula.Chain connective.And x v) ≡ whole
begun-all f x v ys implication done whole none reversed first e =
    chain-form connective.And x v ∙ ap (λ g. chained (FormulaForm.connected connective.And) g (map link_form v.items)) first
    ∙ ap (λ (ks : List Link). chained (FormulaForm.connected connective.And) (antecedent implication f) (map link_form ks)) reversed
    ∙ ap (λ (ks : List Link). begun f (map link_form ks) implication (map link_form (reverse done))) (sym none) ∙ e
