-- Chains and quantifiers of typed trees: what the code's flat nodes stand for.
use Rattle.std.proofs.Common.{◌≡◌, ℕ, suc, ◌+◌, List, [], ◌∷◌, length, refl, sym, ◌∙◌, ap, arith, Some}
use Rattle.pb_sorts.specs.declared.carrier.Carrier.{Carrier}
use Rattle.pb_text_tree.specs.declared.operator.Connective.{Connective}
use Rattle.pb_text_tree.specs.declared.operator.Connective.TheVariants.{And, Or, Implies}
use Rattle.pb_text_tree.specs.declared.operator.Quantifier.{Quantifier}
use Rattle.pb_text_tree.specs.declared.formula.Link.{Link}
use Rattle.pb_text_tree.specs.Form as form
use Rattle.pb_text_tree.specs.Form.{FormulaForm, formula_form, link_forms}
use Rattle.pb_text_meaning.specs.Syntax.{Variable, Spec}
use Rattle.pb_text_meaning.specs.Erase.{erased_formula}
use Rattle.pb_typing_declarations.specs.Shapes.{Shape, sort_shape}
use Rattle.pb_typing_declarations.specs.Entries.{carrier_shape}
use Rattle.pb_typing_rules.specs.Scope.{Scope}
use Rattle.pb_typing.specs.FormulaLinks.{elaborated_links}
use Rattle.pb_typing_tree.specs.Expansion.{expanded}
use Rattle.pb_typing_tree.specs.Tree.{Formula, Connected, Quantified}
use Rattle.pb_typing_tree.specs.Elaboration.{Slotting, with_slot, with_slots, each, elaborated, width}
use Rattle.pb_typing_tree.specs.Loops.{variable_shapes}
use Rattle.pb_typing_tree.specs.View.{chained_formula, nested}
use Rattle.pb_typing_declarations.specs.Entries.{shapes_of}

-- ---- formulas

pub chained-elaborated : (S : Spec) (o : Connective) (c : Slotting) (scope : Scope) (n : ℕ) (first : FormulaForm) (links : List Link)
    → elaborated S c scope n (expanded (erased_formula (form.chained (FormulaForm.connected o) first (link_forms links))))
    ≡ chained_formula (Connected o) (elaborated S c scope n (expanded (erased_formula first))) (elaborated_links S c scope (n + width (expanded (erased_formula first))) links)
chained-elaborated S o c scope n first [] = refl
chained-elaborated S And c scope n first (l ∷ ls) =
    ap (Connected And (elaborated S c scope n (expanded (erased_formula first))))
    (chained-elaborated S And c scope (n + width (expanded (erased_formula first))) (formula_form l.operand) ls)
chained-elaborated S Or c scope n first (l ∷ ls) =
    ap (Connected Or (elaborated S c scope n (expanded (erased_formula first))))
    (chained-elaborated S Or c scope (n + width (expanded (erased_formula first))) (formula_form l.operand) ls)
chained-elaborated S Implies c scope n first (l ∷ ls) =
    ap (Connected Implies (elaborated S c scope n (expanded (erased_formula first))))
    (chained-elaborated S Implies c scope (n + width (expanded (erased_formula first))) (formula_form l.operand) ls)

-- ---- quantifiers

pub each-nested : (S : Spec) (q : Quantifier) (xs : List Variable) (c : Slotting) (n : ℕ) (body : Slotting → ℕ → Formula) (carriers : List Carrier)
    → shapes_of carriers ≡ variable_shapes S xs → each S q xs c n body ≡ nested q n carriers (body (with_slots xs n c) (n + length xs))
each-nested S q [] c n body [] h = ap (body c) (omega arith)
each-nested S q [] c n body (k ∷ ks) h = absurd (cc)
each-nested S q (x ∷ xs) c n body [] h = absurd (cc)
each-nested S q (x ∷ xs) c n body (k ∷ ks) h =
    let first : carrier_shape (Some k) ≡ sort_shape S x.sort = cc in
    let others : shapes_of ks ≡ variable_shapes S xs = cc in
    ap (λ (s : Shape). Quantified q n s (each S q xs (with_slot x.name n c) (suc n) body)) (sym first)
    ∙ ap (Quantified q n (carrier_shape (Some k)))
    (each-nested S q xs (with_slot x.name n c) (suc n) body ks others
    ∙ ap (λ (m : ℕ). nested q (suc n) ks (body (with_slots xs (suc n) (with_slot x.name n c)) m)) (omega arith))
