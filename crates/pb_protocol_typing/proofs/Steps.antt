-- Indices that are plainly the same, and terms of `init`, as the code meets them.
use Rattle.std.proofs.Common.{◌≡◌, ◌≢◌, ℕ, suc, ◌+◌, ◌<◌, Bool, true, false, ◌&&◌, List, [], ◌∷◌, length, get_or, drop, refl, sym, ◌∙◌, ap, arith}
use Rattle.std.specs.List.{slice_get}
use Rattle.pb_sorts.proofs.Places.{drop-at}
use Rattle.pb_text_tree.specs.declared.term.Argument.{Argument}
use Rattle.pb_text_tree.specs.Form.{term_form, argument_forms}
use Rattle.pb_text_meaning.specs.Syntax.{Spec}
use Rattle.pb_protocol_tree.specs.Form.{StateVariableForm}
use Rattle.pb_protocol_typing.specs.Fault.{either_fault}
use Rattle.pb_protocol_typing.specs.Indices.{is_same_term, are_same, index_term}
use Rattle.pb_protocol_typing.specs.Scopes.{Signatures}
use Rattle.pb_protocol_typing.specs.Steps.{count, element_value_fault, elements_fault}

both_false : (b c : Bool) → c ≡ false → false ≡ (b && c)
both_false true c e = sym e
both_false false c e = refl

-- indices of other lengths
pub other-lengths : (xs ys : List Argument) → length xs ≢ length ys → false ≡ are_same (argument_forms xs) (argument_forms ys)
other-lengths [] [] n = absurd (n refl)
other-lengths [] (y ∷ ys) n = refl
other-lengths (x ∷ xs) [] n = refl
other-lengths (x ∷ xs) (y ∷ ys) n = both_false (is_same_term (index_term (term_form x.term)) (index_term (term_form y.term))) _ (sym (other-lengths xs ys (λ e. n (ap suc e))))

pub same-next : (xs ys : List Argument) (k : ℕ) (x y : Argument) → k < length xs → k < length ys → x ≡ get_or xs k x → y ≡ get_or ys k y
    → are_same (argument_forms (drop k xs)) (argument_forms (drop k ys))
    ≡ (is_same_term (index_term (term_form x.term)) (index_term (term_form y.term)) && are_same (argument_forms (drop (k + 1) xs)) (argument_forms (drop (k + 1) ys)))
same-next xs ys k x y lt below at is =
    ap (λ (zs : List Argument). are_same (argument_forms zs) (argument_forms (drop k ys))) (drop-at xs k x lt at)
    ∙ ap (λ (zs : List Argument). are_same (argument_forms (x ∷ drop (k + 1) xs)) (argument_forms zs)) (drop-at ys k y below is)

pub count_length : (es : List Argument) → count (argument_forms es) ≡ length es
count_length [] = refl
count_length (e ∷ es) = let h : count (argument_forms es) ≡ length es = count_length es in omega (arith, h)

pub element-next : (spec : Spec) (known : Signatures) (ys : List StateVariableForm) (es : List Argument) (k : ℕ) (e : Argument) → k < length es → e ≡ get_or es k e
    → elements_fault spec known k ys (argument_forms (drop k es))
    ≡ either_fault (element_value_fault spec known (slice_get ys k) e.place (term_form e.term))
    (elements_fault spec known (k + 1) ys (argument_forms (drop (k + 1) es)))
element-next spec known ys es k e below at = ap (λ (xs : List Argument). elements_fault spec known k ys (argument_forms xs)) (drop-at es k e below at)
