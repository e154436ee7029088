-- The terms of the initial state, as the definitions have them.
use Rattle.std.proofs.Common.{◌≡◌, ◌≤◌, ◌<◌, ◌∙◌, ◌+◌, ℕ, suc, refl, sym, ap, arith, false, List, [], ◌∷◌, ◌++◌, map, flat_map, drop, get_or, length, min, drop-cons}
use Rattle.std.specs.Borrow.{Bor}
use Rattle.std.proofs.lemmas.List.{map-append, drop_all, length-append, length-map}
use Rattle.pb_text_tree.specs.declared.name.Name.{Name}
use Rattle.pb_text_tree.specs.declared.term.Argument.{Argument}
use Rattle.pb_text_tree.specs.Form.{argument_forms}
use Rattle.pb_text_meaning.specs.Syntax.{Variable, Term, Terms, Spec}
use Rattle.pb_text_meaning.specs.Erase.{erased_arguments}
use Rattle.pb_protocol_folding.specs.Folding.{folded, folded_arguments}
use Rattle.pb_protocol_tree.specs.declared.protocol.Protocol as declared_protocol
use Rattle.pb_protocol_tree.specs.declared.protocol.StateVariable as declared_variable
use Rattle.pb_protocol_tree.specs.declared.protocol.StateVariables as declared_state
use Rattle.pb_protocol_tree.specs.Form.{StateVariableForm, state_variable_form, state_variables_form}
use Rattle.pb_protocol_meaning.specs.Syntax.{StateVariable, Protocol}
use Rattle.pb_protocol_meaning.specs.Erase.{protocol_of, erased_state_variable}
use Rattle.pb_protocol_meaning.specs.Steps.{data_of}
use Rattle.pb_protocol_unfolding.specs.Written.{written_tuples}
use Rattle.pb_protocol_unfolding.specs.PutIn.{put_in}
use Rattle.pb_protocol_unfolding.specs.Unfolding.{forms_at_start, Element, all_elements, elements_of, terms_of, unfolded_initial, written}
use Rattle.pb_protocol_unfolder_steps.specs.Initial.{argument_term, indices_behind, indices_said, indices_of_state, term_at, terms_at, initial_terms_of}

-- ---- terms

-- arguments, one by one
pub arguments-said : (bs : List Argument) → terms_of (map argument_term bs) ≡ erased_arguments (argument_forms bs)
arguments-said [] = refl
arguments-said (b ∷ bs) = ap (Terms.Then (argument_term b)) (arguments-said bs)

folded-terms : (spec : Spec) (ts : List Term) → terms_of (map (folded spec false) ts) ≡ folded_arguments spec false (terms_of ts)
folded-terms spec [] = refl
folded-terms spec (t ∷ ts) = ap (Terms.Then (folded spec false t)) (folded-terms spec ts)

-- ---- variables

abbrev indices_in : StateVariable → List Variable
indices_in y = y.indices

indices-appended : (xs ys : List StateVariableForm)
    → map indices_in (map erased_state_variable (xs ++ ys))
    ≡ map indices_in (map erased_state_variable xs) ++ map indices_in (map erased_state_variable ys)
indices-appended [] ys = refl
indices-appended (x ∷ xs) ys = ap (λ v. indices_in (erased_state_variable x) ∷ v) (indices-appended xs ys)

of-group : (sort : Name) (ys : List declared_variable.StateVariable) → map indices_said ys ≡ map indices_in (map erased_state_variable (map (state_variable_form sort) ys))
of-group sort [] = refl
of-group sort (y ∷ ys) = ap (λ v. indices_said y ∷ v) (of-group sort ys)

of-state : (gs : List declared_state.StateVariables) → indices_of_state gs ≡ map indices_in (map erased_state_variable (flat_map state_variables_form gs))
of-state [] = refl
of-state (g ∷ gs) =
    ap (λ v. v ++ indices_of_state gs) (of-group g.sort g.variables.items)
    ∙ ap (λ v. map indices_in (map erased_state_variable (state_variables_form g)) ++ v) (of-state gs)
    ∙ sym (indices-appended (state_variables_form g) (flat_map state_variables_form gs))

abbrev element_at : StateVariable → List Term → Element
element_at y ks = record { array = y.name; index = ks; sort = y.sort }

-- there are as many tuples of indices as elements
as-many : (spec : Spec) (ys : List StateVariable) → length (flat_map (written_tuples spec) (map indices_in ys)) ≡ length (flat_map (elements_of spec) ys)
as-many spec [] = refl
as-many spec (y ∷ ys) =
    length-append (written_tuples spec y.indices) (flat_map (written_tuples spec) (map indices_in ys))
    ∙ ap (λ (n : ℕ). length (written_tuples spec y.indices) + n) (as-many spec ys)
    ∙ ap (λ (n : ℕ). n + length (flat_map (elements_of spec) ys)) (sym (length-map (written_tuples spec y.indices) (element_at y)))
    ∙ sym (length-append (elements_of spec y) (flat_map (elements_of spec) ys))

pub elements-counted : (p : declared_protocol.Protocol) → length (flat_map (written_tuples (data_of (protocol_of p))) (indices_of_state p.state.items)) ≡ length (all_elements (protocol_of p))
elements-counted p =
    let m = protocol_of p in
    ap (λ (v : List (List Variable)). length (flat_map (written_tuples (data_of m)) v)) (of-state p.state.items) ∙ as-many (data_of m) m.variables

-- ---- values

fused : (m : Protocol) (is : List Variable) (x : Term) (kss : List (List Term))
    → map (term_at m is x) kss
    ≡ map (folded (data_of m) false) (map (λ (ks : List Term). put_in (data_of m) (forms_at_start m) (written is ks) x) kss)
fused m is x [] = refl
fused m is x (ks ∷ kss) = ap (λ v. term_at m is x ks ∷ v) (fused m is x kss)

values : (m : Protocol) (ys : List StateVariable) (xs : List Argument)
    → initial_terms_of m (map indices_in ys) (map argument_term xs)
    ≡ map (folded (data_of m) false) (unfolded_initial (data_of m) (forms_at_start m) ys (terms_of (map argument_term xs)))
values m [] xs = refl
values m (y ∷ ys) [] = refl
values m (y ∷ ys) (x ∷ xs) =
    let f = folded (data_of m) false in
    let us = map (λ (ks : List Term). put_in (data_of m) (forms_at_start m) (written y.indices ks) (argument_term x)) (written_tuples (data_of m) y.indices) in
    ap (λ v. v ++ initial_terms_of m (map indices_in ys) (map argument_term xs)) (fused m y.indices (argument_term x) (written_tuples (data_of m) y.indices))
    ∙ ap (λ v. map f us ++ v) (values m ys xs)
    ∙ sym (map-append f us (unfolded_initial (data_of m) (forms_at_start m) ys (terms_of (map argument_term xs))))

-- the values that the code finds are those of the unfolded model, folded
pub initial-said : (p : declared_protocol.Protocol) (ts : List Argument)
    → map argument_term ts ≡ initial_terms_of (protocol_of p) (indices_of_state p.state.items) (map argument_term p.initial.values.items)
    → erased_arguments (argument_forms ts)
    ≡ folded_arguments (data_of (protocol_of p)) false (terms_of (unfolded_initial (data_of (protocol_of p)) (forms_at_start (protocol_of p)) (protocol_of p).variables (protocol_of p).initial))
initial-said p ts same =
    let m = protocol_of p in
    let xs = p.initial.values.items in
    sym (arguments-said ts) ∙ ap terms_of same
    ∙ ap (λ v. terms_of (initial_terms_of m v (map argument_term xs))) (of-state p.state.items)
    ∙ ap terms_of (values m m.variables xs)
    ∙ folded-terms (data_of m) (unfolded_initial (data_of m) (forms_at_start m) m.variables (terms_of (map argument_term xs)))
    ∙ ap (λ v. folded_arguments (data_of m) false (terms_of (unfolded_initial (data_of m) (forms_at_start m) m.variables v))) (arguments-said xs)

-- ---- the loop over variables and terms

abbrev left : Protocol → List (Bor declared_variable.StateVariable) → List Argument → List Term
left m ys xs = initial_terms_of m (map indices_behind ys) (map argument_term xs)

-- the values of one more variable stand first in what is left
pub one-more : (m : Protocol) (ys : List (Bor declared_variable.StateVariable)) (xs : List Argument) (k j : ℕ) (y : Bor declared_variable.StateVariable) (x : Argument) → j ≡ suc k
    → k < length ys → k < length xs → y ≡ get_or ys k y → x ≡ get_or xs k x
    → terms_at m (indices_said y.now) (argument_term x)
    ++ initial_terms_of m (map indices_behind (drop j ys)) (map argument_term (drop j xs))
    ≡ initial_terms_of m (map indices_behind (drop k ys)) (map argument_term (drop k xs))
one-more m ys xs k j y x next in-ys in-xs y-is x-is =
    let e : drop k ys ≡ y ∷ drop (suc k) ys = drop-cons ys k y in-ys ∙ ap (λ v. v ∷ drop (suc k) ys) (sym y-is) in
    let f : drop k xs ≡ x ∷ drop (suc k) xs = drop-cons xs k x in-xs ∙ ap (λ v. v ∷ drop (suc k) xs) (sym x-is) in
    ap (λ (n : ℕ). terms_at m (indices_said y.now) (argument_term x) ++ left m (drop n ys) (drop n xs)) next
    ∙ sym (ap (λ v. left m v (drop k xs)) e ∙ ap (λ v. left m (y ∷ drop (suc k) ys) v) f)

none : (m : Protocol) (iss : List (List Variable)) → initial_terms_of m iss [] ≡ []
none m [] = refl
none m (is ∷ iss) = refl

ys-end : (m : Protocol) (ys : List (Bor declared_variable.StateVariable)) (xs : List Argument) (k : ℕ) → length ys ≤ k → left m (drop k ys) (drop k xs) ≡ []
ys-end m ys xs k h = ap (λ v. left m v (drop k xs)) (drop_all k ys h)

xs-end : (m : Protocol) (ys : List (Bor declared_variable.StateVariable)) (xs : List Argument) (k : ℕ) → length xs ≤ k → left m (drop k ys) (drop k xs) ≡ []
xs-end m ys xs k h = ap (λ v. left m (drop k ys) v) (drop_all k xs h) ∙ none m (map indices_behind (drop k ys))

-- where the shorter of both ends nothing is left
pub nothing-left : (m : Protocol) (ys : List (Bor declared_variable.StateVariable)) (xs : List Argument) (k : ℕ) → min (length ys) (length xs) ≤ k → left m (drop k ys) (drop k xs) ≡ []
nothing-left m ys xs k h = grind (arith, ys-end m ys xs k, xs-end m ys xs k)
