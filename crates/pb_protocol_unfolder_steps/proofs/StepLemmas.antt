-- What is assigned, without what keeps its value, and the steps that may be taken.
use Rattle.std.proofs.Common.{◌≡◌, ◌∙◌, refl, sym, ap, ℕ, zero, ◌+◌, ◌<◌, suc, arith, Bool, true, false, not, Option, Some, None, length, drop, get_or, drop-cons, if◌then◌else◌, List, [], ◌∷◌, ◌++◌, map, filter, flat_map}
use Rattle.std.proofs.lemmas.List.{append_assoc, map-append}
use Rattle.std.specs.Prelude.{is_some, string_bytes}
use Rattle.pb_text_tree.specs.Form.{variable_forms}
use Rattle.pb_text_meaning.specs.Erase.{erased_variables}
use Rattle.pb_protocol_folding.specs.View.{term_of}
use Rattle.pb_model_tree.specs.declared.step.Step as declared_step
use Rattle.pb_text_tree.specs.declared.place.Place.{Place}
use Rattle.pb_text_meaning.specs.Syntax.{Name, Variable, Term, Spec}
use Rattle.pb_model_tree.specs.declared.step.Assignment as declared_assignment
use Rattle.pb_model_tree.specs.Form.{assignment_form}
use Rattle.pb_model_meaning.specs.Syntax as flat
use Rattle.pb_model_meaning.specs.Erase.{erased_assignment}
use Rattle.pb_protocol_folding.specs.Folding.{folded, is_false}
use Rattle.pb_protocol_folding.specs.FoldedModels.{folded_assignments, folded_assignment, folded_step, folded_steps, is_change, is_name, is_possible}
use Rattle.pb_protocol_meaning.specs.Syntax.{Assignment, Protocol}
use Rattle.pb_protocol_meaning.specs.Steps.{data_of}
use Rattle.pb_protocol_unfolding.specs.PutIn.{TermScope}
use Rattle.pb_protocol_unfolding.specs.Unfolding.{Element, Instance, name_of, instance_name, all_elements, own_left, own_scope, unfolded_assignment, unfolded_step, unfolded_term}
use Rattle.pb_protocol_unfolder_steps.specs.Steps.{change_of, changed, changes, kept_step, instance_step, step_assignment, is_kept, place_of_step, places_from, step_found, step_place, step_said}

-- one assignment that is folded is the change that it makes
change-of : (spec : Spec) (a : flat.Assignment) → folded_assignments spec (a ∷ []) ≡ change_of a.variable (folded spec false a.term)
change-of spec a = by (is_name a.variable (folded spec false a.term))
  where
    by : (b : Bool) → (if not b then folded_assignment spec a ∷ [] else []) ≡ (if b then [] else folded_assignment spec a ∷ [])
    by true = refl
    by false = refl

-- as the code meets it
pub changed-by : (m : Protocol) (ρ : TermScope) (bs : List Assignment) (e : Element) (x : Name) (t : Term) → x ≡ name_of e → t ≡ folded (data_of m) false (unfolded_assignment m ρ bs e).term
    → change_of x t ≡ changed m ρ bs e
changed-by m ρ bs e x t name term =
    ap (λ (y : Name). change_of y t) name ∙ ap (change_of (name_of e)) term ∙ sym (change-of (data_of m) (unfolded_assignment m ρ bs e))

-- ---- all elements

filter-both : {A : Type 0} (p : A → Bool) (xs ys : List A) → filter p (xs ++ ys) ≡ filter p xs ++ filter p ys
filter-both {A = A} p [] ys = refl
filter-both {A = A} p (x ∷ xs) ys = ap (λ v. if p x then x ∷ v else v) (filter-both p xs ys) ∙ by (p x) (filter p xs) (filter p ys)
  where
    by : (b : Bool) (us vs : List A) → (if b then x ∷ (us ++ vs) else us ++ vs) ≡ (if b then x ∷ us else us) ++ vs
    by true us vs = refl
    by false us vs = refl

-- the changes of elements are what a folded step assigns
pub changes-folded : (m : Protocol) (ρ : TermScope) (bs : List Assignment) (es : List Element) → changes m ρ bs es ≡ folded_assignments (data_of m) (map (unfolded_assignment m ρ bs) es)
changes-folded m ρ bs [] = refl
changes-folded m ρ bs (e ∷ es) =
    let x = folded_assignment (data_of m) (unfolded_assignment m ρ bs e) in
    ap (λ v. changed m ρ bs e ++ v) (changes-folded m ρ bs es)
    ∙ sym (filter-both is_change (x ∷ []) (map (folded_assignment (data_of m)) (map (unfolded_assignment m ρ bs) es)))

-- ---- steps

-- a flat step
abbrev pub made : Name → List Variable → Term → List flat.Assignment → flat.Step
made x vs g bs = record { name = x; variables = vs; guard = g; assignments = bs }

kept : (a : flat.Step) → is_possible a ≡ true → a ∷ [] ≡ filter is_possible (a ∷ [])
kept a possible = rw possible refl

dropped : (a : flat.Step) → is_possible a ≡ false → [] ≡ filter is_possible (a ∷ [])
dropped a impossible = rw impossible refl

-- a step with its values that may be taken, as the code makes it
pub step-kept : (m : Protocol) (i : Instance) (x : Name) (vs : List Variable) (g : Term) (bs : List flat.Assignment) → x ≡ instance_name i → vs ≡ own_left i.whole i.step.variables
    → g ≡ folded (data_of m) true (unfolded_term m (own_scope i) i.step.guard)
    → bs ≡ changes m (own_scope i) i.step.assignments (all_elements m) → not (is_false g) ≡ true → made x vs g bs ∷ [] ≡ kept_step m i
step-kept m i x vs g bs name left guard assigned possible =
    let us = own_left i.whole i.step.variables in
    let same : made x vs g bs ≡ instance_step m i =
    ap (λ (y : Name). made y vs g bs) name ∙ ap (λ (ws : List Variable). made (instance_name i) ws g bs) left ∙ ap (λ (t : Term). made (instance_name i) us t bs) guard
    ∙ ap (made (instance_name i) us (folded (data_of m) true (unfolded_term m (own_scope i) i.step.guard))) (assigned ∙ changes-folded m (own_scope i) i.step.assignments (all_elements m)) in
    ap (λ (a : flat.Step). a ∷ []) same ∙ kept (instance_step m i) (ap (λ (t : Term). not (is_false t)) (sym guard) ∙ possible)

-- and one that may not
pub step-dropped : (m : Protocol) (i : Instance) (g : Term) → g ≡ folded (data_of m) true (unfolded_term m (own_scope i) i.step.guard) → not (is_false g) ≡ false → [] ≡ kept_step m i
step-dropped m i g guard impossible = dropped (instance_step m i) (ap (λ (t : Term). not (is_false t)) (sym guard) ∙ impossible)

-- the steps that may be taken, one by one
pub kept-steps : (m : Protocol) (is : List Instance) → flat_map (kept_step m) is ≡ folded_steps (data_of m) (map (unfolded_step m) is)
kept-steps m [] = refl
kept-steps m (i ∷ is) =
    ap (λ v. kept_step m i ++ v) (kept-steps m is)
    ∙ sym (filter-both is_possible (instance_step m i ∷ []) (map (folded_step (data_of m)) (map (unfolded_step m) is)))

pub assignments-said : (bs : List declared_assignment.Assignment) → map step_assignment bs ≡ map erased_assignment (map assignment_form bs)
assignments-said [] = refl
assignments-said (b ∷ bs) = ap (λ v. step_assignment b ∷ v) (assignments-said bs)

-- ---- places

length-push : {A : Type 0} (xs : List A) (x : A) → length (xs ++ x ∷ []) ≡ suc (length xs)
length-push [] x = refl
length-push (y ∷ ys) x = ap suc (length-push ys x)

-- one more step stands behind the others
places-longer : (k n j : ℕ) → j ≡ k + n → places_from k n ++ place_of_step j ∷ [] ≡ places_from k (suc n)
places-longer k zero j e = let same : j ≡ k = omega (arith, e) in ap (λ (i : ℕ). place_of_step i ∷ []) same
places-longer k (suc n) j e = let next : j ≡ suc k + n = omega (arith, e) in ap (λ v. place_of_step k ∷ v) (places-longer (suc k) n j next)

pub one-place : (ss new : List declared_step.Step) (a : declared_step.Step) → new ≡ ss ++ a ∷ []
    → map step_place ss ≡ places_from 0 (length ss) → step_place a ≡ place_of_step (length ss)
    → map step_place new ≡ places_from 0 (length new)
one-place ss new a added before at =
    let n = length ss in
    let same : n ≡ 0 + n = omega arith in
    let more : suc n ≡ length new = sym (ap (λ (v : List declared_step.Step). length v) added ∙ length-push ss a) in
    ap (map step_place) added ∙ map-append step_place ss (a ∷ []) ∙ ap (λ v. v ++ step_place a ∷ []) before ∙ ap (λ (p : Place). places_from 0 n ++ p ∷ []) at
    ∙ places-longer 0 n n same ∙ ap (places_from 0) more

-- ---- the loop over steps with their values

pub drop-next : {A : Type 0} (xs : List A) (k : ℕ) (x : A) → k < length xs → x ≡ get_or xs k x → drop k xs ≡ x ∷ drop (k + 1) xs
drop-next xs k x h is =
    let next : suc k ≡ k + 1 = omega arith in
    drop-cons xs k x h ∙ ap (λ v. v ∷ drop (suc k) xs) (sym is) ∙ ap (λ (n : ℕ). x ∷ drop n xs) next

pub one-step : {A B : Type 0} (f : A → List B) (all old new found : List B) (a : A) (rest : List A) → new ≡ old ++ found
    → found ≡ f a → old ++ flat_map f (a ∷ rest) ≡ all → new ++ flat_map f rest ≡ all
one-step f all old new found a rest added same before =
    ap (λ v. v ++ flat_map f rest) (added ∙ ap (λ v. old ++ v) same) ∙ append_assoc old (f a) (flat_map f rest) ∙ before

pub one-kept : {A B : Type 0} (f : A → B) (all old new : List B) (b : B) (a : A) (rest : List A) → new ≡ old ++ b ∷ [] → b ≡ f a → old ++ map f (a ∷ rest) ≡ all → new ++ map f rest ≡ all
one-kept f all old new b a rest added same before =
    ap (λ v. v ++ map f rest) (added ∙ ap (λ v. old ++ v ∷ []) same) ∙ append_assoc old (f a ∷ []) (map f rest) ∙ before

nothing : (a : flat.Step) → [] ≡ a ∷ [] → ⊥
nothing a e = cc

something : (a : flat.Step) → a ∷ [] ≡ [] → ⊥
something a e = cc

-- a step is found where it may be taken
pub found-kept : (m : Protocol) (i : Instance) (found : Option declared_step.Step) → step_found found ≡ kept_step m i → is_some found ≡ is_kept m i
found-kept m i None e = by (is_kept m i) e
  where
    by : (b : Bool) → [] ≡ (if b then instance_step m i ∷ [] else []) → false ≡ b
    by true h = absurd (nothing (instance_step m i) h)
    by false h = refl
found-kept m i (Some a) e = by (is_kept m i) e
  where
    by : (b : Bool) → step_said a ∷ [] ≡ (if b then instance_step m i ∷ [] else []) → true ≡ b
    by true h = refl
    by false h = absurd (something (step_said a) h)

-- a step that the code makes
pub step-made : (a : declared_step.Step)
    → step_said a ≡ made (string_bytes a.name.text) (erased_variables (variable_forms a.variables.items)) (term_of a.guard) (map step_assignment a.assignments.items)
step-made a = ap (made (string_bytes a.name.text) (erased_variables (variable_forms a.variables.items)) (term_of a.guard)) (sym (assignments-said a.assignments.items))
