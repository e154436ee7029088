-- A formula in normal form has the truth of the formula that it comes from.
use Rattle.std.proofs.Common.{◌≡◌, ℕ, suc, ◌+◌, Bool, true, false, not, ◌||◌, ◌&&◌, List, [], ◌∷◌, Option, Some, None, refl, sym, ◌∙◌, ap}
use Rattle.pb_fixpoint.specs.Solution.{Environment}
use Rattle.pb_text_tree.specs.declared.operator.Connective.TheVariants as connective
use Rattle.pb_text_tree.specs.declared.operator.Quantifier.{Quantifier}
use Rattle.pb_text_tree.specs.declared.operator.Quantifier.TheVariants.{Forall, Exists}
use Rattle.pb_base_values.specs.Carrier.{Value, Carrier}
use Rattle.pb_text_meaning.specs.Syntax as syntax
use Rattle.pb_text_meaning.specs.Syntax.{Name, Variable, Spec}
use Rattle.pb_text_meaning.specs.Sorts.{carrier_of}
use Rattle.pb_text_meaning.specs.Value.{Assignment, of_values, is_true}
use Rattle.pb_text_meaning.specs.Formula as meaning
use Rattle.pb_text_meaning.specs.Formula.{Instance}
use Rattle.pb_text_meaning.specs.Positive.{IsPositive}
use Rattle.pb_text_meaning.proofs.Truths.{is_true-of_bool}
use Rattle.pb_typing_declarations.specs.Shapes.{shape_carrier, sort_shape}
use Rattle.pb_typing_rules.specs.Faults.{left_parity}
use Rattle.pb_typing_rules.specs.Scope.{Scope, bound}
use Rattle.pb_typing_tree.specs.Tree as typed
use Rattle.pb_typing_tree.specs.Meaning as tree
use Rattle.pb_typing_tree.specs.Elaboration as made
use Rattle.pb_typing_tree.proofs.Expanded.{same-of-values}
use Rattle.pb_typing_tree.proofs.Truth.{elaborated-truth}
use Rattle.pb_fixpoint_trees.specs.declared.junction.Junction.TheVariants.{Conjunction, Disjunction}
use Rattle.pb_normal.specs.Normal.{Term, Argument, Slots, set, joined, truth, value}
use Rattle.pb_normal.specs.Normalisation as normalisation
use Rattle.pb_normal.specs.Normalisation.{Slotting, with_slot, width, signed_test, signed_junction, signed_quantifier, arguments, place_of}
use Rattle.pb_normal.specs.SignedForm.{signed_form}
use Rattle.pb_normal.specs.Plain.{IsPlain, AreFree, Agree, signed}
use Rattle.pb_normal.proofs.SignedForms.{normal-signed}

-- ---- signs

signed-not : (even b : Bool) → signed (not even) b ≡ signed even (not b)
signed-not true b = refl
signed-not false true = refl
signed-not false false = refl

joined-and : (even x y : Bool) → joined (signed_junction Conjunction even) (signed even x) (signed even y) ≡ signed even (x && y)
joined-and true x y = refl
joined-and false true y = refl
joined-and false false y = refl

joined-or : (even x y : Bool) → joined (signed_junction Disjunction even) (signed even x) (signed even y) ≡ signed even (x || y)
joined-or true x y = refl
joined-or false true y = refl
joined-or false false y = refl

joined-implies : (even x y : Bool) → joined (signed_junction Disjunction even) (signed (not even) x) (signed even y) ≡ signed even (not x || y)
joined-implies true x y = refl
joined-implies false true y = refl
joined-implies false false y = refl

signed-values : (q : Quantifier) (even : Bool) (p : Value → Bool) (vs : Carrier) → of_values (signed_quantifier q even) (λ v. signed even (p v)) vs ≡ signed even (of_values q p vs)
signed-values Forall true p vs = refl
signed-values Exists true p vs = refl
signed-values Forall false p [] = refl
signed-values Forall false p (v ∷ vs) = ap (λ b. not (p v) || b) (signed-values Forall false p vs) ∙ joined-and false (p v) (of_values Forall p vs)
signed-values Exists false p [] = refl
signed-values Exists false p (v ∷ vs) = ap (λ b. not (p v) && b) (signed-values Exists false p vs) ∙ joined-or false (p v) (of_values Exists p vs)

signed-test : (spec : Spec) (a : Slots) (t : Environment Instance) (even : Bool) (x : Term) → truth spec a t (signed_test even x) ≡ signed even (is_true (value a x))
signed-test spec a t true x = refl
signed-test spec a t false x = is_true-of_bool _

-- ---- calls of typed trees

-- a call stands under an even number of negations alone
abbrev IsPositiveTree : Bool → typed.Formula → Type 0
IsPositiveTree even (typed.Test x) = Unit {0}
IsPositiveTree even (typed.Negation f) = IsPositiveTree (not even) f
IsPositiveTree even (typed.Connected c f g) = IsPositiveTree (left_parity c even) f × IsPositiveTree even g
IsPositiveTree even (typed.Quantified q s shape f) = IsPositiveTree even f
IsPositiveTree even (typed.Call X es) = even ≡ true

each-positive : (spec : Spec) (even : Bool) (q : Quantifier) (xs : List Variable) (body : Slotting → ℕ → typed.Formula)
    → ((c : Slotting) (n : ℕ) → IsPositiveTree even (body c n)) → (c : Slotting) (n : ℕ)
    → IsPositiveTree even (made.each spec q xs c n body)
each-positive spec even q [] body h c n = h c n
each-positive spec even q (x ∷ xs) body h c n = each-positive spec even q xs body h (with_slot x.name n c) (suc n)

call-positive : (even : Bool) (o : Option ℕ) (es : List Argument) → even ≡ true → IsPositiveTree even (made.call o es)
call-positive even None es h = tt
call-positive even (Some X) es h = h

tree-positive : (spec : Spec) (f : syntax.Formula) (even : Bool) (scope : Scope) (c : Slotting) (n : ℕ) → IsPositive even f → IsPositiveTree even (made.elaborated spec c scope n f)
tree-positive spec (syntax.Formula.Truth b) even scope c n h = tt
tree-positive spec (syntax.Formula.Val x) even scope c n h = tt
tree-positive spec (syntax.Formula.Not f) even scope c n h = tree-positive spec f (not even) scope c n h
tree-positive spec (syntax.Formula.And f g) even scope c n h = (tree-positive spec f even scope c n h.0, tree-positive spec g even scope c (n + width f) h.1)
tree-positive spec (syntax.Formula.Or f g) even scope c n h = (tree-positive spec f even scope c n h.0, tree-positive spec g even scope c (n + width f) h.1)
tree-positive spec (syntax.Formula.Implies f g) even scope c n h = (tree-positive spec f (not even) scope c n h.0, tree-positive spec g even scope c (n + width f) h.1)
tree-positive spec (syntax.Formula.Quantified q xs f) even scope c n h =
    each-positive spec even q xs (λ d m. made.elaborated spec d (bound spec xs scope) m f) (λ d m. tree-positive spec f even (bound spec xs scope) d m h) c n
tree-positive spec (syntax.Formula.Call X es) even scope c n h = call-positive even (place_of 0 spec.equations X) (arguments spec c scope es) h

-- ---- formulas

-- the normal form of a typed tree has the tree's truth, and under an odd number of negations the opposite one
signed-truth : (spec : Spec) (t : Environment Instance) (f : typed.Formula) (even : Bool) (a : Slots)
    → IsPositiveTree even f → truth spec a t (signed_form even f) ≡ signed even (tree.truth spec a t f)
signed-truth spec t (typed.Test x) even a h = signed-test spec a t even x
signed-truth spec t (typed.Negation f) even a h = signed-truth spec t f (not even) a h ∙ signed-not even (tree.truth spec a t f)
signed-truth spec t (typed.Connected connective.And f g) even a h =
    ap (λ b. joined (signed_junction Conjunction even) b (truth spec a t (signed_form even g))) (signed-truth spec t f even a h.0)
    ∙ ap (joined (signed_junction Conjunction even) (signed even (tree.truth spec a t f))) (signed-truth spec t g even a h.1)
    ∙ joined-and even (tree.truth spec a t f) (tree.truth spec a t g)
signed-truth spec t (typed.Connected connective.Or f g) even a h =
    ap (λ b. joined (signed_junction Disjunction even) b (truth spec a t (signed_form even g))) (signed-truth spec t f even a h.0)
    ∙ ap (joined (signed_junction Disjunction even) (signed even (tree.truth spec a t f))) (signed-truth spec t g even a h.1)
    ∙ joined-or even (tree.truth spec a t f) (tree.truth spec a t g)
signed-truth spec t (typed.Connected connective.Implies f g) even a h =
    ap (λ b. joined (signed_junction Disjunction even) b (truth spec a t (signed_form even g))) (signed-truth spec t f (not even) a h.0)
    ∙ ap (joined (signed_junction Disjunction even) (signed (not even) (tree.truth spec a t f))) (signed-truth spec t g even a h.1)
    ∙ joined-implies even (tree.truth spec a t f) (tree.truth spec a t g)
signed-truth spec t (typed.Quantified q s shape f) even a h =
    same-of-values (signed_quantifier q even) (λ v. truth spec (set a s v) t (signed_form even f))
    (λ v. signed even (tree.truth spec (set a s v) t f)) (λ v. signed-truth spec t f even (set a s v) h) (shape_carrier shape)
    ∙ signed-values q even (λ v. tree.truth spec (set a s v) t f) (shape_carrier shape)
signed-truth spec t (typed.Call X es) even a h = ap (λ b. signed b (tree.truth spec a t (typed.Call X es))) (sym h)

abbrev HasCarriers : Spec → Type 0
HasCarriers spec = (s : Name) → carrier_of spec s ≡ shape_carrier (sort_shape spec s)

pub normal-truth : (spec : Spec) (t : Environment Instance) (f : syntax.Formula) (even : Bool) (scope : Scope) → HasCarriers spec → IsPositive even f → IsPlain f
    → (c : Slotting) (n : ℕ) (a : Slots) (g : Assignment) → AreFree c n → Agree c a g → truth spec a t (normalisation.normal spec even c scope n f) ≡ signed even (meaning.truth spec g t f)
normal-truth spec t f even scope carriers positive plain c n a g free agree =
    ap (truth spec a t) (normal-signed spec f even scope c n positive)
    ∙ signed-truth spec t (made.elaborated spec c scope n f) even a (tree-positive spec f even scope c n positive)
    ∙ ap (signed even) (elaborated-truth spec t f scope carriers plain c n a g free agree)
