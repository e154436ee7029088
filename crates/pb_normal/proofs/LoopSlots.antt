-- The quantifiers of a normal form, each with its slot and the shape of its values.
use Rattle.std.proofs.Common.{◌≡◌, ℕ, suc, ◌+◌, Bool, true, false, not, List, [], ◌∷◌, ◌++◌, length, Option, Some, None, refl, sym, ◌∙◌, ap, arith}
use Rattle.pb_text_tree.specs.declared.operator.Quantifier.{Quantifier}
use Rattle.pb_text_meaning.specs.Syntax as syntax
use Rattle.pb_text_meaning.specs.Syntax.{Variable, Equation, Spec}
use Rattle.pb_typing_declarations.specs.Shapes.{Shape, sort_shape}
use Rattle.pb_typing_rules.specs.Scope.{Scope, bound}
use Rattle.pb_typing_rules.specs.WellTyped.{parameter_scope}
use Rattle.pb_normal.specs.Expansion.{expanded}
use Rattle.pb_normal.specs.Equations.{normal_equation}
use Rattle.pb_normal.specs.Loops.{loops, equation_loops, variable_shapes}
use Rattle.pb_normal.specs.Normal.{Term, Argument, Formula}
use Rattle.pb_normal.specs.Normalisation.{Slotting, unslotted, with_slot, with_slots, slotted, width, signed_test, signed_quantifier, each, arguments, place_of, call, normal}
use Rattle.pb_normal.specs.SlotOrder.{quantifiers, numbered_slots}
use Rattle.pb_typing.proofs.LoopCount.{length-loops}

numbered-append : (n : ℕ) (ss ts : List Shape) → numbered_slots n (ss ++ ts) ≡ numbered_slots n ss ++ numbered_slots (n + length ss) ts
numbered-append n [] ts = let none : n ≡ n + 0 = omega arith in ap (λ (a : ℕ). numbered_slots a ts) none
numbered-append n (s ∷ ss) ts =
    let next : suc n + length ss ≡ n + suc (length ss) = omega arith in
    ap (λ (qs : List (ℕ × Shape)). (n, s) ∷ qs) (numbered-append (suc n) ss ts ∙ ap (λ (a : ℕ). numbered_slots (suc n) ss ++ numbered_slots a ts) next)

pub test-quantifiers : (even : Bool) (x : Term) → quantifiers (signed_test even x) ≡ []
test-quantifiers true x = refl
test-quantifiers false x = refl

pub call-quantifiers : (o : Option ℕ) (es : List Argument) → quantifiers (call o es) ≡ []
call-quantifiers None es = refl
call-quantifiers (Some X) es = refl

join-quantifiers : (n w : ℕ) (xs ys : List (ℕ × Shape)) (ss ts : List Shape) → length ss ≡ w → xs ≡ numbered_slots n ss → ys ≡ numbered_slots (n + w) ts → xs ++ ys ≡ numbered_slots n (ss ++ ts)
join-quantifiers n w xs ys ss ts count h k =
    ap (λ (qs : List (ℕ × Shape)). qs ++ ys) h
    ∙ (ap (λ (qs : List (ℕ × Shape)). numbered_slots n ss ++ qs) (k ∙ ap (λ (a : ℕ). numbered_slots (n + a) ts) (sym count)) ∙ sym (numbered-append n ss ts))

each-quantifiers : (spec : Spec) (m : Quantifier) (xs : List Variable) (body : Slotting → ℕ → Formula) (ss : List Shape) → ((c : Slotting) (n : ℕ) → quantifiers (body c n) ≡ numbered_slots n ss)
    → (c : Slotting) (n : ℕ) → quantifiers (each spec m xs c n body) ≡ numbered_slots n (variable_shapes spec xs ++ ss)
each-quantifiers spec m [] body ss says c n = says c n
each-quantifiers spec m (x ∷ xs) body ss says c n =
    ap (λ (qs : List (ℕ × Shape)). (n, sort_shape spec x.sort) ∷ qs) (each-quantifiers spec m xs body ss says (with_slot x.name n c) (suc n))

pub normal-quantifiers : (spec : Spec) (f : syntax.Formula) (even : Bool) (scope : Scope) (c : Slotting) (n : ℕ) → quantifiers (normal spec even c scope n f) ≡ numbered_slots n (loops spec f)
normal-quantifiers spec (syntax.Formula.Truth b) even scope c n = test-quantifiers even (Term.Truth b)
normal-quantifiers spec (syntax.Formula.Val x) even scope c n = test-quantifiers even (slotted spec c x)
normal-quantifiers spec (syntax.Formula.Not f) even scope c n = normal-quantifiers spec f (not even) scope c n
normal-quantifiers spec (syntax.Formula.And f g) even scope c n =
    join-quantifiers n (width f) _ _ (loops spec f) (loops spec g) (length-loops spec f) (normal-quantifiers spec f even scope c n) (normal-quantifiers spec g even scope c (n + width f))
normal-quantifiers spec (syntax.Formula.Or f g) even scope c n =
    join-quantifiers n (width f) _ _ (loops spec f) (loops spec g) (length-loops spec f) (normal-quantifiers spec f even scope c n) (normal-quantifiers spec g even scope c (n + width f))
normal-quantifiers spec (syntax.Formula.Implies f g) even scope c n =
    join-quantifiers n (width f) _ _ (loops spec f) (loops spec g) (length-loops spec f) (normal-quantifiers spec f (not even) scope c n) (normal-quantifiers spec g even scope c (n + width f))
normal-quantifiers spec (syntax.Formula.Quantified q xs f) even scope c n =
    each-quantifiers spec (signed_quantifier q even) xs (λ d m. normal spec even d (bound spec xs scope) m f) (loops spec f) (normal-quantifiers spec f even (bound spec xs scope)) c n
normal-quantifiers spec (syntax.Formula.Call X es) even scope c n = call-quantifiers (place_of 0 spec.equations X) (arguments spec c scope es)

pub equation-quantifiers : (spec : Spec) (X : Equation) → quantifiers (normal_equation spec X) ≡ numbered_slots (length X.parameters) (equation_loops spec X)
equation-quantifiers spec X = normal-quantifiers spec (expanded X.right) true (parameter_scope spec X) (with_slots X.parameters 0 unslotted) (length X.parameters)
