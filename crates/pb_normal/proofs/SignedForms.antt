-- The normal form of a positive formula is that of its typed tree.
use Rattle.std.proofs.Common.{◌≡◌, ℕ, suc, ◌+◌, Bool, true, not, List, [], ◌∷◌, Option, Some, None, refl, sym, ◌∙◌, ap}
use Rattle.pb_text_tree.specs.declared.operator.Quantifier.{Quantifier}
use Rattle.pb_text_meaning.specs.Syntax as syntax
use Rattle.pb_text_meaning.specs.Syntax.{Variable, Spec}
use Rattle.pb_text_meaning.specs.Positive.{IsPositive}
use Rattle.pb_typing_declarations.specs.Shapes.{sort_shape}
use Rattle.pb_typing_rules.specs.Scope.{Scope, bound}
use Rattle.pb_typing_tree.specs.Tree as typed
use Rattle.pb_typing_tree.specs.Elaboration as made
use Rattle.pb_fixpoint_trees.specs.declared.junction.Junction.TheVariants.{Conjunction, Disjunction}
use Rattle.pb_normal.specs.Normal.{Argument, Formula, Join, Each}
use Rattle.pb_normal.specs.Normalisation as normalisation
use Rattle.pb_normal.specs.Normalisation.{Slotting, with_slot, width, signed_junction, signed_quantifier, normal, arguments, place_of}
use Rattle.pb_normal.specs.SignedForm.{signed_form}

each-signed : (spec : Spec) (q : Quantifier) (even : Bool) (xs : List Variable) (body : Slotting → ℕ → typed.Formula) (c : Slotting) (n : ℕ)
    → normalisation.each spec (signed_quantifier q even) xs c n (λ d m. signed_form even (body d m)) ≡ signed_form even (made.each spec q xs c n body)
each-signed spec q even [] body c n = refl
each-signed spec q even (x ∷ xs) body c n = ap (Each (signed_quantifier q even) n (sort_shape spec x.sort)) (each-signed spec q even xs body (with_slot x.name n c) (suc n))

same-each : (spec : Spec) (m : Quantifier) (xs : List Variable) (f g : Slotting → ℕ → Formula)
    → ((c : Slotting) (n : ℕ) → f c n ≡ g c n) → (c : Slotting) (n : ℕ)
    → normalisation.each spec m xs c n f ≡ normalisation.each spec m xs c n g
same-each spec m [] f g h c n = h c n
same-each spec m (x ∷ xs) f g h c n = ap (Each m n (sort_shape spec x.sort)) (same-each spec m xs f g h (with_slot x.name n c) (suc n))

call-signed : (o : Option ℕ) (es : List Argument) → normalisation.call o es ≡ signed_form true (made.call o es)
call-signed None es = refl
call-signed (Some X) es = refl

pub normal-signed : (spec : Spec) (f : syntax.Formula) (even : Bool) (scope : Scope) (c : Slotting) (n : ℕ) → IsPositive even f
    → normal spec even c scope n f ≡ signed_form even (made.elaborated spec c scope n f)
normal-signed spec (syntax.Formula.Truth b) even scope c n h = refl
normal-signed spec (syntax.Formula.Val x) even scope c n h = refl
normal-signed spec (syntax.Formula.Not f) even scope c n h = normal-signed spec f (not even) scope c n h
normal-signed spec (syntax.Formula.And f g) even scope c n h =
    ap (λ (e : Formula). Join (signed_junction Conjunction even) e (normal spec even c scope (n + width f) g)) (normal-signed spec f even scope c n h.0)
    ∙ ap (Join (signed_junction Conjunction even) (signed_form even (made.elaborated spec c scope n f))) (normal-signed spec g even scope c (n + width f) h.1)
normal-signed spec (syntax.Formula.Or f g) even scope c n h =
    ap (λ (e : Formula). Join (signed_junction Disjunction even) e (normal spec even c scope (n + width f) g)) (normal-signed spec f even scope c n h.0)
    ∙ ap (Join (signed_junction Disjunction even) (signed_form even (made.elaborated spec c scope n f))) (normal-signed spec g even scope c (n + width f) h.1)
normal-signed spec (syntax.Formula.Implies f g) even scope c n h =
    ap (λ (e : Formula). Join (signed_junction Disjunction even) e (normal spec even c scope (n + width f) g)) (normal-signed spec f (not even) scope c n h.0)
    ∙ ap (Join (signed_junction Disjunction even) (signed_form (not even) (made.elaborated spec c scope n f))) (normal-signed spec g even scope c (n + width f) h.1)
normal-signed spec (syntax.Formula.Quantified q xs f) even scope c n h =
    same-each spec (signed_quantifier q even) xs _ _ (λ d m. normal-signed spec f even (bound spec xs scope) d m h) c n
    ∙ each-signed spec q even xs (λ d m. made.elaborated spec d (bound spec xs scope) m f) c n
normal-signed spec (syntax.Formula.Call X es) even scope c n h =
    ap (λ b. normal spec b c scope n (syntax.Formula.Call X es)) h
    ∙ (call-signed (place_of 0 spec.equations X) (arguments spec c scope es)
    ∙ ap (λ b. signed_form b (made.elaborated spec c scope n (syntax.Formula.Call X es))) (sym h))
