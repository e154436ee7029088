-- A formula whose data terms with quantifiers are read as formulas has the truth that it had.
use Rattle.std.proofs.Common.{◌≡◌, Bool, true, false, not, ◌&&◌, ◌||◌, if◌then◌else◌, List, [], ◌∷◌, refl, sym, ◌∙◌, ap}
use Rattle.pb_fixpoint.specs.Solution.{Environment}
use Rattle.pb_text_tree.specs.declared.operator.Quantifier.{Quantifier}
use Rattle.pb_text_tree.specs.declared.operator.Quantifier.TheVariants.{Forall, Exists}
use Rattle.pb_base_values.specs.Carrier.{Value, Carrier}
use Rattle.pb_text_meaning.specs.Syntax.{Variable, Operator, Term, Formula, Spec}
use Rattle.pb_text_meaning.specs.Sorts.{carrier_of}
use Rattle.pb_text_meaning.specs.Value.{Assignment, of_values, quantified, is_true, value}
use Rattle.pb_text_meaning.specs.Formula.{Instance, truth}
use Rattle.pb_text_meaning.proofs.Truths.{is_true-of_bool}
use Rattle.pb_typing_tree.specs.Expansion.{has_quantifier, connected, expanded_term, expanded}

-- ---- quantifiers take equal predicates to equal truths

pub same-of-values : (q : Quantifier) (p p' : Value → Bool) → ((v : Value) → p v ≡ p' v) → (vs : Carrier) → of_values q p vs ≡ of_values q p' vs
same-of-values Forall p p' h [] = refl
same-of-values Forall p p' h (v ∷ vs) = ap (λ b. b && of_values Forall p vs) (h v) ∙ ap (λ b. p' v && b) (same-of-values Forall p p' h vs)
same-of-values Exists p p' h [] = refl
same-of-values Exists p p' h (v ∷ vs) = ap (λ b. b || of_values Exists p vs) (h v) ∙ ap (λ b. p' v || b) (same-of-values Exists p p' h vs)

pub same-quantified : (spec : Spec) (q : Quantifier) (xs : List Variable) (p p' : Assignment → Bool)
    → ((a : Assignment) → p a ≡ p' a) → (a : Assignment) → quantified spec q xs p a ≡ quantified spec q xs p' a
same-quantified spec q [] p p' h a = h a
same-quantified spec q (x ∷ xs) p p' h a =
    same-of-values q (λ v. quantified spec q xs p ((x.name, v) ∷ a)) (λ v. quantified spec q xs p' ((x.name, v) ∷ a)) (λ v. same-quantified spec q xs p p' h ((x.name, v) ∷ a)) (carrier_of spec x.sort)

-- ---- truth

pub expanded-connected : (spec : Spec) (a : Assignment) (t : Environment Instance) (o : Operator) (x y : Term) (f g : Formula)
    → truth spec a t f ≡ is_true (value spec a x) → truth spec a t g ≡ is_true (value spec a y)
    → truth spec a t (connected o f g (Formula.Val (Term.Binary o x y))) ≡ is_true (value spec a (Term.Binary o x y))
expanded-connected spec a t Operator.And x y f g h k = ap (λ b. b && truth spec a t g) h ∙ ap (λ b. is_true (value spec a x) && b) k ∙ sym (is_true-of_bool _)
expanded-connected spec a t Operator.Or x y f g h k = ap (λ b. b || truth spec a t g) h ∙ ap (λ b. is_true (value spec a x) || b) k ∙ sym (is_true-of_bool _)
expanded-connected spec a t Operator.Implies x y f g h k = ap (λ b. not b || truth spec a t g) h ∙ ap (λ b. not (is_true (value spec a x)) || b) k ∙ sym (is_true-of_bool _)
expanded-connected spec a t Operator.Equal x y f g h k = refl
expanded-connected spec a t Operator.NotEqual x y f g h k = refl
expanded-connected spec a t Operator.Less x y f g h k = refl
expanded-connected spec a t Operator.LessEqual x y f g h k = refl
expanded-connected spec a t Operator.Greater x y f g h k = refl
expanded-connected spec a t Operator.GreaterEqual x y f g h k = refl
expanded-connected spec a t Operator.Plus x y f g h k = refl
expanded-connected spec a t Operator.Minus x y f g h k = refl
expanded-connected spec a t Operator.Times x y f g h k = refl
expanded-connected spec a t Operator.Div x y f g h k = refl
expanded-connected spec a t Operator.Mod x y f g h k = refl

pub choose-formula : (spec : Spec) (a : Assignment) (t : Environment Instance) (c b : Bool) (f g : Formula) → truth spec a t f ≡ b → truth spec a t g ≡ b → truth spec a t (if c then f else g) ≡ b
choose-formula spec a t true b f g h k = h
choose-formula spec a t false b f g h k = k

pub expanded-term-truth : (spec : Spec) (t : Environment Instance) (x : Term) (a : Assignment) → truth spec a t (expanded_term x) ≡ is_true (value spec a x)
expanded-term-truth spec t (Term.Truth b) a = refl
expanded-term-truth spec t (Term.Number n) a = refl
expanded-term-truth spec t (Term.Named x) a = refl
expanded-term-truth spec t (Term.Not x) a =
    choose-formula spec a t (has_quantifier x) (is_true (value spec a (Term.Not x))) (Formula.Not (expanded_term x)) (Formula.Val (Term.Not x))
    (ap not (expanded-term-truth spec t x a) ∙ sym (is_true-of_bool _)) refl
expanded-term-truth spec t (Term.Negative x) a = refl
expanded-term-truth spec t (Term.Binary o x y) a =
    choose-formula spec a t (has_quantifier x || has_quantifier y) (is_true (value spec a (Term.Binary o x y)))
    (connected o (expanded_term x) (expanded_term y) (Formula.Val (Term.Binary o x y))) (Formula.Val (Term.Binary o x y))
    (expanded-connected spec a t o x y (expanded_term x) (expanded_term y) (expanded-term-truth spec t x a) (expanded-term-truth spec t y a)) refl
expanded-term-truth spec t (Term.Apply f xs) a = refl
expanded-term-truth spec t (Term.Quantified q xs x) a =
    same-quantified spec q xs (λ b. truth spec b t (expanded_term x)) (λ b. is_true (value spec b x)) (expanded-term-truth spec t x) a ∙ sym (is_true-of_bool _)

-- under every assignment and every environment
pub expanded-truth : (spec : Spec) (t : Environment Instance) (f : Formula) (a : Assignment) → truth spec a t (expanded f) ≡ truth spec a t f
expanded-truth spec t (Formula.Truth b) a = refl
expanded-truth spec t (Formula.Val x) a = expanded-term-truth spec t x a
expanded-truth spec t (Formula.Not f) a = ap not (expanded-truth spec t f a)
expanded-truth spec t (Formula.And f g) a = ap (λ b. b && truth spec a t (expanded g)) (expanded-truth spec t f a) ∙ ap (λ b. truth spec a t f && b) (expanded-truth spec t g a)
expanded-truth spec t (Formula.Or f g) a = ap (λ b. b || truth spec a t (expanded g)) (expanded-truth spec t f a) ∙ ap (λ b. truth spec a t f || b) (expanded-truth spec t g a)
expanded-truth spec t (Formula.Implies f g) a = ap (λ b. not b || truth spec a t (expanded g)) (expanded-truth spec t f a) ∙ ap (λ b. not (truth spec a t f) || b) (expanded-truth spec t g a)
expanded-truth spec t (Formula.Quantified q xs f) a = same-quantified spec q xs (λ b. truth spec b t (expanded f)) (λ b. truth spec b t f) (expanded-truth spec t f) a
expanded-truth spec t (Formula.Call X es) a = refl
