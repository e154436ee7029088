-- The positive normal form of a formula: negations are driven down to data (De Morgan), names
-- become slots. Data terms are those of the typed tree.
use Rattle.std.specs.Prelude.{ℕ, suc, ◌+◌, Bool, true, false, not, List, [], ◌∷◌, Option, Some, None}
use Rattle.pb_text_tree.specs.declared.operator.Quantifier.{Quantifier}
use Rattle.pb_text_tree.specs.declared.operator.Quantifier.TheVariants.{Forall, Exists}
use Rattle.pb_text_meaning.specs.Syntax as syntax
use Rattle.pb_text_meaning.specs.Syntax.{Variable, Spec}
use Rattle.pb_typing_declarations.specs.Shapes.{sort_shape}
use Rattle.pb_typing_rules.specs.Scope.{Scope, bound}
use Rattle.pb_fixpoint_trees.specs.declared.junction.Junction.{Junction}
use Rattle.pb_fixpoint_trees.specs.declared.junction.Junction.TheVariants.{Conjunction, Disjunction}
pub use Rattle.pb_fixpoint_trees.specs.Junctions.{dual}
use Rattle.pb_normal.specs.Normal.{Term, Argument, Formula, Test, Join, Each, Call}
pub use Rattle.pb_typing_tree.specs.Elaboration.{Slotting, unslotted, with_slot, with_slots}
pub use Rattle.pb_typing_tree.specs.Elaboration.{term_of_enumerator, term_of_name, recognised, named_to_one}
pub use Rattle.pb_typing_tree.specs.Elaboration.{named_to_two, named_to_three, applied_to_one}
pub use Rattle.pb_typing_tree.specs.Elaboration.{applied_to_two, applied_to_three, applied, slotted}
pub use Rattle.pb_typing_tree.specs.Elaboration.{slotted_all, width, arguments, place_of}

-- a test, negated where the negations around it are odd in number
abbrev pub signed_test : Bool → Term → Formula
signed_test true x = Test x
signed_test false x = Test (Term.Not x)

-- what a negation around turns a quantifier into (De Morgan)
abbrev pub dual_quantifier : Quantifier → Quantifier
dual_quantifier Forall = Exists
dual_quantifier Exists = Forall

-- a junction, and a quantifier, turned round where the negations around are odd in number
abbrev pub signed_junction : Junction → Bool → Junction
signed_junction m true = m
signed_junction m false = dual m

abbrev pub signed_quantifier : Quantifier → Bool → Quantifier
signed_quantifier q true = q
signed_quantifier q false = dual_quantifier q

-- one quantifier for each variable, the next slots being theirs
abbrev pub each :
    Spec → Quantifier → List Variable → Slotting → ℕ → (Slotting → ℕ → Formula) → Formula
each spec q [] c n body = body c n
each spec q (x ∷ xs) c n body =
    Each q n (sort_shape spec x.sort) (each spec q xs (with_slot x.name n c) (suc n) body)

abbrev pub call : Option ℕ → List Argument → Formula
call None es = Test (Term.Truth false)
call (Some X) es = Call X es

-- The normal form, in a scope, where the slots from n on are free. `even` says whether the
-- negations around are even in number.
abbrev pub normal : Spec → Bool → Slotting → Scope → ℕ → syntax.Formula → Formula
normal spec even c scope n (syntax.Formula.Truth b) = signed_test even (Term.Truth b)
normal spec even c scope n (syntax.Formula.Val x) = signed_test even (slotted spec c x)
normal spec even c scope n (syntax.Formula.Not f) = normal spec (not even) c scope n f
normal spec even c scope n (syntax.Formula.And f g) =
    Join (signed_junction Conjunction even) (normal spec even c scope n f)
    (normal spec even c scope (n + width f) g)
normal spec even c scope n (syntax.Formula.Or f g) =
    Join (signed_junction Disjunction even) (normal spec even c scope n f)
    (normal spec even c scope (n + width f) g)
normal spec even c scope n (syntax.Formula.Implies f g) =
    Join (signed_junction Disjunction even) (normal spec (not even) c scope n f)
    (normal spec even c scope (n + width f) g)
normal spec even c scope n (syntax.Formula.Quantified q xs f) =
    each spec (signed_quantifier q even) xs c n
    (λ d m. normal spec even d (bound spec xs scope) m f)
normal spec even c scope n (syntax.Formula.Call X es) =
    call (place_of 0 spec.equations X) (arguments spec c scope es)
