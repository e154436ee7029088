-- Which formulas are well typed and positive.
use Rattle.std.specs.Prelude.{◌≡◌, ℕ, suc, Bool, true, false, not, ⊤, List, [], ◌∷◌, length, Option, Some, None}
use Rattle.pb_text_meaning.specs.Syntax.{Variable, Terms, Formula, Equation, Spec}
use Rattle.pb_text_meaning.specs.Formula.{equation_named}
use Rattle.pb_typing_declarations.specs.Shapes.{sort_shape}
use Rattle.pb_typing_declarations.specs.WellDeclared.{AreVariables}
use Rattle.pb_typing_rules.specs.Shapes.{may_be_truth, may_be_alike}
use Rattle.pb_typing_rules.specs.Scope.{Scope, bound}
use Rattle.pb_typing_rules.specs.Term.{shape, IsTyped}

abbrev pub count : Terms → ℕ
count Terms.NoTerms = 0
count (Terms.Then x xs) = suc (count xs)

-- each argument is well typed and of its parameter's kind; another number of them is a fault of its
-- own
abbrev pub AreArguments : Spec → Scope → Terms → List Variable → Type 0
AreArguments spec scope Terms.NoTerms xs = ⊤
AreArguments spec scope (Terms.Then e es) [] =
    IsTyped spec false scope e × AreArguments spec scope es []
AreArguments spec scope (Terms.Then e es) (x ∷ xs) =
    IsTyped spec false scope e × (may_be_alike (shape spec scope e) (sort_shape spec x.sort) ≡ true)
    × AreArguments spec scope es xs

-- the arguments of an instance whose equation is this one
abbrev pub IsCalled : Spec → Scope → Terms → Option Equation → Type 0
IsCalled spec scope es None = ⊥
IsCalled spec scope es (Some X) =
    (count es ≡ length X.parameters) × AreArguments spec scope es X.parameters

-- `even` says whether the negations around are even in number; the left side of => counts as one
abbrev pub IsProper : Spec → Bool → Scope → Formula → Type 0
IsProper spec even scope (Formula.Truth b) = ⊤
IsProper spec even scope (Formula.Val x) =
    IsTyped spec true scope x × (may_be_truth (shape spec scope x) ≡ true)
IsProper spec even scope (Formula.Not f) = IsProper spec (not even) scope f
IsProper spec even scope (Formula.And f g) = IsProper spec even scope f × IsProper spec even scope g
IsProper spec even scope (Formula.Or f g) = IsProper spec even scope f × IsProper spec even scope g
IsProper spec even scope (Formula.Implies f g) =
    IsProper spec (not even) scope f × IsProper spec even scope g
IsProper spec even scope (Formula.Quantified q xs f) =
    AreVariables spec xs × IsProper spec even (bound spec xs scope) f
IsProper spec even scope (Formula.Call x es) =
    (even ≡ true) × IsCalled spec scope es (equation_named spec.equations x)
