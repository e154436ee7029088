-- What is assigned to groups, one after another.
use Rattle.std.proofs.Common.{◌≡◌, Bool, true, false, if◌then◌else◌, List, [], ◌∷◌, ◌++◌, map, refl, ap, ◌∙◌}
use Rattle.std.specs.Prelude.{Option, Some, None}
use Rattle.std.proofs.Math.Path.{fun_ext}
use Rattle.pb_model_tree.specs.declared.step.Assignment as tree_assignment
use Rattle.pb_model_tree.specs.Form.{assignment_form}
use Rattle.pb_text_meaning.specs.Syntax.{Name, same_name, Variable, Term}
use Rattle.pb_model_meaning.specs.Syntax.{Assignment, Step}
use Rattle.pb_model_meaning.specs.Erase.{erased_assignment}
use Rattle.pb_model_meaning.specs.Steps.{assigned_term}
use Rattle.pb_protocol_packing.specs.Said.{Scope, hidden, said}
use Rattle.pb_protocol_packing.specs.Packing.{Group, variable_of, group_term, with_assignment, assignments_of, option_said, said_by, with_groups}
use Rattle.pb_protocol_packer.specs.Steps.{assignment_of, assignments_in, assignments_said}

pub assignments-more : (new : Name → Option Term) (g : Group) (gs : List Group) → assignments_of new (g ∷ gs) ≡ assignments_of new (g ∷ []) ++ assignments_of new gs
assignments-more new g gs = by (group_term new g)
  where
    by : (o : Option Term) → with_assignment (variable_of g).name o (assignments_of new gs) ≡ with_assignment (variable_of g).name o [] ++ assignments_of new gs
    by None = refl
    by (Some t) = refl

-- what is said of the assigned term
pub assigned-said : (σ : Scope) (bs : List Assignment) (x : Name) → assigned_term (assignments_said σ bs) x ≡ option_said σ (assigned_term bs x)
assigned-said σ [] x = refl
assigned-said σ (a ∷ bs) x = by (same_name a.variable x) (assigned-said σ bs x)
  where
    by : (b : Bool) → assigned_term (assignments_said σ bs) x ≡ option_said σ (assigned_term bs x)
        → (if b then Some (said σ a.term) else assigned_term (assignments_said σ bs) x) ≡ option_said σ (if b then Some a.term else assigned_term bs x)
    by true e = refl
    by false e = e

-- ---- what a step assigns

pub assignment-forms : (bs : List tree_assignment.Assignment) → map erased_assignment (map assignment_form bs) ≡ assignments_in bs
assignment-forms [] = refl
assignment-forms (b ∷ bs) = ap (λ (cs : List Assignment). assignment_of b ∷ cs) (assignment-forms bs)

pub packed-assignments : (gs : List Group) (a : Step) (given : List Assignment) (σ : Scope) → σ ≡ hidden a.variables (with_groups gs []) → given ≡ assignments_said σ a.assignments
    → assignments_of (assigned_term given) gs ≡ assignments_of (said_by gs a) gs
packed-assignments gs a given σ same is =
    let each : assigned_term given ≡ said_by gs a =
    fun_ext (λ x. ap (λ (bs : List Assignment). assigned_term bs x) is ∙ assigned-said σ a.assignments x ∙ ap (λ (τ : Scope). option_said τ (assigned_term a.assignments x)) same) in
    ap (λ (new : Name → Option Term). assignments_of new gs) each

abbrev pub step_with : Name → List Variable → Term → List Assignment → Step
step_with n vs g bs = record { name = n; variables = vs; guard = g; assignments = bs }

pub step-same : {n m : Name} {vs ws : List Variable} {g h : Term} {bs cs : List Assignment} → n ≡ m → vs ≡ ws → g ≡ h → bs ≡ cs → step_with n vs g bs ≡ step_with m ws h cs
step-same {n} {m} {vs} {ws} {g} {h} {bs} {cs} first second third fourth =
    ap (λ (x : Name). step_with x vs g bs) first ∙ ap (λ (x : List Variable). step_with m x g bs) second
    ∙ ap (λ (x : Term). step_with m ws x bs) third ∙ ap (λ (x : List Assignment). step_with m ws h x) fourth
