-- What of a property is too large, by the fault of its text or of that text's module.
use Rattle.std.proofs.Common.{◌≡◌, refl, subst}
use Rattle.std.specs.Prelude.{None, Result, Ok, Err, IfOk}
use Rattle.pb_sorts.specs.declared.counting.Counting.TheVariants.{Reached}
use Rattle.pb_text_tree.specs.Form.{SpecForm}
use Rattle.pb_model_tree.specs.Form.{ModelForm, PropertyForm}
use Rattle.pb_bytecode.specs.Contents.{Contents}
use Rattle.pb_command_solver.specs.Answers.{IsTooLarge}
use Rattle.pb_model_properties.specs.Said.{IsTextOf}
use Rattle.pb_base.specs.OrMemory.{IfFault}
use Rattle.pb_base.specs.declared.or_memory.OrMemory.{OrMemory}
use Rattle.pb_base.specs.declared.or_memory.OrMemory.TheVariants as or_memory
use Rattle.pb_command_faults.specs.declared.property_fault.PropertyExcess.TheVariants.{Game}
use Rattle.pb_command_faults.specs.declared.solve_fault.SolveFault.{SolveFault}
use Rattle.pb_command_faults.specs.declared.solve_fault.SolveFault.TheVariants as solve_fault
use Rattle.pb_command_texts.specs.Answers.{IsModuleOfForm}
use Rattle.pb_command_models.specs.Models.{IsTooLargeProperty}
use Rattle.pb_command_models.specs.Outcomes.{IsExcess, excess_of}
use Rattle.pb_command_texts.specs.Refusals.{IsUncompiledForm}

pub uncompiled_excess : (model : ModelForm) (p : PropertyForm) (x : SpecForm) → IsTextOf model p x → (f : SolveFault) → IsUncompiledForm x f
    → IsExcess model p (excess_of f)
uncompiled_excess model p x text (solve_fault.Limit excess) h = record { text = x; of_property = text; excess = excess; exceeds = h; first = refl }
uncompiled_excess model p x text (solve_fault.Text fault) h = absurd h
uncompiled_excess model p x text (solve_fault.Typing fault) h = absurd h
uncompiled_excess model p x text (solve_fault.Module fault) h = absurd h
uncompiled_excess model p x text (solve_fault.Acceptance fault) h = absurd h
uncompiled_excess model p x text solve_fault.TooManyVertices h = absurd h
uncompiled_excess model p x text (solve_fault.Property fault) h = absurd h
uncompiled_excess model p x text solve_fault.NoProperty h = absurd h

-- so there is an excess
pub has_excess : (x : SpecForm) (f : SolveFault) → IsUncompiledForm x f → excess_of f ≡ None → ⊥
has_excess x (solve_fault.Limit excess) h none = cc none
has_excess x (solve_fault.Text fault) h none = absurd h
has_excess x (solve_fault.Typing fault) h none = absurd h
has_excess x (solve_fault.Module fault) h none = absurd h
has_excess x (solve_fault.Acceptance fault) h none = absurd h
has_excess x solve_fault.TooManyVertices h none = absurd h
has_excess x (solve_fault.Property fault) h none = absurd h
has_excess x solve_fault.NoProperty h none = absurd h

-- the module's game is too large
pub large_game : (model : ModelForm) (p : PropertyForm) (x : SpecForm) → IsTextOf model p x → (m : Contents) → IsModuleOfForm x m → IsTooLarge Reached m → IsTooLargeProperty model p Game
large_game model p x text m of_text large = record { text = x; of_property = text; contents = m; of_text = of_text; large = large }

-- an answer of which less is asked
pub answer_more : {T E : Type 0} (A B : ModelForm → PropertyForm → Type 0) (Q : ModelForm → PropertyForm → T → Type 0) → ((m : ModelForm) (p : PropertyForm) → B m p → A m p) → (r : Result T E)
    → IfOk r (λ x. (m : ModelForm) (p : PropertyForm) → A m p → Q m p x) → IfOk r (λ x. (m : ModelForm) (p : PropertyForm) → B m p → Q m p x)
answer_more A B Q less (Ok x) h = λ m p b. h m p (less m p b)
answer_more A B Q less (Err e) h = tt

-- what holds where there is a fault
pub of_fault : {F P : Type 0} {fault : F} (error : OrMemory F) → error ≡ or_memory.Refused fault → IfFault error (λ _. P) → P
of_fault {F} {P} error is h = subst (λ (e : OrMemory F). IfFault e (λ _. P)) is h
