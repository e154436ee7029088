-- From the equations of a module as the program holds them to what the module says.
use Rattle.std.proofs.Common.{◌≡◌, ℕ, zero, suc, ◌≤◌, true, List, [], ◌∷◌, length, map, Some, Vec, refl, sym, ap, subst, ◌∙◌, arith}
use Rattle.std.specs.Prelude.{All, slice_get, vec_items, vec_len}
use Rattle.pb_base.specs.declared.limits.TheConstants.{MAX_EQUATIONS}
use Rattle.pb_sorts.specs.declared.carrier.Carrier.{Carrier}
use Rattle.pb_sorts.proofs.Places.{slice_get-mapped}
use Rattle.pb_bytecode.specs.declared.module.Module.{Module}
use Rattle.pb_bytecode.specs.declared.equation.Equation.{Equation}
use Rattle.pb_bytecode.specs.Contents.{EquationContents, counts}
use Rattle.pb_bytecode.specs.Decoded.{module_contents}
use Rattle.pb_bytecode.specs.Limits.{fits}
use Rattle.pb_bytecode.specs.Meaning.{parameters, program_of}
use Rattle.pb_bytecode.specs.Views.{equation_contents, sort_contents}
use Rattle.pb_verifier.specs.Acceptance.{HasTable, IsAccepted}
use Rattle.pb_verifier.specs.Programs.{HaveTables, parameters_of, program_in}
use Rattle.pb_bytecode.specs.declared.sort.Sort.{Sort}
use Rattle.std.proofs.lemmas.List.{length-map}
use Rattle.pb_verifier_structure.specs.Structure.{IsProgramWithinLimits}
use Rattle.pb_verifier.proofs.Limits.{code_within_limits}

-- what the check of a module has at hand: counts of enumerators, the carriers of callees, and the equations
pub record IsOf (m : Module) (sizes : List ℕ) (callees : List (List Carrier)) (equations : List Equation) : Type 0 where
  pub sizes_are : sizes ≡ counts (map sort_contents m.sorts.items)
  pub callees_are : callees ≡ map parameters_of m.equations.items
  pub equations_are : equations ≡ m.equations.items

pub parameters_map : (es : List Equation) → map parameters_of es ≡ map (λ (e : EquationContents). e.parameters) (map equation_contents es)
parameters_map [] = refl
parameters_map (e ∷ es) = ap (λ (cs : List (List Carrier)). parameters_of e ∷ cs) (parameters_map es)

pub parameters_are : (m : Module) (sizes : List ℕ) (callees : List (List Carrier)) (es : List Equation) → IsOf m sizes callees es → callees ≡ parameters (module_contents m)
parameters_are m sizes callees es o = o.callees_are ∙ parameters_map m.equations.items

same_program : (m : Module) (sizes : List ℕ) (callees : List (List Carrier)) (es : List Equation) (e : Equation)
    → IsOf m sizes callees es → program_of (module_contents m) (equation_contents e) ≡ program_in sizes callees e
same_program m sizes callees es e o = rw (o.sizes_are, parameters_are m sizes callees es o) refl

-- the equation that is there
pub record IsThere (es : List Equation) (k : ℕ) (x : EquationContents) : Type 0 where
  pub equation : Equation
  pub there : slice_get es k ≡ Some equation
  pub says : equation_contents equation ≡ x

equation_at : (es : List Equation) (k : ℕ) (x : EquationContents) → slice_get (map equation_contents es) k ≡ Some x → IsThere es k x
equation_at [] k x h = cc
equation_at (e ∷ es) zero x h = record { equation = e; there = refl; says = let same : equation_contents e ≡ x = cc in same }
equation_at (e ∷ es) (suc k) x h = let t = equation_at es k x h in record { equation = t.equation; there = t.there; says = t.says }

pub each_within_limits : (m : Module) (sizes : List ℕ) (callees : List (List Carrier)) (es : List Equation)
    → IsOf m sizes callees es → fits (module_contents m) ≡ true → (k : ℕ) (e : Equation) → slice_get es k ≡ Some e
    → IsProgramWithinLimits (program_in sizes callees e)
each_within_limits m sizes callees es o f k e h =
    let here : slice_get m.equations.items k ≡ Some e = ap (λ (xs : List Equation). slice_get xs k) (sym o.equations_are) ∙ h in
    subst IsProgramWithinLimits (same_program m sizes callees es e o) (code_within_limits (module_contents m) k (equation_contents e) f (slice_get-mapped equation_contents m.equations.items k e here))

pub accepted_by_tables : (m : Module) (sizes : List ℕ) (callees : List (List Carrier)) (es : List Equation) → IsOf m sizes callees es → HaveTables sizes callees es → IsAccepted (module_contents m)
accepted_by_tables m sizes callees es o h = record {
  codes = λ k x at.
      let t = equation_at m.equations.items k x at in
      let there : slice_get es k ≡ Some t.equation = ap (λ (xs : List Equation). slice_get xs k) o.equations_are ∙ t.there in
      let table : HasTable (program_of (module_contents m) (equation_contents t.equation)) = subst HasTable (sym (same_program m sizes callees es t.equation o)) (h k t.equation there) in
      subst (λ (y : EquationContents). HasTable (program_of (module_contents m) y)) t.says table;
}

pub tables_of_accepted : (m : Module) (sizes : List ℕ) (callees : List (List Carrier)) (es : List Equation) → IsOf m sizes callees es → IsAccepted (module_contents m) → HaveTables sizes callees es
tables_of_accepted m sizes callees es o a k e h =
    let here : slice_get m.equations.items k ≡ Some e = ap (λ (xs : List Equation). slice_get xs k) (sym o.equations_are) ∙ h in
    subst HasTable (same_program m sizes callees es e o) (a.codes k (equation_contents e) (slice_get-mapped equation_contents m.equations.items k e here))

-- these are at hand where the parts were read out of the module, whose layout is known
pub is_of : (m : Module) (sorts : List Sort) (es : List Equation) (sizes ss : List ℕ) (layout : List (List Carrier))
    → sorts ≡ m.sorts.items → sizes ≡ counts (map sort_contents sorts) → ss ≡ sizes → layout ≡ parameters (module_contents m) → es ≡ m.equations.items
    → IsOf m ss layout es
is_of m sorts es sizes ss layout s a f l h = record {
  sizes_are = f ∙ a ∙ ap (λ xs. counts (map sort_contents xs)) s;
  callees_are = l ∙ sym (parameters_map m.equations.items);
  equations_are = h;
}

pub few_each : {A : Type 0} → (vs : List (Vec Carrier A)) → All (λ (ps : List Carrier). length ps ≤ 8) (map vec_items vs) → All (λ v. vec_len v ≤ 8) vs
few_each [] h k d lt = absurd (omega arith)
few_each (v ∷ vs) h zero d lt = let a = h 0 [] (omega arith) in omega (arith, v.ok.0)
few_each (v ∷ vs) h (suc k) d lt = few_each vs (λ j e l. h (suc j) e (omega arith)) k d (omega arith)

pub few_lists : {A : Type 0} → (vs : List (Vec Carrier A)) → length (map vec_items vs) ≤ MAX_EQUATIONS → length vs ≤ MAX_EQUATIONS
few_lists vs h = simp length-map at h
