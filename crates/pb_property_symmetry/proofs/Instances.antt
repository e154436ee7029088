-- Instances of a translation's module move with their states.
use Rattle.std.proofs.Common.{◌≡◌, ℕ, ◌<◌, nat_lt, Bool, true, List, [], ◌∷◌, length, map, Option, Some, None, refl, sym, ap, ◌∙◌, subst}
use Rattle.std.specs.List.{All, slice_get, position_or_len}
use Rattle.std.proofs.lemmas.Bool.{ltb-true}
use Rattle.std.proofs.lemmas.Option.{slice_get-get_or}
use Rattle.pb_base_values.specs.Carrier.{Carrier}
use Rattle.pb_fixpoint.specs.Solution.{Equation}
use Rattle.pb_fixpoint.specs.Transfer.{AreSame}
use Rattle.pb_fixpoint_trees.specs.Tree.{Tree}
use Rattle.pb_fixpoint_trees.specs.Equations.{numbered}
use Rattle.pb_fixpoint_symmetry.specs.Symmetry.{AreClosed, IsSymmetry}
use Rattle.pb_sorts.specs.Instance as numbers
use Rattle.pb_sorts.specs.Instance.{instances, number_of}
use Rattle.pb_text_meaning.specs.Syntax as text
use Rattle.pb_text_meaning.specs.Syntax.{same_name, Name, Spec}
use Rattle.pb_text_meaning.specs.Formula.{carriers_of}
use Rattle.pb_typing_declarations.specs.WellDeclared.{AreApart}
use Rattle.pb_typing_rules.specs.WellTyped.{IsWellTyped}
use Rattle.pb_typing_values.specs.Environment.{all_carriers}
use Rattle.pb_bytecode_program.specs.Machine.{Program}
use Rattle.pb_bytecode.specs.Contents.{Contents}
use Rattle.pb_bytecode.specs.Meaning.{signature_of, AreTrees}
use Rattle.pb_assembler_scheme.specs.Correct.{number_in}
use Rattle.pb_assembler_scheme.specs.Equations.{IsProgramOf, DecidesEquation}
use Rattle.pb_assembler_scheme.specs.Made.{IsMadeOf}
use Rattle.pb_assembler_scheme.proofs.Numbered.{first-named}
use Rattle.pb_assembler_modules.specs.Module.{IsCompiledModule}
use Rattle.pb_assembler_modules.proofs.Modules as compiled
use Rattle.pb_model_meaning.specs.Syntax.{Formula, Model}
use Rattle.pb_model_meaning.specs.Steps.{State, data_of, state_carriers, state_count}
use Rattle.pb_model_symmetry.specs.Symmetry.{carried}
use Rattle.pb_model_translation.specs.Translation.{all_equations, translation_by}
use Rattle.pb_model_translation.proofs.Data as translated
use Rattle.pb_module_symmetry.specs.Numbers.{along, equation_name, is_number, named_instance}
use Rattle.pb_module_symmetry.specs.Laws.{CompiledModulesAreClosed, ModulesOfModelsAreSymmetric}
use Rattle.pb_module_symmetry.proofs.Renamed.{equation-at, names-at}
use Rattle.pb_module_symmetry.proofs.Translated.{AreOver, all-over}
use Rattle.pb_exploration_orbits.specs.Laws.{is_declared}
use Rattle.pb_property_symmetry.specs.Numbers.{moved_instance}
use Rattle.pb_property_symmetry.specs.Laws.{ModulesMoveWithStates}
use Rattle.pb_property_symmetry.proofs.Uniform.{AreAll, IsAtNumber, at-number}
use Rattle.pb_property_symmetry.proofs.Moved.{HasTuple, moved-at}

-- ---- maps that are the same at known instances

module _ {I : Type 0} (known : I → Bool) (f g : I → I) (same : (i : I) → known i ≡ true → f i ≡ g i) where
  pub symmetric-alike : (D E : List (Equation I)) → AreSame known f D E → AreSame known g D E
  symmetric-alike [] [] s = tt
  symmetric-alike [] (Y ∷ E) s = absurd s
  symmetric-alike (X ∷ D) [] s = absurd s
  symmetric-alike (X ∷ D) (Y ∷ E) s = (
    record {
      sign = s.0.sign;
      size = s.0.size;
      owns = λ i k. s.0.owns i k ∙ ap X.owns (same i k);
      holds = λ t u tu i k. s.0.holds t u (λ j h. tu j h ∙ ap t (sym (same j h))) i k ∙ ap (λ (j : I). X.holds j t) (same i k);
    },
    symmetric-alike D E s.1,
  )

-- ---- the instance of a number

module _ (m : Model) (names : ℕ → Name) (g : Formula) where
  abbrev spec : Spec
  spec = translation_by m names g

  uniform-from : (E : List text.Equation) → AreOver m names E → AreAll (state_carriers m) (map (λ (X : text.Equation). carriers_of spec X.parameters) E)
  uniform-from [] over = tt
  uniform-from (X ∷ E) over = (
    ap (carriers_of spec) over.0 ∙ translated.carriers-same (data_of m) (all_equations m names g) (names 0) m.initial m.variables,
    uniform-from E over.1,
  )

  uniform : AreAll (state_carriers m) (all_carriers spec)
  uniform = uniform-from spec.equations (all-over m names g)

  module _ (apart : AreApart (map (λ (X : text.Equation). X.name) spec.equations)) (f : State → State) (n : ℕ) where
    at-instance : (i : numbers.Instance) → slice_get (instances (all_carriers spec)) n ≡ Some i
        → number_in spec (carried f (named_instance spec (Some i))) ≡ moved_instance (state_carriers m) f n
    at-instance i at =
        let h : IsAtNumber (state_carriers m) (all_carriers spec) n i = at-number (state_carriers m) (all_carriers spec) uniform n i at in
        let q = equation-at spec spec.equations i.equation (state_carriers m) h.carriers in
        let place : position_or_len (λ (X : text.Equation). same_name X.name (equation_name spec.equations i.equation)) spec.equations ≡ i.equation =
        ap (λ (x : Name). position_or_len (λ (X : text.Equation). same_name X.name x) spec.equations) (names-at spec.equations i.equation q.0 q.1)
        ∙ first-named spec.equations i.equation q.0 apart q.1 in
        let tuple : HasTuple (state_carriers m) n = record { tuple = i.values; at = h.values; within = h.within } in
        ap (λ k. number_of (all_carriers spec) (record { equation = k; values = f i.values })) place
        ∙ (h.number (f i.values) ∙ sym (moved-at (state_carriers m) f n tuple))

    by-option : (o : Option numbers.Instance) → slice_get (instances (all_carriers spec)) n ≡ o → is_number spec n ≡ true
        → (0 < state_count m) × (number_in spec (carried f (named_instance spec o)) ≡ moved_instance (state_carriers m) f n)
    by-option None at k = let some = slice_get-get_or (instances (all_carriers spec)) n (record { equation = 0; values = [] }) (ltb-true n (length (instances (all_carriers spec))) k) in cc
    by-option (Some i) at k = ((at-number (state_carriers m) (all_carriers spec) uniform n i at).some, at-instance i at)

    -- at the numbers of instances the map of numbers is the one that moves states
    pub along-moved : is_number spec n ≡ true → (0 < state_count m) × (along spec (carried f) n ≡ moved_instance (state_carriers m) f n)
    along-moved k = by-option (slice_get (instances (all_carriers spec)) n) refl k

-- ---- the module

module _ (spec : Spec) (typed : IsWellTyped spec) (c : Contents) (h : IsCompiledModule spec c)
    (schemes : (X : text.Equation) (p : Program) → IsMadeOf spec X p → IsProgramOf spec X p)
    (decides : All (λ (X : text.Equation). (p : Program) → IsProgramOf spec X p → DecidesEquation spec X p) spec.equations)
    (trees : ℕ → Tree) (ends : AreTrees c trees) where
  abbrev E : List (Equation ℕ)
  E = numbered 0 (map signature_of c.equations) trees

  -- a fact of a text's numbers is one of its module's
  pub of-declared : (P : (ℕ → Bool) → Type 0) → P (is_number spec) → P (is_declared c)
  of-declared P at = subst (λ (css : List (List Carrier)). P (λ n. nat_lt n (length (instances css)))) (sym (compiled.all_values spec c h typed schemes decides trees ends)) at

  pub closed : CompiledModulesAreClosed → AreClosed (is_declared c) E
  closed law = of-declared (λ (known : ℕ → Bool). AreClosed known E) (law spec typed c h trees ends)

pub modules-move : ModulesOfModelsAreSymmetric
    → ((spec : Spec) (X : text.Equation) (p : Program) → IsMadeOf spec X p → IsProgramOf spec X p)
    → ((spec : Spec) → IsWellTyped spec → All (λ (X : text.Equation). (p : Program) → IsProgramOf spec X p → DecidesEquation spec X p) spec.equations)
    → ModulesMoveWithStates
modules-move law schemes decides m names g typed c h trees ends f states s on alike =
    let spec = translation_by m names g in
    let E : List (Equation ℕ) = numbered 0 (map signature_of c.equations) trees in
    let moves = along-moved m names g typed.declarations.predicate_variables f in
    let same : (n : ℕ) → is_number spec n ≡ true → along spec (carried f) n ≡ on n = λ n k. let r = moves n k in r.1 ∙ alike n r.0 in
    of-declared spec typed c h (schemes spec) (decides spec typed) trees ends (λ (known : ℕ → Bool). IsSymmetry known E on)
    (symmetric-alike (is_number spec) (along spec (carried f)) on same E E (law m names g typed c h trees ends f states s))
