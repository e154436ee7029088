-- The scheme's programs decide the equations of a well-typed specification.
use Rattle.std.proofs.Common.{◌≡◌, zero, suc, true, List, [], ◌∷◌, length, refl, sym, ap, ◌∙◌, subst, arith, true≢false}
use Rattle.std.specs.List.{All}
use Rattle.std.proofs.lemmas.Bool.{and_parts}
use Rattle.std.proofs.lemmas.List.{length-map}
use Rattle.pb_base_values.specs.Carrier.{Carrier, Tuple, contains, is_within}
use Rattle.pb_fixpoint_trees.specs.Tree.{Tree}
use Rattle.pb_text_meaning.specs.Syntax.{Variable, Equation, Spec}
use Rattle.pb_text_meaning.specs.Sorts.{carrier_of}
use Rattle.pb_text_meaning.specs.Formula.{carriers_of}
use Rattle.pb_typing_rules.specs.Formula.{IsProper}
use Rattle.pb_typing_rules.specs.WellTyped.{parameter_scope, AreProper, IsWellTyped}
use Rattle.pb_bytecode_program.specs.Machine.{Program}
use Rattle.pb_bytecode_program.specs.Safety.{AreArguments, EndsWith}
use Rattle.pb_normal.specs.Normal.{Formula}
use Rattle.pb_normal.specs.Equations.{normal_equation, NormalFormKeepsTruth}
use Rattle.pb_normal.specs.Answer.{slots_of}
use Rattle.pb_normal.proofs.Answer.{slots-hold}
use Rattle.pb_assembler_scheme.specs.Correct.{Declares, HasFullCalls, TreeHasTruth, IsCompiled}
use Rattle.pb_assembler_scheme.specs.Equations.{IsProgramOf, DecidesEquation}
use Rattle.pb_assembler_scheme.proofs.FullCalls.{equation-full}

within-length : (cs : List Carrier) (vs : Tuple) → is_within cs vs ≡ true → length vs ≡ length cs
within-length [] [] e = refl
within-length [] (v ∷ vs) e = absurd (true≢false (sym e))
within-length (c ∷ cs) [] e = absurd (true≢false (sym e))
within-length (c ∷ cs) (v ∷ vs) e = ap suc (within-length cs vs (and_parts (contains c v) (is_within cs vs) e).1)

-- what is proved of programs whose run ends with a tree
abbrev pub EndedLaw : Type 0
EndedLaw =
    (spec : Spec) (p : Program) (f : Formula) (tuple : Tuple) (tree : Tree) → IsCompiled p f → HasFullCalls p.callees f
    → Declares spec p.callees → AreArguments p.parameters tuple → EndsWith p tuple tree → TreeHasTruth spec f tuple tree

module _ (ended : EndedLaw) (spec : Spec) (typed : IsWellTyped spec) where
  decides-equation : (X : Equation) → IsProper spec true (parameter_scope spec X) X.right → NormalFormKeepsTruth spec X → (p : Program) → IsProgramOf spec X p → DecidesEquation spec X p
  decides-equation X proper keeps p h tuple tree fit end numbers t matches =
      let inside : is_within (carriers_of spec X.parameters) tuple ≡ true = subst (λ (cs : List Carrier). is_within cs tuple ≡ true) h.parameters fit in
      let long : length tuple ≡ length X.parameters = within-length (carriers_of spec X.parameters) tuple inside ∙ length-map X.parameters (λ (x : Variable). carrier_of spec x.sort) in
      let declares : Declares spec p.callees = record { carriers = h.callees; apart = typed.declarations.predicate_variables } in
      ended spec p (normal_equation spec X) tuple tree h.compiled (equation-full spec p.callees h.callees X proper) declares fit end numbers t matches
      ∙ keeps t (slots_of tuple) (record { name = X.name; values = tuple }) long (slots-hold tuple)

  rights-decide : (E : List Equation) → AreProper spec E → All (NormalFormKeepsTruth spec) E → All (λ (X : Equation). (p : Program) → IsProgramOf spec X p → DecidesEquation spec X p) E
  rights-decide [] proper keeps k d below = absurd (omega arith)
  rights-decide (X ∷ E) proper keeps zero d below = decides-equation X proper.0 (keeps zero d below)
  rights-decide (X ∷ E) proper keeps (suc k) d below = rights-decide E proper.1 (λ j e less. keeps (suc j) e (omega arith)) k d (omega arith)

  pub equations-decide : All (NormalFormKeepsTruth spec) spec.equations → All (λ (X : Equation). (p : Program) → IsProgramOf spec X p → DecidesEquation spec X p) spec.equations
  equations-decide keeps = rights-decide spec.equations typed.rights keeps
