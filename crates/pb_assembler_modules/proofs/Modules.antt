-- A compiled module is accepted, and its trees have the text's answer.
use Rattle.std.proofs.Common.{◌≡◌, ℕ, zero, suc, List, [], ◌∷◌, map, length, Some, refl, sym, ap, ◌∙◌, subst, arith}
use Rattle.std.specs.List.{All, slice_get}
use Rattle.std.proofs.lemmas.Option.{slice_get_within, get_or_from_slice_get}
use Rattle.std.proofs.lemmas.List.{length-map}
use Rattle.pb_base_values.specs.Carrier.{tuple_count}
use Rattle.pb_sorts.specs.Carrier.{values_of}
use Rattle.pb_sorts.specs.Instance.{number_of}
use Rattle.pb_sorts.specs.Layout as layout
use Rattle.pb_fixpoint_trees.specs.Tree.{Tree}
use Rattle.pb_fixpoint_trees.specs.Equations.{solved}
use Rattle.pb_text_meaning.specs.Syntax.{Enumerator, Sort, Struct, Alias, SortDeclaration, Equation, Spec}
use Rattle.pb_text_meaning.specs.Formula.{carriers_of}
use Rattle.pb_typing_rules.specs.WellTyped.{IsWellTyped}
use Rattle.pb_typing_values.specs.Environment.{all_carriers}
use Rattle.pb_bytecode_program.specs.Machine.{Program}
use Rattle.pb_bytecode_program.specs.Safety.{AreArguments, EndsWith}
use Rattle.pb_bytecode_program.specs.Accepted.{Accepted, Table}
use Rattle.pb_bytecode.specs.Contents.{EquationContents, Contents, counts}
use Rattle.pb_bytecode.specs.Meaning.{parameters, program_of, signature_of, AreTrees, number_at}
use Rattle.pb_verifier.specs.Acceptance.{HasTable, IsAccepted}
use Rattle.pb_normal.specs.Equations.{normal_equation}
use Rattle.pb_normal.specs.View.{shapes_of}
use Rattle.pb_assembler_scheme.specs.Correct.{number_in}
use Rattle.pb_assembler_scheme.specs.Equations.{IsProgramOf, DecidesEquation}
use Rattle.pb_assembler_scheme.specs.System as scheme
use Rattle.pb_assembler_scheme.specs.System.{ArePrograms}
use Rattle.pb_assembler_scheme.proofs.System.{have-answer, solutions-match}
use Rattle.pb_assembler_scheme.specs.Limits.{KeepsLimits}
use Rattle.pb_assembler_scheme.specs.Made.{with_count, struct_counts, parameter_shapes, IsMadeOf}
use Rattle.pb_assembler_modules.specs.Module.{with_names, struct_names, IsEquationOf, AreEquationsOf, IsCompiledModule, KeepLimits, KeepsAllLimits}
use Rattle.pb_assembler_modules.specs.Answers.{SaysTheSame, TreesHold}

-- ---- the parts of a module

pub counted : (ds : List SortDeclaration) → counts (struct_names ds) ≡ struct_counts ds
counted [] = refl
counted (d ∷ ds) = by d.sort (counted ds)
  where
    by : (s : Sort) → counts (struct_names ds) ≡ struct_counts ds → counts (with_names s (struct_names ds)) ≡ with_count s (struct_counts ds)
    by (Struct es) e = ap (λ n. n ∷ counts (struct_names ds)) (length-map es (λ (x : Enumerator). x.name)) ∙ ap (λ (ns : List ℕ). length es ∷ ns) e
    by (Alias t) e = e

callees : (spec : Spec) (m : Contents) (E : List Equation) (es : List EquationContents) → AreEquationsOf spec m E es
    → map shapes_of (map (λ (e : EquationContents). e.parameters) es) ≡ parameter_shapes spec E
callees spec m [] [] h = refl
callees spec m [] (e ∷ es) h = absurd h
callees spec m (X ∷ E) [] h = absurd h
callees spec m (X ∷ E) (e ∷ es) h = let first = h.0.parameters in let rest = callees spec m E es h.1 in cc

module _ (spec : Spec) (m : Contents) (h : IsCompiledModule spec m) where
  pub made : (X : Equation) (e : EquationContents) → IsEquationOf spec m X e → IsMadeOf spec X (program_of m e)
  made X e q = record {
    compiled = q.compiled;
    sorts = ap counts h.sorts ∙ counted spec.sorts;
    parameters = q.parameters;
    callees = callees spec m spec.equations m.equations h.equations;
  }

  -- ---- acceptance

  module _ (law : All (λ (X : Equation). (p : Program) → IsMadeOf spec X p → KeepsLimits p (normal_equation spec X) → (table : Table) × Accepted p table) spec.equations) where
    table_at : (E : List Equation) (es : List EquationContents) → AreEquationsOf spec m E es → KeepLimits spec m E es
        → All (λ (X : Equation). (p : Program) → IsMadeOf spec X p → KeepsLimits p (normal_equation spec X) → (table : Table) × Accepted p table) E
        → (k : ℕ) (e : EquationContents) → slice_get es k ≡ Some e → HasTable (program_of m e)
    table_at [] [] q l all k e at = cc
    table_at [] (d ∷ es) q l all k e at = absurd q
    table_at (X ∷ E) [] q l all k e at = absurd q
    table_at (X ∷ E) (d ∷ es) q l all zero e at =
        let same : d ≡ e = cc in
        let r = all 0 X (omega arith) (program_of m d) (made X d q.0) l.0 in
        subst (λ (b : EquationContents). HasTable (program_of m b)) same (record { table = r.0; accepted = r.1 })
    table_at (X ∷ E) (d ∷ es) q l all (suc k) e at = table_at E es q.1 l.1 (λ i Y b. all (suc i) Y (omega arith)) k e at

    pub module_accepted : KeepsAllLimits spec m → IsAccepted m
    module_accepted limits = record { codes = table_at spec.equations m.equations h.equations limits law }

  -- ---- the answer

  module _ (typed : IsWellTyped spec) (programs_made : (X : Equation) (p : Program) → IsMadeOf spec X p → IsProgramOf spec X p)
      (decides : All (λ (X : Equation). (p : Program) → IsProgramOf spec X p → DecidesEquation spec X p) spec.equations) (trees : ℕ → Tree) (ends : AreTrees m trees) where
    pub are_programs : (E : List Equation) (es : List EquationContents) → AreEquationsOf spec m E es → ArePrograms spec E (map (program_of m) es)
    are_programs [] [] q = tt
    are_programs [] (e ∷ es) q = absurd q
    are_programs (X ∷ E) [] q = absurd q
    are_programs (X ∷ E) (e ∷ es) q = (programs_made X (program_of m e) (made X e q.0), are_programs E es q.1)

    -- the carriers of parameters, which number the instances
    same_values : (E : List Equation) (es : List EquationContents) → AreEquationsOf spec m E es
        → layout.carriers_of (map (λ (e : EquationContents). e.parameters) es) ≡ map (λ (X : Equation). carriers_of spec X.parameters) E
    same_values [] [] q = refl
    same_values [] (e ∷ es) q = absurd q
    same_values (X ∷ E) [] q = absurd q
    same_values (X ∷ E) (e ∷ es) q = let first = (programs_made X (program_of m e) (made X e q.0)).parameters in let rest = same_values E es q.1 in cc

    same_signatures : (E : List Equation) (es : List EquationContents) → AreEquationsOf spec m E es → map signature_of es ≡ map (scheme.signature_of spec) E
    same_signatures [] [] q = refl
    same_signatures [] (e ∷ es) q = absurd q
    same_signatures (X ∷ E) [] q = absurd q
    same_signatures (X ∷ E) (e ∷ es) q =
        let size = ap tuple_count (programs_made X (program_of m e) (made X e q.0)).parameters in
        let sign = q.0.sign in
        let first : signature_of e ≡ scheme.signature_of spec X =
        ap (λ s. record { sign = s; size = tuple_count (map values_of e.parameters) }) sign
        ∙ ap (λ n. record { sign = X.sign; size = n }) size in
        let rest = same_signatures E es q.1 in
        cc

    pub all_values : layout.carriers_of (parameters m) ≡ all_carriers spec
    all_values = same_values spec.equations m.equations h.equations

    has_equation : (es : List EquationContents) (k : ℕ) (p : Program) → slice_get (map (program_of m) es) k ≡ Some p → (e : EquationContents) × (slice_get es k ≡ Some e) × (program_of m e ≡ p)
    has_equation [] k p at = cc
    has_equation (e ∷ es) zero p at = (e, refl, cc)
    has_equation (e ∷ es) (suc k) p at = has_equation es k p at

    pub are_trees : scheme.AreTrees spec (map (program_of m) m.equations) trees
    are_trees k p tuple at fit =
        let q = has_equation m.equations k p at in
        let fits = subst (λ (b : Program). AreArguments b.parameters tuple) (sym q.2) fit in
        let end = ends k q.0 tuple q.1 fits in
        subst (λ (b : Program). EndsWith b tuple (trees (number_of (all_carriers spec) (record { equation = k; values = tuple })))) q.2
        (subst (λ cs. EndsWith (program_of m q.0) tuple (trees (number_of cs (record { equation = k; values = tuple })))) all_values end)

    has_equation_of : (E : List Equation) (es : List EquationContents) → AreEquationsOf spec m E es
        → (k : ℕ) (X : Equation) (e : EquationContents) → slice_get E k ≡ Some X → slice_get es k ≡ Some e → IsEquationOf spec m X e
    has_equation_of [] [] q k X e a b = cc
    has_equation_of [] (d ∷ es) q k X e a b = absurd q
    has_equation_of (Y ∷ E) [] q k X e a b = absurd q
    has_equation_of (Y ∷ E) (d ∷ es) q zero X e a b =
        let first : Y ≡ X = cc in
        let second : d ≡ e = cc in
        subst (λ (Z : Equation). IsEquationOf spec m Z e) first (subst (λ (c : EquationContents). IsEquationOf spec m Y c) second q.0)
    has_equation_of (Y ∷ E) (d ∷ es) q (suc k) X e a b = has_equation_of E es q.1 k X e a b

    trees_hold : TreesHold spec m trees
    trees_hold k X e values at_text at fit numbers t matches =
        let q = has_equation_of spec.equations m.equations h.equations k X e at_text at in
        let p = programs_made X (program_of m e) (made X e q) in
        let here = get_or_from_slice_get spec.equations k X X at_text in
        let law : DecidesEquation spec X (program_of m e) =
        subst (λ (Y : Equation). (q : Program) → IsProgramOf spec Y q → DecidesEquation spec Y q) here
        (decides k X (slice_get_within spec.equations k X at_text)) (program_of m e) p in
        law values (trees (number_at m k values)) fit (ends k e values at fit) numbers t matches

    pub signatures : map signature_of m.equations ≡ map (scheme.signature_of spec) spec.equations
    signatures = same_signatures spec.equations m.equations h.equations

    pub says_the_same : SaysTheSame spec m trees
    says_the_same = record {
      answer =
          ap (λ s. solved s trees (number_at m m.initial.equation m.initial.values)) signatures
          ∙ ap (λ cs. solved (map (scheme.signature_of spec) spec.equations) trees (number_of cs (record { equation = m.initial.equation; values = m.initial.values }))) all_values
          ∙ ap (λ k. solved (map (scheme.signature_of spec) spec.equations) trees (number_of (all_carriers spec) (record { equation = k; values = m.initial.values }))) h.initial
          ∙ ap (λ vs. solved (map (scheme.signature_of spec) spec.equations) trees (number_in spec (record { name = spec.initial; values = vs }))) h.values
          ∙ have-answer spec typed decides (map (program_of m) m.equations) (are_programs spec.equations m.equations h.equations) trees are_trees;
      solutions = λ i known.
          ap (λ s. solved s trees (number_in spec i)) signatures
          ∙ sym (solutions-match spec typed decides (map (program_of m) m.equations) (are_programs spec.equations m.equations h.equations) trees are_trees i known);
      trees_hold = trees_hold;
    }
