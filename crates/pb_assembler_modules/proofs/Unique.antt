-- A text has at most one compiled module.
use Rattle.std.proofs.Common.{◌≡◌, ℕ, List, [], ◌∷◌, map, length, refl, sym, ap, ◌∙◌}
use Rattle.pb_base_values.specs.Carrier.{Tuple}
use Rattle.pb_fixpoint.specs.declared.Sign.{Sign}
use Rattle.pb_sorts.specs.declared.carrier.Carrier.{Carrier}
use Rattle.pb_text_meaning.specs.Syntax.{Equation, Spec}
use Rattle.pb_bytecode_program.specs.Counts.{cost_of, one_step, tokens_of}
use Rattle.pb_bytecode_program.specs.declared.instruction.Op.{Op}
use Rattle.pb_bytecode.specs.Contents.{SortContents, EquationContents, Contents}
use Rattle.pb_bytecode.specs.Meaning.{parameters, program_of}
use Rattle.pb_bytecode_program.specs.declared.version.Version.{Version}
use Rattle.pb_normal.specs.Equations.{normal_equation}
use Rattle.pb_assembler_scheme.specs.Scheme.{equation_code}
use Rattle.pb_assembler_modules.specs.Module.{IsEquationOf, AreEquationsOf, IsCompiledModule}
use Rattle.pb_assembler_modules.proofs.Carriers.{same_carriers, same_slots}
use Rattle.pb_assembler_modules.proofs.StatedCounts.{cost_same}

-- ---- contents, part by part

abbrev pub contents : Sign → List ℕ → (parameters loops : List Carrier) → (steps tokens : ℕ) → List Op → EquationContents
contents sign name parameters loops steps tokens code = record { sign = sign; name = name; parameters = parameters; loops = loops; steps = steps; tokens = tokens; code = code }

pub same_contents : (s s' : Sign) (n n' : List ℕ) (ps ps' ls ls' : List Carrier) (st st' to to' : ℕ) (co co' : List Op)
    → s ≡ s' → n ≡ n' → ps ≡ ps' → ls ≡ ls' → st ≡ st' → to ≡ to' → co ≡ co'
    → contents s n ps ls st to co ≡ contents s' n' ps' ls' st' to' co'
same_contents s s' n n' ps ps' ls ls' st st' to to' co co' z a b c d e f =
    ap (λ x. contents x n ps ls st to co) z ∙ ap (λ x. contents s' x ps ls st to co) a ∙ ap (λ x. contents s' n' x ls st to co) b ∙ ap (λ x. contents s' n' ps' x st to co) c
    ∙ ap (λ x. contents s' n' ps' ls' x to co) d ∙ ap (λ x. contents s' n' ps' ls' st' x co) e ∙ ap (λ x. contents s' n' ps' ls' st' to' x) f

abbrev whole : Version → List SortContents → List EquationContents → ℕ → Tuple → Contents
whole version sorts equations equation values = record { version = version; sorts = sorts; equations = equations; initial = record { equation = equation; values = values } }

same_whole : (v v' : Version) (s s' : List SortContents) (es es' : List EquationContents) (k k' : ℕ) (vs vs' : Tuple)
    → v ≡ v' → s ≡ s' → es ≡ es' → k ≡ k' → vs ≡ vs' → whole v s es k vs ≡ whole v' s' es' k' vs'
same_whole v v' s s' es es' k k' vs vs' a b c d e =
    ap (λ x. whole x s es k vs) a ∙ ap (λ x. whole v' x es k vs) b ∙ ap (λ x. whole v' s' x k vs) c ∙ ap (λ x. whole v' s' es' x vs) d ∙ ap (λ x. whole v' s' es' k' x) e

-- ---- two modules of one text

module _ (spec : Spec) (m n : Contents) (h : IsCompiledModule spec m) (k : IsCompiledModule spec n) where
  equal_parameters : (E : List Equation) (es ds : List EquationContents) → AreEquationsOf spec m E es → AreEquationsOf spec n E ds
      → map (λ (e : EquationContents). e.parameters) es ≡ map (λ (e : EquationContents). e.parameters) ds
  equal_parameters [] [] [] q r = refl
  equal_parameters [] [] (d ∷ ds) q r = absurd r
  equal_parameters [] (e ∷ es) ds q r = absurd q
  equal_parameters (X ∷ E) [] ds q r = absurd q
  equal_parameters (X ∷ E) (e ∷ es) [] q r = absurd r
  equal_parameters (X ∷ E) (e ∷ es) (d ∷ ds) q r =
      let first = same_carriers e.parameters d.parameters (q.0.parameters ∙ sym r.0.parameters) in
      let rest = equal_parameters E es ds q.1 r.1 in
      cc

  equal_callees : parameters m ≡ parameters n
  equal_callees = equal_parameters spec.equations m.equations n.equations h.equations k.equations

  equal_equation : (X : Equation) (e d : EquationContents) → IsEquationOf spec m X e → IsEquationOf spec n X d → e ≡ d
  equal_equation X e d q r =
      let f = normal_equation spec X in
      let p = program_of m e in
      let o = program_of n d in
      let own = same_carriers e.parameters d.parameters (q.parameters ∙ sym r.parameters) in
      let loops = same_slots (length e.parameters) (length d.parameters) e.loops d.loops (sym q.compiled.slots ∙ r.compiled.slots) in
      let code : e.code ≡ d.code = q.compiled.code ∙ ap (λ (cs : List (List Carrier)). equation_code cs f) equal_callees ∙ sym r.compiled.code in
      let steps : e.steps ≡ d.steps = q.compiled.steps ∙ cost_same p o own loops one_step e.code [] ∙ ap (λ (is : List Op). cost_of o one_step is []) code ∙ sym r.compiled.steps in
      let tokens : e.tokens ≡ d.tokens = q.compiled.tokens ∙ cost_same p o own loops tokens_of e.code [] ∙ ap (λ (is : List Op). cost_of o tokens_of is []) code ∙ sym r.compiled.tokens in
      same_contents e.sign d.sign e.name d.name e.parameters d.parameters e.loops d.loops e.steps d.steps e.tokens d.tokens e.code d.code
      (q.sign ∙ sym r.sign) (q.name ∙ sym r.name) own loops steps tokens code

  equal_equations : (E : List Equation) (es ds : List EquationContents) → AreEquationsOf spec m E es → AreEquationsOf spec n E ds → es ≡ ds
  equal_equations [] [] [] q r = refl
  equal_equations [] [] (d ∷ ds) q r = absurd r
  equal_equations [] (e ∷ es) ds q r = absurd q
  equal_equations (X ∷ E) [] ds q r = absurd q
  equal_equations (X ∷ E) (e ∷ es) [] q r = absurd r
  equal_equations (X ∷ E) (e ∷ es) (d ∷ ds) q r =
      let first = equal_equation X e d q.0 r.0 in
      let rest = equal_equations E es ds q.1 r.1 in
      cc

  pub one_module : m ≡ n
  one_module =
      same_whole m.version n.version m.sorts n.sorts m.equations n.equations m.initial.equation n.initial.equation m.initial.values n.initial.values
      (h.version ∙ sym k.version) (h.sorts ∙ sym k.sorts)
      (equal_equations spec.equations m.equations n.equations h.equations k.equations)
      (h.initial ∙ sym k.initial) (h.values ∙ sym k.values)
