-- A quantifier by the parts that are read of it, and its body under its variables.
use Rattle.std.proofs.Common.{◌≡◌, ℕ, ◌+◌, List, [], ◌++◌, length, sym, ◌∙◌, ap, subst}
use Rattle.std.proofs.lemmas.List.{append_assoc}
use Rattle.pb_sorts.specs.declared.carrier.Carrier.{Carrier}
use Rattle.pb_text_tree.specs.declared.operator.Quantifier.{Quantifier}
use Rattle.pb_text_tree.specs.declared.variable.Variables.{Variables}
use Rattle.pb_text_tree.specs.Form.{variable_forms}
use Rattle.pb_text_meaning.specs.Syntax as syntax
use Rattle.pb_text_meaning.specs.Syntax.{Variable, Spec}
use Rattle.pb_base.specs.declared.or_memory.OrMemory.{OrMemory}
use Rattle.pb_typing_declarations.specs.declared.fault.TypingFault.{TypingFault}
use Rattle.pb_typing_declarations.specs.Declarations.{variables_faults}
use Rattle.pb_typing_declarations.specs.Entries.{shapes_of}
use Rattle.pb_typing_declarations.specs.Faults.{IsAmong}
use Rattle.pb_typing_declarations.specs.Shapes.{Shape}
use Rattle.pb_typing_declarations.proofs.Parts.{first_clear}
use Rattle.pb_typing_rules.specs.Scope.{Scope, bound}
use Rattle.pb_typing_tree.specs.declared.formula.Formula as code
use Rattle.pb_typing_tree.specs.Elaboration.{Slotting, elaborated, with_slots}
use Rattle.pb_typing_tree.specs.Loops.{loops, variable_shapes}
use Rattle.pb_typing_tree.specs.View.{formula_view, nested}
use Rattle.pb_typing_nodes.specs.declared.variables.Bound.{Bound}
use Rattle.pb_typing_nodes.specs.Bound.{IsBound}
use Rattle.pb_typing_nodes.specs.Scopes.{inner_slots, inner_view}
use Rattle.pb_typing_nodes.proofs.SlotLemmas.{inner_scope, inner_slotting, length_behind, length-variables, variables_of}
use Rattle.pb_typing.proofs.ElaboratedChains.{each-nested}

-- all its faults are those of its variables, then those of its body by the body's scope, and it is read as one over what the body is read as
pub record IsQuantifier (S : Spec) (a : Scope) (q : Quantifier) (groups : List Variables) (all : List TypingFault) (inner : Scope → List TypingFault) (whole body : syntax.Formula) : Type 0 where
  pub faults : all ≡ variables_faults S (variable_forms groups) ++ inner (bound S (variables_of groups) a)
  pub node : whole ≡ syntax.Formula.Quantified q (variables_of groups) body

-- a fault of the body is one of the whole
pub body_among : {S : Spec} {a : Scope} {groups : List Variables} {inner : Scope → List TypingFault} {b : Bound} {q : Quantifier} {all : List TypingFault} {whole body : syntax.Formula}
    {before : List Carrier} (e : OrMemory TypingFault) → IsQuantifier S a q groups all inner whole body
    → variables_faults S (variable_forms groups) ≡ [] → IsBound S (variables_of groups) before b
    → IsAmong (inner (inner_view b.table a)) e → IsAmong all e
body_among {S} {a} {groups} {inner} {b} e read none own h =
    subst (λ (zs : List TypingFault). IsAmong zs e) (sym (first_clear _ _ _ read.faults none))
    (subst (λ (i : Scope). IsAmong (inner i) e) (inner_scope S (variables_of groups) b.table a own.shapes) h)

-- where neither the variables nor the body have one, the whole has none
pub body_clear : {S : Spec} {a : Scope} {groups : List Variables} {inner : Scope → List TypingFault} {b : Bound} {q : Quantifier} {all : List TypingFault} {whole body : syntax.Formula}
    {before : List Carrier} → IsQuantifier S a q groups all inner whole body
    → variables_faults S (variable_forms groups) ≡ [] → IsBound S (variables_of groups) before b
    → inner (inner_view b.table a) ≡ [] → all ≡ []
body_clear {S} {a} {groups} {inner} {b} read none own h =
    first_clear _ _ _ read.faults none ∙ subst (λ (i : Scope). inner i ≡ []) (inner_scope S (variables_of groups) b.table a own.shapes) h

-- its carriers, and a body under its slots
quantified-view : (S : Spec) (q : Quantifier) (xs : List Variable) (c inner : Slotting) (scope : Scope) (f : syntax.Formula) (old mid own : List Carrier) (slot : ℕ) (body : code.Formula)
    → slot ≡ length old → inner ≡ with_slots xs (length old) c → shapes_of own ≡ variable_shapes S xs → shapes_of mid ≡ shapes_of old ++ variable_shapes S xs
    → formula_view body ≡ elaborated S inner (bound S xs scope) (length mid) f
    → nested q slot own (formula_view body) ≡ elaborated S c scope (length old) (syntax.Formula.Quantified q xs f)
quantified-view S q xs c inner scope f old mid own slot body at slots shapes grows form =
    let n = length old in
    let count : length mid ≡ n + length xs = length_behind old mid (variable_shapes S xs) grows ∙ ap (λ (k : ℕ). n + k) (length-variables S xs) in
    ap (λ (k : ℕ). nested q k own (formula_view body)) at
    ∙ (ap (nested q n own)
    (form
    ∙ (ap (λ (d : Slotting). elaborated S d (bound S xs scope) (length mid) f) slots
    ∙ ap (λ (k : ℕ). elaborated S (with_slots xs n c) (bound S xs scope) k f) count))
    ∙ sym (each-nested S q xs c n (λ d k. elaborated S d (bound S xs scope) k f) own shapes))

pub body_view : {S : Spec} {a : Scope} {groups : List Variables} {b : Bound} {q : Quantifier} {whole body : syntax.Formula} {before : List Carrier} {all : List TypingFault}
    {inner : Scope → List TypingFault} (c : Slotting) (mid : List Carrier) (g : code.Formula) → IsQuantifier S a q groups all inner whole body
    → IsBound S (variables_of groups) before b
    → shapes_of mid ≡ shapes_of before ++ variable_shapes S (variables_of groups)
    → formula_view g ≡ elaborated S (inner_slots b.table c) (inner_view b.table a) (length mid) body
    → nested q b.slot b.carriers.items (formula_view g) ≡ elaborated S c a (length before) whole
body_view {S} {a} {groups} {b} {q} {whole} {body} {before} c mid g read own grows made =
    let xs = variables_of groups in
    quantified-view S q xs c (inner_slots b.table c) a body before mid b.carriers.items b.slot g
    own.slot (inner_slotting xs (length before) b.table c own.slots) own.carriers grows
    (made ∙ ap (λ (i : Scope). elaborated S (inner_slots b.table c) i (length mid) body) (inner_scope S xs b.table a own.shapes))
    ∙ sym (ap (elaborated S c a (length before)) read.node)

-- the carriers of its variables, then those of its body
pub body_loops : {S : Spec} {q : Quantifier} {groups : List Variables} {body whole : syntax.Formula} {a : Scope} {all : List TypingFault} {inner : Scope → List TypingFault}
    (old mid new : List Carrier) → IsQuantifier S a q groups all inner whole body → shapes_of mid ≡ shapes_of old ++ variable_shapes S (variables_of groups)
    → shapes_of new ≡ shapes_of mid ++ loops S body → shapes_of new ≡ shapes_of old ++ loops S whole
body_loops {S} {q} {groups} {body} old mid new read own behind =
    behind
    ∙ (ap (λ (ss : List Shape). ss ++ loops S body) own
    ∙ (append_assoc (shapes_of old) (variable_shapes S (variables_of groups)) (loops S body)
    ∙ sym (ap (λ (f : syntax.Formula). shapes_of old ++ loops S f) read.node)))
