-- Typed formulas in the code's contexts, node by node.
use Rattle.std.proofs.Common.{◌≡◌, ℕ, Bool, not, List, [], ◌++◌, length, sym, ◌∙◌, ap, subst, Result, Ok, Err, IfOk, OnOk, Box, Vec, Global}
use Rattle.std.specs.Prelude.{box_value, MatchResult}
use Rattle.std.proofs.lemmas.List.{append-nil, append_assoc}
use Rattle.pb_sorts.specs.declared.carrier.Carrier.{Carrier}
use Rattle.pb_text_tree.specs.declared.place.Place.{Place}
use Rattle.pb_text_tree.specs.declared.operator.Connective.{Connective}
use Rattle.pb_text_tree.specs.declared.operator.Quantifier.{Quantifier}
use Rattle.pb_text_tree.specs.declared.variable.Variables.{Variables}
use Rattle.pb_text_tree.specs.declared.formula.Formula as ast
use Rattle.pb_text_tree.specs.declared.formula.Instance.{Instance}
use Rattle.pb_text_tree.specs.declared.formula.Link.{Link}
use Rattle.pb_text_tree.specs.Form as form
use Rattle.pb_text_tree.specs.Form.{FormulaForm, formula_form, link_forms, variable_forms}
use Rattle.pb_text_tree.proofs.FormLemmas.{formula-chain}
use Rattle.pb_text_meaning.specs.Syntax as syntax
use Rattle.pb_text_meaning.specs.Erase.{erased_formula}
use Rattle.pb_base.specs.declared.or_memory.OrMemory.{OrMemory}
use Rattle.pb_typing_declarations.specs.declared.fault.TypingFault.{TypingFault}
use Rattle.pb_typing_declarations.specs.Declarations.{variables_faults}
use Rattle.pb_typing_declarations.specs.Entries.{shapes_of}
use Rattle.pb_typing_declarations.specs.Faults.{IsAmong}
use Rattle.pb_typing_declarations.specs.Shapes.{Shape}
use Rattle.pb_typing_declarations.proofs.Parts.{first_clear}
use Rattle.pb_typing_rules.specs.Faults.{formula_faults, operand_parity}
use Rattle.pb_typing_rules.specs.Scope.{Scope, bound}
use Rattle.pb_typing_tree.specs.declared.formula.Formula as code
use Rattle.pb_typing_tree.specs.Calls.{call_places, calls_in, places_of}
use Rattle.pb_typing_tree.specs.Elaboration.{elaborated}
use Rattle.pb_typing_tree.specs.Expansion.{expanded}
use Rattle.pb_typing_tree.specs.Loops.{loops}
use Rattle.pb_typing_tree.specs.Tree.{Connected, Formula}
use Rattle.pb_typing_tree.specs.View.{chained_formula, formula_views}
use Rattle.pb_typing_nodes.specs.declared.context.Context.{Context}
use Rattle.pb_typing_nodes.specs.Contexts.{scope_in, slots_in, text_in}
use Rattle.pb_typing_nodes.proofs.SlotLemmas.{variables_of}
use Rattle.pb_typing.specs.Contexts.{AddsLoops, ChecksFormula}
use Rattle.pb_typing.specs.FormulaLinks.{elaborated_links, formula_link_faults, links_calls, links_loops}
use Rattle.pb_typing.specs.Tree.{formula_of}
use Rattle.pb_typing.proofs.Bodies.{IsQuantifier}
use Rattle.pb_typing.proofs.ElaboratedChains.{chained-elaborated}
use Rattle.pb_typing.proofs.FormulaLinks.{chain_first}
use Rattle.pb_typing.proofs.FormulaSteps.{chain-loops, form-calls}
use Rattle.pb_typing.proofs.ValueLemmas.{grown}
use Rattle.pb_typing.proofs.ValueNodes.{on_ok}

-- ---- in a context

abbrev pub formula_faults_in : Context → Bool → ast.Formula → List TypingFault
formula_faults_in X even f = formula_faults (text_in X) even (scope_in X) (formula_form f)

abbrev pub formula_in : Context → ℕ → ast.Formula → Formula
formula_in X n f = elaborated (text_in X) (slots_in X) (scope_in X) n (formula_of f)

abbrev pub links_in : Context → ℕ → List Link → List Formula
links_in X n links = elaborated_links (text_in X) (slots_in X) (scope_in X) n links

-- ---- data and calls: a formula is checked as what it is

pub checks_as : (X : Context) (even : Bool) (n : ℕ) {f g : ast.Formula} (r : Result code.Formula (OrMemory TypingFault)) → f ≡ g
    → ChecksFormula X even n (formula_form g) r → ChecksFormula X even n (formula_form f) r
checks_as X even n r is h = subst (λ (z : ast.Formula). ChecksFormula X even n (formula_form z) r) (sym is) h

pub loops_as : (X : Context) (old new : List Carrier) {f g : ast.Formula} (r : Result code.Formula (OrMemory TypingFault)) → f ≡ g
    → OnOk r (AddsLoops X old new (formula_of g)) → OnOk r (AddsLoops X old new (formula_of f))
loops_as X old new r is h = subst (λ (z : ast.Formula). OnOk r (AddsLoops X old new (formula_of z))) (sym is) h

pub places_as : {f g : ast.Formula} (r : Result code.Formula (OrMemory TypingFault)) → f ≡ g
    → IfOk r (λ (y : code.Formula). call_places y ≡ calls_in (formula_form g))
    → IfOk r (λ (y : code.Formula). call_places y ≡ calls_in (formula_form f))
places_as r is h = subst (λ (z : ast.Formula). IfOk r (λ (y : code.Formula). call_places y ≡ calls_in (formula_form z))) (sym is) h

-- a call has no quantifier
pub call_loops : (X : Context) {f : ast.Formula} (i : Instance) (old : List Carrier) (r : Result code.Formula (OrMemory TypingFault))
    → f ≡ ast.Instance i → OnOk r (AddsLoops X old old (formula_of f))
call_loops X i old r is = on_ok r _ (sym (ap (λ (g : ast.Formula). shapes_of old ++ loops (text_in X) (formula_of g)) is ∙ append-nil (shapes_of old)))

-- ---- negations

-- a negation by its operand, which has the other polarity
pub record IsNegation (X : Context) (even opposite : Bool) (f x : ast.Formula) : Type 0 where
  pub faults : formula_faults_in X even f ≡ formula_faults_in X opposite x
  pub node : formula_of f ≡ syntax.Formula.Not (formula_of x)
  pub calls : calls_in (formula_form f) ≡ calls_in (formula_form x)

pub negation-read : (X : Context) (even : Bool) {opposite : Bool} {f x : ast.Formula} (p : Place) (operand : Box ast.Formula Global)
    → f ≡ ast.Negation p operand → x ≡ box_value operand → opposite ≡ not even → IsNegation X even opposite f x
negation-read X even {opposite} {f} {x} p operand is same odd = record {
  faults =
      ap (formula_faults_in X even) is
      ∙ (ap (formula_faults_in X (not even)) (sym same) ∙ ap (λ (b : Bool). formula_faults_in X b x) (sym odd));
  node = ap formula_of is ∙ ap (λ (g : ast.Formula). syntax.Formula.Not (formula_of g)) (sym same);
  calls = ap (λ (g : ast.Formula). calls_in (formula_form g)) is ∙ ap (λ (g : ast.Formula). calls_in (formula_form g)) (sym same);
}

pub negation_among : {X : Context} {even opposite : Bool} {f x : ast.Formula} (e : OrMemory TypingFault) → IsNegation X even opposite f x
    → IsAmong (formula_faults_in X opposite x) e → IsAmong (formula_faults_in X even f) e
negation_among e read h = subst (λ (zs : List TypingFault). IsAmong zs e) (sym read.faults) h

-- ---- quantifiers

abbrev pub IsFormulaQuantifier : Context → Bool → ast.Formula → Quantifier → List Variables → ast.Formula → Type 0
IsFormulaQuantifier X even f q groups x =
    IsQuantifier (text_in X) (scope_in X) q groups (formula_faults_in X even f) (λ (i : Scope). formula_faults (text_in X) even i (formula_form x)) (formula_of f) (formula_of x)

pub quantifier-read : (X : Context) (even : Bool) {f : ast.Formula} (p : Place) (q : Quantifier) (vs : Vec Variables Global) (body : Box ast.Formula Global) (x : ast.Formula)
    {groups : List Variables} → f ≡ ast.Quantified p q vs body → x ≡ box_value body → groups ≡ vs.items → IsFormulaQuantifier X even f q groups x
quantifier-read X even p q vs body x is same are =
    let S = text_in X in
    let a = scope_in X in
    record {
      faults =
          ap (formula_faults_in X even) is
          ∙ sym (ap (λ (gs : List Variables). variables_faults S (variable_forms gs) ++ formula_faults S even (bound S (variables_of gs) a) (formula_form x)) are
          ∙ ap (λ (g : ast.Formula). variables_faults S (variable_forms vs.items) ++ formula_faults S even (bound S (variables_of vs.items) a) (formula_form g)) same);
      node =
          ap formula_of is
          ∙ sym (ap (λ (gs : List Variables). syntax.Formula.Quantified q (variables_of gs) (formula_of x)) are
          ∙ ap (λ (g : ast.Formula). syntax.Formula.Quantified q (variables_of vs.items) (formula_of g)) same);
    }

-- it has the calls of its body
pub quantified-calls : {f x : ast.Formula} (p : Place) (q : Quantifier) (vs : Vec Variables Global) (body : Box ast.Formula Global) → f ≡ ast.Quantified p q vs body → x ≡ box_value body
    → calls_in (formula_form f) ≡ calls_in (formula_form x)
quantified-calls p q vs body is same = ap (λ (g : ast.Formula). calls_in (formula_form g)) is ∙ ap (λ (g : ast.Formula). calls_in (formula_form g)) (sym same)

-- ---- chains

-- a chain of a first operand, which has a polarity of its own, and those linked to it
pub record IsChain (X : Context) (even first_even : Bool) (f x : ast.Formula) (o : Connective) (links : List Link) : Type 0 where
  pub faults : formula_faults_in X even f ≡ formula_faults_in X first_even x ++ formula_link_faults (text_in X) (scope_in X) o even links
  pub node : formula_form f ≡ form.chained (FormulaForm.connected o) (formula_form x) (link_forms links)

pub chain-read : (X : Context) (even : Bool) {first_even : Bool} {f x : ast.Formula} (o : Connective) (first : Box ast.Formula Global) (v : Vec Link Global) (n : ℕ) {links : List Link}
    → f ≡ ast.Chain o first v → x ≡ box_value first → links ≡ v.items → n ≡ length v.items → first_even ≡ operand_parity o even n → IsChain X even first_even f x o links
chain-read X even {first_even} {f} {x} o first v n is same are count parity = record {
  faults =
      chain_first (text_in X) (scope_in X) even f x o first v n first_even is same count parity
      ∙ ap (λ (ls : List Link). formula_faults_in X first_even x ++ formula_link_faults (text_in X) (scope_in X) o even ls) (sym are);
  node =
      ap formula_form is
      ∙ (formula-chain o first v
      ∙ (ap (λ (y : ast.Formula). form.chained (FormulaForm.connected o) (formula_form y) (link_forms v.items)) (sym same)
      ∙ ap (λ (ls : List Link). form.chained (FormulaForm.connected o) (formula_form x) (link_forms ls)) (sym are)));
}

-- what is found of the operands behind the first
abbrev pub ChecksLinks : Context → Connective → Bool → ℕ → List Link → Result (Vec code.Formula Global) (OrMemory TypingFault) → Type 0
ChecksLinks X o even n links r =
    MatchResult r (λ fs. (formula_link_faults (text_in X) (scope_in X) o even links ≡ []) × (formula_views fs.items ≡ links_in X n links))
    (IsAmong (formula_link_faults (text_in X) (scope_in X) o even links))

-- where the first has no fault
pub others_among : {X : Context} {even first_even : Bool} {f x : ast.Formula} {o : Connective} {links : List Link} {r : Result (Vec code.Formula Global) (OrMemory TypingFault)}
    {e : OrMemory TypingFault} (n : ℕ) → IsChain X even first_even f x o links → formula_faults_in X first_even x ≡ [] → r ≡ Err e → ChecksLinks X o even n links r
    → IsAmong (formula_faults_in X even f) e
others_among {X} {even} {first_even} {f} {x} {o} {links} {r} {e} n read none failed h =
    subst (λ (zs : List TypingFault). IsAmong zs e) (sym (first_clear _ _ _ read.faults none)) (subst (ChecksLinks X o even n links) failed h)

pub others_clear : {X : Context} {even first_even : Bool} {f x : ast.Formula} {o : Connective} {links : List Link} {r : Result (Vec code.Formula Global) (OrMemory TypingFault)}
    {fs : Vec code.Formula Global} (n : ℕ) → IsChain X even first_even f x o links → formula_faults_in X first_even x ≡ [] → r ≡ Ok fs → ChecksLinks X o even n links r
    → (formula_faults_in X even f ≡ []) × (formula_views fs.items ≡ links_in X n links)
others_clear {X} {even} {first_even} {f} {x} {o} {links} n read none found h =
    let others = subst (ChecksLinks X o even n links) found h in
    (first_clear _ _ _ read.faults none ∙ others.0, others.1)

-- the first operand's typed formula, and those of the others
pub chain-view : {X : Context} {even first_even : Bool} {f x : ast.Formula} {o : Connective} {links : List Link} {g : Formula} {gs : List Formula} (before mid : List Carrier)
    → IsChain X even first_even f x o links → AddsLoops X before mid (formula_of x) → g ≡ formula_in X (length before) x → gs ≡ links_in X (length mid) links
    → chained_formula (Connected o) g gs ≡ formula_in X (length before) f
chain-view {X} {even} {first_even} {f} {x} {o} {links} {g} {gs} before mid read shapes head behind =
    ap (λ (h : Formula). chained_formula (Connected o) h gs) head
    ∙ (ap (chained_formula (Connected o) (formula_in X (length before) x)) (behind ∙ ap (λ (n : ℕ). links_in X n links) (grown (text_in X) (formula_of x) before mid shapes))
    ∙ (sym (chained-elaborated (text_in X) o (slots_in X) (scope_in X) (length before) (formula_form x) links)
    ∙ sym (ap (λ (z : FormulaForm). elaborated (text_in X) (slots_in X) (scope_in X) (length before) (expanded (erased_formula z))) read.node)))

-- the carriers of the first operand's quantifiers, and of those of the others
pub chain-shapes : {X : Context} {even first_even : Bool} {f x : ast.Formula} {o : Connective} {links : List Link} {r : Result (Vec code.Formula Global) (OrMemory TypingFault)}
    {fs : Vec code.Formula Global} (before mid now : List Carrier) → IsChain X even first_even f x o links → AddsLoops X before mid (formula_of x)
    → r ≡ Ok fs → OnOk r (shapes_of now ≡ shapes_of mid ++ links_loops (text_in X) links) → AddsLoops X before now (formula_of f)
chain-shapes {X} {even} {first_even} {f} {x} {o} {links} before mid now read shapes found behind =
    let grows : shapes_of now ≡ shapes_of mid ++ links_loops (text_in X) links =
    subst (λ (r : Result (Vec code.Formula Global) (OrMemory TypingFault)). OnOk r (shapes_of now ≡ shapes_of mid ++ links_loops (text_in X) links)) found behind in
    grows
    ∙ (ap (λ (ss : List Shape). ss ++ links_loops (text_in X) links) shapes
    ∙ (append_assoc (shapes_of before) (loops (text_in X) (formula_of x)) (links_loops (text_in X) links)
    ∙ (ap (λ (ss : List Shape). shapes_of before ++ ss) (sym (chain-loops (text_in X) o x links))
    ∙ sym (ap (λ (z : FormulaForm). shapes_of before ++ loops (text_in X) (expanded (erased_formula z))) read.node))))

-- the calls of the first operand, and those of the others
pub chain_calls : {X : Context} {even first_even : Bool} {f x : ast.Formula} {o : Connective} {links : List Link} {head : List Place} {r : Result (Vec code.Formula Global) (OrMemory TypingFault)}
    {fs : Vec code.Formula Global} → IsChain X even first_even f x o links → head ≡ calls_in (formula_form x) → r ≡ Ok fs
    → IfOk r (λ (gs : Vec code.Formula Global). places_of gs.items ≡ links_calls links) → head ++ places_of fs.items ≡ calls_in (formula_form f)
chain_calls {X} {even} {first_even} {f} {x} {o} {links} {head} {r} {fs} read called found behind =
    let others : places_of fs.items ≡ links_calls links =
    subst (λ (s : Result (Vec code.Formula Global) (OrMemory TypingFault)). IfOk s (λ (gs : Vec code.Formula Global). places_of gs.items ≡ links_calls links)) found behind in
    ap (λ (ps : List Place). ps ++ places_of fs.items) called
    ∙ (ap (λ (ps : List Place). calls_in (formula_form x) ++ ps) others
    ∙ (sym (form-calls o (formula_form x) links) ∙ sym (ap calls_in read.node)))
