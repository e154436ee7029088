-- Typed formulas, operand by operand; calls, argument by argument.
use Rattle.std.proofs.Common.{◌≡◌, ℕ, zero, suc, ◌+◌, ◌-◌, ◌<◌, ◌≤◌, Bool, cond, List, [], ◌∷◌, ◌++◌, map, length, get_or, drop, refl, sym, ◌∙◌, ap, subst, arith}
use Rattle.std.proofs.Common.{Result, Ok, Err, IfOk, Option, Some, add-one}
use Rattle.std.specs.List.{position_from}
use Rattle.std.proofs.lemmas.Iterator.Adapters.{position_from-zero}
use Rattle.std.proofs.lemmas.List.{append-nil, append_assoc, drop_all}
use Rattle.pb_sorts.specs.declared.carrier.Carrier.{Carrier}
use Rattle.pb_sorts.proofs.Places.{drop-at}
use Rattle.pb_text_tree.specs.declared.operator.Connective.{Connective}
use Rattle.pb_text_tree.specs.declared.operator.Connective.TheVariants.{And, Or, Implies}
use Rattle.pb_text_tree.specs.declared.place.Place.{Place}
use Rattle.pb_text_tree.specs.declared.term.Argument.{Argument}
use Rattle.pb_text_tree.specs.declared.term.Term as term
use Rattle.pb_text_tree.specs.declared.formula.Formula as ast
use Rattle.pb_text_tree.specs.declared.formula.Link.{Link}
use Rattle.pb_text_tree.specs.Form as form
use Rattle.pb_text_tree.specs.Form.{FormulaForm, InstanceForm, formula_form, link_forms, argument_forms, term_form}
use Rattle.pb_text_meaning.specs.Syntax as syntax
use Rattle.pb_text_meaning.specs.Syntax.{Name, same_name, Equation, Spec}
use Rattle.pb_text_meaning.specs.Erase.{erased_formula, erased_arguments, erased_term, joined}
use Rattle.pb_typing_declarations.specs.Agreement.{equation_place}
use Rattle.pb_typing_declarations.specs.Shapes.{Shape}
use Rattle.pb_typing_declarations.specs.declared.fault.TypingRule.TheVariants as rule
use Rattle.pb_typing_declarations.specs.Faults.{unless, IsAmong}
use Rattle.pb_typing_declarations.proofs.Parts.{among_left, among_right, first_clear}
use Rattle.pb_typing_rules.specs.Shapes.{may_be_alike}
use Rattle.pb_typing_rules.specs.Faults.{formula_faults, operand_parity}
use Rattle.pb_typing_rules.specs.Scope.{Scope}
use Rattle.pb_typing_rules.specs.Term.{shape}
use Rattle.pb_typing_tree.specs.declared.formula.Argument as declared
use Rattle.pb_typing_tree.specs.declared.formula.Formula as code
use Rattle.pb_typing_tree.specs.Expansion.{expanded}
use Rattle.pb_typing_tree.specs.Calls.{call_places, calls, calls_in, places_of}
use Rattle.pb_typing_tree.proofs.Calls.{data-calls, no_places}
use Rattle.pb_typing_tree.specs.Loops.{loops}
use Rattle.pb_typing_tree.specs.Tree as model
use Rattle.pb_typing_tree.specs.Tree.{Formula}
use Rattle.pb_typing_tree.specs.Elaboration.{Slotting, arguments, elaborated, place_of, slotted}
use Rattle.pb_typing_tree.specs.View.{argument_view, term_view, formula_view, formula_views}
use Rattle.pb_typing_declarations.specs.Entries.{shapes_of}
use Rattle.pb_typing_nodes.specs.declared.context.Context.{Context}
use Rattle.pb_typing_nodes.specs.Contexts.{scope_in, slots_in, text_in}
use Rattle.pb_typing_nodes.specs.Elaborated.{Elaborates}
use Rattle.pb_typing_terms.proofs.Nodes.{faults_in, shape_in}
use Rattle.pb_typing.specs.Tree.{formula_of, as_value}
use Rattle.pb_typing.specs.FormulaLinks.{elaborated_links, formula_link_faults, link_width, links_calls, links_loops}
use Rattle.pb_typing.specs.Arguments.{faults_against, argument_own_faults}
use Rattle.pb_typing.specs.declared.instance.Call.{Call}
use Rattle.pb_typing.specs.Elaborated.{ElaboratesFormula, IsCall}
use Rattle.pb_base.specs.declared.or_memory.OrMemory.{OrMemory}
use Rattle.pb_typing_declarations.specs.declared.fault.TypingFault.{TypingFault}
use Rattle.pb_typing_declarations.specs.Entries.{shape_of}
use Rattle.pb_typing.proofs.FormulaLinks.{chain_next}
use Rattle.pb_typing.proofs.ValueLemmas.{grown, joined-loops}

-- ---- chains

expanded-joined : (o : Connective) (f g : syntax.Formula) → expanded (joined o f g) ≡ joined o (expanded f) (expanded g)
expanded-joined And f g = refl
expanded-joined Or f g = refl
expanded-joined Implies f g = refl

abbrev pub chain_form : Connective → FormulaForm → List Link → syntax.Formula
chain_form o first links = expanded (erased_formula (form.chained (FormulaForm.connected o) first (link_forms links)))

form-loops : (S : Spec) (o : Connective) (first : FormulaForm) (links : List Link) → loops S (chain_form o first links) ≡ loops S (expanded (erased_formula first)) ++ links_loops S links
form-loops S o first [] = sym (append-nil (loops S (expanded (erased_formula first))))
form-loops S o first (l ∷ ls) =
    ap (loops S) (expanded-joined o (erased_formula first) (erased_formula (form.chained (FormulaForm.connected o) (formula_form l.operand) (link_forms ls))))
    ∙ (joined-loops S o (expanded (erased_formula first)) (chain_form o (formula_form l.operand) ls)
    ∙ ap (λ (ss : List Shape). loops S (expanded (erased_formula first)) ++ ss) (form-loops S o (formula_form l.operand) ls))

pub chain-loops : (S : Spec) (o : Connective) (first : ast.Formula) (links : List Link) → loops S (chain_form o (formula_form first) links) ≡ loops S (formula_of first) ++ links_loops S links
chain-loops S o first links = form-loops S o (formula_form first) links

next-elaborated : (S : Spec) (c : Slotting) (scope : Scope) (n : ℕ) (links : List Link) (k : ℕ) (link : Link) → k < length links → link ≡ get_or links k link
    → elaborated_links S c scope n (drop k links) ≡ elaborated S c scope n (formula_of link.operand) ∷ elaborated_links S c scope (n + link_width link) (drop (k + 1) links)
next-elaborated S c scope n links k link below at = ap (elaborated_links S c scope n) (drop-at links k link below at)

places-push : (fs : List code.Formula) (f : code.Formula) → places_of (fs ++ f ∷ []) ≡ places_of fs ++ call_places f
places-push [] f = append-nil (call_places f)
places-push (g ∷ fs) f = ap (λ (ps : List Place). call_places g ++ ps) (places-push fs f) ∙ sym (append_assoc (call_places g) (places_of fs) (call_places f))

-- the calls of a chain are those of its first operand, then those of the others
pub form-calls : (o : Connective) (first : FormulaForm) (links : List Link) → calls_in (form.chained (FormulaForm.connected o) first (link_forms links)) ≡ calls_in first ++ links_calls links
form-calls o first [] = sym (append-nil (calls_in first))
form-calls o first (l ∷ ls) = ap (λ (ps : List Place). calls_in first ++ ps) (form-calls o (formula_form l.operand) ls)

views-push : (fs : List code.Formula) (f : code.Formula) → formula_views (fs ++ f ∷ []) ≡ formula_views fs ++ formula_view f ∷ []
views-push [] f = refl
views-push (g ∷ fs) f = ap (λ (vs : List Formula). formula_view g ∷ vs) (views-push fs f)

-- so many links are done: their faults, their typed trees, the carriers of their quantifiers and the places of their calls
pub record AreDone (X : Context) (o : Connective) (even : Bool) (links : List Link) (before : List Carrier) (k : ℕ) (done : List code.Formula) (now : List Carrier) : Type 0 where
  pub faults : formula_link_faults (text_in X) (scope_in X) o even links ≡ formula_link_faults (text_in X) (scope_in X) o even (drop k links)
  pub places : places_of done ++ links_calls (drop k links) ≡ links_calls links
  pub rest : elaborated_links (text_in X) (slots_in X) (scope_in X) (length before) links
      ≡ formula_views done ++ elaborated_links (text_in X) (slots_in X) (scope_in X) (length now) (drop k links)
  pub carriers : shapes_of now ++ links_loops (text_in X) (drop k links) ≡ shapes_of before ++ links_loops (text_in X) links

pub done_begun : (X : Context) (o : Connective) (even : Bool) (links : List Link) (before : List Carrier) {done : List code.Formula} → done ≡ [] → AreDone X o even links before 0 done before
done_begun X o even links before none = record {
  faults = refl;
  places = ap (λ (fs : List code.Formula). places_of fs ++ links_calls links) none;
  rest = ap (λ (fs : List code.Formula). formula_views fs ++ elaborated_links (text_in X) (slots_in X) (scope_in X) (length before) links) (sym none);
  carriers = refl;
}

-- the faults that are left are those of the next operand, then those of the ones behind it
pub next_parts : {X : Context} {o : Connective} {even p : Bool} {links : List Link} {before now : List Carrier} {k : ℕ} {done : List code.Formula} {link : Link}
    → AreDone X o even links before k done now → k < length links → link ≡ get_or links k link → p ≡ operand_parity o even (length links - k - 1)
    → formula_link_faults (text_in X) (scope_in X) o even links
    ≡ formula_faults (text_in X) p (scope_in X) (formula_form link.operand) ++ formula_link_faults (text_in X) (scope_in X) o even (drop (k + 1) links)
next_parts {X} {o} {even} {p} {links} {before} {now} {k} {done} {link} h below at parity =
    h.faults ∙ chain_next (text_in X) (scope_in X) o even links k link (length links) p below at refl parity

pub done_next : {X : Context} {o : Connective} {even p : Bool} {links : List Link} {before old : List Carrier} {k : ℕ} {done more : List code.Formula} {link : Link}
    (f : code.Formula) (new : List Carrier) → AreDone X o even links before k done old → k < length links → link ≡ get_or links k link
    → p ≡ operand_parity o even (length links - k - 1) → more ≡ done ++ f ∷ []
    → ElaboratesFormula (formula_faults (text_in X) p (scope_in X) (formula_form link.operand))
    (elaborated (text_in X) (slots_in X) (scope_in X) (length old) (formula_of link.operand)) (Ok f)
    → shapes_of new ≡ shapes_of old ++ loops (text_in X) (formula_of link.operand) → call_places f ≡ calls_in (formula_form link.operand)
    → AreDone X o even links before (k + 1) more new
done_next {X} {o} {even} {p} {links} {before} {old} {k} {done} {more} {link} f new h below at parity pushed checked shapes called =
    let S = text_in X in
    let c = slots_in X in
    let scope = scope_in X in
    let left = drop-at links k link below at in
    let others = elaborated_links S c scope (length new) (drop (k + 1) links) in
    let behind = links_calls (drop (k + 1) links) in
    record {
      faults = first_clear _ _ _ (next_parts h below at parity) checked.0;
      places =
          ap (λ (fs : List code.Formula). places_of fs ++ behind) pushed
          ∙ (ap (λ (ps : List Place). ps ++ behind) (places-push done f)
          ∙ (append_assoc (places_of done) (call_places f) behind
          ∙ (ap (λ (ps : List Place). places_of done ++ (ps ++ behind)) called
          ∙ (ap (λ (ls : List Link). places_of done ++ links_calls ls) (sym left) ∙ h.places))));
      rest =
          h.rest
          ∙ (ap (λ (fs : List Formula). formula_views done ++ fs) (next-elaborated S c scope (length old) links k link below at)
          ∙ (ap (λ (g : Formula). formula_views done ++ g ∷ elaborated_links S c scope (length old + link_width link) (drop (k + 1) links)) (sym checked.1)
          ∙ (ap (λ (m : ℕ). formula_views done ++ formula_view f ∷ elaborated_links S c scope m (drop (k + 1) links)) (sym (grown S (formula_of link.operand) old new shapes))
          ∙ (sym (append_assoc (formula_views done) (formula_view f ∷ []) others)
          ∙ (ap (λ (fs : List Formula). fs ++ others) (sym (views-push done f)) ∙ ap (λ (fs : List code.Formula). formula_views fs ++ others) (sym pushed))))));
      carriers =
          ap (λ (ss : List Shape). ss ++ links_loops S (drop (k + 1) links)) shapes
          ∙ (append_assoc (shapes_of old) (loops S (formula_of link.operand)) (links_loops S (drop (k + 1) links))
          ∙ (ap (λ (ls : List Link). shapes_of old ++ links_loops S ls) (sym left) ∙ h.carriers));
    }

-- all links are done
pub links_ended : {X : Context} {o : Connective} {even : Bool} {links : List Link} {before now : List Carrier} {k : ℕ} {done : List code.Formula}
    → AreDone X o even links before k done now → length links ≤ k
    → (formula_link_faults (text_in X) (scope_in X) o even links ≡ []) × (formula_views done ≡ elaborated_links (text_in X) (slots_in X) (scope_in X) (length before) links)
links_ended {X} {o} {even} {links} {before} {now} {k} {done} h end =
    let none = drop_all k links end in (
      h.faults ∙ ap (formula_link_faults (text_in X) (scope_in X) o even) none,
      sym (h.rest ∙ (ap (λ (ls : List Link). formula_views done ++ elaborated_links (text_in X) (slots_in X) (scope_in X) (length now) ls) none ∙ append-nil (formula_views done))),
    )

pub places_ended : {X : Context} {o : Connective} {even : Bool} {links : List Link} {before now : List Carrier} {k : ℕ} {done : List code.Formula}
    → AreDone X o even links before k done now → length links ≤ k → places_of done ≡ links_calls links
places_ended {X} {o} {even} {links} {before} {now} {k} {done} h end =
    sym (ap (λ (ls : List Link). places_of done ++ links_calls ls) (drop_all k links end) ∙ append-nil (places_of done)) ∙ h.places

pub shapes_ended : {X : Context} {o : Connective} {even : Bool} {links : List Link} {before now : List Carrier} {k : ℕ} {done : List code.Formula}
    → AreDone X o even links before k done now → length links ≤ k → shapes_of now ≡ shapes_of before ++ links_loops (text_in X) links
shapes_ended {X} {o} {even} {links} {before} {now} {k} h end =
    sym (ap (λ (ls : List Link). shapes_of now ++ links_loops (text_in X) ls) (drop_all k links end) ∙ append-nil (shapes_of now)) ∙ h.carriers

-- what is read as data has no calls
pub value_places : (X : Context) (n : ℕ) (x : term.Term) (fs : List TypingFault) (r : Result code.Formula (OrMemory TypingFault))
    → ElaboratesFormula fs (elaborated (text_in X) (slots_in X) (scope_in X) n (as_value x)) r → IfOk r (λ (f : code.Formula). call_places f ≡ [])
value_places X n x fs (Ok f) h = no_places f (ap calls h.1 ∙ data-calls (text_in X) (erased_term (term_form x)) (slots_in X) (scope_in X) n)
value_places X n x fs (Err e) h = tt

-- ---- calls

place-from : (n : ℕ) (E : List Equation) (x : Name) → place_of n E x ≡ position_from (λ (X : Equation). same_name X.name x) n E
place-from n [] x = refl
place-from n (X ∷ E) x =
    ap (λ (o : Option ℕ). cond (same_name X.name x) (Some n) o) (place-from (suc n) E x ∙ ap (λ (m : ℕ). position_from (λ (Y : Equation). same_name Y.name x) m E) (sym (add-one n)))

pub place-found : (S : Spec) (x : Name) → equation_place S x ≡ place_of 0 S.equations x
place-found S x = position_from-zero (λ (X : Equation). same_name X.name x) S.equations ∙ sym (place-from 0 S.equations x)

-- the equation of a call stands at the place that it has
pub call_placed : {S : Spec} {a : Scope} {c : Slotting} {i : InstanceForm} {call : Call} → IsCall S a c i call → equation_place S i.name.text ≡ Some call.equation
call_placed {S} {a} {c} {i} h = place-found S i.name.text ∙ h.equation

abbrev pub call_arguments : Spec → Slotting → Scope → List Argument → List model.Argument
call_arguments S c scope xs = arguments S c scope (erased_arguments (argument_forms xs))

arguments-push : (done : List declared.Argument) (y : declared.Argument) → map argument_view (done ++ y ∷ []) ≡ map argument_view done ++ argument_view y ∷ []
arguments-push [] y = refl
arguments-push (e ∷ done) y = ap (λ (es : List model.Argument). argument_view e ∷ es) (arguments-push done y)

-- a fault of an argument, by itself or against the shape of its parameter
pub argument_among : (X : Context) (x : Argument) (s : Shape) (e : OrMemory TypingFault) → IsAmong (faults_in X (term_form x.term)) e → IsAmong (argument_own_faults (text_in X) (scope_in X) x s) e
argument_among X x s e h = among_left (faults_in X (term_form x.term)) _ e h

pub argument_kind : (X : Context) (x : Argument) (s : Shape) {b : Bool} (e : OrMemory TypingFault) → b ≡ may_be_alike (shape_in X (term_form x.term)) s
    → IsAmong (unless b rule.WrongKind x.place) e → IsAmong (argument_own_faults (text_in X) (scope_in X) x s) e
argument_kind X x s e is h = among_right (faults_in X (term_form x.term)) _ e (subst (λ (b : Bool). IsAmong (unless b rule.WrongKind x.place) e) is h)

pub argument_clear : (X : Context) (x : Argument) (s : Shape) {b : Bool} → faults_in X (term_form x.term) ≡ [] → b ≡ may_be_alike (shape_in X (term_form x.term)) s
    → unless b rule.WrongKind x.place ≡ [] → argument_own_faults (text_in X) (scope_in X) x s ≡ []
argument_clear X x s none is clear = first_clear _ (faults_in X (term_form x.term)) _ refl none ∙ (sym (ap (λ (b : Bool). unless b rule.WrongKind x.place) is) ∙ clear)

-- so many arguments are done: their faults and their typed terms
pub record AreLeft (X : Context) (xs : List Argument) (cs : List Carrier) (k : ℕ) (done : List declared.Argument) : Type 0 where
  pub faults : faults_against (text_in X) (scope_in X) xs (shapes_of cs) ≡ faults_against (text_in X) (scope_in X) (drop k xs) (drop k (shapes_of cs))
  pub rest : call_arguments (text_in X) (slots_in X) (scope_in X) xs ≡ map argument_view done ++ call_arguments (text_in X) (slots_in X) (scope_in X) (drop k xs)

pub arguments_begun : (X : Context) (xs : List Argument) (cs : List Carrier) {done : List declared.Argument} → done ≡ [] → AreLeft X xs cs 0 done
arguments_begun X xs cs none = record {
  faults = refl;
  rest = ap (λ (es : List declared.Argument). map argument_view es ++ call_arguments (text_in X) (slots_in X) (scope_in X) xs) (sym none);
}

shapes-at : (cs : List Carrier) (k : ℕ) (p : Carrier) → k < length cs → p ≡ get_or cs k p → drop k (shapes_of cs) ≡ shape_of p ∷ drop (k + 1) (shapes_of cs)
shapes-at cs k p below at = rw add-one (by_suc cs k below at)
  where
    by_suc : (cs : List Carrier) (k : ℕ) → k < length cs → p ≡ get_or cs k p → drop k (shapes_of cs) ≡ shape_of p ∷ drop (suc k) (shapes_of cs)
    by_suc [] k below at = absurd (omega (arith, below))
    by_suc (d ∷ cs) zero below at = ap (λ (q : Carrier). shape_of q ∷ shapes_of cs) (sym at)
    by_suc (d ∷ cs) (suc k) below at = by_suc cs k (omega (arith, below)) at

-- the faults of the arguments that are left are those of the next one, and of those behind it
pub argument_parts : {X : Context} {xs : List Argument} {cs : List Carrier} {k : ℕ} {done : List declared.Argument} {x : Argument} {p : Carrier}
    → AreLeft X xs cs k done → length xs ≡ length cs → k < length xs → x ≡ get_or xs k x → p ≡ get_or cs k p
    → faults_against (text_in X) (scope_in X) xs (shapes_of cs)
    ≡ argument_own_faults (text_in X) (scope_in X) x (shape_of p) ++ faults_against (text_in X) (scope_in X) (drop (k + 1) xs) (drop (k + 1) (shapes_of cs))
argument_parts {X} {xs} {cs} {k} {done} {x} {p} h count below at here =
    let within : k < length cs = omega (arith, count, below) in
    h.faults
    ∙ (ap (λ (ys : List Argument). faults_against (text_in X) (scope_in X) ys (drop k (shapes_of cs))) (drop-at xs k x below at)
    ∙ ap (faults_against (text_in X) (scope_in X) (x ∷ drop (k + 1) xs)) (shapes-at cs k p within here))

-- an argument that is put behind those that are done
pub argument_next : {X : Context} {xs : List Argument} {cs : List Carrier} {k : ℕ} {done more : List declared.Argument} {x : Argument} {p : Carrier} (y : declared.Argument)
    → AreLeft X xs cs k done → length xs ≡ length cs → k < length xs → x ≡ get_or xs k x → p ≡ get_or cs k p → more ≡ done ++ y ∷ []
    → Elaborates (argument_own_faults (text_in X) (scope_in X) x (shape_of p)) (shape (text_in X) (scope_in X) (erased_term (term_form x.term)))
    (slotted (text_in X) (slots_in X) (erased_term (term_form x.term))) (Ok y) → AreLeft X xs cs (k + 1) more
argument_next {X} {xs} {cs} {k} {done} {more} {x} {p} y h count below at here pushed checked =
    let S = text_in X in
    let c = slots_in X in
    let scope = scope_in X in
    let rest = call_arguments S c scope (drop (k + 1) xs) in
    record {
      faults = first_clear _ _ _ (argument_parts h count below at here) checked.0;
      rest =
          h.rest
          ∙ (ap (λ (ys : List Argument). map argument_view done ++ call_arguments S c scope ys) (drop-at xs k x below at)
          ∙ (ap (λ (t : model.Term). map argument_view done ++ record { term = t; shape = shape S scope (erased_term (term_form x.term)) } ∷ rest) (sym checked.1.1)
          ∙ (ap (λ (s : Shape). map argument_view done ++ record { term = term_view y.term; shape = s } ∷ rest) (sym checked.1.0)
          ∙ (sym (append_assoc (map argument_view done) (argument_view y ∷ []) rest)
          ∙ (ap (λ (es : List model.Argument). es ++ rest) (sym (arguments-push done y)) ∙ ap (λ (es : List declared.Argument). map argument_view es ++ rest) (sym pushed))))));
    }

pub arguments_ended : {X : Context} {xs : List Argument} {cs : List Carrier} {k : ℕ} {done : List declared.Argument} → AreLeft X xs cs k done → length xs ≤ k
    → (faults_against (text_in X) (scope_in X) xs (shapes_of cs) ≡ []) × (map argument_view done ≡ call_arguments (text_in X) (slots_in X) (scope_in X) xs)
arguments_ended {X} {xs} {cs} {k} {done} h end =
    let none = drop_all k xs end in (
      h.faults ∙ ap (λ (ys : List Argument). faults_against (text_in X) (scope_in X) ys (drop k (shapes_of cs))) none,
      sym (h.rest ∙ (ap (λ (ys : List Argument). map argument_view done ++ call_arguments (text_in X) (slots_in X) (scope_in X) ys) none ∙ append-nil (map argument_view done))),
    )
