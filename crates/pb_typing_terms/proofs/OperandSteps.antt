-- Operands behind the first in the code's contexts, one by one, and what they make with the first.
use Rattle.std.proofs.Common.{◌≡◌, ℕ, ◌+◌, ◌<◌, ◌≤◌, false, List, [], ◌∷◌, ◌++◌, length, get_or, drop, refl, sym, ◌∙◌, ap, subst, Result, Ok, Err, Vec, Global}
use Rattle.std.specs.Prelude.{nat_lt, MatchResult}
use Rattle.std.proofs.lemmas.List.{append-nil, append_assoc, drop_all, map-append}
use Rattle.pb_sorts.proofs.Places.{drop-at}
use Rattle.pb_text_tree.specs.declared.operator.Arithmetic.{Arithmetic}
use Rattle.pb_text_tree.specs.declared.operator.Connective.{Connective}
use Rattle.pb_text_tree.specs.declared.term.Term.{Term}
use Rattle.pb_text_tree.specs.declared.term.TermLink.{TermLink}
use Rattle.pb_text_tree.specs.declared.term.ArithmeticLink.{ArithmeticLink}
use Rattle.pb_text_tree.specs.Form as form
use Rattle.pb_text_tree.specs.Form.{TermForm, arithmetic_links, calculated, term_form, term_links}
use Rattle.pb_text_meaning.specs.Syntax.{Spec}
use Rattle.pb_text_meaning.specs.Erase.{erased_term, of_connective}
use Rattle.pb_base.specs.declared.or_memory.OrMemory.{OrMemory}
use Rattle.pb_typing_declarations.specs.declared.fault.TypingFault.{TypingFault}
use Rattle.pb_typing_declarations.specs.Faults.{IsAmong}
use Rattle.pb_typing_declarations.specs.Shapes as model
use Rattle.pb_typing_declarations.proofs.Parts.{among_first, first_clear}
use Rattle.pb_typing_rules.specs.Faults.{operator_faults}
use Rattle.pb_typing_rules.specs.Shapes.{Computed, binary_shape}
use Rattle.pb_typing_tree.specs.declared.formula.Argument.{Argument}
use Rattle.pb_typing_tree.specs.declared.shape.Shape.{Shape}
use Rattle.pb_typing_tree.specs.declared.term.Link as code
use Rattle.pb_typing_tree.specs.declared.term.Term as made
use Rattle.pb_typing_tree.specs.Elaboration.{Slotting, slotted}
use Rattle.pb_typing_tree.specs.Tree as tree
use Rattle.pb_typing_tree.specs.Tree.{Binary}
use Rattle.pb_typing_tree.specs.View as view
use Rattle.pb_typing_tree.specs.View.{shape_view, term_view, term_views, link_view, link_views}
use Rattle.pb_typing_nodes.specs.declared.context.Context.{Context}
use Rattle.pb_typing_nodes.specs.Contexts.{scope_in, slots_in, text_in}
use Rattle.pb_typing_nodes.specs.Elaborated.{Elaborates}
use Rattle.pb_typing_nodes.specs.Found.{Judges}
use Rattle.pb_typing_nodes.specs.View.{operation_of}
use Rattle.pb_typing_terms.specs.Chains.{arithmetic_faults, arithmetic_shape, calculated_shape, link_faults, operand_shape, own_faults, shape_with}
use Rattle.pb_typing_terms.specs.Slots.{over_slots, link_terms, arithmetic_terms}
use Rattle.pb_typing_terms.proofs.Links.{calculated-faults, calculated-shape, links_next, others_faults}
use Rattle.pb_typing_terms.proofs.Nodes.{IsChecked, chain_form, faults_in, shape_in, term_in}

-- ---- connectives

-- a chain over slots
chained-slotted : (S : Spec) (c : Slotting) (o : Connective) (first : TermForm) (links : List TermLink)
    → slotted S c (erased_term (form.chained (TermForm.connected o) first (term_links links)))
    ≡ view.chained_formula (Binary (of_connective o)) (slotted S c (erased_term first)) (link_terms S c links)
chained-slotted S c o first [] = refl
chained-slotted S c o first (l ∷ ls) = ap (Binary (of_connective o) (slotted S c (erased_term first))) (chained-slotted S c o (term_form l.operand) ls)

-- so many operands are done: all faults are those of the links that are left, and the typed terms are those that are done and those that are left
pub record AreChecked (X : Context) (links : List TermLink) (first left : model.Shape) (k : ℕ) (done : List made.Term) : Type 0 where
  pub faults : link_faults (text_in X) false (scope_in X) first links ≡ link_faults (text_in X) false (scope_in X) left (drop k links)
  pub operands : link_terms (text_in X) (slots_in X) links ≡ term_views done ++ link_terms (text_in X) (slots_in X) (drop k links)

pub none_checked : (X : Context) (links : List TermLink) (first : model.Shape) {done : List made.Term} → done ≡ [] → AreChecked X links first first 0 done
none_checked X links first none = record {
  faults = refl;
  operands = ap (λ (xs : List made.Term). term_views xs ++ link_terms (text_in X) (slots_in X) links) (sym none);
}

-- the faults that are left are those of the next operand, then those of the ones behind it
pub next_parts : {X : Context} {links : List TermLink} {first left : model.Shape} {k : ℕ} {done : List made.Term} {link : TermLink}
    → AreChecked X links first left k done → k < length links → link ≡ get_or links k link
    → link_faults (text_in X) false (scope_in X) first links
    ≡ own_faults (text_in X) false (scope_in X) left link (nat_lt (k + 1) (length links))
    ++ link_faults (text_in X) false (scope_in X) (operand_shape (text_in X) (scope_in X) link) (drop (k + 1) links)
next_parts {X} {links} {first} {left} {k} {done} {link} h below at = h.faults ∙ links_next (text_in X) false (scope_in X) left links k link below at

pub one_checked : {X : Context} {links : List TermLink} {first left : model.Shape} {k : ℕ} {done more : List made.Term} {link : TermLink} (y : Argument)
    → AreChecked X links first left k done → k < length links → link ≡ get_or links k link → more ≡ done ++ y.term ∷ []
    → Elaborates (own_faults (text_in X) false (scope_in X) left link (nat_lt (k + 1) (length links))) (operand_shape (text_in X) (scope_in X) link)
    (over_slots (text_in X) (slots_in X) link.operand) (Ok y) → AreChecked X links first (shape_view y.shape) (k + 1) more
one_checked {X} {links} {first} {left} {k} {done} {more} {link} y h below at pushed checked =
    let rest = link_terms (text_in X) (slots_in X) (drop (k + 1) links) in
    record {
      faults = first_clear _ _ _ (next_parts h below at) checked.0 ∙ ap (λ (u : model.Shape). link_faults (text_in X) false (scope_in X) u (drop (k + 1) links)) (sym checked.1.0);
      operands =
          h.operands
          ∙ (ap (λ (ls : List TermLink). term_views done ++ link_terms (text_in X) (slots_in X) ls) (drop-at links k link below at)
          ∙ (ap (λ (v : tree.Term). term_views done ++ v ∷ rest) (sym checked.1.1)
          ∙ (sym (append_assoc (term_views done) (term_view y.term ∷ []) rest)
          ∙ (ap (λ (vs : List tree.Term). vs ++ rest) (sym (map-append term_view done (y.term ∷ []))) ∙ ap (λ (xs : List made.Term). term_views xs ++ rest) (sym pushed)))));
    }

pub links_ended : {X : Context} {links : List TermLink} {first left : model.Shape} {k : ℕ} {done : List made.Term} → AreChecked X links first left k done → length links ≤ k
    → (link_faults (text_in X) false (scope_in X) first links ≡ []) × (term_views done ≡ link_terms (text_in X) (slots_in X) links)
links_ended {X} {links} {first} {left} {k} {done} h end =
    let none = drop_all k links end in (
      h.faults ∙ ap (link_faults (text_in X) false (scope_in X) left) none,
      sym (h.operands ∙ (ap (λ (ls : List TermLink). term_views done ++ link_terms (text_in X) (slots_in X) ls) none ∙ append-nil (term_views done))),
    )

-- what is found of the operands behind the first, which has this shape
abbrev pub ChecksLinks : Context → model.Shape → List TermLink → Result (Vec made.Term Global) (OrMemory TypingFault) → Type 0
ChecksLinks X u links r =
    MatchResult r (λ xs. (link_faults (text_in X) false (scope_in X) u links ≡ []) × (term_views xs.items ≡ link_terms (text_in X) (slots_in X) links))
    (IsAmong (link_faults (text_in X) false (scope_in X) u links))

-- where the first has none
pub others_among : (X : Context) (o : Connective) (first : Term) (links : List TermLink) {u : model.Shape} {r : Result (Vec made.Term Global) (OrMemory TypingFault)} {e : OrMemory TypingFault}
    → faults_in X (term_form first) ≡ [] → u ≡ shape_in X (term_form first) → r ≡ Err e → ChecksLinks X u links r → IsAmong (faults_in X (chain_form o first links)) e
others_among X o first links {u} {r} {e} none is failed h =
    subst (λ (zs : List TypingFault). IsAmong zs e) (sym (others_faults (text_in X) false (scope_in X) o (term_form first) links none is)) (subst (ChecksLinks X u links) failed h)

pub others_clear : (X : Context) (o : Connective) (first : Term) (links : List TermLink) {u : model.Shape} {r : Result (Vec made.Term Global) (OrMemory TypingFault)} {xs : Vec made.Term Global}
    → faults_in X (term_form first) ≡ [] → u ≡ shape_in X (term_form first) → r ≡ Ok xs → ChecksLinks X u links r
    → (faults_in X (chain_form o first links) ≡ []) × (term_views xs.items ≡ link_terms (text_in X) (slots_in X) links)
others_clear X o first links {u} none is found h =
    let others = subst (ChecksLinks X u links) found h in
    (others_faults (text_in X) false (scope_in X) o (term_form first) links none is ∙ others.0, others.1)

pub chain_term : (X : Context) (o : Connective) (first : Term) (links : List TermLink) {x : tree.Term} {xs : List tree.Term} → x ≡ term_in X (term_form first)
    → xs ≡ link_terms (text_in X) (slots_in X) links → view.chained_formula (Binary (of_connective o)) x xs ≡ term_in X (chain_form o first links)
chain_term X o first links {x} {xs} head others =
    ap (λ (y : tree.Term). view.chained_formula (Binary (of_connective o)) y xs) head
    ∙ (ap (view.chained_formula (Binary (of_connective o)) (term_in X (term_form first))) others
    ∙ sym (chained-slotted (text_in X) (slots_in X) o (term_form first) links))

-- ---- arithmetic

-- arithmetic over slots
calculated-slotted : (S : Spec) (c : Slotting) (first : TermForm) (links : List ArithmeticLink)
    → slotted S c (erased_term (calculated first (arithmetic_links links))) ≡ view.term_of_operands (slotted S c (erased_term first)) (arithmetic_terms S c links)
calculated-slotted S c first [] = refl
calculated-slotted S c first (l ∷ ls) = calculated-slotted S c (TermForm.computed l.operator l.place first (term_form l.operand)) ls

abbrev pub calculated_form : Term → List ArithmeticLink → TermForm
calculated_form first links = calculated (term_form first) (arithmetic_links links)

-- the same of arithmetic, whose links that are left make the shape of the whole of that so far
pub record AreCalculated (X : Context) (links : List ArithmeticLink) (first left : model.Shape) (k : ℕ) (done : List code.Link) : Type 0 where
  pub faults : arithmetic_faults (text_in X) (scope_in X) first links ≡ arithmetic_faults (text_in X) (scope_in X) left (drop k links)
  pub whole : calculated_shape (text_in X) (scope_in X) first links ≡ calculated_shape (text_in X) (scope_in X) left (drop k links)
  pub operands : arithmetic_terms (text_in X) (slots_in X) links ≡ link_views done ++ arithmetic_terms (text_in X) (slots_in X) (drop k links)

pub none_calculated : (X : Context) (links : List ArithmeticLink) (first : model.Shape) {done : List code.Link} → done ≡ [] → AreCalculated X links first first 0 done
none_calculated X links first none = record {
  faults = refl;
  whole = refl;
  operands = ap (λ (xs : List code.Link). link_views xs ++ arithmetic_terms (text_in X) (slots_in X) links) (sym none);
}

-- the faults that are left are those of the next operand, of its operator, and of those behind it
pub operand_parts : {X : Context} {links : List ArithmeticLink} {first left : model.Shape} {k : ℕ} {done : List code.Link} {link : ArithmeticLink}
    → AreCalculated X links first left k done → k < length links → link ≡ get_or links k link
    → arithmetic_faults (text_in X) (scope_in X) first links
    ≡ faults_in X (term_form link.operand)
    ++ (operator_faults (Computed (operation_of link.operator)) left (arithmetic_shape (text_in X) (scope_in X) link) link.place
    ++ arithmetic_faults (text_in X) (scope_in X) (shape_with (text_in X) (scope_in X) left link) (drop (k + 1) links))
operand_parts {X} {links} {first} {left} {k} {done} {link} h below at = h.faults ∙ ap (arithmetic_faults (text_in X) (scope_in X) left) (drop-at links k link below at)

-- what is found of an operator between what is so far and an operand
abbrev pub JudgesLink : ArithmeticLink → model.Shape → model.Shape → Result Shape (OrMemory TypingFault) → Type 0
JudgesLink link left right r =
    Judges (operator_faults (Computed (operation_of link.operator)) left right link.place) (binary_shape (operation_of link.operator) left right) r

pub operator_among : {X : Context} {links : List ArithmeticLink} {first left : model.Shape} {k : ℕ} {done : List code.Link} {link : ArithmeticLink} {r : Result Shape (OrMemory TypingFault)}
    {e : OrMemory TypingFault} (y : Argument) → AreCalculated X links first left k done → k < length links → link ≡ get_or links k link
    → IsChecked X (term_form link.operand) y → r ≡ Err e → JudgesLink link left (shape_view y.shape) r → IsAmong (arithmetic_faults (text_in X) (scope_in X) first links) e
operator_among {X} {links} {first} {left} {k} {done} {link} {r} {e} y h below at checked failed judged =
    let found : IsAmong (operator_faults (Computed (operation_of link.operator)) left (shape_view y.shape) link.place) e = subst (JudgesLink link left (shape_view y.shape)) failed judged in
    among_first _ _ _ e (first_clear _ _ _ (operand_parts h below at) checked.0)
    (subst (λ (u : model.Shape). IsAmong (operator_faults (Computed (operation_of link.operator)) left u link.place) e) checked.1.0 found)

pub one_calculated : {X : Context} {links : List ArithmeticLink} {first left : model.Shape} {k : ℕ} {done more : List code.Link} {link : ArithmeticLink} {r : Result Shape (OrMemory TypingFault)}
    {s : Shape} {x : made.Term} (y : Argument) → AreCalculated X links first left k done → k < length links → link ≡ get_or links k link → IsChecked X (term_form link.operand) y
    → x ≡ y.term → r ≡ Ok s → JudgesLink link left (shape_view y.shape) r → more ≡ done ++ record { operator = link.operator; operand = x } ∷ []
    → AreCalculated X links first (shape_view s) (k + 1) more
one_calculated {X} {links} {first} {left} {k} {done} {more} {link} {r} {s} {x} y h below at checked kept passed judged pushed =
    let o = operation_of link.operator in
    let found : (operator_faults (Computed o) left (shape_view y.shape) link.place ≡ []) × (shape_view s ≡ binary_shape o left (shape_view y.shape)) =
    subst (JudgesLink link left (shape_view y.shape)) passed judged in
    let clear = ap (λ (u : model.Shape). operator_faults (Computed o) left u link.place) (sym checked.1.0) ∙ found.0 in
    let grown = sym (found.1 ∙ ap (binary_shape o left) checked.1.0) in
    let rest = arithmetic_terms (text_in X) (slots_in X) (drop (k + 1) links) in
    let added : code.Link = record { operator = link.operator; operand = x } in
    record {
      faults =
          first_clear _ _ _ (first_clear _ _ _ (operand_parts h below at) checked.0) clear
          ∙ ap (λ (u : model.Shape). arithmetic_faults (text_in X) (scope_in X) u (drop (k + 1) links)) grown;
      whole =
          h.whole ∙ (ap (calculated_shape (text_in X) (scope_in X) left) (drop-at links k link below at)
          ∙ ap (λ (u : model.Shape). calculated_shape (text_in X) (scope_in X) u (drop (k + 1) links)) grown);
      operands =
          h.operands
          ∙ (ap (λ (ls : List ArithmeticLink). link_views done ++ arithmetic_terms (text_in X) (slots_in X) ls) (drop-at links k link below at)
          ∙ (ap (λ (v : tree.Term). link_views done ++ (link.operator, v) ∷ rest) (sym (ap term_view kept ∙ checked.1.1))
          ∙ (sym (append_assoc (link_views done) (link_view added ∷ []) rest)
          ∙ (ap (λ (vs : List (Arithmetic × tree.Term)). vs ++ rest) (sym (map-append link_view done (added ∷ []))) ∙ ap (λ (xs : List code.Link). link_views xs ++ rest) (sym pushed)))));
    }

pub operands_ended : {X : Context} {links : List ArithmeticLink} {first left : model.Shape} {k : ℕ} {done : List code.Link} → AreCalculated X links first left k done → length links ≤ k
    → (arithmetic_faults (text_in X) (scope_in X) first links ≡ []) × (link_views done ≡ arithmetic_terms (text_in X) (slots_in X) links)
    × (left ≡ calculated_shape (text_in X) (scope_in X) first links)
operands_ended {X} {links} {first} {left} {k} {done} h end =
    let none = drop_all k links end in (
      h.faults ∙ ap (arithmetic_faults (text_in X) (scope_in X) left) none,
      sym (h.operands ∙ (ap (λ (ls : List ArithmeticLink). link_views done ++ arithmetic_terms (text_in X) (slots_in X) ls) none ∙ append-nil (link_views done))),
      sym (h.whole ∙ ap (calculated_shape (text_in X) (scope_in X) left) none),
    )

-- where the first operand has no fault, all are those of the others
pub operands_parts : (X : Context) (first : Term) (links : List ArithmeticLink) {u : model.Shape} → faults_in X (term_form first) ≡ [] → u ≡ shape_in X (term_form first)
    → faults_in X (calculated_form first links) ≡ arithmetic_faults (text_in X) (scope_in X) u links
operands_parts X first links none is =
    first_clear _ _ _ (calculated-faults (text_in X) false (scope_in X) (term_form first) links) none ∙ ap (λ (s : model.Shape). arithmetic_faults (text_in X) (scope_in X) s links) (sym is)

pub operands_among : (X : Context) (first : Term) (links : List ArithmeticLink) {u : model.Shape} (e : OrMemory TypingFault) → faults_in X (term_form first) ≡ []
    → u ≡ shape_in X (term_form first) → IsAmong (arithmetic_faults (text_in X) (scope_in X) u links) e → IsAmong (faults_in X (calculated_form first links)) e
operands_among X first links e none is h = subst (λ (zs : List TypingFault). IsAmong zs e) (sym (operands_parts X first links none is)) h

-- what is found of the operands behind the first, which has this shape: their links and the shape of the whole
abbrev pub ChecksOperands : {T : Type 0} → (T → List code.Link) → (T → Shape) → Context → model.Shape → List ArithmeticLink → Result T (OrMemory TypingFault) → Type 0
ChecksOperands links_of shape_of X u links r =
    MatchResult r (λ found. (arithmetic_faults (text_in X) (scope_in X) u links ≡ []) × (link_views (links_of found) ≡ arithmetic_terms (text_in X) (slots_in X) links)
    × (shape_view (shape_of found) ≡ calculated_shape (text_in X) (scope_in X) u links)) (IsAmong (arithmetic_faults (text_in X) (scope_in X) u links))

pub calculated_by : (X : Context) (first : Term) (links : List ArithmeticLink) {u : model.Shape} → u ≡ shape_in X (term_form first)
    → calculated_shape (text_in X) (scope_in X) u links ≡ shape_in X (calculated_form first links)
calculated_by X first links is =
    ap (λ (s : model.Shape). calculated_shape (text_in X) (scope_in X) s links) is ∙ sym (calculated-shape (text_in X) (scope_in X) (term_form first) links)

pub calculated_term : (X : Context) (first : Term) (links : List ArithmeticLink) {x : tree.Term} {xs : List (Arithmetic × tree.Term)} → x ≡ term_in X (term_form first)
    → xs ≡ arithmetic_terms (text_in X) (slots_in X) links → view.term_of_operands x xs ≡ term_in X (calculated_form first links)
calculated_term X first links {x} {xs} head others =
    ap (λ (y : tree.Term). view.term_of_operands y xs) head
    ∙ (ap (view.term_of_operands (term_in X (term_form first))) others ∙ sym (calculated-slotted (text_in X) (slots_in X) (term_form first) links))
