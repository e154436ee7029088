-- The faults and the shapes of chains, link by link.
use Rattle.std.proofs.Common.{◌≡◌, ℕ, ◌+◌, ◌<◌, ◌≤◌, Bool, true, false, ◌&&◌, List, [], ◌∷◌, ◌++◌, length, get_or, drop, refl, sym, ◌∙◌, ap, arith}
use Rattle.std.specs.Prelude.{◌==◌, nat_lt}
use Rattle.std.proofs.lemmas.Bool.{eqb-true, lt-ltb, le-ltb}
use Rattle.std.proofs.lemmas.List.{append-nil, append_assoc, length-drop}
use Rattle.std.proofs.Math.Bool.{and-true, and-false}
use Rattle.pb_sorts.proofs.Places.{drop-at}
use Rattle.pb_text_tree.specs.declared.operator.Connective.{Connective}
use Rattle.pb_text_tree.specs.declared.operator.Connective.TheVariants.{And, Or, Implies}
use Rattle.pb_text_tree.specs.declared.term.TermLink.{TermLink}
use Rattle.pb_text_tree.specs.declared.term.ArithmeticLink.{ArithmeticLink}
use Rattle.pb_text_tree.specs.Form.{TermForm, chained, calculated, term_form, term_links, arithmetic_links}
use Rattle.pb_text_meaning.specs.Syntax.{Spec}
use Rattle.pb_text_meaning.specs.Erase.{erased_term, of_connective}
use Rattle.pb_typing_declarations.specs.declared.fault.TypingRule.TheVariants as rule
use Rattle.pb_typing_declarations.specs.declared.fault.TypingFault.{TypingFault}
use Rattle.pb_base.specs.declared.or_memory.OrMemory.{OrMemory}
use Rattle.pb_typing_declarations.specs.Faults.{unless, IsAmong}
use Rattle.pb_typing_declarations.specs.Shapes.{Shape, Truths}
use Rattle.pb_typing_declarations.proofs.Parts.{among_left, among_right, first_clear}
use Rattle.pb_typing_rules.specs.Shapes.{may_be_truth, OperatorKind, kind_of, Computed, outcome, binary_shape}
use Rattle.pb_typing_rules.specs.Scope.{Scope}
use Rattle.pb_typing_rules.specs.Term.{shape}
use Rattle.pb_typing_rules.specs.Faults.{operator_faults, term_faults}
use Rattle.pb_typing_nodes.specs.View.{operation_of}
use Rattle.pb_typing_nodes.proofs.Computed.{kind_of-arithmetic}
use Rattle.pb_typing_terms.specs.Chains.{is_some_link, operand_shape, own_faults, link_faults, arithmetic_shape, arithmetic_faults, calculated_shape}

-- ---- connectives

pub no_links : (links : List TermLink) → (length links == 0) ≡ true → links ≡ []
no_links [] e = refl
no_links (l ∷ ls) e = absurd (omega (arith, eqb-true (length (l ∷ ls)) 0 e))

connected-shape : (c : Connective) (s t : Shape) → outcome (kind_of (of_connective c)) s t ≡ Truths
connected-shape And s t = refl
connected-shape Or s t = refl
connected-shape Implies s t = refl

-- a chain with a link is a Boolean
pub some-shape : (spec : Spec) (scope : Scope) (c : Connective) (first : TermForm) (links : List TermLink) → (length links == 0) ≡ false
    → shape spec scope (erased_term (chained (TermForm.connected c) first (term_links links))) ≡ Truths
some-shape spec scope c first [] e = absurd (cc)
some-shape spec scope c first (l ∷ ls) e = connected-shape c _ _

pub chained-faults : (spec : Spec) (stands : Bool) (scope : Scope) (c : Connective) (first : TermForm) (links : List TermLink)
    → term_faults spec stands scope (chained (TermForm.connected c) first (term_links links))
    ≡ term_faults spec stands scope first ++ link_faults spec stands scope (shape spec scope (erased_term first)) links
chained-faults spec stands scope c first [] = sym (append-nil (term_faults spec stands scope first))
chained-faults spec stands scope c first (l ∷ []) =
    ap (λ (zs : List TypingFault). term_faults spec stands scope first ++ zs)
    (sym (append-nil (own_faults spec stands scope (shape spec scope (erased_term first)) l false)))
chained-faults spec stands scope c first (l ∷ (m ∷ ls)) =
    let rest = chained (TermForm.connected c) (term_form l.operand) (term_links (m ∷ ls)) in
    let u = unless (may_be_truth (shape spec scope (erased_term first))) rule.WrongKind l.place in
    let t = term_faults spec stands scope (term_form l.operand) in
    let others = link_faults spec stands scope (operand_shape spec scope l) (m ∷ ls) in
    ap (λ (zs : List TypingFault). term_faults spec stands scope first ++ zs)
    (ap (λ (zs : List TypingFault). u ++ zs)
    (ap (λ (s : Shape). term_faults spec stands scope rest ++ unless (may_be_truth s) rule.WrongKind l.place)
    (connected-shape c (operand_shape spec scope l)
    (shape spec scope (erased_term (chained (TermForm.connected c) (term_form m.operand) (term_links ls)))))
    ∙ (append-nil (term_faults spec stands scope rest) ∙ chained-faults spec stands scope c (term_form l.operand) (m ∷ ls)))
    ∙ sym (append_assoc u (t ++ []) others ∙ ap (λ (zs : List TypingFault). u ++ zs) (append_assoc t [] others)))

-- where the first operand has no fault, all are those of the others
pub others_faults : (S : Spec) (stands : Bool) (a : Scope) (c : Connective) (first : TermForm) (links : List TermLink) {s : Shape} → term_faults S stands a first ≡ []
    → s ≡ shape S a (erased_term first) → term_faults S stands a (chained (TermForm.connected c) first (term_links links)) ≡ link_faults S stands a s links
others_faults S stands a c first links none is =
    first_clear _ _ _ (chained-faults S stands a c first links) none ∙ ap (λ (t : Shape). link_faults S stands a t links) (sym is)

-- ---- operand by operand

pub some_left : (links : List TermLink) (n : ℕ) → nat_lt n (length links) ≡ is_some_link (drop n links)
some_left links n = by (drop n links) refl
  where
    by : (rest : List TermLink) → drop n links ≡ rest → nat_lt n (length links) ≡ is_some_link rest
    by [] e = let l = ap length e ∙ refl in let m : length links ≤ n = omega (arith, sym (length-drop n links), l) in le-ltb n (length links) m
    by (x ∷ xs) e = let l = ap length e in let m : n < length links = omega (arith, sym (length-drop n links), l) in lt-ltb n (length links) m

-- the faults of the links that are left are those of the next one, and of those behind it
pub links_next : (S : Spec) (st : Bool) (a : Scope) (s : Shape) (links : List TermLink) (k : ℕ) (link : TermLink) → k < length links → link ≡ get_or links k link
    → link_faults S st a s (drop k links) ≡ own_faults S st a s link (nat_lt (k + 1) (length links)) ++ link_faults S st a (operand_shape S a link) (drop (k + 1) links)
links_next S st a s links k link below at =
    let rest = link_faults S st a (operand_shape S a link) (drop (k + 1) links) in
    ap (link_faults S st a s) (drop-at links k link below at)
    ∙ ap (λ (b : Bool). own_faults S st a s link b ++ rest) (sym (some_left links (k + 1)))

-- a fault of an operand itself is one of its link
pub operand_among : (S : Spec) (stands : Bool) (a : Scope) (s : Shape) (link : TermLink) (more : Bool) (e : OrMemory TypingFault)
    → IsAmong (term_faults S stands a (term_form link.operand)) e → IsAmong (own_faults S stands a s link more) e
operand_among S stands a s link more e h =
    among_right (unless (may_be_truth s) rule.WrongKind link.place) _ e (among_left (term_faults S stands a (term_form link.operand)) _ e h)

-- ---- arithmetic

abbrev is_no_link : List ArithmeticLink → Bool
is_no_link [] = true
is_no_link (link ∷ links) = false

computed-shape : (spec : Spec) (scope : Scope) (first : TermForm) (l : ArithmeticLink)
    → shape spec scope (erased_term (TermForm.computed l.operator l.place first (term_form l.operand)))
    ≡ binary_shape (operation_of l.operator) (shape spec scope (erased_term first)) (arithmetic_shape spec scope l)
computed-shape spec scope first l = ap (λ (k : OperatorKind). outcome k (shape spec scope (erased_term first)) (arithmetic_shape spec scope l)) (kind_of-arithmetic l.operator)

pub calculated-shape : (spec : Spec) (scope : Scope) (first : TermForm) (links : List ArithmeticLink)
    → shape spec scope (erased_term (calculated first (arithmetic_links links))) ≡ calculated_shape spec scope (shape spec scope (erased_term first)) links
calculated-shape spec scope first [] = refl
calculated-shape spec scope first (l ∷ ls) =
    calculated-shape spec scope (TermForm.computed l.operator l.place first (term_form l.operand)) ls
    ∙ ap (λ (s : Shape). calculated_shape spec scope s ls) (computed-shape spec scope first l)

pub calculated-faults : (spec : Spec) (stands : Bool) (scope : Scope) (first : TermForm) (links : List ArithmeticLink)
    → term_faults spec stands scope (calculated first (arithmetic_links links))
    ≡ term_faults spec (stands && is_no_link links) scope first
    ++ arithmetic_faults spec scope (shape spec scope (erased_term first)) links
calculated-faults spec stands scope first [] =
    ap (λ (b : Bool). term_faults spec b scope first) (sym (and-true stands)) ∙ sym (append-nil (term_faults spec (stands && true) scope first))
calculated-faults spec stands scope first (l ∷ ls) =
    let node = TermForm.computed l.operator l.place first (term_form l.operand) in
    let s = shape spec scope (erased_term first) in
    let t = arithmetic_shape spec scope l in
    let b = binary_shape (operation_of l.operator) s t in
    let of = operator_faults (Computed (operation_of l.operator)) s t l.place in
    let x = term_faults spec false scope first in
    let y = term_faults spec false scope (term_form l.operand) in
    calculated-faults spec stands scope node ls
    ∙ (ap (λ (u : Shape). term_faults spec false scope node ++ arithmetic_faults spec scope u ls) (computed-shape spec scope first l)
    ∙ (ap (λ (k : OperatorKind). (x ++ (y ++ operator_faults k s t l.place)) ++ arithmetic_faults spec scope b ls) (kind_of-arithmetic l.operator)
    ∙ (append_assoc x (y ++ of) (arithmetic_faults spec scope b ls)
    ∙ (ap (λ (zs : List TypingFault). x ++ zs) (append_assoc y of (arithmetic_faults spec scope b ls))
    ∙ ap (λ (c : Bool). term_faults spec c scope first ++ (y ++ (of ++ arithmetic_faults spec scope b ls))) (sym (and-false stands))))))
