-- Index terms that are chains: with several links, with one, and without.
use Rattle.std.proofs.Common.{◌≡◌, ◌<◌, List, [], ◌∷◌, length, refl, sym, ◌∙◌, ap, arith, Some, None, Vec, Box, Global}
use Rattle.std.specs.Prelude.{box_value}
use Rattle.std.specs.List.{slice_get}
use Rattle.pb_text_tree.specs.declared.operator.Connective.{Connective}
use Rattle.pb_text_tree.specs.declared.operator.Arithmetic.{Arithmetic}
use Rattle.pb_text_tree.specs.declared.place.Place.{Place}
use Rattle.pb_text_tree.specs.declared.term.Term as term
use Rattle.pb_text_tree.specs.declared.term.Term.{Term}
use Rattle.pb_text_tree.specs.declared.term.TermLink.{TermLink}
use Rattle.pb_text_tree.specs.declared.term.ArithmeticLink.{ArithmeticLink}
use Rattle.pb_text_tree.specs.Form.{TermForm, term_form, term_links, arithmetic_links, chained, calculated}
use Rattle.pb_text_tree.proofs.FormLemmas.{term-chain, term-arithmetic}
use Rattle.pb_protocol_typing.specs.Written.{Written, Other, written}
use Rattle.pb_protocol_typing.specs.Indices.{IndexTerm, Plain, computed_term, index_term}

abbrev of_links : IndexTerm → List TermLink → IndexTerm
of_links i [] = i
of_links i (l ∷ ls) = Plain Other

abbrev of_operations : TermForm → List ArithmeticLink → IndexTerm
of_operations f [] = index_term f
of_operations f (l ∷ []) = computed_term l.operator (written f) (written (term_form l.operand))
of_operations f (l ∷ (m ∷ ls)) = Plain Other

links-alone : (i : IndexTerm) (ls : List TermLink) → None ≡ slice_get ls 0 → of_links i ls ≡ i
links-alone i [] none = refl
links-alone i (l ∷ ls) none = cc

links-several : (i : IndexTerm) (ls : List TermLink) (l : TermLink) → Some l ≡ slice_get ls 0 → of_links i ls ≡ Plain Other
links-several i [] l some = cc
links-several i (k ∷ ls) l some = refl

operations-alone : (f : TermForm) (ls : List ArithmeticLink) → None ≡ slice_get ls 0 → of_operations f ls ≡ index_term f
operations-alone f [] none = refl
operations-alone f (l ∷ ls) none = cc

operations-several : (f : TermForm) (ls : List ArithmeticLink) → 1 < length ls → of_operations f ls ≡ Plain Other
operations-several f [] many = absurd (omega (arith, many))
operations-several f (l ∷ []) many = absurd (omega (arith, many))
operations-several f (l ∷ (m ∷ ls)) many = refl

some-is : (k l : ArithmeticLink) → Some l ≡ Some k → k ≡ l
some-is k l e = cc

operations-one : (f : TermForm) (ls : List ArithmeticLink) (l : ArithmeticLink) → Some l ≡ slice_get ls 0 → (1 < length ls → ⊥)
    → of_operations f ls ≡ computed_term l.operator (written f) (written (term_form l.operand))
operations-one f [] l some few = cc
operations-one f (k ∷ []) l some few = ap (λ (m : ArithmeticLink). computed_term m.operator (written f) (written (term_form m.operand))) (some-is k l some)
operations-one f (k ∷ (m ∷ ls)) l some few = absurd (few (omega arith))

chain-index : (c : Connective) (f : TermForm) (ls : List TermLink) → index_term (chained (TermForm.connected c) f (term_links ls)) ≡ of_links (index_term f) ls
chain-index c f [] = refl
chain-index c f (l ∷ ls) = refl

-- an operator of an operator
nested : (f : TermForm) (ls : List ArithmeticLink) → written f ≡ Other → (o : Arithmetic) (p : Place) (y : TermForm)
    → index_term (calculated (TermForm.computed o p f y) (arithmetic_links ls)) ≡ Plain Other
nested f [] h o p y = ap (λ (w : Written). computed_term o w (written y)) h
nested f (l ∷ ls) h o p y = nested (TermForm.computed o p f y) ls refl l.operator l.place (term_form l.operand)

arithmetic-index : (f : TermForm) (ls : List ArithmeticLink) → index_term (calculated f (arithmetic_links ls)) ≡ of_operations f ls
arithmetic-index f [] = refl
arithmetic-index f (l ∷ []) = refl
arithmetic-index f (l ∷ (m ∷ ls)) = nested (TermForm.computed l.operator l.place f (term_form l.operand)) ls refl m.operator m.place (term_form m.operand)

chain-read : (t x : Term) (c : Connective) (p : Box Term Global) (v : Vec TermLink Global) (ls : List TermLink) → t ≡ term.Chain c p v → x ≡ box_value p → ls ≡ v.items
    → index_term (term_form t) ≡ of_links (index_term (term_form x)) ls
chain-read t x c p v ls is at same =
    ap (λ u. index_term (term_form u)) is ∙ (ap index_term (term-chain c p v) ∙ (chain-index c (term_form (box_value p)) v.items
    ∙ (ap (of_links (index_term (term_form (box_value p)))) (sym same) ∙ ap (λ u. of_links (index_term (term_form u)) ls) (sym at))))

arithmetic-read : (t x : Term) (p : Box Term Global) (v : Vec ArithmeticLink Global) (ls : List ArithmeticLink) → t ≡ term.Arithmetic p v → x ≡ box_value p → ls ≡ v.items
    → index_term (term_form t) ≡ of_operations (term_form x) ls
arithmetic-read t x p v ls is at same =
    ap (λ u. index_term (term_form u)) is ∙ (ap index_term (term-arithmetic p v) ∙ (arithmetic-index (term_form (box_value p)) v.items
    ∙ (ap (of_operations (term_form (box_value p))) (sym same) ∙ ap (λ u. of_operations (term_form u) ls) (sym at))))

-- ---- what an index is, by its links

pub chain-other : {t : Term} {c : Connective} {p : Box Term Global} (v : Vec TermLink Global) {ls : List TermLink} {l : TermLink}
    → t ≡ term.Chain c p v → ls ≡ v.items → Some l ≡ slice_get ls 0 → Plain Other ≡ index_term (term_form t)
chain-other {t} {c} {p} v {ls} {l} is same some =
    sym (chain-read t (box_value p) c p v ls is refl same ∙ links-several (index_term (term_form (box_value p))) ls l some)

pub chain-same : {t x : Term} {c : Connective} {p : Box Term Global} (v : Vec TermLink Global) {ls : List TermLink}
    → t ≡ term.Chain c p v → x ≡ box_value p → ls ≡ v.items → None ≡ slice_get ls 0 → index_term (term_form x) ≡ index_term (term_form t)
chain-same {t} {x} {c} {p} v {ls} is at same none = sym (chain-read t x c p v ls is at same ∙ links-alone (index_term (term_form x)) ls none)

pub arithmetic-same : {t x : Term} {p : Box Term Global} (v : Vec ArithmeticLink Global) {ls : List ArithmeticLink}
    → t ≡ term.Arithmetic p v → x ≡ box_value p → ls ≡ v.items → None ≡ slice_get ls 0 → index_term (term_form x) ≡ index_term (term_form t)
arithmetic-same {t} {x} {p} v {ls} is at same none = sym (arithmetic-read t x p v ls is at same ∙ operations-alone (term_form x) ls none)

pub arithmetic-other : {t : Term} {p : Box Term Global} (v : Vec ArithmeticLink Global) → t ≡ term.Arithmetic p v → 1 < length v.items → Plain Other ≡ index_term (term_form t)
arithmetic-other {t} {p} v is many =
    sym (arithmetic-read t (box_value p) p v v.items is refl refl ∙ operations-several (term_form (box_value p)) v.items many)

pub arithmetic-one : {t : Term} {p : Box Term Global} (v : Vec ArithmeticLink Global) {l : ArithmeticLink} → t ≡ term.Arithmetic p v → Some l ≡ slice_get v.items 0 → (1 < length v.items → ⊥)
    → computed_term l.operator (written (term_form (box_value p))) (written (term_form l.operand)) ≡ index_term (term_form t)
arithmetic-one {t} {p} v {l} is some few =
    sym (arithmetic-read t (box_value p) p v v.items is refl refl ∙ operations-one (term_form (box_value p)) v.items l some few)
