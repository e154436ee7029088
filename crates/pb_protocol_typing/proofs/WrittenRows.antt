-- Chains with links aren't written out, and those without are as their operand.
use Rattle.std.proofs.Common.{◌≡◌, List, [], ◌∷◌, refl, sym, ◌∙◌, ap, Some, None, Vec, Box, Global}
use Rattle.std.specs.Prelude.{box_value}
use Rattle.std.specs.List.{slice_get}
use Rattle.pb_text_tree.specs.declared.operator.Connective.{Connective}
use Rattle.pb_text_tree.specs.declared.term.Term as term
use Rattle.pb_text_tree.specs.declared.term.Term.{Term}
use Rattle.pb_text_tree.specs.declared.term.TermLink.{TermLink}
use Rattle.pb_text_tree.specs.declared.term.ArithmeticLink.{ArithmeticLink}
use Rattle.pb_text_tree.specs.Form.{TermForm, term_form, term_links, arithmetic_links, chained, calculated}
use Rattle.pb_text_tree.proofs.FormLemmas.{term-chain, term-arithmetic}
use Rattle.pb_protocol_typing.specs.Written.{Written, Other, negated, written}

abbrev of_links : Written → List TermLink → Written
of_links w [] = w
of_links w (l ∷ ls) = Other

abbrev of_operations : Written → List ArithmeticLink → Written
of_operations w [] = w
of_operations w (l ∷ ls) = Other

links-alone : (w : Written) (ls : List TermLink) → None ≡ slice_get ls 0 → of_links w ls ≡ w
links-alone w [] none = refl
links-alone w (l ∷ ls) none = cc

links-several : (w : Written) (ls : List TermLink) (l : TermLink) → Some l ≡ slice_get ls 0 → of_links w ls ≡ Other
links-several w [] l some = cc
links-several w (k ∷ ls) l some = refl

operations-alone : (w : Written) (ls : List ArithmeticLink) → None ≡ slice_get ls 0 → of_operations w ls ≡ w
operations-alone w [] none = refl
operations-alone w (l ∷ ls) none = cc

operations-several : (w : Written) (ls : List ArithmeticLink) (l : ArithmeticLink) → Some l ≡ slice_get ls 0 → of_operations w ls ≡ Other
operations-several w [] l some = cc
operations-several w (k ∷ ls) l some = refl

-- what is read off a chain of a connective, if each operand is read so
module _ (read : TermForm → Written) (node : (c : Connective) (f : TermForm) (ls : List TermLink) → read (chained (TermForm.connected c) f (term_links ls)) ≡ of_links (read f) ls) where
  chain-read : (t x : Term) (c : Connective) (p : Box Term Global) (v : Vec TermLink Global) (ls : List TermLink) → t ≡ term.Chain c p v → x ≡ box_value p → ls ≡ v.items
      → read (term_form t) ≡ of_links (read (term_form x)) ls
  chain-read t x c p v ls is at same =
      ap (λ u. read (term_form u)) is ∙ (ap read (term-chain c p v) ∙ (node c (term_form (box_value p)) v.items
      ∙ (ap (of_links (read (term_form (box_value p)))) (sym same) ∙ ap (λ u. of_links (read (term_form u)) ls) (sym at))))

  pub chain-other : {t : Term} {c : Connective} {p : Box Term Global} (v : Vec TermLink Global) {ls : List TermLink} {l : TermLink}
      → t ≡ term.Chain c p v → ls ≡ v.items → Some l ≡ slice_get ls 0 → Other ≡ read (term_form t)
  chain-other {t} {c} {p} v {ls} {l} is same some =
      sym (chain-read t (box_value p) c p v ls is refl same ∙ links-several (read (term_form (box_value p))) ls l some)

  pub chain-same : {t x : Term} {c : Connective} {p : Box Term Global} (v : Vec TermLink Global) {ls : List TermLink}
      → t ≡ term.Chain c p v → x ≡ box_value p → ls ≡ v.items → None ≡ slice_get ls 0 → read (term_form x) ≡ read (term_form t)
  chain-same {t} {x} {c} {p} v {ls} is at same none = sym (chain-read t x c p v ls is at same ∙ links-alone (read (term_form x)) ls none)

-- and off one of arithmetic
module _ (read : TermForm → Written) (node : (f : TermForm) (ls : List ArithmeticLink) → read (calculated f (arithmetic_links ls)) ≡ of_operations (read f) ls) where
  arithmetic-read : (t x : Term) (p : Box Term Global) (v : Vec ArithmeticLink Global) (ls : List ArithmeticLink) → t ≡ term.Arithmetic p v → x ≡ box_value p → ls ≡ v.items
      → read (term_form t) ≡ of_operations (read (term_form x)) ls
  arithmetic-read t x p v ls is at same =
      ap (λ u. read (term_form u)) is ∙ (ap read (term-arithmetic p v) ∙ (node (term_form (box_value p)) v.items
      ∙ (ap (of_operations (read (term_form (box_value p)))) (sym same) ∙ ap (λ u. of_operations (read (term_form u)) ls) (sym at))))

  pub arithmetic-other : {t : Term} {p : Box Term Global} (v : Vec ArithmeticLink Global) {ls : List ArithmeticLink} {l : ArithmeticLink}
      → t ≡ term.Arithmetic p v → ls ≡ v.items → Some l ≡ slice_get ls 0 → Other ≡ read (term_form t)
  arithmetic-other {t} {p} v {ls} {l} is same some =
      sym (arithmetic-read t (box_value p) p v ls is refl same ∙ operations-several (read (term_form (box_value p))) ls l some)

  pub arithmetic-same : {t x : Term} {p : Box Term Global} (v : Vec ArithmeticLink Global) {ls : List ArithmeticLink}
      → t ≡ term.Arithmetic p v → x ≡ box_value p → ls ≡ v.items → None ≡ slice_get ls 0 → read (term_form x) ≡ read (term_form t)
  arithmetic-same {t} {x} {p} v {ls} is at same none = sym (arithmetic-read t x p v ls is at same ∙ operations-alone (read (term_form x)) ls none)

pub chain-written : (c : Connective) (f : TermForm) (ls : List TermLink) → written (chained (TermForm.connected c) f (term_links ls)) ≡ of_links (written f) ls
chain-written c f [] = refl
chain-written c f (l ∷ ls) = refl

pub chain-negated : (c : Connective) (f : TermForm) (ls : List TermLink) → negated (chained (TermForm.connected c) f (term_links ls)) ≡ of_links (negated f) ls
chain-negated c f [] = refl
chain-negated c f (l ∷ ls) = refl

other-written : (f : TermForm) (ls : List ArithmeticLink) → written f ≡ Other → written (calculated f (arithmetic_links ls)) ≡ Other
other-written f [] h = h
other-written f (l ∷ ls) h = other-written (TermForm.computed l.operator l.place f (term_form l.operand)) ls refl

pub arithmetic-written : (f : TermForm) (ls : List ArithmeticLink) → written (calculated f (arithmetic_links ls)) ≡ of_operations (written f) ls
arithmetic-written f [] = refl
arithmetic-written f (l ∷ ls) = other-written (TermForm.computed l.operator l.place f (term_form l.operand)) ls refl

other-negated : (f : TermForm) (ls : List ArithmeticLink) → negated f ≡ Other → negated (calculated f (arithmetic_links ls)) ≡ Other
other-negated f [] h = h
other-negated f (l ∷ ls) h = other-negated (TermForm.computed l.operator l.place f (term_form l.operand)) ls refl

pub arithmetic-negated : (f : TermForm) (ls : List ArithmeticLink) → negated (calculated f (arithmetic_links ls)) ≡ of_operations (negated f) ls
arithmetic-negated f [] = refl
arithmetic-negated f (l ∷ ls) = other-negated (TermForm.computed l.operator l.place f (term_form l.operand)) ls refl
