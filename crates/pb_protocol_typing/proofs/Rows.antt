-- The kinds and faults of operands that are joined, and of arguments, as the code meets them.
use Rattle.std.proofs.Common.{◌≡◌, ℕ, suc, ◌+◌, ◌<◌, ◌≤◌, true, List, [], ◌∷◌, length, get_or, drop, refl, sym, ◌∙◌, ap, arith, Option, Some, None, Vec, Box, Global}
use Rattle.std.specs.Prelude.{box_value}
use Rattle.std.specs.List.{slice_get}
use Rattle.pb_sorts.proofs.Places.{drop-at}
use Rattle.pb_text_tree.specs.declared.place.Place.{Place}
use Rattle.pb_text_tree.specs.declared.operator.Connective.{Connective}
use Rattle.pb_text_tree.specs.declared.name.Name as declared_name
use Rattle.pb_text_tree.specs.declared.term.Term as term
use Rattle.pb_text_tree.specs.declared.term.Term.{Term}
use Rattle.pb_text_tree.specs.declared.term.TermLink.{TermLink}
use Rattle.pb_text_tree.specs.declared.term.ArithmeticLink.{ArithmeticLink}
use Rattle.pb_text_tree.specs.declared.term.Argument.{Argument}
use Rattle.pb_text_tree.specs.Form.{TermForm, named, term_form, term_links, arithmetic_links, argument_forms, chained, calculated}
use Rattle.pb_text_tree.proofs.FormLemmas.{term-chain, term-arithmetic, term-application}
use Rattle.pb_typing_declarations.specs.Shapes.{Shape}
use Rattle.pb_typing_declarations.specs.declared.fault.TypingFault.{TypingFault}
use Rattle.pb_typing_declarations.specs.declared.fault.TypingRule.TheVariants.{WrongKind}
use Rattle.pb_protocol_typing.specs.declared.kind.Kind.{Kind}
use Rattle.pb_protocol_typing.specs.declared.kind.Kind.TheVariants.{Unknown, Truth, Whole}
use Rattle.pb_protocol_typing.specs.Fault.{either_fault, fault_unless}
use Rattle.pb_protocol_typing.specs.Kinds.{agree, are_whole, truth_fault}
use Rattle.pb_protocol_typing.specs.Scopes.{Scope}
use Rattle.pb_protocol_typing.specs.Functions.{called, called_kind, called_parameters, naming_fault, taking_fault, second_kind, is_choice}
use Rattle.pb_protocol_typing.specs.Terms.{kind, kinds, kind_at, term_fault, arguments_fault}
use Rattle.pb_protocol_typing.specs.Links.{chain_kind, arithmetic_kind, head_fault, next_place, links_fault, operations_fault}

-- ---- faults, the first of which counts

pub or_else-none : (o : Option TypingFault) → either_fault o None ≡ o
or_else-none None = refl
or_else-none (Some f) = refl

pub or_else-assoc : (a b c : Option TypingFault) → either_fault (either_fault a b) c ≡ either_fault a (either_fault b c)
or_else-assoc None b c = refl
or_else-assoc (Some f) b c = refl

-- what is joined, part by part
pub joined-two : (result a b x y : Option TypingFault) → result ≡ either_fault a b → a ≡ x → b ≡ y → result ≡ either_fault x y
joined-two result a b x y is first second = is ∙ (ap (λ (o : Option TypingFault). either_fault o b) first ∙ ap (either_fault x) second)

pub joined-three : (result inner a b c x y z : Option TypingFault) → result ≡ either_fault a inner → inner ≡ either_fault b c → a ≡ x → b ≡ y → c ≡ z → result ≡ either_fault x (either_fault y z)
joined-three result inner a b c x y z is same first second third = joined-two result a inner x (either_fault y z) is first (joined-two inner b c y z same second third)

-- a fault that is found
pub found : (all a b : Option TypingFault) (fault : TypingFault) → all ≡ either_fault a b → Some fault ≡ a → Some fault ≡ all
found all a b fault is h = sym (is ∙ ap (λ o. either_fault o b) (sym h))

-- and one that isn't
pub left_out : (all a b : Option TypingFault) → all ≡ either_fault a b → None ≡ a → all ≡ b
left_out all a b is h = is ∙ ap (λ o. either_fault o b) (sym h)

module _ (s : Scope) where
  -- ---- connectives

  pub chain-kind : (c : Connective) (f : TermForm) (ls : List TermLink) → kind s (chained (TermForm.connected c) f (term_links ls)) ≡ chain_kind (kind s f) ls
  chain-kind c f [] = refl
  chain-kind c f (l ∷ ls) = refl

  pub tail-fault : (c : Connective) (p : Place) (y : TermForm) (ls : List TermLink)
      → either_fault (term_fault s (chained (TermForm.connected c) y (term_links ls))) (truth_fault (kind s (chained (TermForm.connected c) y (term_links ls))) p)
      ≡ either_fault (term_fault s y) (either_fault (truth_fault (kind s y) (next_place p ls)) (links_fault s ls))
  tail-fault c p y [] = ap (either_fault (term_fault s y)) (sym (or_else-none (truth_fault (kind s y) p)))
  tail-fault c p y (l ∷ ls) =
      or_else-none (term_fault s (chained (TermForm.connected c) y (term_links (l ∷ ls))))
      ∙ ap (λ o. either_fault (term_fault s y) (either_fault (truth_fault (kind s y) l.place) o)) (tail-fault c l.place (term_form l.operand) ls)

  pub chain-fault : (c : Connective) (f : TermForm) (ls : List TermLink)
      → term_fault s (chained (TermForm.connected c) f (term_links ls)) ≡ either_fault (term_fault s f) (either_fault (head_fault (kind s f) ls) (links_fault s ls))
  chain-fault c f [] = sym (or_else-none (term_fault s f))
  chain-fault c f (l ∷ ls) = ap (λ o. either_fault (term_fault s f) (either_fault (truth_fault (kind s f) l.place) o)) (tail-fault c l.place (term_form l.operand) ls)

  chain-kinds : (t x : Term) (c : Connective) (p : Box Term Global) (v : Vec TermLink Global) (ls : List TermLink) → t ≡ term.Chain c p v → x ≡ box_value p → ls ≡ v.items
      → kind s (term_form t) ≡ chain_kind (kind s (term_form x)) ls
  chain-kinds t x c p v ls is at same =
      ap (λ u. kind s (term_form u)) is ∙ (ap (kind s) (term-chain c p v) ∙ (chain-kind c (term_form (box_value p)) v.items
      ∙ (ap (chain_kind (kind s (term_form (box_value p)))) (sym same) ∙ ap (λ u. chain_kind (kind s (term_form u)) ls) (sym at))))

  pub chain-faults : (t x : Term) (c : Connective) (p : Box Term Global) (v : Vec TermLink Global) (ls : List TermLink) → t ≡ term.Chain c p v → x ≡ box_value p → ls ≡ v.items
      → term_fault s (term_form t) ≡ either_fault (term_fault s (term_form x)) (either_fault (head_fault (kind s (term_form x)) ls) (links_fault s ls))
  chain-faults t x c p v ls is at same =
      ap (λ u. term_fault s (term_form u)) is ∙ (ap (term_fault s) (term-chain c p v) ∙ (chain-fault c (term_form (box_value p)) v.items
      ∙ (ap (λ ks. either_fault (term_fault s (term_form (box_value p))) (either_fault (head_fault (kind s (term_form (box_value p))) ks) (links_fault s ks))) (sym same)
      ∙ ap (λ u. either_fault (term_fault s (term_form u)) (either_fault (head_fault (kind s (term_form u)) ls) (links_fault s ls))) (sym at))))

  -- ---- arithmetic

  whole-kind : (f : TermForm) (ls : List ArithmeticLink) → kind s f ≡ Whole → kind s (calculated f (arithmetic_links ls)) ≡ Whole
  whole-kind f [] h = h
  whole-kind f (l ∷ ls) h = whole-kind (TermForm.computed l.operator l.place f (term_form l.operand)) ls refl

  pub arithmetic-kind : (f : TermForm) (ls : List ArithmeticLink) → kind s (calculated f (arithmetic_links ls)) ≡ arithmetic_kind (kind s f) ls
  arithmetic-kind f [] = refl
  arithmetic-kind f (l ∷ ls) = whole-kind (TermForm.computed l.operator l.place f (term_form l.operand)) ls refl

  pub arithmetic-fault : (f : TermForm) (ls : List ArithmeticLink) → term_fault s (calculated f (arithmetic_links ls)) ≡ either_fault (term_fault s f) (operations_fault s (kind s f) ls)
  arithmetic-fault f [] = sym (or_else-none (term_fault s f))
  arithmetic-fault f (l ∷ ls) =
      let test = fault_unless (are_whole (kind s f) (kind s (term_form l.operand))) WrongKind l.place in
      arithmetic-fault (TermForm.computed l.operator l.place f (term_form l.operand)) ls
      ∙ (or_else-assoc (term_fault s f) (either_fault (term_fault s (term_form l.operand)) test) (operations_fault s Whole ls)
      ∙ ap (either_fault (term_fault s f)) (or_else-assoc (term_fault s (term_form l.operand)) test (operations_fault s Whole ls)))

  arithmetic-kinds : (t x : Term) (p : Box Term Global) (v : Vec ArithmeticLink Global) (ls : List ArithmeticLink) → t ≡ term.Arithmetic p v → x ≡ box_value p → ls ≡ v.items
      → kind s (term_form t) ≡ arithmetic_kind (kind s (term_form x)) ls
  arithmetic-kinds t x p v ls is at same =
      ap (λ u. kind s (term_form u)) is ∙ (ap (kind s) (term-arithmetic p v) ∙ (arithmetic-kind (term_form (box_value p)) v.items
      ∙ (ap (arithmetic_kind (kind s (term_form (box_value p)))) (sym same) ∙ ap (λ u. arithmetic_kind (kind s (term_form u)) ls) (sym at))))

  pub arithmetic-faults : (t x : Term) (p : Box Term Global) (v : Vec ArithmeticLink Global) (ls : List ArithmeticLink) → t ≡ term.Arithmetic p v → x ≡ box_value p → ls ≡ v.items
      → term_fault s (term_form t) ≡ either_fault (term_fault s (term_form x)) (operations_fault s (kind s (term_form x)) ls)
  arithmetic-faults t x p v ls is at same =
      ap (λ u. term_fault s (term_form u)) is ∙ (ap (term_fault s) (term-arithmetic p v) ∙ (arithmetic-fault (term_form (box_value p)) v.items
      ∙ (ap (λ ks. either_fault (term_fault s (term_form (box_value p))) (operations_fault s (kind s (term_form (box_value p))) ks)) (sym same)
      ∙ ap (λ u. either_fault (term_fault s (term_form u)) (operations_fault s (kind s (term_form u)) ls)) (sym at))))

  -- ---- applications

  pub application-kinds : (t : Term) (f : declared_name.Name) (v : Vec Argument Global) (es : List Argument) → t ≡ term.Application f v → es ≡ v.items
      → kind s (term_form t) ≡ called_kind (called s (named f).text) (kinds s (argument_forms es))
  application-kinds t f v es is same =
      ap (λ u. kind s (term_form u)) is ∙ (ap (kind s) (term-application f v)
      ∙ ap (λ ks. called_kind (called s (named f).text) (kinds s (argument_forms ks))) (sym same))

  pub application-faults : (t : Term) (f : declared_name.Name) (v : Vec Argument Global) (es : List Argument) → t ≡ term.Application f v → es ≡ v.items
      → term_fault s (term_form t) ≡ either_fault (naming_fault (called s (named f).text) s.around (named f) (length (kinds s (argument_forms es))))
      (either_fault (arguments_fault s 0 (called_parameters (called s (named f).text)) (argument_forms es)) (taking_fault (called s (named f).text) (named f) (kinds s (argument_forms es))))
  application-faults t f v es is same =
      ap (λ u. term_fault s (term_form u)) is ∙ (ap (term_fault s) (term-application f v)
      ∙ ap (λ ks. either_fault (naming_fault (called s (named f).text) s.around (named f) (length (kinds s (argument_forms ks))))
      (either_fault (arguments_fault s 0 (called_parameters (called s (named f).text)) (argument_forms ks)) (taking_fault (called s (named f).text) (named f) (kinds s (argument_forms ks)))))
      (sym same))

  pub length-kinds : (es : List Argument) → length (kinds s (argument_forms es)) ≡ length es
  length-kinds [] = refl
  length-kinds (e ∷ es) = ap suc (length-kinds es)

  pub argument-next : (hs : List Shape) (es : List Argument) (k : ℕ) (e : Argument) → k < length es → e ≡ get_or es k e
      → arguments_fault s k hs (argument_forms (drop k es))
      ≡ either_fault (term_fault s (term_form e.term))
      (either_fault (fault_unless (agree (kind s (term_form e.term)) (kind_at hs k)) WrongKind e.place)
      (arguments_fault s (k + 1) hs (argument_forms (drop (k + 1) es))))
  argument-next hs es k e below at = ap (λ (xs : List Argument). arguments_fault s k hs (argument_forms xs)) (drop-at es k e below at)

  pub kinds-next : (es : List Argument) (k : ℕ) (e : Argument) → k < length es → e ≡ get_or es k e
      → kinds s (argument_forms (drop k es)) ≡ kind s (term_form e.term) ∷ kinds s (argument_forms (drop (k + 1) es))
  kinds-next es k e below at = ap (λ (xs : List Argument). kinds s (argument_forms xs)) (drop-at es k e below at)

  -- the second of some arguments
  pub second-kind : (es : List Argument) (e : Argument) → Some e ≡ slice_get es 1 → kind s (term_form e.term) ≡ second_kind (kinds s (argument_forms es))
  second-kind [] e is = cc
  second-kind (d ∷ []) e is = cc
  second-kind (d ∷ (f ∷ es)) e is = cc

  pub no-second : (es : List Argument) → length es ≤ 1 → Unknown ≡ second_kind (kinds s (argument_forms es))
  no-second [] few = refl
  no-second (d ∷ []) few = refl
  no-second (d ∷ (f ∷ es)) few = absurd (omega arith)

  -- fewer than three arguments
  pub few-choice : (es : List Argument) → length es < 3 → true ≡ is_choice (kinds s (argument_forms es))
  few-choice [] few = refl
  few-choice (d ∷ []) few = refl
  few-choice (d ∷ (f ∷ [])) few = refl
  few-choice (d ∷ (f ∷ (g ∷ es))) few = absurd (omega arith)

pub found_behind : (all a b c : Option TypingFault) (fault : TypingFault) → all ≡ either_fault a (either_fault b c) → None ≡ a → Some fault ≡ b → Some fault ≡ all
found_behind all a b c fault is none h = found all b c fault (left_out all a (either_fault b c) is none) h

pub left_both : (all a b c : Option TypingFault) → all ≡ either_fault a (either_fault b c) → None ≡ a → None ≡ b → all ≡ c
left_both all a b c is none clear = left_out all b c (left_out all a (either_fault b c) is none) clear

-- a chain with links, and one without

chain-several : (k : Kind) (ls : List TermLink) (l : TermLink) → Some l ≡ slice_get ls 0 → Truth ≡ chain_kind k ls
chain-several k [] l some = cc
chain-several k (m ∷ ls) l some = refl

chain-alone : (k : Kind) (ls : List TermLink) → None ≡ slice_get ls 0 → chain_kind k ls ≡ k
chain-alone k [] none = refl
chain-alone k (m ∷ ls) none = cc

arithmetic-several : (k : Kind) (ls : List ArithmeticLink) (l : ArithmeticLink) → Some l ≡ slice_get ls 0 → Whole ≡ arithmetic_kind k ls
arithmetic-several k [] l some = cc
arithmetic-several k (m ∷ ls) l some = refl

arithmetic-alone : (k : Kind) (ls : List ArithmeticLink) → None ≡ slice_get ls 0 → arithmetic_kind k ls ≡ k
arithmetic-alone k [] none = refl
arithmetic-alone k (m ∷ ls) none = cc

-- the kinds of such chains
module _ (s : Scope) where
  pub chain-truth : {t : Term} {c : Connective} {p : Box Term Global} (v : Vec TermLink Global) {ls : List TermLink} {l : TermLink}
      → t ≡ term.Chain c p v → ls ≡ v.items → Some l ≡ slice_get ls 0 → Truth ≡ kind s (term_form t)
  chain-truth {t} {c} {p} v {ls} {l} is same some =
      chain-several (kind s (term_form (box_value p))) ls l some ∙ sym (chain-kinds s t (box_value p) c p v ls is refl same)

  pub chain-first : {t x : Term} {c : Connective} {p : Box Term Global} (v : Vec TermLink Global) {ls : List TermLink}
      → t ≡ term.Chain c p v → x ≡ box_value p → ls ≡ v.items → None ≡ slice_get ls 0 → kind s (term_form x) ≡ kind s (term_form t)
  chain-first {t} {x} {c} {p} v {ls} is at same none = sym (chain-kinds s t x c p v ls is at same ∙ chain-alone (kind s (term_form x)) ls none)

  pub arithmetic-whole : {t : Term} {p : Box Term Global} (v : Vec ArithmeticLink Global) {ls : List ArithmeticLink} {l : ArithmeticLink}
      → t ≡ term.Arithmetic p v → ls ≡ v.items → Some l ≡ slice_get ls 0 → Whole ≡ kind s (term_form t)
  arithmetic-whole {t} {p} v {ls} {l} is same some =
      arithmetic-several (kind s (term_form (box_value p))) ls l some ∙ sym (arithmetic-kinds s t (box_value p) p v ls is refl same)

  pub arithmetic-first : {t x : Term} {p : Box Term Global} (v : Vec ArithmeticLink Global) {ls : List ArithmeticLink}
      → t ≡ term.Arithmetic p v → x ≡ box_value p → ls ≡ v.items → None ≡ slice_get ls 0 → kind s (term_form x) ≡ kind s (term_form t)
  arithmetic-first {t} {x} {p} v {ls} is at same none = sym (arithmetic-kinds s t x p v ls is at same ∙ arithmetic-alone (kind s (term_form x)) ls none)
