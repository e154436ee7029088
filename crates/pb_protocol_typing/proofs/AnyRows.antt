-- A test of some operand of a term, where operands are joined, as the code meets them.
use Rattle.std.proofs.Common.{◌≡◌, Bool, true, false, ◌||◌, List, [], ◌∷◌, refl, sym, ◌∙◌, ap, Vec, Box, Global}
use Rattle.std.specs.Prelude.{box_value}
use Rattle.std.specs.List.{list_any}
use Rattle.std.proofs.Math.Bool.{or_assoc}
use Rattle.pb_text_tree.specs.declared.place.Place.{Place}
use Rattle.pb_text_tree.specs.declared.operator.Connective.{Connective}
use Rattle.pb_text_tree.specs.declared.operator.Arithmetic.{Arithmetic}
use Rattle.pb_text_tree.specs.declared.name.Name as declared_name
use Rattle.pb_text_tree.specs.declared.term.Term as term
use Rattle.pb_text_tree.specs.declared.term.Term.{Term}
use Rattle.pb_text_tree.specs.declared.term.TermLink.{TermLink}
use Rattle.pb_text_tree.specs.declared.term.ArithmeticLink.{ArithmeticLink}
use Rattle.pb_text_tree.specs.declared.term.Argument.{Argument}
use Rattle.pb_text_tree.specs.Form.{TermForm, named, term_form, term_links, arithmetic_links, argument_forms, chained, calculated}
use Rattle.pb_text_tree.proofs.FormLemmas.{term-chain, term-arithmetic, term-application}

or-none : (b : Bool) → b ≡ (b || false)
or-none true = refl
or-none false = refl

module _ (any : TermForm → Bool) (of-connected : (c : Connective) (p : Place) (x y : TermForm) → any (TermForm.connected c p x y) ≡ (any x || any y))
    (of-computed : (o : Arithmetic) (p : Place) (x y : TermForm) → any (TermForm.computed o p x y) ≡ (any x || any y)) where
  abbrev in_link : TermLink → Bool
  in_link = λ l. any (term_form l.operand)

  abbrev in_operation : ArithmeticLink → Bool
  in_operation = λ l. any (term_form l.operand)

  chain-any : (c : Connective) (f : TermForm) (ls : List TermLink) → any (chained (TermForm.connected c) f (term_links ls)) ≡ (any f || list_any in_link ls)
  chain-any c f [] = or-none (any f)
  chain-any c f (l ∷ ls) =
      of-connected c l.place f (chained (TermForm.connected c) (term_form l.operand) (term_links ls)) ∙ ap (λ (b : Bool). any f || b) (chain-any c (term_form l.operand) ls)

  arithmetic-any : (f : TermForm) (ls : List ArithmeticLink) → any (calculated f (arithmetic_links ls)) ≡ (any f || list_any in_operation ls)
  arithmetic-any f [] = or-none (any f)
  arithmetic-any f (l ∷ ls) =
      arithmetic-any (TermForm.computed l.operator l.place f (term_form l.operand)) ls
      ∙ (ap (λ (b : Bool). b || list_any in_operation ls) (of-computed l.operator l.place f (term_form l.operand))
      ∙ or_assoc (any f) (any (term_form l.operand)) (list_any in_operation ls))

  chain-is : (t x : Term) (c : Connective) (p : Box Term Global) (v : Vec TermLink Global) (ls : List TermLink) → t ≡ term.Chain c p v → x ≡ box_value p → ls ≡ v.items
      → any (term_form t) ≡ (any (term_form x) || list_any in_link ls)
  chain-is t x c p v ls is at same =
      ap (λ u. any (term_form u)) is ∙ (ap any (term-chain c p v) ∙ (chain-any c (term_form (box_value p)) v.items
      ∙ (ap (λ ks. any (term_form (box_value p)) || list_any in_link ks) (sym same) ∙ ap (λ u. any (term_form u) || list_any in_link ls) (sym at))))

  arithmetic-is : (t x : Term) (p : Box Term Global) (v : Vec ArithmeticLink Global) (ls : List ArithmeticLink) → t ≡ term.Arithmetic p v → x ≡ box_value p → ls ≡ v.items
      → any (term_form t) ≡ (any (term_form x) || list_any in_operation ls)
  arithmetic-is t x p v ls is at same =
      ap (λ u. any (term_form u)) is ∙ (ap any (term-arithmetic p v) ∙ (arithmetic-any (term_form (box_value p)) v.items
      ∙ (ap (λ ks. any (term_form (box_value p)) || list_any in_operation ks) (sym same) ∙ ap (λ u. any (term_form u) || list_any in_operation ls) (sym at))))

  -- the first operand, or one behind it
  pub chain-here : {t x : Term} {c : Connective} {p : Box Term Global} (v : Vec TermLink Global) → t ≡ term.Chain c p v → x ≡ box_value p → any (term_form x) ≡ true → true ≡ any (term_form t)
  chain-here {t} {x} {c} {p} v is at h = sym (chain-is t x c p v v.items is at refl ∙ ap (λ (b : Bool). b || list_any in_link v.items) h)

  pub chain-behind : {t x : Term} {c : Connective} {p : Box Term Global} (v : Vec TermLink Global) {ls : List TermLink} → t ≡ term.Chain c p v → x ≡ box_value p → ls ≡ v.items
      → any (term_form x) ≡ false → list_any in_link ls ≡ any (term_form t)
  chain-behind {t} {x} {c} {p} v {ls} is at same h = sym (chain-is t x c p v ls is at same ∙ ap (λ (b : Bool). b || list_any in_link ls) h)

  pub arithmetic-here : {t x : Term} {p : Box Term Global} (v : Vec ArithmeticLink Global) → t ≡ term.Arithmetic p v → x ≡ box_value p → any (term_form x) ≡ true → true ≡ any (term_form t)
  arithmetic-here {t} {x} {p} v is at h = sym (arithmetic-is t x p v v.items is at refl ∙ ap (λ (b : Bool). b || list_any in_operation v.items) h)

  pub arithmetic-behind : {t x : Term} {p : Box Term Global} (v : Vec ArithmeticLink Global) {ls : List ArithmeticLink} → t ≡ term.Arithmetic p v → x ≡ box_value p → ls ≡ v.items
      → any (term_form x) ≡ false → list_any in_operation ls ≡ any (term_form t)
  arithmetic-behind {t} {x} {p} v {ls} is at same h = sym (arithmetic-is t x p v ls is at same ∙ ap (λ (b : Bool). b || list_any in_operation ls) h)

  pub application-is : (t : Term) (f : declared_name.Name) (v : Vec Argument Global) (es : List Argument) → t ≡ term.Application f v → es ≡ v.items
      → any (TermForm.application (named f) (argument_forms es)) ≡ any (term_form t)
  application-is t f v es is same =
      sym (ap (λ u. any (term_form u)) is ∙ (ap any (term-application f v) ∙ ap (λ ks. any (TermForm.application (named f) (argument_forms ks))) (sym same)))
