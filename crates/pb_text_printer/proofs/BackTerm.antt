-- The words of a data term that can be said are read back as that term.
use Rattle.std.proofs.Common.{◌≡◌, ◌<◌, ◌^◌, ℕ, zero, suc, ◌+◌, Bool, true, false, ◌||◌, List, [], ◌∷◌, ◌++◌, refl, ap, ◌∙◌, arith, inl, inr}
use Rattle.std.specs.Str.Parse.{digits_value}
use Rattle.std.proofs.lemmas.Fmt.{decimal_is_IsNumeral}
use Rattle.pb_text_tree.specs.declared.place.Place.{Place}
use Rattle.pb_text_tree.specs.declared.operator.Arithmetic.{Arithmetic}
use Rattle.pb_text_tree.specs.declared.operator.Arithmetic.TheVariants as arithmetic
use Rattle.pb_text_tree.specs.declared.operator.Comparison.{Comparison}
use Rattle.pb_text_tree.specs.declared.operator.Comparison.TheVariants as comparison
use Rattle.pb_text_tree.specs.declared.operator.Connective.{Connective}
use Rattle.pb_text_tree.specs.declared.operator.Connective.TheVariants as connective
use Rattle.pb_text_tree.specs.declared.operator.Quantifier.{Quantifier}
use Rattle.pb_text_tree.specs.Form.{Named, VariableForm, TermForm, ArgumentForms, no_arguments, argument}
use Rattle.pb_text_lexer.specs.declared.kind.Kind.{Kind}
use Rattle.pb_text_lexer.specs.declared.kind.Kind.TheVariants as k
use Rattle.pb_text_lexer.specs.Tokens.{Tok}
use Rattle.pb_text_lexer.specs.Grammar.{State, Reads, Nothing, One}
use Rattle.pb_text_lexer.specs.Grammar as grammar
use Rattle.pb_text_lexer.specs.LeftGrammar.{Listed, Linked, LeftChain, Comparison as Compares}
use Rattle.pb_text_lexer.specs.Steps.{head_place}
use Rattle.pb_text_lexer.proofs.Correct.{st}
use Rattle.pb_text_lexer.proofs.CorrectFamilies.{deeper}
use Rattle.pb_text_terms.specs.Operators.{is_equality, is_order, comparison_of, compared_by, arithmetic_of, computed_by}
use Rattle.pb_text_terms.specs.Grammar.{Placed, Instance, arguments_of, applied, Begun, Product, Sum, Ordered, Equated, QuantifiedBy, Quantified, BoundBy, Bound, IsUnary, IsTerm}
use Rattle.pb_text_printer.specs.declared.level.Level.{Level}
use Rattle.pb_text_printer.specs.declared.level.Level.TheVariants as level
use Rattle.pb_text_printer.specs.Unplaced.{nowhere, unplaced_name, unplaced_term, unplaced_arguments, unplaced_instance}
use Rattle.pb_text_printer.specs.Words.{Spells, Word, name_word, truth_word, not_word, minus_word, list_words, more_words, put, fits, needs_no_brackets, goes_on, arithmetic_side, arithmetic_word, chains_with, comparison_side, comparison_word, connective_level, term_side, term_words}
use Rattle.pb_text_printer.specs.Sayable.{operators, list_operators, IsPut, IsName, IsSayable, MoreSayable, SomeSayable}
use Rattle.pb_text_printer.proofs.BackLemmas.{Split, spells-split, Back, Restores, at-last, first-back, quantified-back}
use Rattle.pb_text_printer.proofs.BackConnected.{Ended, ended, SideOf}
use Rattle.pb_text_printer.proofs.BackLevel as levels
use Rattle.pb_text_printer.proofs.SayableLemmas.{needs_no_brackets-whole}
use Rattle.pb_text_printer.proofs.BackLinks.{append-link}

-- ---- what is read within so many levels

abbrev pub TermBelow : ℕ → Reads TermForm
TermBelow = deeper IsTerm

begins : (d : ℕ) (kind : Kind) (s : List Tok) (a : ℕ) (y : TermForm) (z : State) (t : Tok) (m : List Tok) → s ≡ t ∷ m → t.kind ≡ kind
    → Begun (deeper IsUnary d) (TermBelow d) kind (st s a) y z → IsUnary d (st s a) y z
begins zero kind s a y z t m e f h = first-back (Begun Nothing Nothing) kind s a y z t m e f h
begins (suc d) kind s a y z t m e f h = first-back (Begun (IsUnary d) (IsTerm d)) kind s a y z t m e f h

-- what is read at the levels below the connectives
abbrev BelowAt : Level → ℕ → Reads TermForm
BelowAt level.Order d = Ordered (IsUnary d)
BelowAt level.Sum d = Sum (IsUnary d)
BelowAt level.Product d = Product (IsUnary d)
BelowAt level.Unary d = IsUnary d
BelowAt _ d = Equated (IsUnary d)

abbrev QuantifiedAt : ℕ → Reads TermForm
QuantifiedAt d = Bound (TermBelow d)

abbrev LevelAt : Level → Bool → ℕ → Reads TermForm
LevelAt = levels.LevelAt TermForm.connected BelowAt QuantifiedAt

whole-reads : (d : ℕ) (s z : State) (x : TermForm) → LevelAt level.Implication true d s x z → IsTerm d s x z
whole-reads zero s z x h = h
whole-reads (suc d) s z x h = h

-- ---- looser levels

from-equality : (l : Level) (ends : Bool) (d : ℕ) (s z : State) (x : TermForm) → fits level.Equality l ≡ true → Ended ends (Equated (IsUnary d)) (QuantifiedAt d) s x z → LevelAt l ends d s x z
from-equality = levels.from-equality TermForm.connected BelowAt QuantifiedAt

from-order : (l : Level) (ends : Bool) (d : ℕ) (s z : State) (x : TermForm) → fits level.Order l ≡ true → Ordered (IsUnary d) s x z → LevelAt l ends d s x z
from-order level.Order ends d s z x e h = ended ends (Ordered (IsUnary d)) (QuantifiedAt d) s x z h
from-order l ends d s z x e h = from-equality l ends d s z x (cc) (ended ends (Equated (IsUnary d)) (QuantifiedAt d) s x z (inl h))

from-sum : (l : Level) (ends : Bool) (d : ℕ) (s z : State) (x : TermForm) → fits level.Sum l ≡ true → Sum (IsUnary d) s x z → LevelAt l ends d s x z
from-sum level.Sum ends d s z x e h = ended ends (Sum (IsUnary d)) (QuantifiedAt d) s x z h
from-sum l ends d s z x e h = from-order l ends d s z x (cc) (inl h)

from-product : (l : Level) (ends : Bool) (d : ℕ) (s z : State) (x : TermForm) → fits level.Product l ≡ true → Product (IsUnary d) s x z → LevelAt l ends d s x z
from-product level.Product ends d s z x e h = ended ends (Product (IsUnary d)) (QuantifiedAt d) s x z h
from-product l ends d s z x e h = from-sum l ends d s z x (cc) (inl h)

from-unary : (l : Level) (ends : Bool) (d : ℕ) (s z : State) (x : TermForm) → IsUnary d s x z → LevelAt l ends d s x z
from-unary level.Unary ends d s z x h = ended ends (IsUnary d) (QuantifiedAt d) s x z h
from-unary l ends d s z x h = from-product l ends d s z x (refl) (inl h)

-- ---- a term's own production

abbrev ComparedAt : Comparison → ℕ → Reads TermForm
ComparedAt comparison.Equal d = Equated (IsUnary d)
ComparedAt comparison.NotEqual d = Equated (IsUnary d)
ComparedAt _ d = Ordered (IsUnary d)

-- the operands of a chain
abbrev OperandAt : Arithmetic → ℕ → Reads TermForm
OperandAt arithmetic.Plus d = Product (IsUnary d)
OperandAt arithmetic.Minus d = Product (IsUnary d)
OperandAt _ d = IsUnary d

abbrev ChainAt : Arithmetic → ℕ → Reads TermForm
ChainAt o d = grammar.◌>>=◌ (OperandAt o d) (Linked (chains_with o) computed_by (OperandAt o d))

abbrev ReadingOf : TermForm → Bool → ℕ → Reads TermForm
ReadingOf (TermForm.connected c p x y) ends d = levels.ConnectedAt TermForm.connected BelowAt QuantifiedAt c ends d
ReadingOf (TermForm.compared c p x y) ends d = ComparedAt c d
ReadingOf (TermForm.computed o p x y) ends d = ChainAt o d
ReadingOf (TermForm.quantified q p vars x) ends d = QuantifiedAt d
ReadingOf _ ends d = IsUnary d

own-level : (x : TermForm) (l : Level) (ends : Bool) (d : ℕ) (s z : State) (y : TermForm) → needs_no_brackets x l ends ≡ true → ReadingOf x ends d s y z → LevelAt l ends d s y z
own-level (TermForm.connected c p x w) l ends d s z y e h = levels.own-connected TermForm.connected BelowAt QuantifiedAt c l ends d s z y e h
own-level (TermForm.compared comparison.Equal p x w) l ends d s z y e h = from-equality l ends d s z y e (ended ends (Equated (IsUnary d)) (QuantifiedAt d) s y z h)
own-level (TermForm.compared comparison.NotEqual p x w) l ends d s z y e h = from-equality l ends d s z y e (ended ends (Equated (IsUnary d)) (QuantifiedAt d) s y z h)
own-level (TermForm.compared comparison.Less p x w) l ends d s z y e h = from-order l ends d s z y e h
own-level (TermForm.compared comparison.LessEqual p x w) l ends d s z y e h = from-order l ends d s z y e h
own-level (TermForm.compared comparison.Greater p x w) l ends d s z y e h = from-order l ends d s z y e h
own-level (TermForm.compared comparison.GreaterEqual p x w) l ends d s z y e h = from-order l ends d s z y e h
own-level (TermForm.computed arithmetic.Plus p x w) l ends d s z y e h = from-sum l ends d s z y e (inr h)
own-level (TermForm.computed arithmetic.Minus p x w) l ends d s z y e h = from-sum l ends d s z y e (inr h)
own-level (TermForm.computed arithmetic.Times p x w) l ends d s z y e (u, m, r, q) = from-product l ends d s z y e (inr (u, m, r, inl q))
own-level (TermForm.computed arithmetic.Div p x w) l ends d s z y e (u, m, r, q) = from-product l ends d s z y e (inr (u, m, r, inr q))
own-level (TermForm.computed arithmetic.Mod p x w) l ends d s z y e (u, m, r, q) = from-product l ends d s z y e (inr (u, m, r, inr q))
own-level (TermForm.quantified q p vars x) l ends d s z y e h = levels.own-quantified TermForm.connected BelowAt QuantifiedAt l ends d s z y e h
own-level (TermForm.constant p value) l ends d s z y e h = from-unary l ends d s z y h
own-level (TermForm.number p n) l ends d s z y e h = from-unary l ends d s z y h
own-level (TermForm.name n) l ends d s z y e h = from-unary l ends d s z y h
own-level (TermForm.not p x) l ends d s z y e h = from-unary l ends d s z y h
own-level (TermForm.negative p x) l ends d s z y e h = from-unary l ends d s z y h
own-level (TermForm.application f xs) l ends d s z y e h = from-unary l ends d s z y h

-- ---- with brackets or without

-- a term by itself is read back by its own production
abbrev pub PlainBack : TermForm → Type 0
PlainBack x = (ends : Bool) (d : ℕ) → IsSayable x ends d → Restores (ReadingOf x ends d) unplaced_term x (operators x) (term_words x ends)

whole-own : (x : TermForm) (d : ℕ) (s z : State) (y : TermForm) → ReadingOf x true d s y z → IsTerm d s y z
whole-own x d s z y h = whole-reads d s z y (own-level x level.Implication true d s z y (needs_no_brackets-whole x) h)

pub whole-back : (x : TermForm) (d : ℕ) → PlainBack x → IsSayable x true d → Restores (IsTerm d) unplaced_term x (operators x) (term_words x true)
whole-back x d plain = levels.whole-back IsUnary IsTerm (λ d. begins (suc d) k.Open) unplaced_term x (operators x) (term_words x) (IsSayable x) (ReadingOf x) (whole-own x) plain d

put-back : (x : TermForm) (l : Level) (ends : Bool) (d : ℕ) → PlainBack x → IsPut (needs_no_brackets x l ends) (IsSayable x) ends d
    → Restores (LevelAt l ends d) unplaced_term x (operators x) (put (needs_no_brackets x l ends) (term_words x) ends)
put-back x l ends d plain =
    levels.put-back IsUnary IsTerm (λ d. begins (suc d) k.Open) unplaced_term x (operators x) (term_words x) (IsSayable x) (ReadingOf x) (whole-own x) plain
    (needs_no_brackets x l ends) ends (LevelAt l ends) (λ e d s z y. own-level x l ends d s z y e) (from-unary l ends) d

-- ---- chains to the left

chains-itself : (o : Arithmetic) → chains_with o (arithmetic_word o).kind ≡ true
chains-itself arithmetic.Plus = refl
chains-itself arithmetic.Minus = refl
chains-itself arithmetic.Times = refl
chains-itself arithmetic.Div = refl
chains-itself arithmetic.Mod = refl

arithmetic-itself : (o : Arithmetic) → arithmetic_of (arithmetic_word o).kind ≡ o
arithmetic-itself arithmetic.Plus = refl
arithmetic-itself arithmetic.Minus = refl
arithmetic-itself arithmetic.Times = refl
arithmetic-itself arithmetic.Div = refl
arithmetic-itself arithmetic.Mod = refl

side-operand : (o : Arithmetic) (d : ℕ) (s z : State) (x : TermForm) → LevelAt (arithmetic_side o) false d s x z → OperandAt o d s x z
side-operand arithmetic.Plus d s z x h = h
side-operand arithmetic.Minus d s z x h = h
side-operand arithmetic.Times d s z x h = h
side-operand arithmetic.Div d s z x h = h
side-operand arithmetic.Mod d s z x h = h

-- the term before an operator that goes on with it
abbrev LeadAt : Arithmetic → ℕ → Reads TermForm
LeadAt o d = LeftChain (chains_with o) computed_by (OperandAt o d)

own-lead : (o : Arithmetic) (x : TermForm) (d : ℕ) (s z : State) (y : TermForm) → goes_on o x ≡ true → ReadingOf x false d s y z → LeadAt o d s y z
own-lead arithmetic.Plus (TermForm.computed arithmetic.Plus p u v) d s z y e h = inr h
own-lead arithmetic.Plus (TermForm.computed arithmetic.Minus p u v) d s z y e h = inr h
own-lead arithmetic.Minus (TermForm.computed arithmetic.Plus p u v) d s z y e h = inr h
own-lead arithmetic.Minus (TermForm.computed arithmetic.Minus p u v) d s z y e h = inr h
own-lead arithmetic.Times (TermForm.computed arithmetic.Times p u v) d s z y e h = inr h
own-lead arithmetic.Div (TermForm.computed arithmetic.Div p u v) d s z y e h = inr h
own-lead arithmetic.Div (TermForm.computed arithmetic.Mod p u v) d s z y e h = inr h
own-lead arithmetic.Mod (TermForm.computed arithmetic.Div p u v) d s z y e h = inr h
own-lead arithmetic.Mod (TermForm.computed arithmetic.Mod p u v) d s z y e h = inr h
own-lead _ _ d s z y e h = cc

lead-back : (o : Arithmetic) (x : TermForm) (d : ℕ) → PlainBack x → IsPut (goes_on o x || needs_no_brackets x (arithmetic_side o) false) (IsSayable x) false d
    → Restores (LeadAt o d) unplaced_term x (operators x) (put (goes_on o x || needs_no_brackets x (arithmetic_side o) false) (term_words x) false)
lead-back o x d plain h s r a b e w = go (goes_on o x) refl h w
  where
    go : (v : Bool) → goes_on o x ≡ v → IsPut (v || needs_no_brackets x (arithmetic_side o) false) (IsSayable x) false d
        → Spells (put (v || needs_no_brackets x (arithmetic_side o) false) (term_words x) false) s r
        → Back (LeadAt o d) unplaced_term x (st s a) (st r b)
    go true f h w =
        let p = plain false d h s r a b e w in
        record { said = p.said; reads = own-lead o x d (st s a) (st r b) p.said f p.reads; same = p.same }
    go false f h w =
        let p = put-back x (arithmetic_side o) false d plain h s r a b e w in
        record { said = p.said; reads = inl (side-operand o d (st s a) (st r b) p.said p.reads); same = p.same }

computed-back : (o : Arithmetic) (p : Place) (x y : TermForm) (d : ℕ) (us vs : List Word) → Restores (LeadAt o d) unplaced_term x (operators x) us
    → Restores (LevelAt (arithmetic_side o) false d) unplaced_term y (operators y) vs
    → Restores (ChainAt o d) unplaced_term (TermForm.computed o p x y) (operators x + suc (operators y)) (us ++ arithmetic_word o ∷ vs)
computed-back o p x y d us vs left right s r a b e w =
    let cut = spells-split us (arithmetic_word o ∷ vs) s r w in
    go cut.mid (left s cut.mid a (suc (operators y + b)) (omega arith) cut.front) cut.back
  where
    go : (mid : List Tok) → Back (LeadAt o d) unplaced_term x (st s a) (st mid (suc (operators y + b))) → Spells (arithmetic_word o ∷ vs) mid r
        → Back (ChainAt o d) unplaced_term (TermForm.computed o p x y) (st s a) (st r b)
    go mid h (t, m, f, i, z, rest) =
        let g = right m r (operators y + b) b refl rest in
        let passes : chains_with o t.kind ≡ true = ap (chains_with o) i ∙ chains-itself o in
        let alike : arithmetic_of t.kind ≡ o = ap arithmetic_of i ∙ arithmetic-itself o in
        let u = h.same in let v = g.same in
        record {
          said = computed_by h.said t g.said;
          reads = append-link (chains_with o) computed_by (OperandAt o d) (st s a) (st mid (suc (operators y + b))) (st m (operators y + b)) (st r b) h.said g.said t
              h.reads (f, passes, refl) (side-operand o d (st m (operators y + b)) (st r b) g.said g.reads);
          same = cc;
        }

-- ---- comparisons

comparison-itself : (c : Comparison) → comparison_of (comparison_word c).kind ≡ c
comparison-itself comparison.Equal = refl
comparison-itself comparison.NotEqual = refl
comparison-itself comparison.Less = refl
comparison-itself comparison.LessEqual = refl
comparison-itself comparison.Greater = refl
comparison-itself comparison.GreaterEqual = refl

comparison-back : (test : Kind → Bool) (c : Comparison) → test (comparison_word c).kind ≡ true → (Item : Reads TermForm) (p : Place) (x y : TermForm) (us vs : List Word)
    → Restores Item unplaced_term x (operators x) us → Restores Item unplaced_term y (operators y) vs
    → Restores (Compares test compared_by Item) unplaced_term (TermForm.compared c p x y) (operators x + suc (operators y)) (us ++ comparison_word c ∷ vs)
comparison-back test c passes Item p x y us vs left right s r a b e w =
    let cut = spells-split us (comparison_word c ∷ vs) s r w in
    go cut.mid (left s cut.mid a (suc (operators y + b)) (omega arith) cut.front) cut.back
  where
    go : (mid : List Tok) → Back Item unplaced_term x (st s a) (st mid (suc (operators y + b))) → Spells (comparison_word c ∷ vs) mid r
        → Back (Compares test compared_by Item) unplaced_term (TermForm.compared c p x y) (st s a) (st r b)
    go mid h (t, m, f, i, z, rest) =
        let g = right m r (operators y + b) b refl rest in
        let alike : comparison_of t.kind ≡ c = ap comparison_of i ∙ comparison-itself c in
        let u = h.same in let v = g.same in
        record {
          said = compared_by h.said t g.said;
          reads = inr (h.said, st mid (suc (operators y + b)), h.reads, (t, st m (operators y + b), (f, ap test i ∙ passes, refl), (g.said, st r b, g.reads, (refl, refl))));
          same = cc;
        }

compared-back : (c : Comparison) (p : Place) (x y : TermForm) (d : ℕ) (us vs : List Word)
    → Restores (LevelAt (comparison_side c) false d) unplaced_term x (operators x) us → Restores (LevelAt (comparison_side c) false d) unplaced_term y (operators y) vs
    → Restores (ComparedAt c d) unplaced_term (TermForm.compared c p x y) (operators x + suc (operators y)) (us ++ comparison_word c ∷ vs)
compared-back comparison.Equal p x y d us vs left right = comparison-back is_equality comparison.Equal refl (Ordered (IsUnary d)) p x y us vs left right
compared-back comparison.NotEqual p x y d us vs left right = comparison-back is_equality comparison.NotEqual refl (Ordered (IsUnary d)) p x y us vs left right
compared-back comparison.Less p x y d us vs left right = comparison-back is_order comparison.Less refl (Sum (IsUnary d)) p x y us vs left right
compared-back comparison.LessEqual p x y d us vs left right = comparison-back is_order comparison.LessEqual refl (Sum (IsUnary d)) p x y us vs left right
compared-back comparison.Greater p x y d us vs left right = comparison-back is_order comparison.Greater refl (Sum (IsUnary d)) p x y us vs left right
compared-back comparison.GreaterEqual p x y d us vs left right = comparison-back is_order comparison.GreaterEqual refl (Sum (IsUnary d)) p x y us vs left right

-- ---- arguments

-- arguments and the bracket behind them
pub record ListBack (d : ℕ) (xs : ArgumentForms) (s z : State) : Type 0 where
  pub list : List (Place × TermForm)
  pub mid : State
  pub end : Tok
  pub reads : Listed (Placed (IsTerm d)) (One k.Comma) s list mid
  pub closes : One k.Close mid end z
  pub same : unplaced_arguments (arguments_of list) ≡ unplaced_arguments xs

-- behind an argument that is read back, the others are
abbrev pub MoreBack : ArgumentForms → Type 0
MoreBack xs = (d : ℕ) → MoreSayable xs d → (p : Place) (x : TermForm) (s m r : List Tok) (a c b : ℕ) → Back (IsTerm d) unplaced_term x (st s a) (st m c) → c ≡ list_operators xs + b
    → Spells (more_words xs) m r → ListBack d (argument p x xs) (st s a) (st r b)

none-more : MoreBack no_arguments
none-more d h p x s m r a c b f e (t, n, g, i, y, end) = record {
  list = (head_place s, f.said) ∷ [];
  mid = st m c;
  end = t;
  reads = grammar.last (f.reads, refl);
  closes = (g ∙ ap (λ v. t ∷ v) end, i, (let q : b ≡ c = omega arith in q));
  same = let q = f.same in cc;
}

one-more : (q : Place) (y : TermForm) (ys : ArgumentForms) → PlainBack y → MoreBack ys → MoreBack (argument q y ys)
one-more q y ys plain again d h p x s m r a c b f e (t, n, g, i, z, rest) = go (spells-split (term_words y true) (more_words ys) n r rest)
  where
    go : Split (term_words y true) (more_words ys) n r → ListBack d (argument p x (argument q y ys)) (st s a) (st r b)
    go cut =
        let head = whole-back y d plain h.0 n cut.mid c (list_operators ys + b) (omega arith) cut.front in
        let tail = again d h.1 q y n cut.mid r c (list_operators ys + b) b head refl cut.back in
        let u = f.same in let v = tail.same in
        record {
          list = (head_place s, f.said) ∷ tail.list;
          mid = tail.mid;
          end = tail.end;
          reads = grammar.more (f.reads, refl) (g, i, refl) tail.reads;
          closes = tail.closes;
          same = cc;
        }

abbrev pub ArgumentsBack : ArgumentForms → Type 0
ArgumentsBack no_arguments = Unit {0}
ArgumentsBack (argument p x xs) = PlainBack x × MoreBack xs

pub instance-back : (n : Named) (xs : ArgumentForms) (d : ℕ) → ArgumentsBack xs → IsName n × SomeSayable xs d
    → Restores (Instance (TermBelow d)) unplaced_instance (record { name = n; arguments = xs }) (list_operators xs) (name_word n ∷ list_words xs)
instance-back n no_arguments d back h s r a b e (t, m, f, i, z, end) = record {
  said = record { name = record { place = t.place; text = t.text }; arguments = no_arguments };
  reads = inl (record { place = t.place; text = t.text }, st m a, (t, st m a, (f, i, refl), (refl, refl)), (refl, at-last m r a b end e));
  same = cc;
}
instance-back n (argument p x xs) zero back h s r a b e w = absurd h.1
instance-back n (argument p x xs) (suc d) back h s r a b e (t, m, f, i, z, (u, o, g, j, y, rest)) = go (spells-split (term_words x true) (more_words xs) o r rest)
  where
    go : Split (term_words x true) (more_words xs) o r → Back (Instance (IsTerm d)) unplaced_instance (record { name = n; arguments = argument p x xs }) (st s a) (st r b)
    go cut =
        let head = whole-back x d back.0 h.1.0 o cut.mid a (list_operators xs + b) (omega arith) cut.front in
        let tail = back.1 d h.1.1 p x o cut.mid r a (list_operators xs + b) b head refl cut.back in
        let v = tail.same in
        let named : Named = record { place = t.place; text = t.text } in
        record {
          said = record { name = named; arguments = arguments_of tail.list };
          reads = inr (
            record { name = named; arguments = no_arguments },
            st m a,
            (named, st m a, (t, st m a, (f, i, refl), (refl, refl)), (refl, refl)),
            (arguments_of tail.list, st r b, (u, st o a, (g, j, refl), (tail.list, tail.mid, tail.reads, (tail.end, st r b, tail.closes, (refl, refl)))), (refl, refl)),
          );
          same = cc;
        }

applied-same : (n m : Named) (xs ys : ArgumentForms) → unplaced_name n ≡ unplaced_name m → unplaced_arguments xs ≡ unplaced_arguments ys → unplaced_term (applied n xs) ≡ unplaced_term (applied m ys)
applied-same n m no_arguments no_arguments e f = ap (λ v. TermForm.name v) e
applied-same n m no_arguments (argument p x xs) e f = cc
applied-same n m (argument p x xs) no_arguments e f = cc
applied-same n m (argument p x xs) (argument q y ys) e f = cc

applied-back : (n : Named) (xs : ArgumentForms) (d : ℕ) → ArgumentsBack xs → IsName n × SomeSayable xs d
    → Restores (IsUnary d) unplaced_term (applied n xs) (list_operators xs) (name_word n ∷ list_words xs)
applied-back n xs d back h s r a b e w =
    let i = instance-back n xs d back h s r a b e w in
    let u = i.same in
    let names : unplaced_name i.said.name ≡ unplaced_name n = ap (λ v. v.name) u in
    let lists : unplaced_arguments i.said.arguments ≡ unplaced_arguments xs = ap (λ v. v.arguments) u in
    record {
      said = applied i.said.name i.said.arguments;
      reads = begins d k.Name s a (applied i.said.name i.said.arguments) (st r b) w.0 w.1 w.2 w.3 (i.said, st r b, i.reads, (refl, refl));
      same = applied-same i.said.name n i.said.arguments xs names lists;
    }

-- ---- all terms

constant-back : (p : Place) (value : Bool) → PlainBack (TermForm.constant p value)
constant-back p true ends d h = levels.mark-back (IsUnary d) unplaced_term (truth_word true) (λ p. TermForm.constant p true) (λ p o. refl) (begins d k.True) p
constant-back p false ends d h = levels.mark-back (IsUnary d) unplaced_term (truth_word false) (λ p. TermForm.constant p false) (λ p o. refl) (begins d k.False) p

number-back : (p : Place) (n : ℕ) → PlainBack (TermForm.number p n)
number-back p n ends d h s r a b e (t, m, f, i, z, end) =
    let small : n < 2 ^ 64 = omega arith in
    let is : digits_value 10 t.text ≡ n = ap (λ v. digits_value 10 v) z ∙ (decimal_is_IsNumeral n small).1 in
    record {
      said = TermForm.number t.place (digits_value 10 t.text);
      reads = begins d k.Number s a (TermForm.number t.place (digits_value 10 t.text)) (st r b) t m f i (t, st m a, (f, i, refl), (refl, at-last m r a b end e));
      same = ap (λ v. TermForm.number nowhere v) is;
    }

not-back : (p : Place) (x : TermForm) → PlainBack x → PlainBack (TermForm.not p x)
not-back p x plain ends zero h = absurd h
not-back p x plain ends (suc d) h =
    levels.prefixed-back (IsUnary (suc d)) unplaced_term not_word TermForm.not (λ p o x y e. ap (λ v. TermForm.not nowhere v) e) (IsUnary d) (begins (suc d) k.Not) p x (operators x)
    (put (needs_no_brackets x level.Unary false) (term_words x) false) (put-back x level.Unary false d plain h)

negative-back : (p : Place) (x : TermForm) → PlainBack x → PlainBack (TermForm.negative p x)
negative-back p x plain ends zero h = absurd h
negative-back p x plain ends (suc d) h =
    levels.prefixed-back (IsUnary (suc d)) unplaced_term minus_word TermForm.negative (λ p o x y e. ap (λ v. TermForm.negative nowhere v) e) (IsUnary d) (begins (suc d) k.Minus) p x (operators x)
    (put (needs_no_brackets x level.Unary false) (term_words x) false) (put-back x level.Unary false d plain h)

sides : (c : Connective) (d : ℕ) (s z : State) (x : TermForm) → LevelAt (term_side c) false d s x z → SideOf TermForm.connected (Equated (IsUnary d)) c s x z
sides connective.And d s z x h = h
sides connective.Or d s z x h = h
sides connective.Implies d s z x h = h

pub connects-back : (c : Connective) (p : Place) (x y : TermForm) → PlainBack x → PlainBack y → PlainBack (TermForm.connected c p x y)
connects-back c p x y first second ends d h =
    levels.connects-back TermForm.connected BelowAt QuantifiedAt term_side sides unplaced_term (λ c p o x y u v e f. cc) c ends p x y (operators x) (operators y)
    (put (needs_no_brackets x (term_side c) false) (term_words x) false) (put (needs_no_brackets y (connective_level c) ends) (term_words y) ends) d
    (put-back x (term_side c) false d first h.0) (put-back y (connective_level c) ends d second h.1)

-- a quantifier is read as one
to-bound : (Body : Reads TermForm) (s : State) (x : TermForm) (z : State) → Quantified TermForm.quantified Body s x z → Bound Body s x z
to-bound Body s x z h = by s.tokens h
  where
    each : (kind : Kind) → QuantifiedBy TermForm.quantified Body kind s x z → BoundBy Body kind s x z
    each k.Count h = absurd h
    each k.Forall h = h
    each k.Exists h = h
    each _ h = absurd h

    by : (ts : List Tok) → grammar.by_first (QuantifiedBy TermForm.quantified Body) ts s x z → grammar.by_first (BoundBy Body) ts s x z
    by [] h = h
    by (t ∷ ts) h = each t.kind h

quantifies-back : (q : Quantifier) (p : Place) (vars : List VariableForm) (x : TermForm) → PlainBack x → PlainBack (TermForm.quantified q p vars x)
quantifies-back q p vars x plain ends zero h = absurd h.1
quantifies-back q p vars x plain ends (suc d) h =
    λ s r a b e w.
    let back = quantified-back TermForm.quantified (IsTerm d) unplaced_term operators (λ q p vars ws x y e f o. cc) q p vars x (term_words x true) h.0 (whole-back x d plain h.1) s r a b e w in
    record { said = back.said; reads = to-bound (IsTerm d) (st s a) back.said (st r b) back.reads; same = back.same }

application-back : (f : Named) (xs : ArgumentForms) → ArgumentsBack xs → PlainBack (TermForm.application f xs)
application-back f no_arguments back ends d h = absurd h.1
application-back f (argument p x xs) back ends d h = applied-back f (argument p x xs) d back h

mutual
  -- the words of a term that can be said are read back as that term
  pub term-back : (x : TermForm) → PlainBack x
  term-back (TermForm.constant p value) = constant-back p value
  term-back (TermForm.number p n) = number-back p n
  term-back (TermForm.name n) = λ ends d h. applied-back n no_arguments d tt (h, tt)
  term-back (TermForm.not p x) = not-back p x (term-back x)
  term-back (TermForm.negative p x) = negative-back p x (term-back x)
  term-back (TermForm.connected c p x y) = connects-back c p x y (term-back x) (term-back y)
  term-back (TermForm.compared c p x y) = λ ends d h.
      compared-back c p x y d (put (needs_no_brackets x (comparison_side c) false) (term_words x) false) (put (needs_no_brackets y (comparison_side c) false) (term_words y) false)
      (put-back x (comparison_side c) false d (term-back x) h.0) (put-back y (comparison_side c) false d (term-back y) h.1)
  term-back (TermForm.computed o p x y) = λ ends d h.
      computed-back o p x y d (put (goes_on o x || needs_no_brackets x (arithmetic_side o) false) (term_words x) false) (put (needs_no_brackets y (arithmetic_side o) false) (term_words y) false)
      (lead-back o x d (term-back x) h.0) (put-back y (arithmetic_side o) false d (term-back y) h.1)
  term-back (TermForm.application f xs) = application-back f xs (arguments-back xs)
  term-back (TermForm.quantified q p vars x) = quantifies-back q p vars x (term-back x)

  pub arguments-back : (xs : ArgumentForms) → ArgumentsBack xs
  arguments-back no_arguments = tt
  arguments-back (argument p x xs) = (term-back x, more-back xs)

  more-back : (xs : ArgumentForms) → MoreBack xs
  more-back no_arguments = none-more
  more-back (argument p x xs) = one-more p x xs (term-back x) (more-back xs)
