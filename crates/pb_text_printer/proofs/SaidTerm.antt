-- A data term that is read can be said within the same levels, and has the operators that were counted.
use Rattle.std.proofs.Common.{◌≡◌, ℕ, zero, suc, ◌+◌, Bool, true, false, ◌||◌, List, [], ◌∷◌, refl, sym, ap, subst, arith, inl, inr, true≢false}
use Rattle.std.specs.Str.Parse.{digits_value}
use Rattle.std.proofs.lemmas.Bool.{or_right}
use Rattle.pb_text_tree.specs.declared.place.Place.{Place}
use Rattle.pb_text_tree.specs.declared.operator.Arithmetic.{Arithmetic}
use Rattle.pb_text_tree.specs.declared.operator.Arithmetic.TheVariants as arithmetic
use Rattle.pb_text_tree.specs.declared.operator.Quantifier.{Quantifier}
use Rattle.pb_text_tree.specs.Form.{Named, VariableForm, TermForm, ArgumentForms, no_arguments, argument, InstanceForm}
use Rattle.pb_text_lexer.specs.declared.kind.Kind.{Kind}
use Rattle.pb_text_lexer.specs.declared.kind.Kind.TheVariants as k
use Rattle.pb_text_lexer.specs.Tokens.{Tok}
use Rattle.pb_text_lexer.specs.Grammar.{State, Reads, Is, Nothing, One, First, last, more}
use Rattle.pb_text_lexer.specs.LeftGrammar.{Link, Listed, Linked, Comparison, grouped}
use Rattle.pb_text_terms.specs.Operators.{is_equality, is_order, comparison_of, compared_by, is_additive, is_times, is_division, arithmetic_of, computed_by}
use Rattle.pb_text_terms.specs.Grammar.{Placed, arguments_of, Arguments, Instance, applied, Begun, Product, Sum, Ordered, Equated, BoundBy, Bound, Connections, IsUnary, IsTerm}
use Rattle.pb_text_printer.specs.declared.level.Level.{Level}
use Rattle.pb_text_printer.specs.declared.level.Level.TheVariants as level
use Rattle.pb_text_printer.specs.Words.{fits, needs_no_brackets, goes_on, arithmetic_side, arithmetic_word}
use Rattle.pb_text_printer.specs.Sayable.{Each, EachOf, AreVariables, operators, list_operators, IsPut, IsName, IsSayable, AreSayable, MoreSayable, SomeSayable, InstanceSayable}
use Rattle.pb_text_printer.proofs.SayableLemmas.{term-bends, puts, puts-bracketed, needs_no_brackets-whole, term-looser, term-freer}
use Rattle.pb_text_printer.proofs.SaidLemmas.{Said, EachReadingIs, one-said, operator_of-said, finish, first-said, total, listed-said, comma-said, nothing-said, name-said, quantified-by-said}
use Rattle.pb_text_printer.proofs.SaidConnected.{connected-said}

-- what can be said of a term where a level is asked for
abbrev pub At : ℕ → TermForm → Level → Bool → Type 0
At d x l ends = IsPut (needs_no_brackets x l ends) (IsSayable x) ends d

-- ---- arguments

module _ (Term : Reads TermForm) (d : ℕ) (term : EachReadingIs Term (λ x. IsSayable x true d) operators) where
  abbrev IsArgument : Place × TermForm → Type 0
  IsArgument a = IsSayable a.1 true d

  placed-said : EachReadingIs (Placed Term) IsArgument (λ a. operators a.1)
  placed-said s z a lex r = term s z a.1 lex r.0

  more-arguments : (xs : List (Place × TermForm)) → Each IsArgument xs → MoreSayable (arguments_of xs) d
  more-arguments [] h = tt
  more-arguments (x ∷ xs) h = (h.0, more-arguments xs h.1)

  some-arguments : (xs : List (Place × TermForm)) → EachOf IsArgument xs → AreSayable (arguments_of xs) (suc d)
  some-arguments [] h = absurd h
  some-arguments (x ∷ xs) h = (h.0, more-arguments xs h.1)

  arguments-count : (xs : List (Place × TermForm)) → total (λ a. operators a.1) xs ≡ list_operators (arguments_of xs)
  arguments-count [] = refl
  arguments-count (x ∷ xs) = ap (λ v. operators x.1 + v) (arguments-count xs)

  arguments-said : EachReadingIs (Arguments Term) (λ xs. AreSayable xs (suc d)) list_operators
  arguments-said s z xs lex (t, m, r, (list, o, q, (u, w, c, e))) =
      let h = one-said k.Open s m t lex r in
      let g = listed-said (Placed Term) (One k.Comma) IsArgument (λ a. operators a.1) placed-said comma-said m o list h.rest q in
      let f = one-said k.Close o w u g.rest c in
      let a = h.count in let b = g.count in let i = f.count in let v = arguments-count list in
      finish (λ xs. AreSayable xs (suc d)) list_operators (arguments_of list) xs s w z e.0 e.1
      (record { says = some-arguments list g.says; rest = f.rest; count = omega arith })

some-of : (xs : ArgumentForms) (d : ℕ) → AreSayable xs d → SomeSayable xs d
some-of no_arguments d h = absurd h
some-of (argument p x xs) d h = h

pub instance-said : (Term : Reads TermForm) (d : ℕ) → EachReadingIs Term (λ x. IsSayable x true d) operators
    → EachReadingIs (Instance Term) (λ i. InstanceSayable i (suc d)) (λ i. list_operators i.arguments)
instance-said Term d term s z i lex (inl (n, m, r, e)) =
    let h = name-said s m n lex r in
    finish (λ i. InstanceSayable i (suc d)) (λ i. list_operators i.arguments) (record { name = n; arguments = no_arguments }) i s m z e.0 e.1
    (record { says = (h.says, tt); rest = h.rest; count = h.count })
instance-said Term d term s z i lex (inr (alone, o, (n, m, r, e), (xs, w, q, g))) =
    let h = name-said s m n lex r in
    let start = finish (λ i. IsName i.name) (λ i. 0) (record { name = n; arguments = no_arguments }) alone s m o e.0 e.1 (record { says = h.says; rest = h.rest; count = h.count }) in
    let f = arguments-said Term d term o w xs start.rest q in
    let a = start.count in let b = f.count in
    finish (λ i. InstanceSayable i (suc d)) (λ i. list_operators i.arguments) (record { name = alone.name; arguments = xs }) i s w z g.0 g.1
    (record { says = (start.says, some-of xs (suc d) f.says); rest = f.rest; count = omega arith })

no-list : (s z : State) (xs : List (Place × TermForm)) → Listed (Placed Nothing) (One k.Comma) s xs z → ⊥
no-list s z xs (last r) = r.0
no-list s z xs (more r b rest) = r.0

-- a name alone, where no level may open
pub alone-said : EachReadingIs (Instance Nothing) (λ i. InstanceSayable i zero) (λ i. list_operators i.arguments)
alone-said s z i lex (inl (n, m, r, e)) =
    let h = name-said s m n lex r in
    finish (λ i. InstanceSayable i zero) (λ i. list_operators i.arguments) (record { name = n; arguments = no_arguments }) i s m z e.0 e.1
    (record { says = (h.says, tt); rest = h.rest; count = h.count })
alone-said s z i lex (inr (alone, o, h, (xs, w, (t, m, r, (list, u, q, rest)), g))) = absurd (no-list m u list q)

-- ---- what begins with a token

applied-sayable : (n : Named) (xs : ArgumentForms) (ends : Bool) (d : ℕ) → IsName n → SomeSayable xs d → At d (applied n xs) level.Unary ends
applied-sayable n no_arguments ends d h g = h
applied-sayable n (argument p x xs) ends d h g = (h, g)

applied-count : (n : Named) (xs : ArgumentForms) → operators (applied n xs) ≡ list_operators xs
applied-count n no_arguments = refl
applied-count n (argument p x xs) = refl

applied-said : (d : ℕ) (s m z : State) (i : InstanceForm) (x : TermForm) → Said (InstanceSayable i d) (list_operators i.arguments) s m → x ≡ applied i.name i.arguments → z ≡ m
    → Said (At d x level.Unary false) (operators x) s z
applied-said d s m z i x h e f =
    let a = h.says in let b = h.count in let c = applied-count i.name i.arguments in
    finish (λ x. At d x level.Unary false) operators (applied i.name i.arguments) x s m z e f
    (record { says = applied-sayable i.name i.arguments false d a.0 a.1; rest = h.rest; count = omega arith })

number-said : (d : ℕ) (ends : Bool) → EachReadingIs (Begun Nothing Nothing k.Number) (λ x. At d x level.Unary ends) operators
number-said d ends s z x lex (t, m, r, e) =
    let h = one-said k.Number s m t lex r in
    let is = h.says in let writes = is.number r.1 in
    finish (λ x. At d x level.Unary ends) operators (TermForm.number t.place (digits_value 10 t.text)) x s m z e.0 e.1
    (record { says = writes.small; rest = h.rest; count = h.count })

true-said : (d : ℕ) (ends : Bool) → EachReadingIs (Begun Nothing Nothing k.True) (λ x. At d x level.Unary ends) operators
true-said d ends s z x lex (t, m, r, e) =
    let h = one-said k.True s m t lex r in
    finish (λ x. At d x level.Unary ends) operators (TermForm.constant t.place true) x s m z e.0 e.1 (record { says = tt; rest = h.rest; count = h.count })

false-said : (d : ℕ) (ends : Bool) → EachReadingIs (Begun Nothing Nothing k.False) (λ x. At d x level.Unary ends) operators
false-said d ends s z x lex (t, m, r, e) =
    let h = one-said k.False s m t lex r in
    finish (λ x. At d x level.Unary ends) operators (TermForm.constant t.place false) x s m z e.0 e.1 (record { says = tt; rest = h.rest; count = h.count })

-- where no level may open
begun-none : (kind : Kind) → EachReadingIs (Begun Nothing Nothing kind) (λ x. At zero x level.Unary false) operators
begun-none k.Not s z x lex (t, m, r, (y, o, h, e)) = absurd h
begun-none k.Minus s z x lex (t, m, r, (y, o, h, e)) = absurd h
begun-none k.Open s z x lex (t, m, r, (y, o, h, e)) = absurd h
begun-none k.Number s z x lex h = number-said zero false s z x lex h
begun-none k.True s z x lex h = true-said zero false s z x lex h
begun-none k.False s z x lex h = false-said zero false s z x lex h
begun-none k.Name s z x lex (i, m, r, e) = applied-said zero s m z i x (alone-said s m i lex r) e.0 e.1
begun-none _ s z x lex h = absurd h

module _ (d : ℕ) (Unary Term : Reads TermForm) (unary : EachReadingIs Unary (λ x. At d x level.Unary false) operators) (term : EachReadingIs Term (λ x. IsSayable x true d) operators) where
  begun-said : (kind : Kind) → EachReadingIs (Begun Unary Term kind) (λ x. At (suc d) x level.Unary false) operators
  begun-said k.Not s z x lex (t, m, r, (y, o, q, e)) =
      let h = one-said k.Not s m t lex r in let g = unary m o y h.rest q in
      let a = h.count in let b = g.count in
      finish (λ x. At (suc d) x level.Unary false) operators (TermForm.not t.place y) x s o z e.0 e.1 (record { says = g.says; rest = g.rest; count = omega arith })
  begun-said k.Minus s z x lex (t, m, r, (y, o, q, e)) =
      let h = one-said k.Minus s m t lex r in let g = unary m o y h.rest q in
      let a = h.count in let b = g.count in
      finish (λ x. At (suc d) x level.Unary false) operators (TermForm.negative t.place y) x s o z e.0 e.1 (record { says = g.says; rest = g.rest; count = omega arith })
  begun-said k.Open s z x lex (t, m, r, (y, o, q, (u, w, c, e))) =
      let h = one-said k.Open s m t lex r in let g = term m o y h.rest q in let f = one-said k.Close o w u g.rest c in
      let a = h.count in let b = g.count in let i = f.count in
      finish (λ x. At (suc d) x level.Unary false) operators y x s w z e.0 e.1
      (record { says = puts-bracketed (IsSayable y) (term-bends y) (needs_no_brackets y level.Unary false) d g.says; rest = f.rest; count = omega arith })
  begun-said k.Number s z x lex h = number-said (suc d) false s z x lex h
  begun-said k.True s z x lex h = true-said (suc d) false s z x lex h
  begun-said k.False s z x lex h = false-said (suc d) false s z x lex h
  begun-said k.Name s z x lex (i, m, r, e) = applied-said (suc d) s m z i x (instance-said Term d term s m i lex r) e.0 e.1
  begun-said _ s z x lex h = absurd h

-- ---- chains to the left

-- what can stand before an operator that passes the test
abbrev Leads : ℕ → (Kind → Bool) → TermForm → Type 0
Leads d test x = (o : Arithmetic) → test (arithmetic_word o).kind ≡ true → IsPut (goes_on o x || needs_no_brackets x (arithmetic_side o) false) (IsSayable x) false d

leads-item : (d : ℕ) (x : TermForm) (o : Arithmetic) → At d x (arithmetic_side o) false → IsPut (goes_on o x || needs_no_brackets x (arithmetic_side o) false) (IsSayable x) false d
leads-item d x o h =
    puts (IsSayable x) (term-bends x) (needs_no_brackets x (arithmetic_side o) false) (goes_on o x || needs_no_brackets x (arithmetic_side o) false) false d
    (or_right (goes_on o x) (needs_no_brackets x (arithmetic_side o) false)) h

-- A chain: its operators, its level, and that of its operands.
pub record IsChain (d : ℕ) (test : Kind → Bool) (own side : Level) : Type 0 where
  pub begins : (x : TermForm) → At d x side false → Leads d test x
  pub step : (kind : Kind) (p : Place) (x y : TermForm) → test kind ≡ true → Leads d test x → At d y side false
      → At d (TermForm.computed (arithmetic_of kind) p x y) own false × Leads d test (TermForm.computed (arithmetic_of kind) p x y)

additive-chain : (d : ℕ) → IsChain d is_additive level.Sum level.Product
additive-chain d = record { begins = begins; step = step }
  where
    begins : (x : TermForm) → At d x level.Product false → Leads d is_additive x
    begins x h arithmetic.Plus e = leads-item d x arithmetic.Plus h
    begins x h arithmetic.Minus e = leads-item d x arithmetic.Minus h
    begins x h _ e = absurd (true≢false (sym e))

    step : (kind : Kind) (p : Place) (x y : TermForm) → is_additive kind ≡ true → Leads d is_additive x → At d y level.Product false
        → At d (TermForm.computed (arithmetic_of kind) p x y) level.Sum false × Leads d is_additive (TermForm.computed (arithmetic_of kind) p x y)
    step k.Plus p x y e h g = ((h arithmetic.Plus refl, g), leads)
      where
        leads : Leads d is_additive (TermForm.computed arithmetic.Plus p x y)
        leads arithmetic.Plus e = (h arithmetic.Plus refl, g)
        leads arithmetic.Minus e = (h arithmetic.Plus refl, g)
        leads _ e = absurd (true≢false (sym e))
    step k.Minus p x y e h g = ((h arithmetic.Minus refl, g), leads)
      where
        leads : Leads d is_additive (TermForm.computed arithmetic.Minus p x y)
        leads arithmetic.Plus e = (h arithmetic.Minus refl, g)
        leads arithmetic.Minus e = (h arithmetic.Minus refl, g)
        leads _ e = absurd (true≢false (sym e))
    step _ p x y e h g = absurd (true≢false (sym e))

times-chain : (d : ℕ) → IsChain d is_times level.Product level.Unary
times-chain d = record { begins = begins; step = step }
  where
    begins : (x : TermForm) → At d x level.Unary false → Leads d is_times x
    begins x h arithmetic.Times e = leads-item d x arithmetic.Times h
    begins x h _ e = absurd (true≢false (sym e))

    step : (kind : Kind) (p : Place) (x y : TermForm) → is_times kind ≡ true → Leads d is_times x → At d y level.Unary false
        → At d (TermForm.computed (arithmetic_of kind) p x y) level.Product false × Leads d is_times (TermForm.computed (arithmetic_of kind) p x y)
    step k.Times p x y e h g = ((h arithmetic.Times refl, g), leads)
      where
        leads : Leads d is_times (TermForm.computed arithmetic.Times p x y)
        leads arithmetic.Times e = (h arithmetic.Times refl, g)
        leads _ e = absurd (true≢false (sym e))
    step _ p x y e h g = absurd (true≢false (sym e))

division-chain : (d : ℕ) → IsChain d is_division level.Product level.Unary
division-chain d = record { begins = begins; step = step }
  where
    begins : (x : TermForm) → At d x level.Unary false → Leads d is_division x
    begins x h arithmetic.Div e = leads-item d x arithmetic.Div h
    begins x h arithmetic.Mod e = leads-item d x arithmetic.Mod h
    begins x h _ e = absurd (true≢false (sym e))

    step : (kind : Kind) (p : Place) (x y : TermForm) → is_division kind ≡ true → Leads d is_division x → At d y level.Unary false
        → At d (TermForm.computed (arithmetic_of kind) p x y) level.Product false × Leads d is_division (TermForm.computed (arithmetic_of kind) p x y)
    step k.Div p x y e h g = ((h arithmetic.Div refl, g), leads)
      where
        leads : Leads d is_division (TermForm.computed arithmetic.Div p x y)
        leads arithmetic.Div e = (h arithmetic.Div refl, g)
        leads arithmetic.Mod e = (h arithmetic.Div refl, g)
        leads _ e = absurd (true≢false (sym e))
    step k.Mod p x y e h g = ((h arithmetic.Mod refl, g), leads)
      where
        leads : Leads d is_division (TermForm.computed arithmetic.Mod p x y)
        leads arithmetic.Div e = (h arithmetic.Mod refl, g)
        leads arithmetic.Mod e = (h arithmetic.Mod refl, g)
        leads _ e = absurd (true≢false (sym e))
    step _ p x y e h g = absurd (true≢false (sym e))

abbrev link_operators : Tok × TermForm → ℕ
link_operators link = suc (operators link.1)

grouped-count : (x : TermForm) (links : List (Tok × TermForm)) → operators (grouped computed_by x links) ≡ operators x + total link_operators links
grouped-count x [] = omega arith
grouped-count x (link ∷ links) = let h = grouped-count (computed_by x link.0 link.1) links in omega arith

module _ (d : ℕ) (test : Kind → Bool) (own side : Level) (chain : IsChain d test own side) (Item : Reads TermForm) (item : EachReadingIs Item (λ x. At d x side false) operators) where
  abbrev IsLink : Tok × TermForm → Type 0
  IsLink link = (test link.0.kind ≡ true) × At d link.1 side false

  link-said : EachReadingIs (Link test Item) IsLink link_operators
  link-said s z link lex (t, m, r, (y, o, q, e)) =
      let h = operator_of-said test s m t lex r in let g = item m o y h.rest q in
      let a = h.count in let b = g.count in
      finish IsLink link_operators (t, y) link s o z e.0 e.1 (record { says = (r.1, g.says); rest = g.rest; count = omega arith })

  grouped-each : (x : TermForm) (links : List (Tok × TermForm)) → At d x own false → Leads d test x → Each IsLink links → At d (grouped computed_by x links) own false
  grouped-each x [] h leads each = h
  grouped-each x (link ∷ links) h leads each =
      let next = chain.step link.0.kind link.0.place x link.1 each.0.0 leads each.0.1 in
      grouped-each (computed_by x link.0 link.1) links next.0 next.1 each.1

  grouped-said : (x : TermForm) (links : List (Tok × TermForm)) → Leads d test x → EachOf IsLink links → At d (grouped computed_by x links) own false
  grouped-said x [] leads each = absurd each
  grouped-said x (link ∷ links) leads each =
      let next = chain.step link.0.kind link.0.place x link.1 each.0.0 leads each.0.1 in
      grouped-each (computed_by x link.0 link.1) links next.0 next.1 each.1

  pub linked-said : (s m z : State) (x y : TermForm) → Said (At d x side false) (operators x) s m → Linked test computed_by Item x m y z → Said (At d y own false) (operators y) s z
  linked-said s m z x y h (links, o, q, e) =
      let g = listed-said (Link test Item) (Is {X = Unit {0}} tt) IsLink link_operators link-said nothing-said m o links h.rest q in
      let a = h.count in let b = g.count in let c = grouped-count x links in
      finish (λ y. At d y own false) operators (grouped computed_by x links) y s o z e.0 e.1
      (record { says = grouped-said x links (chain.begins x h.says) g.says; rest = g.rest; count = omega arith })

product-said : (d : ℕ) (Unary : Reads TermForm) → EachReadingIs Unary (λ x. At d x level.Unary false) operators → EachReadingIs (Product Unary) (λ x. At d x level.Product false) operators
product-said d Unary unary s z x lex (inl r) =
    let h = unary s z x lex r in record { says = term-looser x level.Unary level.Product false d refl h.says; rest = h.rest; count = h.count }
product-said d Unary unary s z x lex (inr (y, m, r, inl q)) =
    linked-said d is_times level.Product level.Unary (times-chain d) Unary unary s m z y x (unary s m y lex r) q
product-said d Unary unary s z x lex (inr (y, m, r, inr q)) =
    linked-said d is_division level.Product level.Unary (division-chain d) Unary unary s m z y x (unary s m y lex r) q

sum-said : (d : ℕ) (Unary : Reads TermForm) → EachReadingIs Unary (λ x. At d x level.Unary false) operators → EachReadingIs (Sum Unary) (λ x. At d x level.Sum false) operators
sum-said d Unary unary s z x lex (inl r) =
    let h = product-said d Unary unary s z x lex r in record { says = term-looser x level.Product level.Sum false d refl h.says; rest = h.rest; count = h.count }
sum-said d Unary unary s z x lex (inr (y, m, r, q)) =
    linked-said d is_additive level.Sum level.Product (additive-chain d) (Product Unary) (product-said d Unary unary) s m z y x (product-said d Unary unary s m y lex r) q

-- ---- comparisons

module _ (d : ℕ) (test : Kind → Bool) (own side : Level) (looser : fits side own ≡ true)
    (compares : (kind : Kind) (p : Place) (x y : TermForm) → test kind ≡ true → At d x side false → At d y side false → At d (TermForm.compared (comparison_of kind) p x y) own false)
    (Item : Reads TermForm) (item : EachReadingIs Item (λ x. At d x side false) operators) where
  pub comparison-said : EachReadingIs (Comparison test compared_by Item) (λ x. At d x own false) operators
  comparison-said s z x lex (inl r) =
      let h = item s z x lex r in record { says = term-looser x side own false d looser h.says; rest = h.rest; count = h.count }
  comparison-said s z x lex (inr (y, m, r, (t, o, c, (w, u, q, e)))) =
      let h = item s m y lex r in let g = operator_of-said test m o t h.rest c in let f = item o u w g.rest q in
      let a = h.count in let b = g.count in let i = f.count in
      finish (λ x. At d x own false) operators (compared_by y t w) x s u z e.0 e.1
      (record { says = compares t.kind t.place y w c.1 h.says f.says; rest = f.rest; count = omega arith })

orders : (d : ℕ) (kind : Kind) (p : Place) (x y : TermForm) → is_order kind ≡ true → At d x level.Sum false → At d y level.Sum false
    → At d (TermForm.compared (comparison_of kind) p x y) level.Order false
orders d k.Less p x y e h g = (h, g)
orders d k.LessOrEqual p x y e h g = (h, g)
orders d k.Greater p x y e h g = (h, g)
orders d k.GreaterOrEqual p x y e h g = (h, g)
orders d _ p x y e h g = absurd (true≢false (sym e))

equates : (d : ℕ) (kind : Kind) (p : Place) (x y : TermForm) → is_equality kind ≡ true → At d x level.Order false → At d y level.Order false
    → At d (TermForm.compared (comparison_of kind) p x y) level.Equality false
equates d k.Equal p x y e h g = (h, g)
equates d k.NotEqual p x y e h g = (h, g)
equates d _ p x y e h g = absurd (true≢false (sym e))

equated-said : (d : ℕ) (Unary : Reads TermForm) → EachReadingIs Unary (λ x. At d x level.Unary false) operators → EachReadingIs (Equated Unary) (λ x. At d x level.Equality false) operators
equated-said d Unary unary =
    comparison-said d is_equality level.Equality level.Order refl (equates d) (Ordered Unary)
    (comparison-said d is_order level.Order level.Sum refl (orders d) (Sum Unary) (sum-said d Unary unary))

-- ---- whole terms

-- a quantifier over a body; no token of a text counts
bound-said : (Body : Reads TermForm) (P Q : TermForm → Type 0) → EachReadingIs Body P operators
    → ((q : Quantifier) (p : Place) (vars : List VariableForm) (x : TermForm) → AreVariables vars → P x → Q (TermForm.quantified q p vars x)) → EachReadingIs (Bound Body) Q operators
bound-said Body P Q body made = first-said (BoundBy Body) Q operators by
  where
    by : (kind : Kind) → EachReadingIs (BoundBy Body kind) Q operators
    by k.Count s z x lex (t, m, r, b) = absurd ((one-said k.Count s m t lex r).says.plain r.1)
    by k.Forall s z x lex h = quantified-by-said TermForm.quantified Body P Q operators body made (λ q p vars x. refl) k.Forall s z x lex h
    by k.Exists s z x lex h = quantified-by-said TermForm.quantified Body P Q operators body made (λ q p vars x. refl) k.Exists s z x lex h
    by _ s z x lex h = absurd h

connections-said : (d : ℕ) (Unary Body : Reads TermForm) → EachReadingIs Unary (λ x. At d x level.Unary false) operators
    → EachReadingIs (Bound Body) (λ x. At d x level.Equality true) operators
    → EachReadingIs (Connections Unary Body) (λ x. IsSayable x true d) operators
connections-said d Unary Body unary quantifier s z x lex r =
    let h = connected-said TermForm.connected (Equated Unary) (Bound Body) (At d) operators level.Equality
    (equated-said d Unary unary) quantifier (λ x l h. term-freer x l true d h) (λ x l m ends e h. term-looser x l m ends d e h) refl
    (λ p x y ends h g. (h, g)) (λ p x y ends h g. (h, g)) (λ p x y ends h g. (h, g)) (λ c p x y. refl) s z x lex r in
    record { says = subst (λ (b : Bool). IsPut b (IsSayable x) true d) (needs_no_brackets-whole x) h.says; rest = h.rest; count = h.count }

mutual
  pub unary-said : (d : ℕ) → EachReadingIs (IsUnary d) (λ x. At d x level.Unary false) operators
  unary-said zero = first-said (Begun Nothing Nothing) (λ x. At zero x level.Unary false) operators begun-none
  unary-said (suc d) =
      first-said (Begun (IsUnary d) (IsTerm d)) (λ x. At (suc d) x level.Unary false) operators (begun-said d (IsUnary d) (IsTerm d) (unary-said d) (term-said d))

  -- a term that is read can be said within as many levels
  pub term-said : (d : ℕ) → EachReadingIs (IsTerm d) (λ x. IsSayable x true d) operators
  term-said zero = connections-said zero (First (Begun Nothing Nothing)) Nothing (first-said (Begun Nothing Nothing) (λ x. At zero x level.Unary false) operators begun-none)
      (bound-said Nothing (λ x. ⊥) (λ x. At zero x level.Equality true) (λ s z x lex h. absurd h) (λ q p vars x h g. absurd g))
  term-said (suc d) = connections-said (suc d) (First (Begun (IsUnary d) (IsTerm d))) (IsTerm d)
      (first-said (Begun (IsUnary d) (IsTerm d)) (λ x. At (suc d) x level.Unary false) operators (begun-said d (IsUnary d) (IsTerm d) (unary-said d) (term-said d)))
      (bound-said (IsTerm d) (λ x. IsSayable x true d) (λ x. At (suc d) x level.Equality true) (term-said d) (λ q p vars x h g. (h, g)))
