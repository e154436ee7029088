-- A text that is read can be said within the same levels and operators.
use Rattle.std.proofs.Common.{◌≡◌, ◌≤◌, ℕ, zero, suc, true, List, [], ◌∷◌, ◌++◌, refl, sym, ap, subst, arith, inl, inr, Some, None}
use Rattle.pb_fixpoint.specs.declared.Sign.TheVariants as sign
use Rattle.pb_text_tree.specs.Form.{VariableForm, struct, alias, SortDeclarationForm, RangeForm, SpecForm}
use Rattle.pb_text_lexer.specs.declared.kind.Kind.{Kind}
use Rattle.pb_text_lexer.specs.declared.kind.Kind.TheVariants as k
use Rattle.pb_text_lexer.specs.Tokens.{Tok}
use Rattle.pb_text_lexer.specs.Grammar.{State, Reads, Is, One, Series, last, more, CountedApart}
use Rattle.pb_text_lexer.specs.LeftGrammar.{Extended, Listed}
use Rattle.pb_text_lexer.proofs.Correct.{st}
use Rattle.pb_text_terms.specs.Grammar.{IsTerm}
use Rattle.pb_text_formulas.specs.Grammar.{Enumerator, SortBy, SortDecl, SortPart, SortParts, IsFormula}
use Rattle.pb_text.specs.Grammar.{SignOf, Declared, IsEquation, IsInitialInstance, IsSpec, IsText}
use Rattle.pb_text_printer.specs.Sayable.{Each, EachOf, IsName, AreVariables, list_operators, formula_operators, InstanceSayable, FormulaSayable, EnumeratorSayable, SortSayable, DeclarationSayable, ParametersSayable, EquationSayable, TextSayable}
use Rattle.pb_text_printer.proofs.SaidLemmas.{Said, EachReadingIs, AreLexical, one-said, finish, first-said, each-of, total-none, listed-said, nothing-said, name-said, variables-said}
use Rattle.pb_text_printer.proofs.SaidTerm.{instance-said, alone-said, term-said}
use Rattle.pb_text_printer.proofs.SaidFormula.{formula-said}

-- ---- sorts

bar-said : EachReadingIs (One k.Bar) (λ t. Unit {0}) (λ t. 0)
bar-said s z t lex h = let found = one-said k.Bar s z t lex h in record { says = tt; rest = found.rest; count = found.count }

enumerator-said : EachReadingIs Enumerator EnumeratorSayable (λ e. 0)
enumerator-said s z e lex (inl (n, m, r, i)) =
    let h = name-said s m n lex r in
    finish EnumeratorSayable (λ e. 0) (record { name = n; recogniser = None }) e s m z i.0 i.1 (record { says = (h.says, tt); rest = h.rest; count = h.count })
enumerator-said s z e lex (inr (plain, m, (n, o, r, i), (t, u, q, (f, w, g, j)))) =
    let h = name-said s o n lex r in
    let start = finish (λ e. IsName e.name) (λ e. 0) (record { name = n; recogniser = None }) plain s o m i.0 i.1 (record { says = h.says; rest = h.rest; count = h.count }) in
    let a = one-said k.Question m u t start.rest q in
    let b = name-said u w f a.rest g in
    let c = start.count in let d = a.count in let l = b.count in
    finish EnumeratorSayable (λ e. 0) (record { name = plain.name; recogniser = Some f }) e s w z j.0 j.1 (record { says = (start.says, b.says); rest = b.rest; count = omega arith })

sort-by-said : (kind : Kind) → EachReadingIs (SortBy kind) SortSayable (λ x. 0)
sort-by-said k.Struct s z x lex (t, m, r, (es, o, q, (u, w, c, e))) =
    let h = one-said k.Struct s m t lex r in
    let g = listed-said Enumerator (One k.Bar) EnumeratorSayable (λ e. 0) enumerator-said bar-said m o es h.rest q in
    let f = one-said k.Semicolon o w u g.rest c in
    let a = h.count in let b = g.count in let d = f.count in let none = total-none es in
    finish SortSayable (λ x. 0) (struct es) x s w z e.0 e.1 (record { says = g.says; rest = f.rest; count = omega arith })
sort-by-said k.Name s z x lex (n, m, r, (u, w, c, e)) =
    let h = name-said s m n lex r in
    let f = one-said k.Semicolon m w u h.rest c in
    let a = h.count in let d = f.count in
    finish SortSayable (λ x. 0) (alias n) x s w z e.0 e.1 (record { says = h.says; rest = f.rest; count = omega arith })
sort-by-said _ s z x lex h = absurd h

declaration-said : EachReadingIs SortDecl DeclarationSayable (λ x. 0)
declaration-said s z x lex (n, m, r, (t, o, q, (y, w, g, e))) =
    let h = name-said s m n lex r in
    let i = one-said k.Is m o t h.rest q in
    let f = first-said SortBy SortSayable (λ x. 0) sort-by-said o w y i.rest g in
    let a = h.count in let b = i.count in let d = f.count in
    finish DeclarationSayable (λ x. 0) (record { name = n; sort = y }) x s w z e.0 e.1 (record { says = (h.says, f.says); rest = f.rest; count = omega arith })

part-said : EachReadingIs SortPart (Each DeclarationSayable) (λ x. 0)
part-said s z x lex (t, m, r, (ds, o, q, e)) =
    let h = one-said k.Sort s m t lex r in
    let g = listed-said SortDecl (Is {X = Unit {0}} tt) DeclarationSayable (λ d. 0) declaration-said nothing-said m o ds h.rest q in
    let a = h.count in let b = g.count in let none = total-none ds in
    finish (Each DeclarationSayable) (λ x. 0) ds x s o z e.0 e.1 (record { says = each-of DeclarationSayable ds g.says; rest = g.rest; count = omega arith })

each-both : (xs ys : List SortDeclarationForm) → Each DeclarationSayable xs → Each DeclarationSayable ys → Each DeclarationSayable (xs ++ ys)
each-both [] ys h g = g
each-both (x ∷ xs) ys h g = (h.0, each-both xs ys h.1 g)

some-parts-said : EachReadingIs (Series SortPart (Is {X = Unit {0}} tt) (λ sorts. sorts) (λ sorts u rest. sorts ++ rest)) (Each DeclarationSayable) (λ x. 0)
some-parts-said s z x lex (last {x = ds} r) = part-said s z ds lex r
some-parts-said s z x lex (more {m = m} {o = o} {x = ds} {t = t} {y = es} r b rest) =
    let h = part-said s m ds lex r in
    let g = nothing-said m o t h.rest b in
    let f = some-parts-said o z es g.rest rest in
    let a = h.count in let c = g.count in let d = f.count in
    record { says = each-both ds es h.says f.says; rest = f.rest; count = omega arith }

parts-said : EachReadingIs SortParts (Each DeclarationSayable) (λ x. 0)
parts-said s z x lex (inl e) = finish (Each DeclarationSayable) (λ x. 0) [] x s s z e.0 e.1 (record { says = tt; rest = lex; count = omega arith })
parts-said s z x lex (inr (none, m, e, r)) =
    some-parts-said s z x lex (subst (λ (v : State). Series SortPart (Is {X = Unit {0}} tt) (λ sorts. sorts) (λ sorts u rest. sorts ++ rest) v x z) e.1 r)

-- ---- equations, with the operators that each may have

-- the same where so many operators are left
abbrev EachReadingIsAt : {X : Type 0} → ℕ → Reads X → (X → Type 0) → Type 0
EachReadingIsAt {X} limit R P = (s z : State) (x : X) → s.operators ≡ limit → AreLexical s.tokens → R s x z → Said (P x) 0 s z

listed-at : {X : Type 0} (limit : ℕ) (Item : Reads X) (P : X → Type 0) → EachReadingIsAt limit Item P → EachReadingIsAt limit (Listed Item (Is {X = Unit {0}} tt)) (EachOf P)
listed-at limit Item P item s z xs n lex (last {x = x} r) = let h = item s z x n lex r in record { says = (h.says, tt); rest = h.rest; count = h.count }
listed-at limit Item P item s z xs n lex (more {m = m} {o = o} {x = x} {t = t} {y = ys} r b rest) =
    let h = item s m x n lex r in
    let g = nothing-said m o t h.rest b in
    let c = h.count in let d = g.count in
    let left : o.operators ≡ limit = omega arith in
    let f = listed-at limit Item P item o z ys left g.rest rest in
    let a = f.count in
    record { says = (h.says, each-of P ys f.says); rest = f.rest; count = omega arith }

sign-said : (kind : Kind) → EachReadingIs (SignOf kind) (λ x. Unit {0}) (λ x. 0)
sign-said k.Mu s z x lex (t, m, r, e) =
    let h = one-said k.Mu s m t lex r in finish (λ x. Unit {0}) (λ x. 0) sign.Mu x s m z e.0 e.1 (record { says = tt; rest = h.rest; count = h.count })
sign-said k.Nu s z x lex (t, m, r, e) =
    let h = one-said k.Nu s m t lex r in finish (λ x. Unit {0}) (λ x. 0) sign.Nu x s m z e.0 e.1 (record { says = tt; rest = h.rest; count = h.count })
sign-said _ s z x lex h = absurd h

some-parameters : (vs : List VariableForm) (d : ℕ) → AreVariables vs → ParametersSayable vs (suc d)
some-parameters [] d h = tt
some-parameters (v ∷ vs) d h = h

parameters-said : (depth : ℕ) → EachReadingIs (Extended (Is []) (λ none. Declared depth)) (λ vs. ParametersSayable vs depth) (λ vs. 0)
parameters-said depth s z vs lex (inl e) = finish (λ vs. ParametersSayable vs depth) (λ vs. 0) [] vs s s z e.0 e.1 (record { says = tt; rest = lex; count = omega arith })
parameters-said zero s z vs lex (inr (none, m, e, r)) = absurd r
parameters-said (suc d) s z vs lex (inr (none, m, i, (t, o, r, (ws, w, q, (u, n, c, e))))) =
    let start : AreLexical m.tokens = subst (λ (v : State). AreLexical v.tokens) (sym i.1) lex in
    let level : m.operators ≡ s.operators = ap (λ v. v.operators) i.1 in
    let h = one-said k.Open m o t start r in
    let g = variables-said o w ws h.rest q in
    let f = one-said k.Close w n u g.rest c in
    let a = h.count in let b = g.count in let l = f.count in
    finish (λ vs. ParametersSayable vs (suc d)) (λ vs. 0) ws vs s n z e.0 e.1 (record { says = some-parameters ws d g.says; rest = f.rest; count = omega arith })

own-said : {X : Type 0} (R : Reads X) (P : X → Type 0) (n : X → ℕ) → EachReadingIs R P n → (limit : ℕ) → EachReadingIsAt limit (CountedApart R) (λ x. P x × (n x ≤ limit))
own-said R P n item limit s z x l lex (m, r, e) =
    let h = item s (st z.tokens m) x lex r in
    let c = h.count in
    record { says = (h.says, (let q : n x ≤ limit = omega arith in q)); rest = h.rest; count = omega arith }

equation-said : (depth limit : ℕ) → EachReadingIsAt limit (IsEquation depth) (EquationSayable depth limit)
equation-said depth limit s z x l lex (sign, m, r, (n, o, q, (vs, w, p, (t, u, i, (right, v, f, (end, j, g, e)))))) =
    let a = first-said SignOf (λ x. Unit {0}) (λ x. 0) sign-said s m sign lex r in
    let b = name-said m o n a.rest q in
    let c = parameters-said depth o w vs b.rest p in
    let d = one-said k.Is w u t c.rest i in
    let a' = a.count in let b' = b.count in let c' = c.count in let d' = d.count in
    let left : u.operators ≡ limit = omega arith in
    let h = own-said (IsFormula depth) (λ x. FormulaSayable x true depth) formula_operators (formula-said depth) limit u v right left d.rest f in
    let y = one-said k.Semicolon v j end h.rest g in
    let h' = h.count in let y' = y.count in
    finish (EquationSayable depth limit) (λ x. 0) (record { sign = sign; name = n; parameters = vs; right = right }) x s j z e.0 e.1
    (record { says = (b.says, c.says, h.says.0, h.says.1); rest = y.rest; count = omega arith })

initial-said : (depth : ℕ) → EachReadingIs (IsInitialInstance depth) (λ i. InstanceSayable i depth) (λ i. list_operators i.arguments)
initial-said zero = alone-said
initial-said (suc d) = instance-said (IsTerm d) d (term-said d)

-- ---- whole texts

spec-said : (depth limit : ℕ) (ranges : List RangeForm) → EachReadingIsAt limit (IsSpec ranges depth) (TextSayable depth limit)
spec-said depth limit ranges s z x l lex (sorts, m, r, (t, o, q, (es, w, p, (u, n, i, (initial, v, f, (end, j, g, e)))))) =
    let a = parts-said s m sorts lex r in
    let b = one-said k.Pbes m o t a.rest q in
    let a' = a.count in let b' = b.count in
    let left : o.operators ≡ limit = omega arith in
    let c = listed-at limit (IsEquation depth) (EquationSayable depth limit) (equation-said depth limit) o w es left b.rest p in
    let d = one-said k.Init w n u c.rest i in
    let c' = c.count in let d' = d.count in
    let left' : n.operators ≡ limit = omega arith in
    let h = own-said (IsInitialInstance depth) (λ i. InstanceSayable i depth) (λ i. list_operators i.arguments) (initial-said depth) limit n v initial left' d.rest f in
    let y = one-said k.Semicolon v j end h.rest g in
    let h' = h.count in let y' = y.count in
    finish (TextSayable depth limit) (λ x. 0) (record { sorts = sorts; ranges = ranges; equations = es; initial = initial }) x s j z e.0 e.1
    (record { says = record { sorts = a.says; equations = c.says; initial = h.says.0; operators = h.says.1 }; rest = y.rest; count = omega arith })

-- what is read can be said
pub text-said : (depth limit : ℕ) (tokens : List Tok) (ranges : List RangeForm) (x : SpecForm) → AreLexical tokens → IsText depth limit tokens ranges x → TextSayable depth limit x
text-said depth limit tokens ranges x lex (m, end, r, e) = (spec-said depth limit ranges (st tokens limit) (st (end ∷ []) m) x refl lex r).says

-- its range lines are those of the bytes
pub text-ranges : (depth limit : ℕ) (tokens : List Tok) (ranges : List RangeForm) (x : SpecForm) → IsText depth limit tokens ranges x → x.ranges ≡ ranges
text-ranges depth limit tokens ranges x (m, end, (sorts, a, r, (t, o, q, (es, w, p, (u, n, i, (initial, v, f, (c, j, g, e)))))), k) = ap (λ y. y.ranges) e.0
