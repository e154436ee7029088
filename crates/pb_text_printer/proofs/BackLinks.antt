-- A chain to the left, and one operand more.
use Rattle.std.proofs.Common.{◌≡◌, Bool, List, [], ◌∷◌, ◌++◌, refl, sym, ap, ◌∙◌, subst, inl, inr}
use Rattle.pb_text_lexer.specs.declared.kind.Kind.{Kind}
use Rattle.pb_text_lexer.specs.Tokens.{Tok}
use Rattle.pb_text_lexer.specs.Grammar.{State, Reads, Is, last, more}
use Rattle.pb_text_lexer.specs.Grammar as grammar
use Rattle.pb_text_lexer.specs.LeftGrammar.{OperatorOf, Link, Links, Listed, Linked, LeftChain, grouped}

listed-more : {X : Type 0} (Item : Reads X) (s m z : State) (xs : List X) (x : X) → Listed Item (Is {X = Unit {0}} tt) s xs m → Item m x z → Listed Item (Is {X = Unit {0}} tt) s (xs ++ x ∷ []) z
listed-more Item s m z xs x (last r) h = more r (refl, refl) (last h)
listed-more Item s m z xs x (more r b rest) h = more r b (listed-more Item _ m z _ x rest h)

grouped-more : {X : Type 0} (join : X → Tok → X → X) (x : X) (links : List (Tok × X)) (t : Tok) (y : X) → grouped join x (links ++ (t, y) ∷ []) ≡ join (grouped join x links) t y
grouped-more join x [] t y = refl
grouped-more join x (link ∷ links) t y = grouped-more join (join x link.0 link.1) links t y

pub append-link : {X : Type 0} (test : Kind → Bool) (join : X → Tok → X → X) (Item : Reads X) (s m o z : State) (x y : X) (t : Tok)
    → LeftChain test join Item s x m → OperatorOf test m t o → Item o y z → grammar.◌>>=◌ Item (Linked test join Item) s (join x t y) z
append-link test join Item s m o z x y t (inl h) p g = (x, m, h, ((t, y) ∷ [], z, last (t, o, p, (y, z, g, (refl, refl))), (refl, refl)))
append-link test join Item s m o z x y t (inr (first, n, h, (links, u, q, (e, f)))) p g =
    let from : Links test Item n links m = subst (λ (v : State). Links test Item n links v) (sym f) q in (
      first,
      n,
      h,
      (
        links ++ (t, y) ∷ [],
        z,
        listed-more (Link test Item) n m z links (t, y) from (t, o, p, (y, z, g, (refl, refl))),
        (ap (λ v. join v t y) e ∙ sym (grouped-more join first links t y), refl),
      ),
    )
