-- When two places are the same.
use Rattle.std.proofs.Common.{◌≡◌, true, ◌==◌, sym, ap, ◌∙◌}
use Rattle.std.proofs.lemmas.Bool.{and_parts}
use Rattle.std.proofs.lemmas.Bool.Decides.{Decides-eqb}
use Rattle.pb_text_tree.specs.declared.place.Place.{Place}
use Rattle.pb_typing_calls.specs.Calls.{same_place}
use Rattle.pb_model_runs.proofs.Elements.{both-true}

pub same-self : (p q : Place) → p ≡ q → same_place p q ≡ true
same-self p q e =
    both-true (p.line == q.line) (p.column == q.column)
    ((Decides-eqb p.line q.line).1 (ap (λ (r : Place). r.line) e)) ((Decides-eqb p.column q.column).1 (ap (λ (r : Place). r.column) e))

-- two places that are a third one are the same
pub same-both : (x y p : Place) → same_place x p ≡ true → same_place y p ≡ true → same_place x y ≡ true
same-both x y p here there =
    let a = and_parts (x.line == p.line) (x.column == p.column) here in
    let b = and_parts (y.line == p.line) (y.column == p.column) there in
    both-true (x.line == y.line) (x.column == y.column)
    ((Decides-eqb x.line y.line).1 ((Decides-eqb x.line p.line).0 a.0 ∙ sym ((Decides-eqb y.line p.line).0 b.0)))
    ((Decides-eqb x.column y.column).1 ((Decides-eqb x.column p.column).0 a.1 ∙ sym ((Decides-eqb y.column p.column).0 b.1)))
