-- Where no call of a typed formula stands at a place, it makes none there.
use Rattle.std.proofs.Common.{◌≡◌, zero, suc, ℕ, Bool, false, not, ◌&&◌, List, [], ◌∷◌, take, drop}
use Rattle.std.proofs.Common.{refl, ap}
use Rattle.std.specs.List.{list_any}
use Rattle.std.proofs.lemmas.Bool.{and_right, or_from, or_parts}
use Rattle.pb_text_tree.specs.declared.place.Place.{Place}
use Rattle.pb_text_tree.specs.declared.operator.Quantifier.TheVariants.{Exists}
use Rattle.pb_base_values.specs.Carrier.{Value}
use Rattle.pb_sorts.specs.Instance.{Instance}
use Rattle.pb_text_meaning.specs.Syntax.{Spec}
use Rattle.pb_text_meaning.specs.Value.{of_values}
use Rattle.pb_typing_declarations.specs.Shapes.{shape_carrier}
use Rattle.pb_typing_tree.specs.Calls.{calls}
use Rattle.pb_typing_tree.specs.Meaning.{Slots, set}
use Rattle.pb_typing_tree.specs.Tree.{Formula, Test, Negation, Connected, Quantified, Call}
use Rattle.pb_typing_calls.specs.Calls.{same_place}
use Rattle.pb_typing_calls.specs.Made.{is_deciding, made, names_instance}
use Rattle.pb_typing_calls.specs.declared.side.Side.TheVariants.{Left, Right}

-- whether one of some places is this one
abbrev pub any_at : Place → List Place → Bool
any_at place ps = list_any (λ (p : Place). same_place p place) ps

none-taken : (place : Place) (k : ℕ) (ps : List Place) → any_at place ps ≡ false → any_at place
    (take k ps) ≡ false
none-taken place zero ps e = refl
none-taken place (suc k) [] e = refl
none-taken place (suc k) (p ∷ ps) e =
    let parts = or_parts (same_place p place) (any_at place ps) e in
    or_from (same_place p place) (any_at place (take k ps)) parts.0 (none-taken place k ps parts.1)

none-left : (place : Place) (k : ℕ) (ps : List Place) → any_at place ps ≡ false → any_at place
    (drop k ps) ≡ false
none-left place zero ps e = e
none-left place (suc k) [] e = refl
none-left place (suc k) (p ∷ ps) e = none-left place k ps ((or_parts (same_place p place)
    (any_at place ps) e).1)

for_no_value : (p : Value → Bool) → ((v : Value) → p v ≡ false) → (vs : List Value)
    → of_values Exists p vs ≡ false
for_no_value p h [] = refl
for_no_value p h (v ∷ vs) = or_from (p v) (of_values Exists p vs) (h v) (for_no_value p h vs)

pub nothing_made : (spec : Spec) (i : Instance) (place : Place) (a : Slots) (f : Formula)
    (ps : List Place) → any_at place ps ≡ false → made spec i place a f ps ≡ false
nothing_made spec i place a (Test x) ps e = refl
nothing_made spec i place a (Negation f) ps e = nothing_made spec i place a f ps e
nothing_made spec i place a (Connected c f g) ps e =
    or_from _ _
    (and_right (not (is_deciding spec a c Right g)) _ (nothing_made spec i place a f
    (take (calls f) ps) (none-taken place (calls f) ps e)))
    (and_right (not (is_deciding spec a c Left f)) _ (nothing_made spec i place a g
    (drop (calls f) ps) (none-left place (calls f) ps e)))
nothing_made spec i place a (Quantified q s shape f) ps e =
    for_no_value (λ v. made spec i place (set a s v) f ps) (λ v. nothing_made spec i place
    (set a s v) f ps e) (shape_carrier shape)
nothing_made spec i place a (Call X es) [] e = refl
nothing_made spec i place a (Call X es) (p ∷ ps) e =
    ap (λ (b : Bool). b && names_instance a X es i) ((or_parts (same_place p place)
    (any_at place ps) e).0)
