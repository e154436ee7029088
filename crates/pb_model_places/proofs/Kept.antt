-- Models that keep the places of a protocol that was read, or whose steps are numbered.
use Rattle.std.proofs.Common.{◌≡◌, ℕ, zero, suc, ◌<◌, ◌≤◌, true, not, ◌==◌, refl, subst, inl, inr, arith}
use Rattle.std.specs.Prelude.{Contains}
use Rattle.std.proofs.lemmas.Bool.{and_parts}
use Rattle.std.proofs.lemmas.Bool.Decides.{Decides-eqb}
use Rattle.pb_text_tree.specs.declared.place.Place.{Place}
use Rattle.pb_typing_calls.specs.Calls.{same_place}
use Rattle.pb_model_runs.specs.Exact.{is_among, are_apart}
use Rattle.pb_model_runs.specs.Exact as model
use Rattle.pb_model_runs.proofs.Elements.{both-true, either_of, some_of, of-some}
use Rattle.pb_model_runs.proofs.ExactLemmas.{tells-just-the-step}
use Rattle.pb_model_places.specs.Apart.{property_places, lines_from, KeptPlacesStandApart, NumberedStepsStandApart, PlacesTellSteps}
use Rattle.pb_model_places.proofs.Tokens.{false-of}
use Rattle.pb_model_places.proofs.Models.{all-of, read-places-have-columns}

pub kept-places-stand-apart : KeptPlacesStandApart
kept-places-stand-apart m f n g apart steps goes = rw (steps, goes) apart

-- a numbered place stands at column 0, from the line on
numbered : (line n : ℕ) (q : Place) → Contains (lines_from line n) q → (line ≤ q.line) × (q.column ≡ 0)
numbered line zero q h = absurd (omega (arith, h.1))
numbered line (suc n) q h = elim (either_of (record { line = line; column = 0 }) (lines_from (suc line) n) q h) [
  | inl same ↦ subst (λ (v : Place). (line ≤ v.line) × (v.column ≡ 0)) same (omega arith, refl)
  | inr later ↦ let r = numbered (suc line) n q later in (let low = r.0 in omega (arith, low), r.1)
]

lines-apart : (line n : ℕ) → are_apart (lines_from line n) ≡ true
lines-apart line zero = refl
lines-apart line (suc n) =
    let here : Place = record { line = line; column = 0 } in
    both-true (not (is_among (lines_from (suc line) n) here)) (are_apart (lines_from (suc line) n))
    (false-of (is_among (lines_from (suc line) n) here) (λ found.
    let q = some_of (λ q. same_place q here) (lines_from (suc line) n) found in
    let low = (numbered (suc line) n q.0 q.1).0 in
    let same = (Decides-eqb q.0.line line).0 (and_parts (q.0.line == line) (q.0.column == 0) q.2).0 in omega (arith, low, same)))
    (lines-apart (suc line) n)

-- a place at another column is none of them
none-numbered : (line n : ℕ) (p : Place) → 0 < p.column → not (is_among (lines_from line n) p) ≡ true
none-numbered line n p some =
    false-of (is_among (lines_from line n) p) (λ found.
    let q = some_of (λ q. same_place q p) (lines_from line n) found in
    let first = (numbered line n q.0 q.1).1 in
    let same = (Decides-eqb q.0.column p.column).0 (and_parts (q.0.line == p.line) (q.0.column == p.column) q.2).1 in omega (arith, first, same, some))

pub numbered-steps-stand-apart : NumberedStepsStandApart
numbered-steps-stand-apart bytes t p n g line count reading among steps goes =
    rw steps (both-true (are_apart (lines_from line count)) _ (lines-apart line count)
    (all-of (λ q. not (is_among (lines_from line count) q)) (model.formula_places g) (λ q here.
    none-numbered line count q (read-places-have-columns bytes t q reading
    (inr (of-some property_places t.protocol.properties p q among (goes q here)))))))

pub places-tell-steps : PlacesTellSteps
places-tell-steps m p i c apart names within made = tells-just-the-step m p.name.place p.formula i c names apart within made
