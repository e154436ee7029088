-- Slots that hold a tuple of a quantifier's carriers.
use Rattle.std.proofs.Common.{◌≡◌, ℕ, Some, ◌+◌, ◌-◌, ◌≤◌, ◌==◌, false, List, [], ◌∷◌}
use Rattle.std.proofs.Common.{◌++◌, length, map, take, drop, refl, sym, ◌∙◌, ap, subst, arith, pos}
use Rattle.std.proofs.lemmas.Bool.{eqb-false}
use Rattle.std.proofs.lemmas.List.{length-drop, length-map, length-take-le}
use borrow.Rule.Slice.PartMut.{put_mid}
use Rattle.std.specs.List.{slice_get}
use Rattle.pb_base_values.specs.Carrier.{Tuple, Value}
use Rattle.pb_sorts.specs.Carrier.{values_of}
use Rattle.pb_sorts.proofs.TuplePlaces.{is_within-slice_get}
use Rattle.pb_text_tree.specs.declared.operator.Quantifier.TheVariants.{Exists}
use Rattle.pb_typing_tree.specs.Fits.{FormulaFits}
use Rattle.pb_typing_tree.specs.Meaning.{Slots}
use Rattle.pb_typing_tree.specs.Tree.{Formula}
use Rattle.pb_typing_tree.specs.View.{nested}
use Rattle.pb_typing_values.specs.Slots.{slots_of}
use Rattle.pb_typing_values.proofs.Nested.{fits-placed, room}
use Rattle.pb_typing_values.proofs.Slots.{length-put, placed, put-clear, put-put, put-slots, read-put}
use Rattle.pb_typing_values.proofs.Turns.{within-count}
use Rattle.pb_typing_calls.specs.Loops.{Holds, holding, tuples_of}
use Rattle.pb_typing_calls.specs.declared.loops.Loops.{Loops}

-- what a write to the part of the quantifier's slots gives
pub written : (l : Loops) (slots vs : Tuple) (n : ℕ) → n ≡ length vs
    → put_mid l.slot n slots vs ≡ holding l slots vs
written l slots vs n count =
    ap (λ (k : ℕ). take l.slot slots ++ (vs ++ drop k (drop l.slot slots))) count

pub part-length : (slots : Tuple) (s n k : ℕ) → s + n ≤ length slots → k ≡ s + n - s
    → length (take k (drop s slots)) ≡ n
part-length slots s n k room is =
    let long = length-drop s slots in
    let some : k ≤ length (drop s slots) = omega (arith, long, room, is) in
    length-take-le k (drop s slots) some ∙ omega (arith, is)

pub tuple-length : (l : Loops) (k : ℕ) (vs : Tuple) → slice_get (tuples_of l) k ≡ Some vs
    → length vs ≡ length l.carriers.now
tuple-length l k vs at =
    within-count l.carriers.now vs (is_within-slice_get (map values_of l.carriers.now) k vs at)

-- the tuple that the slots hold, as their part
pub held : {l : Loops} {outer slots : Tuple} {k : ℕ} → Holds l outer k slots → (n : ℕ)
    → n ≡ length l.carriers.now → slice_get (tuples_of l) k ≡ Some (take n (drop l.slot slots))
held {l} {outer} {slots} {k} h n count =
    let read =
    ap (λ (m : ℕ). take m (drop l.slot slots)) (count ∙ sym (tuple-length l k h.tuple h.at))
    ∙ (ap (λ (xs : Tuple). take (length h.tuple) (drop l.slot xs)) h.is
    ∙ read-put outer l.slot h.tuple (omega (arith, h.room))) in
    h.at ∙ ap Some (sym read)

-- the slots, as the values of all slots
pub same-slots : (l : Loops) (outer slots : Tuple) (k : ℕ) (h : Holds l outer k slots)
    → slots_of slots ≡ placed (slots_of outer) l.slot h.tuple
same-slots l outer slots k h = ap slots_of h.is ∙ put-slots outer l.slot h.tuple h.room

pub same-length : (l : Loops) (outer slots : Tuple) (k : ℕ) → Holds l outer k slots
    → length slots ≡ length outer
same-length l outer slots k h =
    ap (λ (xs : Tuple). length xs) h.is ∙ length-put outer l.slot h.tuple h.room

-- another tuple in its place
pub replaced : (l : Loops) (outer slots vs : Tuple) (k : ℕ) (h : Holds l outer k slots)
    → length h.tuple ≡ length vs → holding l slots vs ≡ holding l outer vs
replaced l outer slots vs k h same =
    ap (λ (xs : Tuple). holding l xs vs) h.is
    ∙ put-put outer l.slot h.tuple vs (omega (arith, h.room)) same

-- lists of one length have as many zeros
pub same-zeros : {X Y Z : Type 0} (z : Z) (xs : List X) (ys : List Y) → length xs ≡ length ys
    → map (λ x. z) xs ≡ map (λ y. z) ys
same-zeros z [] [] same = refl
same-zeros z [] (y ∷ ys) same = absurd (omega (arith, same))
same-zeros z (x ∷ xs) [] same = absurd (omega (arith, same))
same-zeros z (x ∷ xs) (y ∷ ys) same = ap (λ zs. z ∷ zs) (same-zeros z xs ys (omega (arith, same)))

-- ---- a quantifier's body over such slots

-- there is room for the slots of a quantifier that has some
pub some-room : (m : ℕ) (f : Formula) (l : Loops) (slots : Tuple)
    → FormulaFits m (length slots) (slots_of slots) (nested Exists l.slot l.carriers.now f)
    → false ≡ (length l.carriers.now == 0) → l.slot + length l.carriers.now ≤ length slots
some-room m f l slots fits some =
    let has = room m (length slots) Exists f l.carriers.now l.slot (slots_of slots) fits in
    has.within (omega (arith, eqb-false (length l.carriers.now) 0 (sym some)))

pub tuple-room : {l : Loops} {outer slots : Tuple} {k : ℕ} → Holds l outer k slots
    → l.slot + length l.carriers.now ≤ length slots
tuple-room {l} {outer} {slots} {k} h =
    omega (arith, same-length l outer slots k h, tuple-length l k h.tuple h.at, h.room)

-- the body fits them
pub tuple-fits : (m : ℕ) (f : Formula) {l : Loops} {outer slots : Tuple} {k : ℕ}
    → FormulaFits m (length outer) (slots_of outer) (nested Exists l.slot l.carriers.now f)
    → Holds l outer k slots → FormulaFits m (length slots) (slots_of slots) f
tuple-fits m f {l} {outer} {slots} {k} fits h =
    let at = placed (slots_of outer) l.slot h.tuple in
    let within = is_within-slice_get (map values_of l.carriers.now) k h.tuple h.at in
    let here = fits-placed m (length outer) Exists f l.carriers.now l.slot (slots_of outer) h.tuple fits within in
    subst (λ (a : Slots). FormulaFits m (length slots) a f) (sym (same-slots l outer slots k h))
    (subst (λ (n : ℕ). FormulaFits m n at f) (sym (same-length l outer slots k h)) here)

-- zeros in the place of the tuple, or of one behind it, are what was there
pub outer-again : (m : ℕ) (f : Formula) {l : Loops} {outer slots : Tuple} {k : ℕ}
    → FormulaFits m (length outer) (slots_of outer) (nested Exists l.slot l.carriers.now f)
    → Holds l outer k slots → (behind cleared : Tuple)
    → ((vs : Tuple) → length vs ≡ length l.carriers.now → holding l behind vs ≡ holding l slots vs)
    → ((vs : Tuple) → length vs ≡ length l.carriers.now → cleared ≡ holding l behind (map (λ v. pos 0) vs))
    → cleared ≡ outer
outer-again m f {l} {outer} {slots} {k} fits h behind cleared same clear =
    let vs = h.tuple in
    let zeros = map (λ (v : Value). pos 0) vs in
    let many = length-map vs (λ (v : Value). pos 0) in
    let count = tuple-length l k vs h.at in
    let has = room m (length outer) Exists f l.carriers.now l.slot (slots_of outer) fits in
    clear vs count ∙ (same zeros (many ∙ count) ∙ (replaced l outer slots zeros k h (sym many)
    ∙ put-clear outer l.slot vs h.room (λ i lt. has.clear i (omega (arith, lt, count)))))
