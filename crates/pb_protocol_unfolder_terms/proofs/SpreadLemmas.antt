-- Assignments with all values of their variables: their copies, and how many there are.
use Rattle.std.proofs.Common.{◌≡◌, ◌∙◌, ◌<◌, ◌+◌, ℕ, zero, suc, List, [], ◌∷◌, ◌++◌, map, drop, take, length, get_or, refl, sym, ap, subst, arith, Option, Some, None}
use Rattle.std.specs.Prelude.{flat_map}
use Rattle.std.specs.List.{slice_get}
use Rattle.std.proofs.lemmas.List.{append-nil, length-append, length-map, take-map}
use Rattle.pb_base.specs.OrMemory.{IfFault}
use Rattle.pb_base.specs.declared.limits.TheConstants.{MAX_OPERATORS}
use Rattle.pb_base.specs.declared.or_memory.OrMemory.{OrMemory}
use Rattle.pb_base.specs.declared.or_memory.OrMemory.TheVariants.{Refused, Memory}
use Rattle.pb_text_tree.specs.declared.place.Place.{Place}
use Rattle.pb_text_tree.specs.Form.{variable_forms}
use Rattle.pb_text_meaning.specs.Erase.{erased_variables}
use Rattle.pb_text_meaning.specs.Syntax.{Spec, Term, Variable}
use Rattle.pb_protocol_tree.specs.declared.step.Copies.{Copies}
use Rattle.pb_protocol_tree.specs.declared.step.Assignment.{Assignment}
use Rattle.pb_protocol_tree.specs.Form.{AssignmentForm, assignment_form, copied_variables, copies_said}
use Rattle.pb_protocol_unfolding.specs.PutIn.{TermScope}
use Rattle.pb_protocol_unfolding.specs.Written.{written_tuples}
use Rattle.pb_protocol_unfolder_terms.specs.declared.copies.Spread.{Spread}
use Rattle.pb_protocol_unfolder_terms.specs.declared.fault.UnfoldFault.{UnfoldFault}
use Rattle.pb_protocol_unfolder_terms.specs.declared.fault.UnfoldRule.{UnfoldRule}
use Rattle.pb_protocol_unfolder_terms.specs.declared.fault.UnfoldRule.TheVariants as rule
use Rattle.pb_protocol_unfolder_terms.specs.AssignmentCopies.{AreSpreadsOf, CopyBehind, IsSpreadOf, copies_at, copies_behind, copy_at, groups_of, tuples_behind, variables_before}
use Rattle.pb_protocol_unfolder_terms.specs.TermFaults.{IsFaultAt, IsFaultInCopying, PlacedCopy, copies_place, placed_copies, placed_copies_of}
use Rattle.pb_protocol_unfolder_terms.specs.Values.{IsTooLong, tuple_of}
use Rattle.pb_protocol_unfolder_terms.specs.View.{variable_of}
use Rattle.pb_protocol_unfolder_terms.proofs.ArgumentLemmas.{taken-more, taken-there}
use Rattle.pb_protocol_unfolder_terms.proofs.ReadLemmas.{none-not, some-is}
use Rattle.pb_protocol_unfolder_terms.proofs.TermLemmas.{copies-of-tuples}

-- ---- copies

-- the variables before an assignment, as the code has them
pub groups-said : (o : Option Copies) → erased_variables (variable_forms (groups_of o)) ≡ erased_variables (copied_variables (copies_said o))
groups-said None = refl
groups-said (Some c) = refl

spread-copied : (S : Spec) (b : Assignment) (s : Spread) → IsSpreadOf S b s → copies_behind s ≡ copies_at S b
spread-copied S b s is =
    ap (λ (a : Assignment). map (copy_at a (map variable_of s.variables.items)) (tuples_behind s)) is.assignment
    ∙ ap (λ (xs : List Variable). map (copy_at b xs) (tuples_behind s)) is.variables
    ∙ ap (map (copy_at b (variables_before b))) is.tuples

pub spreads-copied : (S : Spec) (bs : List Assignment) (ss : List Spread) → AreSpreadsOf S bs ss → flat_map copies_behind ss ≡ flat_map (copies_at S) bs
spreads-copied S [] [] all = refl
spreads-copied S [] (s ∷ ss) all = absurd all
spreads-copied S (b ∷ bs) [] all = absurd all
spreads-copied S (b ∷ bs) (s ∷ ss) all =
    ap (λ (cs : List CopyBehind). cs ++ flat_map copies_behind ss) (spread-copied S b s all.0)
    ∙ ap (λ (cs : List CopyBehind). copies_at S b ++ cs) (spreads-copied S bs ss all.1)

-- of all copies none is left
dropped : (ss : List Spread) (i : ℕ) → (i < length ss → ⊥) → drop i ss ≡ []
dropped [] zero end = refl
dropped [] (suc i) end = refl
dropped (s ∷ ss) zero end = absurd (end (omega arith))
dropped (s ∷ ss) (suc i) end = dropped ss i (λ h. end (omega (arith, h)))

pub all-behind : (cs : List CopyBehind) (ss : List Spread) (i : ℕ) → (i < length ss → ⊥) → cs ++ flat_map copies_behind (drop i ss) ≡ flat_map copies_behind ss
    → cs ≡ flat_map copies_behind ss
all-behind cs ss i end all = sym (append-nil cs) ∙ ap (λ (rs : List Spread). cs ++ flat_map copies_behind rs) (sym (dropped ss i end)) ∙ all

-- with one more
more : (S : Spec) (bs : List Assignment) (b : Assignment) (ss : List Spread) (s : Spread) → AreSpreadsOf S bs ss → IsSpreadOf S b s → AreSpreadsOf S (bs ++ b ∷ []) (ss ++ s ∷ [])
more S [] b [] s all is = (is, tt)
more S [] b (s' ∷ ss) s all is = absurd all
more S (a ∷ bs) b [] s all is = absurd all
more S (a ∷ bs) b (s' ∷ ss) s all is = (all.0, more S bs b ss s all.1 is)

pub spreads-more : (S : Spec) (bs : List Assignment) (i : ℕ) (b : Assignment) (ss : List Spread) (s : Spread) → i < length bs → b ≡ get_or bs i b
    → AreSpreadsOf S (take i bs) ss → IsSpreadOf S b s → AreSpreadsOf S (take (suc i) bs) (ss ++ s ∷ [])
spreads-more S bs i b ss s within there all is =
    subst (λ (bs' : List Assignment). AreSpreadsOf S bs' (ss ++ s ∷ [])) (sym (taken-more bs i b within there)) (more S (take i bs) b ss s all is)

-- ---- how many there are

-- as many tuples as values for the variables
pub spread-length : (S : Spec) (b : Assignment) (s : Spread) → IsSpreadOf S b s → length s.tuples.items ≡ length (written_tuples S (variables_before b))
spread-length S b s is = sym (length-map s.tuples.items tuple_of) ∙ ap (λ (ks : List (List Term)). length ks) is.tuples

pub tuples-more : (ss : List Spread) (s : Spread) → length (flat_map tuples_behind (ss ++ s ∷ [])) ≡ length (flat_map tuples_behind ss) + length s.tuples.items
tuples-more [] s = let all = length-append (tuples_behind s) [] in let same = length-map s.tuples.items tuple_of in omega (arith, all, same)
tuples-more (r ∷ ss) s =
    let here = length-append (tuples_behind r) (flat_map tuples_behind (ss ++ s ∷ [])) in
    let there = length-append (tuples_behind r) (flat_map tuples_behind ss) in
    omega (arith, here, there, tuples-more ss s)

-- as many copies of an assignment as tuples of values
tuples-counted : (S : Spec) (b : Assignment) → length (placed_copies_of S [] (assignment_form b)) ≡ length (written_tuples S (variables_before b))
tuples-counted S b =
    ap (λ (cs : List PlacedCopy). length cs)
    (copies-of-tuples S (variables_before b) (λ (σ : TermScope). let c : PlacedCopy = record { scope = σ; assignment = assignment_form b } in c) [])
    ∙ length-map (written_tuples S (variables_before b)) _

pub spreads-counted : (S : Spec) (bs : List Assignment) (ss : List Spread) → AreSpreadsOf S bs ss
    → length (flat_map tuples_behind ss) ≡ length (placed_copies S [] (map assignment_form bs))
spreads-counted S [] [] all = refl
spreads-counted S [] (s ∷ ss) all = absurd all
spreads-counted S (b ∷ bs) [] all = absurd all
spreads-counted S (b ∷ bs) (s ∷ ss) all =
    let one : length (tuples_behind s) ≡ length (placed_copies_of S [] (assignment_form b)) =
    ap (λ (ks : List (List Term)). length ks) all.0.tuples ∙ sym (tuples-counted S b) in
    let here = length-append (tuples_behind s) (flat_map tuples_behind ss) in
    let there = length-append (placed_copies_of S [] (assignment_form b)) (placed_copies S [] (map assignment_form bs)) in
    omega (arith, one, here, there, spreads-counted S bs ss all.1)

last-counted : (S : Spec) (xs : List AssignmentForm) (b : Assignment)
    → length (placed_copies S [] (xs ++ assignment_form b ∷ [])) ≡ length (placed_copies S [] xs) + length (written_tuples S (variables_before b))
last-counted S [] b = let here = length-append (placed_copies_of S [] (assignment_form b)) [] in omega (arith, tuples-counted S b, here)
last-counted S (x ∷ xs) b =
    let here = length-append (placed_copies_of S [] x) (placed_copies S [] (xs ++ assignment_form b ∷ [])) in
    let there = length-append (placed_copies_of S [] x) (placed_copies S [] xs) in
    omega (arith, here, there, last-counted S xs b)

-- with one more assignment there are as many more
more-counted : (S : Spec) (bs : List Assignment) (i : ℕ) (b : Assignment) → i < length bs → b ≡ get_or bs i b
    → length (placed_copies S [] (take (suc i) (map assignment_form bs)))
    ≡ length (placed_copies S [] (map assignment_form (take i bs))) + length (written_tuples S (variables_before b))
more-counted S bs i b within there =
    ap (λ (xs : List AssignmentForm). length (placed_copies S [] xs)) (take-map assignment_form (suc i) bs ∙ ap (map assignment_form) (taken-more bs i b within there))
    ∙ ap (λ (xs : List AssignmentForm). length (placed_copies S [] xs)) (mapped (take i bs))
    ∙ last-counted S (map assignment_form (take i bs)) b
  where
    mapped : (cs : List Assignment) → map assignment_form (cs ++ b ∷ []) ≡ map assignment_form cs ++ assignment_form b ∷ []
    mapped [] = refl
    mapped (c ∷ cs) = ap (λ (xs : List AssignmentForm). assignment_form c ∷ xs) (mapped cs)

-- ---- too many

-- of one assignment
pub too-copied : (S : Spec) (b : Assignment) {xs : List Variable} {p : Place} (d : OrMemory UnfoldFault) → xs ≡ variables_before b → p ≡ copies_place (assignment_form b) (copies_said b.copies)
    → IsTooLong (written_tuples S xs) p d → IfFault d (IsFaultAt (IsFaultInCopying S (assignment_form b ∷ [])))
too-copied S b Memory same there h = tt
too-copied S b {xs = xs} (Refused f) same there h = (
  0,
  assignment_form b,
  refl,
  ap (λ (g : UnfoldFault). g.rule) h.0,
  ap (λ (g : UnfoldFault). g.place) h.0 ∙ there,
  many,
)
  where
    many : MAX_OPERATORS < length (placed_copies S [] (assignment_form b ∷ []))
    many = let said = ap (λ (ys : List Variable). length (written_tuples S ys)) same in let last = last-counted S [] b in omega (arith, said, last, h.1)

-- up to one of all assignments, with those before it
pub too-many : (S : Spec) (bs : List Assignment) (i : ℕ) (b : Assignment) (ss : List Spread) → i < length bs → b ≡ get_or bs i b → AreSpreadsOf S (take i bs) ss
    → MAX_OPERATORS < length (flat_map tuples_behind ss) + length (written_tuples S (variables_before b))
    → IsFaultInCopying S (map assignment_form bs) rule.Values (copies_place (assignment_form b) (copies_said b.copies))
too-many S bs i b ss within there all many = (
  i,
  assignment_form b,
  form-there bs i within there,
  refl,
  refl,
  let before = spreads-counted S (take i bs) ss all in let next = more-counted S bs i b within there in omega (arith, before, next, many),
)
  where
    form-there : (cs : List Assignment) (k : ℕ) → k < length cs → b ≡ get_or cs k b → slice_get (map assignment_form cs) k ≡ Some (assignment_form b)
    form-there [] k within is = absurd (omega (arith, within))
    form-there (c ∷ cs) zero within is = ap (λ (a : Assignment). Some (assignment_form a)) (sym is)
    form-there (c ∷ cs) (suc k) within is = form-there cs k (omega (arith, within)) is

-- what is too much of one is too much of all
one-of-all : (S : Spec) (bs : List Assignment) (i : ℕ) (b : Assignment) (ss : List Spread) → i < length bs → b ≡ get_or bs i b → AreSpreadsOf S (take i bs) ss
    → (r : UnfoldRule) (p : Place) → IsFaultInCopying S (assignment_form b ∷ []) r p → IsFaultInCopying S (map assignment_form bs) r p
one-of-all S bs i b ss within there all r p (zero, a, is, same, place, many) =
    subst (λ (q : Place). IsFaultInCopying S (map assignment_form bs) r q)
    (ap (λ (x : AssignmentForm). copies_place x x.copies) (some-is (assignment_form b) a is) ∙ sym place)
    (subst (λ (s : UnfoldRule). IsFaultInCopying S (map assignment_form bs) s (copies_place (assignment_form b) (copies_said b.copies))) (sym same)
    (too-many S bs i b ss within there all (let last = last-counted S [] b in omega (arith, many, last))))
one-of-all S bs i b ss within there all r p (suc k, a, is, same, place, many) = absurd (none-not a is)

pub one-told : (S : Spec) (bs : List Assignment) (i : ℕ) (b : Assignment) (ss : List Spread) (d : OrMemory UnfoldFault) → i < length bs → b ≡ get_or bs i b → AreSpreadsOf S (take i bs) ss
    → IfFault d (IsFaultAt (IsFaultInCopying S (assignment_form b ∷ []))) → IfFault d (IsFaultAt (IsFaultInCopying S (map assignment_form bs)))
one-told S bs i b ss Memory within there all h = tt
one-told S bs i b ss (Refused f) within there all h = one-of-all S bs i b ss within there all f.rule f.place h
