-- Where a limit is passed.
use Rattle.std.proofs.Common.{◌≡◌, ◌≤◌, ◌<◌, ◌∙◌, ℕ, zero, suc, ◌+◌, ◌++◌, arith, refl, sym, ap, subst, List, [], ◌∷◌, map, flat_map, drop, take, drop-cons, length, get_or, Some, Result, Ok, Err}
use Rattle.std.specs.Prelude.{IsErrAnd}
use Rattle.std.specs.List.{slice_get}
use Rattle.std.proofs.lemmas.List.{append_assoc, length-append, length-map}
use Rattle.std.proofs.lemmas.List.Folds.{length-flat_map-take}
use Rattle.pb_base.specs.OrMemory.{IfFault, IfRefused}
use Rattle.pb_base.specs.declared.or_memory.OrMemory.{OrMemory}
use Rattle.pb_base.specs.declared.or_memory.OrMemory.TheVariants.{Refused, Memory}
use Rattle.pb_text_tree.specs.declared.place.Place.{Place}
use Rattle.pb_protocol_unfolder_steps.specs.declared.fault.StepsFault.{StepsFault}
use Rattle.pb_protocol_unfolder_steps.specs.declared.fault.StepsFault.TheVariants.{Limit, Term}
use Rattle.pb_protocol_unfolder_steps.specs.Refusals.{IsPassed, IsPassedIn, each_at}

-- the fault of a call is that of its caller
pub refused : {A : Type 0} (r : Result A (OrMemory StepsFault)) (e : OrMemory StepsFault) (P Q : StepsFault → Type 0)
    → IsErrAnd r (λ d. d ≡ e) → ((f : StepsFault) → P f → Q f) → IfFault e P → IfRefused r Q
refused (Ok a) e P Q h to p = tt
refused (Err d) e P Q h to p = subst (λ (x : OrMemory StepsFault). IfFault x Q) (sym h) (both e p)
  where
    both : (x : OrMemory StepsFault) → IfFault x P → IfFault x Q
    both (Refused f) p = to f p
    both Memory p = tt

-- and what follows from what a call says of it
pub refused-so : {A : Type 0} (P Q : StepsFault → Type 0) (r : Result A (OrMemory StepsFault)) → ((f : StepsFault) → P f → Q f) → IfRefused r P → IfRefused r Q
refused-so P Q (Ok a) to p = tt
refused-so P Q (Err (Refused f)) to p = to f p
refused-so P Q (Err Memory) to p = tt

-- ---- places

-- at one place as many as there are
pub placed-along : {A B : Type 0} (p : Place) (f : A → B) (xs : List A) → each_at p (map f xs) ≡ each_at p xs
placed-along p f [] = refl
placed-along p f (x ∷ xs) = ap (λ v. p ∷ v) (placed-along p f xs)

-- where one more's pass the limit, the first past it is one of them
passed-here : {A : Type 0} (limit : ℕ) (now rest : List Place) (p : Place) (ys : List A) → length now ≤ limit → limit < length now + length ys
    → slice_get (now ++ (each_at p ys ++ rest)) limit ≡ Some p
passed-here limit [] rest p [] few more = absurd (omega (arith, more))
passed-here zero [] rest p (y ∷ ys) few more = refl
passed-here (suc n) [] rest p (y ∷ ys) few more = passed-here n [] rest p ys (omega arith) (omega (arith, more))
passed-here zero (q ∷ now) rest p ys few more = absurd (omega (arith, few))
passed-here (suc n) (q ∷ now) rest p ys few more = passed-here n now rest p ys (omega (arith, few)) (omega (arith, more))

passed-before : (limit : ℕ) (xs ys : List Place) (p : Place) → slice_get xs limit ≡ Some p → slice_get (xs ++ ys) limit ≡ Some p
passed-before limit [] ys p at = absurd (cc)
passed-before zero (x ∷ xs) ys p at = at
passed-before (suc n) (x ∷ xs) ys p at = passed-before n xs ys p at

-- what is there, and the rest of it behind the next
next-of : {A : Type 0} (ys : List A) (k : ℕ) (y : A) → k < length ys → y ≡ get_or ys k y → drop k ys ≡ y ∷ drop (suc k) ys
next-of ys k y h is = drop-cons ys k y h ∙ ap (λ v. v ∷ drop (suc k) ys) (sym is)

-- where those of one more pass the limit
pub passed-in-all : {X A B : Type 0} (g : X → Place) (f : A → List Place) (limit : ℕ) (now : List X) (all : List Place) (ys : List A) (k : ℕ) (y : A) (p : Place) (zs : List B) (s : StepsFault)
    → k < length ys → y ≡ get_or ys k y → f y ≡ each_at p zs → map g now ++ flat_map f (drop k ys) ≡ all → length now ≤ limit → IsPassed limit (length now + length zs) p s → IsPassedIn limit all s
passed-in-all g f limit now all ys k y p zs s h is of-y added few passed =
    let rest = flat_map f (drop (suc k) ys) in
    let whole : map g now ++ (each_at p zs ++ rest) ≡ all =
    ap (λ (v : List Place). map g now ++ (v ++ rest)) (sym of-y) ∙ ap (λ v. map g now ++ flat_map f v) (sym (next-of ys k y h is)) ∙ added in
    let few' : length (map g now) ≤ limit = omega (arith, length-map now g, few) in
    let more : limit < length (map g now) + length zs = omega (arith, length-map now g, passed.1) in
    subst (IsPassedIn limit all) (sym passed.0) (subst (λ (v : List Place). slice_get v limit ≡ Some p) whole (passed-here limit (map g now) rest p zs few' more))

-- and where a part's do
pub passed-in-part : {X A : Type 0} (g : X → Place) (f : A → List Place) (limit : ℕ) (now : List X) (all : List Place) (ys : List A) (k : ℕ) (y : A) (s : StepsFault)
    → k < length ys → y ≡ get_or ys k y → map g now ++ flat_map f (drop k ys) ≡ all → IsPassedIn limit (map g now ++ f y) s → IsPassedIn limit all s
passed-in-part g f limit now all ys k y (Limit p) h is added at =
    let rest = flat_map f (drop (suc k) ys) in
    let whole : (map g now ++ f y) ++ rest ≡ all =
    append_assoc (map g now) (f y) rest ∙ ap (λ v. map g now ++ flat_map f v) (sym (next-of ys k y h is)) ∙ added in
    subst (λ (v : List Place). slice_get v limit ≡ Some p) whole (passed-before limit (map g now ++ f y) rest p at)
passed-in-part g f limit now all ys k y (Term f') h is added at = at

-- ---- counts

-- those of one are no more than those of all
pub part-of-all : {A B : Type 0} (f : A → List B) (ys : List A) (k : ℕ) (y : A) → k < length ys → y ≡ get_or ys k y → length (f y) ≤ length (flat_map f ys)
part-of-all {A = A} f ys k y h is =
    let e = subst (λ (z : A). length (flat_map f (take k ys)) + length (f z) ≤ length (flat_map f ys)) (sym is) (length-flat_map-take f ys k y h) in
    omega (arith, e)

-- so many more as are added
pub added-count : {X B : Type 0} (said : X → B) (old new : List X) (more : List B) → map said new ≡ map said old ++ more → length new ≡ length old + length more
added-count {B = B} said old new more added =
    sym (length-map new said) ∙ ap (λ (v : List B). length v) added ∙ length-append (map said old) more
    ∙ ap (λ (n : ℕ). n + length more) (length-map old said)
