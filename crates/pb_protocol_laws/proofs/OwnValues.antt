-- The written values of a step mean themselves where definitions count: none has an enumerator's name.
use Rattle.std.proofs.Common.{◌≡◌, ℕ, zero, suc, Bool, true, false, true≢false, ◌&&◌, if◌then◌else◌, List, [], ◌∷◌, ◌++◌, map, flat_map, length, refl, sym, ap, ◌∙◌, subst, arith}
use Rattle.std.specs.Prelude.{ℤ, pos, negsuc, Contains, Option, Some, None, codes}
use Rattle.pb_base_values.specs.Carrier.{Value, Carrier, interval}
use Rattle.pb_text_meaning.specs.Syntax.{Name, same_name, Variable, Term, Enumerator, Sort, Struct, Alias, SortDeclaration, Range, Spec}
use Rattle.pb_text_meaning.specs.Sorts.{declared, range_of}
use Rattle.pb_text_meaning.specs.Value.{named_value, value}
use Rattle.pb_protocol_folding.specs.Folding.{number}
use Rattle.pb_protocol_folding.specs.Names.{IsNot, AreNot, names_in, enumerators_in}
use Rattle.pb_protocol_meaning.specs.Syntax.{Definition, Step, Protocol}
use Rattle.pb_protocol_meaning.specs.Meaning.{Functions, no_functions, meaning, are_as_many, with_definition, with_definitions}
use Rattle.pb_protocol_meaning.specs.Steps.{data_of, functions_at_start}
use Rattle.pb_protocol_unfolding.specs.Hygiene.{HidesNothing, definition_names}
use Rattle.pb_protocol_unfolding.specs.Unfolding.{Instance, instances, instances_of, is_whole, whole_step, with_own}
use Rattle.pb_protocol_unfolding.specs.Written.{written_by, written_within, written_values, written_tuples}

-- ---- names that no definition has

-- a definition of another name gives nothing for it
other-gives : (b c : Bool) (v w : Option Value) → b ≡ false → w ≡ None → (if b && c then v else w) ≡ None
other-gives true c v w other none = absurd (true≢false other)
other-gives false c v w other none = none

start-gives : (S : Spec) (functions : Functions) (ds : List Definition) (x : Name) → IsNot x (map (λ (d : Definition). d.name) ds) → functions x [] ≡ None
    → with_definitions S functions ds x [] ≡ None
start-gives S functions [] x new none = none
start-gives S functions (d ∷ ds) x new none =
    start-gives S (with_definition S functions d) ds x new.1 (other-gives (same_name d.name x) (are_as_many d.parameters []) _ (functions x []) new.0 none)

module _ (m : Protocol) where
  abbrev d : Spec
  d = data_of m

  -- terms that mean themselves, and names of which definitions say nothing
  abbrev pub AreThemselves : List Term → Type 0
  AreThemselves [] = Unit {0}
  AreThemselves (k ∷ ks) = (meaning d (functions_at_start m) [] k ≡ value d [] k) × AreThemselves ks

  abbrev AreFree : List Name → Type 0
  AreFree [] = Unit {0}
  AreFree (x ∷ xs) = (functions_at_start m x [] ≡ None) × AreFree xs

  abbrev IsFreeSort : Option Sort → Type 0
  IsFreeSort None = Unit {0}
  IsFreeSort (Some s) = AreFree (names_in s)

  free : (xs : List Name) → AreNot xs (definition_names m) → AreFree xs
  free [] h = tt
  free (x ∷ xs) h = (start-gives d no_functions m.definitions x h.0 refl, free xs h.1)

  free-front : (xs ys : List Name) → AreFree (xs ++ ys) → AreFree xs
  free-front [] ys h = tt
  free-front (x ∷ xs) ys h = (h.0, free-front xs ys h.1)

  free-behind : (xs ys : List Name) → AreFree (xs ++ ys) → AreFree ys
  free-behind [] ys h = h
  free-behind (x ∷ xs) ys h = free-behind xs ys h.1

  either-free : (b : Bool) (t : Sort) (o : Option Sort) → AreFree (names_in t) → IsFreeSort o → IsFreeSort (if b then Some t else o)
  either-free true t o h k = h
  either-free false t o h k = k

  free-sort : (ds : List SortDeclaration) (s : Name) → AreFree (enumerators_in ds) → IsFreeSort (declared ds s)
  free-sort [] s h = tt
  free-sort (e ∷ ds) s h =
      either-free (same_name e.name s) e.sort (declared ds s) (free-front (names_in e.sort) (enumerators_in ds) h) (free-sort ds s (free-behind (names_in e.sort) (enumerators_in ds) h))

  -- ---- values of a sort

  number-itself : (v : Value) → meaning d (functions_at_start m) [] (number v) ≡ value d [] (number v)
  number-itself (pos n) = refl
  number-itself (negsuc n) = refl

  numbers-themselves : (vs : Carrier) → AreThemselves (map number vs)
  numbers-themselves [] = tt
  numbers-themselves (v ∷ vs) = (number-itself v, numbers-themselves vs)

  enumerators-themselves : (es : List Enumerator) → AreFree (map (λ (e : Enumerator). e.name) es) → AreThemselves (map (λ (e : Enumerator). Term.Named e.name) es)
  enumerators-themselves [] h = tt
  enumerators-themselves (e ∷ es) h = (ap (λ (o : Option Value). named_value d o e.name) h.0, enumerators-themselves es h.1)

  by-themselves : (r : Option Range) (b : Bool) (o : Option Sort) (target : Name → List Term) → IsFreeSort o → ((s : Name) → AreThemselves (target s)) → AreThemselves (written_by r b o target)
  by-themselves (Some r) b o target h more = numbers-themselves (interval r.low r.high)
  by-themselves None true o target h more = (refl, (refl, tt))
  by-themselves None false (Some (Struct es)) target h more = enumerators-themselves es h
  by-themselves None false (Some (Alias s)) target h more = more s
  by-themselves None false None target h more = tt

  within-themselves : AreFree (enumerators_in m.sorts) → (n : ℕ) (s : Name) → AreThemselves (written_within n d s)
  within-themselves h zero s = tt
  within-themselves h (suc n) s =
      by-themselves (range_of m.ranges s) (same_name s (codes "Bool")) (declared m.sorts s) (written_within n d) (free-sort m.sorts s h) (within-themselves h n)

  -- ---- tuples of values

  abbrev EachThemselves : List (List Term) → Type 0
  EachThemselves [] = Unit {0}
  EachThemselves (ks ∷ all) = AreThemselves ks × EachThemselves all

  each-behind : (all more : List (List Term)) → EachThemselves all → EachThemselves more → EachThemselves (all ++ more)
  each-behind [] more h k = k
  each-behind (ks ∷ all) more h k = (h.0, each-behind all more h.1 k)

  each-in-front : (k : Term) → meaning d (functions_at_start m) [] k ≡ value d [] k → (all : List (List Term)) → EachThemselves all → EachThemselves (map (λ (ks : List Term). k ∷ ks) all)
  each-in-front k e [] h = tt
  each-in-front k e (ks ∷ all) h = ((e, h.0), each-in-front k e all h.1)

  each-of : (ks : List Term) → AreThemselves ks → (all : List (List Term)) → EachThemselves all
      → EachThemselves (flat_map (λ k. map (λ (ts : List Term). k ∷ ts) all) ks)
  each-of [] e all h = tt
  each-of (k ∷ ks) e all h =
      each-behind (map (λ (ts : List Term). k ∷ ts) all) (flat_map (λ j. map (λ (ts : List Term). j ∷ ts) all) ks) (each-in-front k e.0 all h) (each-of ks e.1 all h)

  tuples-themselves : AreFree (enumerators_in m.sorts) → (xs : List Variable) → EachThemselves (written_tuples d xs)
  tuples-themselves h [] = (tt, tt)
  tuples-themselves h (x ∷ xs) =
      each-of (written_values d x.sort) (within-themselves h (suc (length m.sorts)) x.sort) (written_tuples d xs) (tuples-themselves h xs)

  -- ---- steps

  abbrev HaveOwn : List Instance → Type 0
  HaveOwn [] = Unit {0}
  HaveOwn (i ∷ is) = AreThemselves i.own × HaveOwn is

  own-behind : (is js : List Instance) → HaveOwn is → HaveOwn js → HaveOwn (is ++ js)
  own-behind [] js h k = k
  own-behind (i ∷ is) js h k = (h.0, own-behind is js h.1 k)

  own-of : (a : Step) (all : List (List Term)) → EachThemselves all → HaveOwn (map (with_own a) all)
  own-of a [] h = tt
  own-of a (ks ∷ all) h = (h.0, own-of a all h.1)

  step-own : AreFree (enumerators_in m.sorts) → (a : Step) → HaveOwn (instances_of m a)
  step-own h a = by (is_whole m a)
    where
      by : (b : Bool) → HaveOwn (if b then whole_step a ∷ [] else map (with_own a) (written_tuples d a.variables))
      by true = (tt, tt)
      by false = own-of a (written_tuples d a.variables) (tuples-themselves h a.variables)

  steps-own : AreFree (enumerators_in m.sorts) → (steps : List Step) → HaveOwn (flat_map (instances_of m) steps)
  steps-own h [] = tt
  steps-own h (a ∷ steps) = own-behind (instances_of m a) (flat_map (instances_of m) steps) (step-own h a) (steps-own h steps)

  own-found : (is : List Instance) → HaveOwn is → (i : Instance) → Contains is i → AreThemselves i.own
  own-found [] h i among = absurd (omega (arith, among.1))
  own-found (j ∷ is) h i (zero, within, e) = subst (λ (x : Instance). AreThemselves x.own) e h.0
  own-found (j ∷ is) h i (suc k, within, e) = own-found is h.1 i (k, omega (arith, within), e)

  pub own-themselves : HidesNothing m → (i : Instance) → Contains (instances m) i → AreThemselves i.own
  own-themselves hides i among = own-found (instances m) (steps-own (free (enumerators_in m.sorts) hides.definitions) m.steps) i among
