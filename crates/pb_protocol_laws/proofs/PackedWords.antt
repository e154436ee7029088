-- Packed models have words.
use Rattle.std.proofs.Common.{◌≡◌, ℕ, zero, suc, ◌*◌, ◌≤◌, Bool, true, false, if◌then◌else◌, List, [], ◌∷◌, ◌++◌, map, length, take, drop, refl, sym, subst, arith}
use Rattle.std.specs.Prelude.{nat_eq, ℤ, pos, ◌+ℤ◌, ◌-ℤ◌, int_le, Option, Some, None, codes, is_some}
use Rattle.std.specs.List.{list_any, list_all}
use Rattle.std.proofs.lemmas.Int.{ints}
use Rattle.std.proofs.lemmas.List.{take-append-drop}
use Rattle.std.proofs.lemmas.Nat.{mul-le}
use Rattle.pb_base_values.specs.Carrier.{Carrier, numbers_from, at_least_none}
use Rattle.pb_text_lexer.specs.Bytes.{is_name_byte, word_kind}
use Rattle.pb_text_lexer.specs.Lexing.{largest_number}
use Rattle.pb_text_meaning.specs.Syntax.{Name, same_name, Variable, Term, Terms, Enumerator, Sort, Struct, Alias, SortDeclaration, Range}
use Rattle.pb_text_meaning.specs.Sorts.{carrier_by, carrier_within, range_of, declared}
use Rattle.pb_text_printer.specs.Sayable.{Each, IsBound}
use Rattle.pb_model_meaning.specs.Syntax.{Assignment, Step, Model}
use Rattle.pb_model_meaning.specs.Steps.{data_of, assigned_term}
use Rattle.pb_model_translation.specs.Names.{primes, longest}
use Rattle.pb_model_translation.specs.Translation.{term_or_name}
use Rattle.pb_model_spelling.specs.Writable.{IsWord, VariableWritable, TermWritable, AllWritable, EnumeratorWritable, DeclarationWritable, RangeWritable, AssignmentWritable, StepWritable, ModelWritable}
use Rattle.pb_protocol_packing.specs.Apart.{is_among}
use Rattle.pb_protocol_packing.specs.Numbers.{Kind, Boolean, Enumeration, Whole, times, between, to_number, is_surely_within, test_of}
use Rattle.pb_protocol_packing.specs.Said.{Scope, hidden}
use Rattle.pb_protocol_packing.specs.Packing.{Member, Group, Alone, Joined, capacity, variable_of, digit_at, with_members, with_group, with_groups, kept, addends_by, addends, number_of, tests_of, all_tests, where_all, joined_term, group_term, with_assignment, assignments_of, option_said, said_by, packed_step, initial_assignments, begins_with, initial_term, initial_terms, with_sorts, with_ranges}
use Rattle.pb_protocol_packing.specs.Groups.{name_of, kind_by, kind_within, kind_of, lowest, member_for, names_in, unused_name, named_groups, groups_of, packed}
use Rattle.pb_protocol_packing.specs.Sizes.{group_sizes, cut_into_groups}
use Rattle.pb_protocol_packing.specs.Groups as groups
use Rattle.pb_protocol_laws.specs.FewValues.{HasFewValues}
use Rattle.pb_protocol_laws.specs.SpellingLaws.{PackedModelsAreWritable, PackedFormulasAreWritable}
use Rattle.pb_protocol_laws.proofs.Words.{primed_word, spelled_word}
use Rattle.pb_protocol_laws.proofs.Spelled.{FoundRange, FoundSort, range-found, sort-found, structs-spelled, bound-low, bound-high}
use Rattle.pb_protocol_laws.proofs.Unfolded.{FoundTerm, both}
use Rattle.pb_protocol_laws.proofs.Digits.{IsLow, KindWritable, DigitsWritable, times-writable, between-writable, scaled-writable, plus-all-writable, either-writable, to-number, test-writable, hidden-writable, said-writable, formula-writable}

-- ---- sorts

abbrev KindWords : Kind → Type 0
KindWords Boolean = Unit {0}
KindWords (Enumeration es) = Each IsWord es
KindWords Whole = Unit {0}

abbrev KindFits : Kind → ℕ → Type 0
KindFits Boolean n = Unit {0}
KindFits (Enumeration es) n = length es ≤ n
KindFits Whole n = Unit {0}

-- what is known of a sort's kind and carrier
record SortKnown (k : Kind) (c : Carrier) : Type 0 where
  words : KindWords k
  fits : KindFits k (length c)
  low : IsLow (lowest c)

none-low : IsLow (pos 0)
none-low = (omega (arith, ints), omega (arith, ints))

from-low : (low : ℤ) (n : ℕ) → IsLow low → IsLow (lowest (numbers_from low n))
from-low low zero h = none-low
from-low low (suc n) h = h

bounded-low : (v : ℤ) → IsBound v → IsLow v
bounded-low v h = (bound-low v h, bound-high v h)

names-words : (es : List Enumerator) → Each EnumeratorWritable es → Each IsWord (map name_of es)
names-words [] h = tt
names-words (e ∷ es) h = (h.0.0, names-words es h.1)

names-fit : (es : List Enumerator) (low : ℤ) → length (map name_of es) ≤ length (numbers_from low (length es))
names-fit [] low = omega arith
names-fit (e ∷ es) low = let rest = names-fit es (low +ℤ pos 1) in omega arith

known-by : (r : Option Range) (b : Bool) (s : Option Sort) (kind : Name → Kind) (carrier : Name → Carrier) → FoundRange r → FoundSort s →
    ((x : Name) → SortKnown (kind x) (carrier x)) → SortKnown (kind_by r b s kind) (carrier_by r b s carrier)
known-by (Some r) b s kind carrier h k more =
    record { words = tt; fits = tt; low = from-low r.low (at_least_none (r.high -ℤ r.low +ℤ pos 1)) (bounded-low r.low h.low) }
known-by None true s kind carrier h k more = record { words = tt; fits = tt; low = none-low }
known-by None false (Some (Struct es)) kind carrier h k more =
    record { words = names-words es (structs-spelled es k); fits = names-fit es (pos 0); low = from-low (pos 0) (length es) none-low }
known-by None false (Some (Alias s)) kind carrier h k more = more s
known-by None false None kind carrier h k more = record { words = tt; fits = tt; low = none-low }

known-within : (n : ℕ) (m : Model) (s : Name) → ModelWritable m → SortKnown (kind_within n m s) (carrier_within n (data_of m) s)
known-within zero m s h = record { words = tt; fits = tt; low = none-low }
known-within (suc n) m s h =
    known-by (range_of m.ranges s) (same_name s (codes "Bool")) (declared m.sorts s) (kind_within n m) (carrier_within n (data_of m))
    (range-found m.ranges s h.ranges) (sort-found m.sorts s h.sorts) (λ x. known-within n m x h)

-- ---- members

record MemberKnown (p : Member) : Type 0 where
  variable : VariableWritable p.variable
  words : KindWords p.kind
  fits : KindFits p.kind p.size
  low : IsLow p.low

members-known : (m : Model) → ModelWritable m → (vs : List Variable) → Each VariableWritable vs → Each MemberKnown (map (member_for m) vs)
members-known m h [] w = tt
members-known m h (v ∷ vs) w =
    let known = known-within (suc (length m.sorts)) m v.sort h in
    (record { variable = w.0; words = known.words; fits = known.fits; low = known.low }, members-known m h vs w.1)

abbrev Few : List Member → Type 0
Few ps = (1 ≤ capacity ps) × (capacity ps ≤ 2147483648)

factors : (s c : ℕ) → 1 ≤ s * c → (1 ≤ s) × (1 ≤ c)
factors zero c h = absurd (omega arith)
factors (suc s) zero h = absurd (omega arith)
factors (suc s) (suc c) h = (omega arith, omega arith)

few-parts : (s c : ℕ) → 1 ≤ s * c → s * c ≤ 2147483648 → (s ≤ 2147483648) × (1 ≤ c) × (c ≤ 2147483648)
few-parts s c h k =
    let both = factors s c h in
    let one = both.0 in let other = both.1 in
    let first = mul-le s 1 s c (omega arith) other in
    let second = mul-le 1 c s c one (omega arith) in
    (omega (arith, first), other, omega (arith, second))

kind-writable : (k : Kind) (n : ℕ) → KindWords k → KindFits k n → n ≤ 2147483648 → KindWritable k
kind-writable Boolean n w f h = tt
kind-writable (Enumeration es) n w f h = (w, omega arith)
kind-writable Whole n w f h = tt

-- ---- groups

abbrev GroupKnown : Group → Type 0
GroupKnown (Alone x) = VariableWritable x
GroupKnown (Joined x ps) = VariableWritable x × Each MemberKnown ps × Few ps

with-members : (limit : ℕ) (t : Term) (ps : List Member) (σ : Scope) → TermWritable t → Each MemberKnown ps → Few ps → DigitsWritable σ → DigitsWritable (with_members limit t ps σ)
with-members limit t [] σ h w few k = k
with-members limit t (p ∷ ps) σ h w few k =
    let n = capacity (p ∷ ps) in
    let m = capacity ps in
    let parts = few-parts p.size m few.0 few.1 in
    let whole = few.1 in let most = parts.2 in
    let fits : n ≤ largest_number = omega arith in let small : m ≤ largest_number = omega arith in
    with-members limit t ps ((p.variable.name, Some (digit_at p (between limit n m t))) ∷ σ) h w.1 (parts.1, parts.2)
    (record { kind = kind-writable p.kind p.size w.0.words w.0.fits parts.0; low = w.0.low; term = between-writable limit n m t h fits small }, k)

with-group : (g : Group) (σ : Scope) → GroupKnown g → DigitsWritable σ → DigitsWritable (with_group g σ)
with-group (Alone x) σ h k = (tt, k)
with-group (Joined x ps) σ h k = with-members (capacity ps) (Term.Named x.name) ps σ h.0.0 h.1 h.2 k

with-groups : (gs : List Group) (σ : Scope) → Each GroupKnown gs → DigitsWritable σ → DigitsWritable (with_groups gs σ)
with-groups [] σ h k = k
with-groups (g ∷ gs) σ h k = with-groups gs (with_group g σ) h.1 (with-group g σ h.0 k)

-- ---- what a group becomes

tests-writable : (o : Option Term) (p : Member) → FoundTerm o → MemberKnown p → p.size ≤ 2147483648 → Each TermWritable (tests_of o p)
tests-writable (Some x) p h w few = by (is_surely_within p.kind p.low p.size x)
  where
    by : (b : Bool) → Each TermWritable (if b then [] else (test_of p.kind p.low p.size x ∷ []))
    by true = tt
    by false = (test-writable p.kind p.low p.size x (kind-writable p.kind p.size w.words w.fits few) w.low few h, tt)
tests-writable None p h w few = tt

where-all : (ts : List Term) (x y : Term) → Each TermWritable ts → TermWritable x → TermWritable y → TermWritable (where_all ts x y)
where-all [] x y h k l = k
where-all (t ∷ ts) x y h k l = either-writable t (where_all ts x y) y h.0 (where-all ts x y h.1 k l) l

module _ (new : Name → Option Term) (news : (x : Name) → FoundTerm (new x)) where
  module _ (limit : ℕ) (t : Term) (h : TermWritable t) where
    kept-writable : (n m : ℕ) → n ≤ largest_number → m ≤ largest_number → TermWritable (kept limit n m t)
    kept-writable n m k l = by (nat_eq n m)
      where
        by : (b : Bool) → TermWritable (if b then Term.Number 0 else times (between limit n m t) m)
        by true = let none : 0 ≤ largest_number = omega arith in none
        by false = times-writable (between limit n m t) m (between-writable limit n m t h k l) l

    addends-by : (o : Option Term) (n : ℕ) (p : Member) (ps : List Member) (others : ℕ → List Term) → FoundTerm o → MemberKnown p → Few (p ∷ ps) → n ≤ largest_number →
        ((m : ℕ) → m ≤ largest_number → Each TermWritable (others m)) → Each TermWritable (addends_by o limit t n p (capacity ps) others)
    addends-by None n p ps others found w few k more = more n k
    addends-by (Some x) n p ps others found w few k more =
        let m = capacity ps in
        let parts = few-parts p.size m few.0 few.1 in
        let whole = few.1 in let most = parts.2 in
        let fits : p.size * m ≤ largest_number = omega arith in let small : m ≤ largest_number = omega arith in
        let digit = to-number p.kind p.low x (kind-writable p.kind p.size w.words w.fits parts.0) w.low found in
        (kept-writable n (p.size * m) k fits, (scaled-writable p.size (to_number p.kind p.low x) m digit small fits, more m small))

    addends-writable : (n : ℕ) (ps : List Member) → n ≤ largest_number → Each MemberKnown ps → Few ps → Each TermWritable (addends new limit t n ps)
    addends-writable n [] k w few = (kept-writable n 1 k (let one : 1 ≤ largest_number = omega arith in one), tt)
    addends-writable n (p ∷ ps) k w few =
        let parts = few-parts p.size (capacity ps) few.0 few.1 in
        addends-by (new p.variable.name) n p ps (λ m. addends new limit t m ps) (news p.variable.name) w.0 few k (λ m l. addends-writable m ps l w.1 (parts.1, parts.2))

  number-writable : (t : Term) (ps : List Member) → TermWritable t → Each MemberKnown ps → Few ps → TermWritable (number_of new t ps)
  number-writable t ps h w few =
      let c = capacity ps in
      let most = few.1 in
      let none : 0 ≤ largest_number = omega arith in
      plus-all-writable (Term.Number 0) (addends new c t c ps) none
      (addends-writable c t h c ps (let fits : c ≤ largest_number = omega arith in fits) w few)

  all-tests : (ps : List Member) → Each MemberKnown ps → Few ps → Each TermWritable (all_tests new ps)
  all-tests [] w few = tt
  all-tests (p ∷ ps) w few =
      let parts = few-parts p.size (capacity ps) few.0 few.1 in
      both TermWritable (tests_of (new p.variable.name) p) (all_tests new ps) (tests-writable (new p.variable.name) p (news p.variable.name) w.0 parts.0)
      (all-tests ps w.1 (parts.1, parts.2))

  joined-writable : (t : Term) (ps : List Member) → TermWritable t → Each MemberKnown ps → Few ps → TermWritable (joined_term new t ps)
  joined-writable t ps h w few =
      let most = few.1 in
      where-all (all_tests new ps) (number_of new t ps) (Term.Number (capacity ps)) (all-tests ps w few) (number-writable t ps h w few)
      (let fits : capacity ps ≤ largest_number = omega arith in fits)

  group-writable : (g : Group) → GroupKnown g → FoundTerm (group_term new g)
  group-writable (Alone x) w = news x.name
  group-writable (Joined x ps) w = by (list_any (λ (p : Member). is_some (new p.variable.name)) ps)
    where
      by : (b : Bool) → FoundTerm (if b then Some (joined_term new (Term.Named x.name) ps) else None)
      by true = joined-writable (Term.Named x.name) ps w.0.0 w.1 w.2
      by false = tt

  with-assignment : (x : Name) (o : Option Term) (rest : List Assignment) → FoundTerm o → Each AssignmentWritable rest → Each AssignmentWritable (with_assignment x o rest)
  with-assignment x (Some t) rest h k = (h, k)
  with-assignment x None rest h k = k

  assignments-writable : (gs : List Group) → Each GroupKnown gs → Each AssignmentWritable (assignments_of new gs)
  assignments-writable [] h = tt
  assignments-writable (g ∷ gs) h =
      with-assignment (variable_of g).name (group_term new g) (assignments_of new gs) (group-writable g h.0) (assignments-writable gs h.1)

  named-or : (o : Option Term) (x : Name) → FoundTerm o → IsWord x → TermWritable (term_or_name o x)
  named-or (Some t) x h w = h
  named-or None x h w = w

  initial-term : (g : Group) → GroupKnown g → TermWritable (initial_term new g)
  initial-term (Alone x) w = named-or (new x.name) x.name (news x.name) w.0
  initial-term (Joined x ps) w = let none : 0 ≤ largest_number = omega arith in joined-writable (Term.Number 0) ps none w.1 w.2

  initial-writable : (gs : List Group) → Each GroupKnown gs → AllWritable (initial_terms new gs)
  initial-writable [] h = tt
  initial-writable (g ∷ gs) h = (initial-term g h.0, initial-writable gs h.1)

-- ---- steps

assigned-found : (assigned : List Assignment) (x : Name) → Each AssignmentWritable assigned → FoundTerm (assigned_term assigned x)
assigned-found [] x h = tt
assigned-found (a ∷ assigned) x h = by (same_name a.variable x) (assigned-found assigned x h.1)
  where
    by : (b : Bool) → FoundTerm (assigned_term assigned x) → FoundTerm (if b then Some a.term else assigned_term assigned x)
    by true later = h.0
    by false later = later

option-said : (σ : Scope) (o : Option Term) → DigitsWritable σ → FoundTerm o → FoundTerm (option_said σ o)
option-said σ (Some x) k h = said-writable x σ k h
option-said σ None k h = tt

step-writable : (gs : List Group) → Each GroupKnown gs → (a : Step) → StepWritable a → StepWritable (packed_step gs a)
step-writable gs h a w =
    let σ = hidden a.variables (with_groups gs []) in
    let known = hidden-writable a.variables (with_groups gs []) (with-groups gs [] h tt) in (
      w.0,
      said-writable a.guard σ known w.1,
      assignments-writable (said_by gs a) (λ x. option-said σ (assigned_term a.assignments x) known (assigned-found a.assignments x w.2)) gs h,
    )

steps-writable : (gs : List Group) → Each GroupKnown gs → (steps : List Step) → Each StepWritable steps → Each StepWritable (map (packed_step gs) steps)
steps-writable gs h [] w = tt
steps-writable gs h (a ∷ steps) w = (step-writable gs h a w.0, steps-writable gs h steps w.1)

begun : (vs : List Variable) (ts : Terms) → AllWritable ts → Each AssignmentWritable (initial_assignments vs ts)
begun (v ∷ vs) (Terms.Then t ts) h = (h.0, begun vs ts h.1)
begun [] ts h = tt
begun (v ∷ vs) Terms.NoTerms h = tt

-- ---- sorts and ranges of groups

nat-word : IsWord (codes "Nat")
unfolding word_kind
nat-word = spelled_word (codes "Nat") refl refl

sorts-writable : (gs : List Group) (ds : List SortDeclaration) → Each GroupKnown gs → Each DeclarationWritable ds → Each DeclarationWritable (with_sorts gs ds)
sorts-writable [] ds h w = w
sorts-writable (Alone x ∷ gs) ds h w = sorts-writable gs ds h.1 w
sorts-writable (Joined x ps ∷ gs) ds h w = ((h.0.0.1, nat-word), sorts-writable gs ds h.1 w)

abbrev IsHigh : ℤ → Type 0
IsHigh v = IsBound v × (int_le (pos 0) v ≡ true)

not-below : (n : ℕ) (b : Bool) → int_le (pos 0) (pos n) ≡ b → int_le (pos 0) (pos n) ≡ true
not-below n true e = e
not-below n false e = absurd (omega (arith, ints))

high-bound : (c : ℕ) → 1 ≤ c → c ≤ 2147483648 → IsHigh (pos c -ℤ pos 1)
high-bound zero h k = absurd (omega arith)
high-bound (suc n) h k =
    let same : pos n ≡ pos (suc n) -ℤ pos 1 = omega (arith, ints) in
    let fits : n ≤ 2147483647 = omega arith in
    subst IsHigh same (fits, not-below n (int_le (pos 0) (pos n)) refl)

ranges-writable : (gs : List Group) (rs : List Range) → Each GroupKnown gs → Each RangeWritable rs → Each RangeWritable (with_ranges gs rs)
ranges-writable [] rs h w = w
ranges-writable (Alone x ∷ gs) rs h w = ranges-writable gs rs h.1 w
ranges-writable (Joined x ps ∷ gs) rs h w =
    let high = high-bound (capacity ps) h.0.2.0 h.0.2.1 in
    (record { name = h.0.0.1; low = (let none : 0 ≤ 2147483647 = omega arith in none); high = high.0; order = high.1 }, ranges-writable gs rs h.1 w)

variables-writable : (gs : List Group) → Each GroupKnown gs → Each VariableWritable (map variable_of gs)
variables-writable [] h = tt
variables-writable (Alone x ∷ gs) h = (h.0, variables-writable gs h.1)
variables-writable (Joined x ps ∷ gs) h = (h.0.0, variables-writable gs h.1)

-- ---- the groups of a model

primes-names : (n : ℕ) → list_all is_name_byte (primes n) ≡ true
primes-names zero = refl
primes-names (suc n) = primes-names n

unused-word : (taken : List Name) (x : Name) → IsWord x → IsWord (unused_name taken x)
unused-word taken x h = by (is_among taken x)
  where
    by : (b : Bool) → IsWord (if b then x ++ primes (suc (longest taken)) else x)
    by true = primed_word x (primes (longest taken)) h (primes-names (longest taken))
    by false = h

front : (xs ys : List Member) → Each MemberKnown (xs ++ ys) → Each MemberKnown xs
front [] ys h = tt
front (x ∷ xs) ys h = (h.0, front xs ys h.1)

behind : (xs ys : List Member) → Each MemberKnown (xs ++ ys) → Each MemberKnown ys
behind [] ys h = h
behind (x ∷ xs) ys h = behind xs ys h.1

cut-known : (ks : List ℕ) (ps : List Member) → Each MemberKnown ps → Each (Each MemberKnown) (cut_into_groups ks ps)
cut-known [] ps h = tt
cut-known (k ∷ ks) ps h =
    let parts = subst (Each MemberKnown) (sym (take-append-drop k ps)) h in
    (front (take k ps) (drop k ps) parts, cut-known ks (drop k ps) (behind (take k ps) (drop k ps) parts))

groups-known : (taken : List Name) (cs : List (List Member)) → Each (Each MemberKnown) cs → Each HasFewValues (named_groups taken cs) → Each GroupKnown (named_groups taken cs)
groups-known taken [] h few = tt
groups-known taken ([] ∷ cs) h few = groups-known taken cs h.1 few
groups-known taken ((p ∷ []) ∷ cs) h few = (h.0.0.variable, groups-known taken cs h.1 few.1)
groups-known taken ((p ∷ r ∷ ps) ∷ cs) h few =
    let x = unused_name taken (p.variable.name ++ codes "'") in
    let word = unused-word taken (p.variable.name ++ codes "'") (primed_word p.variable.name [] h.0.0.variable.0 refl) in
    (((word, word), h.0, few.0), groups-known (x ∷ taken) cs h.1 few.1)

all-known : (m : Model) → Each HasFewValues (groups_of m) → ModelWritable m → Each GroupKnown (groups_of m)
all-known m few h =
    groups-known (names_in m) (cut_into_groups (group_sizes (groups.all_members_for m)) (groups.all_members_for m))
    (cut-known (group_sizes (groups.all_members_for m)) (groups.all_members_for m) (members-known m h m.variables h.variables)) few

pub packed-writable : PackedModelsAreWritable
packed-writable m few h =
    let gs = groups_of m in
    let known = all-known m few h in
    record {
      sorts = sorts-writable gs m.sorts known h.sorts;
      ranges = ranges-writable gs m.ranges known h.ranges;
      variables = variables-writable gs known;
      steps = steps-writable gs known m.steps h.steps;
      initial =
          initial-writable (begins_with m)
          (λ x. option-said [] (assigned_term (initial_assignments m.variables m.initial) x) tt
          (assigned-found (initial_assignments m.variables m.initial) x (begun m.variables m.initial h.initial))) gs known;
    }

pub packed-formula-writable : PackedFormulasAreWritable
packed-formula-writable m f few h w = formula-writable f (with_groups (groups_of m) []) (with-groups (groups_of m) [] (all-known m few h) tt) w
