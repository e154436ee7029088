-- A model without faults of packing can be packed.
use Rattle.std.proofs.Common.{◌≡◌, ◌≢◌, ℕ, zero, suc, ◌<◌, Bool, true, false, List, [], ◌∷◌, ◌++◌, map, flat_map, length, get_or, refl, sym, ap, ◌∙◌, true≢false, arith, bytes_eq}
use Rattle.std.proofs.Common.{Result, Ok, Err, MatchResult, OnOk}
use Rattle.std.specs.Prelude.{not, ◌&&◌, ◌||◌, ◌==◌, codes, Option, Some, None, if◌then◌else◌}
use Rattle.std.specs.Cmp.Lexicographic.{same_text}
use Rattle.std.specs.List.{list_all}
use Rattle.std.proofs.lemmas.Bool.{and_from, and_parts, eqb-true, false_from_ne_true, not_from_false}
use Rattle.pb_text_meaning.specs.Syntax.{Name, same_name, Variable, Sort, SortDeclaration, Range}
use Rattle.pb_text_meaning.specs.Sorts.{declared, range_of}
use Rattle.pb_model_meaning.specs.Syntax.{Step, Model}
use Rattle.pb_model_translation.specs.Apart.{IsNew, AreApart, AreNew, StepsAreNew}
use Rattle.pb_protocol_packing.specs.Apart.{Each, is_among, AreAllApart, ends_by, ends_within}
use Rattle.pb_protocol_packing.specs.Packable.{IsPackable, all_enumerators, all_variables}
use Rattle.pb_protocol_packing.specs.Apart.{term_count}
use Rattle.pb_protocol_packing.proofs.Lists.{each-at}
use denote.Ref.{Bor}
use Rattle.pb_base.specs.declared.or_memory.OrMemory.{OrMemory}
use Rattle.pb_text_tree.specs.declared.name.Name as declared_name
use Rattle.pb_text_tree.specs.declared.term.Argument.{Argument}
use Rattle.pb_text_tree.specs.Form.{Named, EnumeratorForm, SortForm, struct, alias, SortDeclarationForm, named}
use Rattle.pb_text_meaning.specs.Erase.{erased_declaration, erased_enumerator, erased_sort}
use Rattle.pb_typing_declarations.specs.Declarations.{own_names, variable_names}
use Rattle.pb_typing_declarations.specs.Faults.{IsAmong, repeated}
use Rattle.pb_typing_declarations.specs.WellDeclared as declared_well
use Rattle.pb_typing_declarations.specs.declared.fault.TypingFault.{TypingFault}
use Rattle.pb_typing_declarations.specs.declared.fault.TypingRule.TheVariants.{WrongCount}
use Rattle.pb_typing_declarations.proofs.Exact.{apart}
use Rattle.pb_typing_declarations.proofs.Parts.{among_right, no_parts, no_whole, holds_unless}
use Rattle.pb_model_tree.specs.Form.{StepForm, ModelForm}
use Rattle.pb_model_meaning.specs.Erase.{erase, erased_step}
use Rattle.pb_protocol_typing.specs.View.{names_in}
use Rattle.pb_protocol_packing.specs.Groups.{enumerators_in, name_of}
use Rattle.pb_protocol_packer.specs.View.{terms_of}
use Rattle.pb_protocol_packer.specs.Initial.{names_by}
use Rattle.pb_protocol_groups.specs.Bound.{model_bound_names}
use Rattle.pb_protocol_groups.specs.Checks.{count_faults, chain_faults, listed_faults, names_of_sort, step_own_names, sort_enumerators, state_faults, taken_faults, test_faults, texts}
use Rattle.pb_protocol_groups.proofs.Bound.{names_of_variables, texts-append, variables-of-model, variables-said}

-- ---- what is tested, of names without places

-- no name stands twice
abbrev are_all_apart : List Name → Bool
are_all_apart [] = true
are_all_apart (x ∷ xs) = not (is_among xs x) && are_all_apart xs

-- none of the second names is one of the first
abbrev none_among : List Name → List Name → Bool
none_among xs ys = list_all (λ y. not (is_among xs y)) ys

abbrev own_variable_names : Step → List Name
own_variable_names a = names_of_variables a.variables

-- the chain of aliases from a declared sort has an end
abbrev has_end : Model → SortDeclaration → Bool
has_end m d = ends_within (suc (length m.sorts)) m d.name

record IsTested (m : Model) : Type 0 where
  state : are_all_apart (names_of_variables m.variables) ≡ true
  own : none_among (flat_map own_variable_names m.steps) (names_of_variables m.variables) ≡ true
  enumerators : are_all_apart (all_enumerators m) ≡ true
  variables : none_among (all_enumerators m) (names_of_variables (all_variables m)) ≡ true
  ends : list_all (has_end m) m.sorts ≡ true
  count : term_count m.initial ≡ length m.variables

-- ---- what follows of it

not-true : (b : Bool) → not b ≡ true → b ≡ false
not-true true h = absurd (true≢false (sym h))
not-true false h = refl

all-apart : (xs : List Name) → are_all_apart xs ≡ true → AreAllApart xs
all-apart [] h = tt
all-apart (x ∷ xs) h =
    let both = and_parts (not (is_among xs x)) (are_all_apart xs) h in (not-true (is_among xs x) both.0, all-apart xs both.1)

or-left : (a b : Bool) → (a || b) ≡ false → a ≡ false
or-left true b h = h
or-left false b h = refl

or-right : (a b : Bool) → (a || b) ≡ false → b ≡ false
or-right true b h = absurd (true≢false h)
or-right false b h = h

is-new : (x : Name) (ys : List Variable) → is_among (names_of_variables ys) x ≡ false → IsNew x ys
is-new x [] h = tt
is-new x (y ∷ ys) h =
    (or-left (same_name y.name x) (is_among (names_of_variables ys) x) h, is-new x ys (or-right (same_name y.name x) (is_among (names_of_variables ys) x) h))

are-apart : (xs : List Variable) → are_all_apart (names_of_variables xs) ≡ true → AreApart xs
are-apart [] h = tt
are-apart (x ∷ xs) h =
    let both = and_parts (not (is_among (names_of_variables xs) x.name)) (are_all_apart (names_of_variables xs)) h in
    (is-new x.name xs (not-true (is_among (names_of_variables xs) x.name) both.0), are-apart xs both.1)

among-front : (xs ys : List Name) (x : Name) → is_among (xs ++ ys) x ≡ false → is_among xs x ≡ false
among-front [] ys x h = refl
among-front (z ∷ xs) ys x h = by (same_name z x) (among-front xs ys x) h
  where
    by : (b : Bool) → (is_among (xs ++ ys) x ≡ false → is_among xs x ≡ false) → (b || is_among (xs ++ ys) x) ≡ false → (b || is_among xs x) ≡ false
    by true next e = e
    by false next e = next e

among-rest : (xs ys : List Name) (x : Name) → is_among (xs ++ ys) x ≡ false → is_among ys x ≡ false
among-rest [] ys x h = h
among-rest (z ∷ xs) ys x h = among-rest xs ys x (or-right (same_name z x) (is_among (xs ++ ys) x) h)

none-front : (xs ys zs : List Name) → none_among (xs ++ ys) zs ≡ true → none_among xs zs ≡ true
none-front xs ys [] h = refl
none-front xs ys (z ∷ zs) h =
    let both = and_parts (not (is_among (xs ++ ys) z)) (none_among (xs ++ ys) zs) h in
    ap (λ (b : Bool). not b && none_among xs zs) (among-front xs ys z (not-true (is_among (xs ++ ys) z) both.0)) ∙ none-front xs ys zs both.1

none-rest : (xs ys zs : List Name) → none_among (xs ++ ys) zs ≡ true → none_among ys zs ≡ true
none-rest xs ys [] h = refl
none-rest xs ys (z ∷ zs) h =
    let both = and_parts (not (is_among (xs ++ ys) z)) (none_among (xs ++ ys) zs) h in
    ap (λ (b : Bool). not b && none_among ys zs) (among-rest xs ys z (not-true (is_among (xs ++ ys) z) both.0)) ∙ none-rest xs ys zs both.1

are-new : (xs ys : List Variable) → none_among (names_of_variables ys) (names_of_variables xs) ≡ true → AreNew xs ys
are-new [] ys h = tt
are-new (x ∷ xs) ys h =
    let both = and_parts (not (is_among (names_of_variables ys) x.name)) (none_among (names_of_variables ys) (names_of_variables xs)) h in
    (is-new x.name ys (not-true (is_among (names_of_variables ys) x.name) both.0), are-new xs ys both.1)

steps-new : (xs : List Variable) (ss : List Step) → none_among (flat_map own_variable_names ss) (names_of_variables xs) ≡ true → StepsAreNew xs ss
steps-new xs [] h = tt
steps-new xs (a ∷ ss) h = (
  are-new xs a.variables (none-front (own_variable_names a) (flat_map own_variable_names ss) (names_of_variables xs) h),
  steps-new xs ss
      (none-rest (own_variable_names a) (flat_map own_variable_names ss) (names_of_variables xs) h),
)

-- no variable has one of these names
none-each : (es : List Name) (xs : List Variable) → none_among es (names_of_variables xs) ≡ true → Each (λ (x : Variable). is_among es x.name ≡ false) xs
none-each es [] h = tt
none-each es (x ∷ xs) h =
    let both = and_parts (not (is_among es x.name)) (none_among es (names_of_variables xs)) h in (not-true (is_among es x.name) both.0, none-each es xs both.1)

-- ---- chains

module _ (m : Model) where
  abbrev Ends : Name → Type 0
  Ends s = ends_within (suc (length m.sorts)) m s ≡ true

  each-ends : (ds : List SortDeclaration) → list_all (has_end m) ds ≡ true → Each Ends (map (λ (d : SortDeclaration). d.name) ds)
  each-ends [] h = tt
  each-ends (d ∷ ds) h = let both = and_parts (has_end m d) (list_all (has_end m) ds) h in (both.0, each-ends ds both.1)

  undeclared : (ds : List SortDeclaration) (s : Name) → is_among (map (λ (d : SortDeclaration). d.name) ds) s ≡ false → declared ds s ≡ None
  undeclared [] s h = refl
  undeclared (d ∷ ds) s h = by (same_name d.name s) (undeclared ds s) h
    where
      by : (b : Bool) → (is_among (map (λ (e : SortDeclaration). e.name) ds) s ≡ false → declared ds s ≡ None) → (b || is_among (map (λ (e : SortDeclaration). e.name) ds) s) ≡ false
          → (if b then Some d.sort else declared ds s) ≡ None
      by true next e = absurd (true≢false e)
      by false next e = next e

  none-ends : (r : Option Range) (b : Bool) (target : Name → Bool) → ends_by r b None target ≡ true
  none-ends (Some r) b target = refl
  none-ends None true target = refl
  none-ends None false target = refl

  all-end : list_all (has_end m) m.sorts ≡ true → (s : Name) → Ends s
  all-end h s = by (is_among (map (λ (d : SortDeclaration). d.name) m.sorts) s) refl
    where
      by : (b : Bool) → is_among (map (λ (d : SortDeclaration). d.name) m.sorts) s ≡ b → Ends s
      by true e = each-at Ends (map (λ (d : SortDeclaration). d.name) m.sorts) s e (each-ends m.sorts h)
      by false e =
          ap (λ (o : Option Sort). ends_by (range_of m.ranges s) (same_name s (codes "Bool")) o (ends_within (length m.sorts) m)) (undeclared m.sorts s e)
          ∙ none-ends (range_of m.ranges s) (same_name s (codes "Bool")) (ends_within (length m.sorts) m)

packable : (m : Model) → IsTested m → IsPackable m
packable m h = record {
  names = record { variables = are-apart m.variables h.state; steps = steps-new m.variables m.steps h.own };
  enumerators = all-apart (all_enumerators m) h.enumerators;
  variables = none-each (all_enumerators m) (all_variables m) h.variables;
  chains = all-end m h.ends;
  count = h.count;
}

-- ---- names without faults

none-same : (x : Name) (xs : List Name) → ((k : ℕ) (d : Name) → k < length xs → x ≢ get_or xs k d) → is_among xs x ≡ false
none-same x [] h = refl
none-same x (y ∷ xs) h =
    let other : same_name y x ≡ false = false_from_ne_true (bytes_eq y x) (λ e. h zero y (omega arith) (sym (same_text y x (sym e)))) in
    ap (λ (b : Bool). b || is_among xs x) other ∙ none-same x xs (λ k d below. h (suc k) d (omega (arith, below)))

apart-tested : (xs : List Name) → declared_well.AreApart xs → are_all_apart xs ≡ true
apart-tested [] h = refl
apart-tested (x ∷ xs) h =
    and_from (not (is_among xs x)) (are_all_apart xs)
    (not_from_false (is_among xs x) (none-same x xs (λ k d below. h zero (suc k) d (omega arith) (omega (arith, below)))))
    (apart-tested xs (λ i j d lt below. h (suc i) (suc j) d (omega (arith, lt)) (omega (arith, below))))

none-tested : (taken : List Name) (xs : List Named) → flat_map (taken_faults taken) xs ≡ [] → none_among taken (texts xs) ≡ true
none-tested taken [] e = refl
none-tested taken (x ∷ xs) e =
    let parts = no_parts (taken_faults taken x) (flat_map (taken_faults taken) xs) e in
    and_from (not (is_among taken x.text)) (none_among taken (texts xs)) (holds_unless _ _ _ parts.0) (none-tested taken xs parts.1)

ends-tested : (m : Model) (ds : List SortDeclarationForm) → flat_map (chain_faults m) ds ≡ [] → list_all (has_end m) (map erased_declaration ds) ≡ true
ends-tested m [] e = refl
ends-tested m (d ∷ ds) e =
    let parts = no_parts (chain_faults m d) (flat_map (chain_faults m) ds) e in
    and_from (has_end m (erased_declaration d)) (list_all (has_end m) (map erased_declaration ds)) (holds_unless _ _ _ parts.0) (ends-tested m ds parts.1)

-- ---- what trees say of them

own-said : (ss : List StepForm) → flat_map own_variable_names (map erased_step ss) ≡ texts (flat_map step_own_names ss)
own-said [] = refl
own-said (a ∷ ss) =
    ap (λ (ns : List Name). ns ++ flat_map own_variable_names (map erased_step ss)) (variables-said a.variables)
    ∙ ap (λ (ns : List Name). texts (step_own_names a) ++ ns) (own-said ss) ∙ sym (texts-append (step_own_names a) (flat_map step_own_names ss))

struct-said : (es : List EnumeratorForm) → map name_of (map erased_enumerator es) ≡ texts (own_names es)
struct-said [] = refl
struct-said (e ∷ es) = ap (λ (ns : List Name). e.name.text ∷ ns) (struct-said es)

sort-said : (d : SortDeclarationForm) → enumerators_in (erased_declaration d).sort ≡ texts (sort_enumerators d)
sort-said d = by d.sort
  where
    by : (s : SortForm) → enumerators_in (erased_sort s) ≡ texts (names_of_sort s)
    by (struct es) = struct-said es
    by (alias x) = refl

enumerators-said : (ds : List SortDeclarationForm) → flat_map (λ (d : SortDeclaration). enumerators_in d.sort) (map erased_declaration ds) ≡ texts (flat_map sort_enumerators ds)
enumerators-said [] = refl
enumerators-said (d ∷ ds) =
    ap (λ (ns : List Name). ns ++ flat_map (λ (x : SortDeclaration). enumerators_in x.sort) (map erased_declaration ds)) (sort-said d)
    ∙ ap (λ (ns : List Name). texts (sort_enumerators d) ++ ns) (enumerators-said ds) ∙ sym (texts-append (sort_enumerators d) (flat_map sort_enumerators ds))

-- ---- models without faults

module _ (m : ModelForm) where
  tested : test_faults m ≡ [] → IsTested (erase m)
  tested clear =
      let first = no_parts (state_faults m) _ clear in
      let second = no_parts (listed_faults m) _ first.1 in
      let third = no_parts (flat_map (chain_faults (erase m)) m.sorts) (count_faults m) second.1 in
      let state = no_parts (repeated (variable_names m.variables)) _ first.0 in
      let enumerators = no_parts (repeated (flat_map sort_enumerators m.sorts)) _ second.0 in
      let known = variables-said m.variables in
      let listed = enumerators-said m.sorts in
      record {
        state = ap are_all_apart known ∙ apart-tested (texts (variable_names m.variables)) (apart (variable_names m.variables) state.0);
        own = ap (λ (xs : List Name). none_among xs (names_of_variables (erase m).variables)) (own-said m.steps)
            ∙ ap (none_among (texts (flat_map step_own_names m.steps))) known
            ∙ none-tested (texts (flat_map step_own_names m.steps)) (variable_names m.variables) state.1;
        enumerators = ap are_all_apart listed ∙ apart-tested (texts (flat_map sort_enumerators m.sorts)) (apart (flat_map sort_enumerators m.sorts) enumerators.0);
        variables = ap (λ (xs : List Name). none_among xs (names_of_variables (all_variables (erase m)))) listed
            ∙ ap (none_among (texts (flat_map sort_enumerators m.sorts))) (variables-of-model m)
            ∙ none-tested (texts (flat_map sort_enumerators m.sorts)) (model_bound_names m) enumerators.1;
        ends = ends-tested (erase m) m.sorts third.0;
        count = eqb-true (term_count (erase m).initial) (length (erase m).variables)
            (holds_unless (term_count (erase m).initial == length (erase m).variables) WrongCount m.initial.place third.1);
      }

  pub can-be-packed : test_faults m ≡ [] → IsPackable (erase m)
  can-be-packed clear = packable (erase m) (tested clear)

  -- the last part of the test, behind the others
  pub all-tested : (r : Result (Unit {0}) (OrMemory TypingFault)) → state_faults m ≡ [] → listed_faults m ≡ [] → flat_map (chain_faults (erase m)) m.sorts ≡ []
      → MatchResult r (λ _. count_faults m ≡ []) (IsAmong (count_faults m)) → MatchResult r (λ _. test_faults m ≡ []) (IsAmong (test_faults m))
  all-tested (Ok u) state enumerators ends h = no_whole (state_faults m) _ state (no_whole (listed_faults m) _ enumerators (no_whole (flat_map (chain_faults (erase m)) m.sorts) _ ends h))
  all-tested (Err e) state enumerators ends h =
      among_right (state_faults m) _ e (among_right (listed_faults m) _ e (among_right (flat_map (chain_faults (erase m)) m.sorts) (count_faults m) e h))

  -- as the answer of a test says it
  pub packable-where-passed : (r : Result (Unit {0}) (OrMemory TypingFault)) → MatchResult r (λ _. test_faults m ≡ []) (IsAmong (test_faults m)) → OnOk r (IsPackable (erase m))
  packable-where-passed (Ok u) h = can-be-packed h
  packable-where-passed (Err e) h = tt

-- the last part of a test, behind one that passed
pub last-part : (xs ys : List TypingFault) (r : Result (Unit {0}) (OrMemory TypingFault)) → xs ≡ [] → MatchResult r (λ _. ys ≡ []) (IsAmong ys)
    → MatchResult r (λ _. xs ++ ys ≡ []) (IsAmong (xs ++ ys))
last-part xs ys (Ok u) clear h = no_whole xs ys clear h
last-part xs ys (Err e) clear h = among_right xs ys e h

-- ---- names and counts as the program holds them

pub texts-by : (xs : List (Bor declared_name.Name)) → names_by xs ≡ texts (names_in xs)
texts-by [] = refl
texts-by (x ∷ xs) = ap (λ (ns : List Name). (named x.now).text ∷ ns) (texts-by xs)

pub terms-many : (xs : List Argument) → term_count (terms_of xs) ≡ length xs
terms-many [] = refl
terms-many (a ∷ xs) = ap suc (terms-many xs)
