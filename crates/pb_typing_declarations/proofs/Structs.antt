-- The faults and the entries of sorts, sort by sort.
use Rattle.std.proofs.Common.{◌≡◌, ℕ, zero, suc, ◌+◌, ◌<◌, ◌≤◌, Bool, true, false, refl, List, [], ◌∷◌, ◌++◌, length, get_or, drop, map, sym, ◌∙◌, ap, subst, arith, rules, tests, Vec, Global}
use Rattle.std.specs.Prelude.{flat_map, nat_lt}
use Rattle.std.proofs.lemmas.List.{map-append, length-map}
use Rattle.pb_base.specs.declared.limits.TheConstants.{MAX_STRUCTS, MAX_ENUMERATORS}
use Rattle.pb_sorts.proofs.Places.{drop-at}
use Rattle.pb_text_tree.specs.declared.place.Place.{Place}
use Rattle.pb_text_tree.specs.declared.sort.Enumerator as ast
use Rattle.pb_text_tree.specs.declared.sort.Sort as sort
use Rattle.pb_text_tree.specs.declared.sort.Sort.TheVariants as sorts
use Rattle.pb_text_tree.specs.declared.sort.SortDeclaration.{SortDeclaration}
use Rattle.pb_text_tree.specs.Form.{SortForm, struct, alias, enumerator_form, sort_form, sort_declaration_form}
use Rattle.pb_text_meaning.specs.Syntax.{Name}
use Rattle.pb_text_meaning.specs.Erase.{erased_sort}
use Rattle.pb_typing_declarations.specs.declared.entry.Entry.{Entry}
use Rattle.pb_typing_declarations.specs.declared.definition.Definition as declared
use Rattle.pb_typing_declarations.specs.declared.fault.TypingRule.TheVariants.{Limit}
use Rattle.pb_typing_declarations.specs.declared.fault.TypingFault.{TypingFault}
use Rattle.pb_base.specs.declared.or_memory.OrMemory.{OrMemory}
use Rattle.pb_typing_declarations.specs.Faults.{unless, IsAmong}
use Rattle.pb_typing_declarations.specs.Shapes.{definition_of, number_behind}
use Rattle.pb_typing_declarations.specs.Tables.{entry_names, entry_values}
use Rattle.pb_typing_declarations.specs.Entries.{shown, struct_count, shown_entries}
use Rattle.pb_typing_declarations.specs.Declarations.{stays_within, limit_faults, own_names, struct_faults, structs_faults, enumerator_faults}
use Rattle.pb_typing_declarations.proofs.Parts.{among_left, among_right, no_parts, holds_unless}
use Rattle.pb_typing_declarations.proofs.Passing.{one_more_stays}
use Rattle.pb_typing_declarations.proofs.Loops.{one_more, more}

abbrev pub struct_parts : ℕ → Place → ℕ → List TypingFault → List TypingFault → List TypingFault
struct_parts n place count few rest = unless (nat_lt n MAX_STRUCTS) Limit place ++ (unless (nat_lt 0 count) Limit place ++ (few ++ rest))

abbrev pub count_faults : List ast.Enumerator → List TypingFault
count_faults es = limit_faults MAX_ENUMERATORS (own_names (map enumerator_form es))

-- a struct with so many enumerators, which are these, behind n others: its faults in the code's words
pub record IsStruct (n : ℕ) (place : Place) (s : sort.Sort) (count : ℕ) (es : List ast.Enumerator) : Type 0 where
  pub parts : struct_faults n place (sort_form s) ≡ struct_parts n place count (count_faults es) (flat_map enumerator_faults (map enumerator_form es))

pub struct_read : (n : ℕ) (place : Place) (s : sort.Sort) (es : Vec ast.Enumerator Global) (count : ℕ) → n ≤ MAX_STRUCTS → s ≡ sorts.Struct es → count ≡ length es.items
    → IsStruct n place s count es.items
struct_read n place s es count low is are = record {
  parts =
      ap (λ (t : sort.Sort). struct_faults n place (sort_form t)) is
      ∙ (ap (λ (b : Bool). unless b Limit place
      ++ (unless (nat_lt 0 (length (map enumerator_form es.items))) Limit place
      ++ (count_faults es.items ++ flat_map enumerator_faults (map enumerator_form es.items)))) (one_more_stays MAX_STRUCTS n low)
      ∙ ap (λ (k : ℕ). struct_parts n place k (count_faults es.items) (flat_map enumerator_faults (map enumerator_form es.items))) (length-map es.items enumerator_form ∙ sym are));
}

-- a fault that is found in a part
module _ {n : ℕ} {place : Place} {s : sort.Sort} {count : ℕ} {es : List ast.Enumerator} (read : IsStruct n place s count es) (e : OrMemory TypingFault) where
  in_parts : IsAmong (struct_parts n place count (count_faults es) (flat_map enumerator_faults (map enumerator_form es))) e → IsAmong (struct_faults n place (sort_form s)) e
  in_parts h = subst (λ (zs : List TypingFault). IsAmong zs e) (sym read.parts) h

  pub in_count : IsAmong (unless (nat_lt 0 count) Limit place) e → IsAmong (struct_faults n place (sort_form s)) e
  in_count h = in_parts (among_right (unless (nat_lt n MAX_STRUCTS) Limit place) _ e (among_left (unless (nat_lt 0 count) Limit place) _ e h))

  behind_count : IsAmong (count_faults es ++ flat_map enumerator_faults (map enumerator_form es)) e → IsAmong (struct_faults n place (sort_form s)) e
  behind_count h = in_parts (among_right (unless (nat_lt n MAX_STRUCTS) Limit place) _ e (among_right (unless (nat_lt 0 count) Limit place) _ e h))

  pub in_limit : {fs : List ast.Enumerator} → fs ≡ es → IsAmong (count_faults fs) e → IsAmong (struct_faults n place (sort_form s)) e
  in_limit same h = behind_count (among_left (count_faults es) _ e (subst (λ (gs : List ast.Enumerator). IsAmong (count_faults gs) e) same h))

  pub in_enumerators : {fs : List ast.Enumerator} → fs ≡ es → IsAmong (flat_map enumerator_faults (map enumerator_form fs)) e → IsAmong (struct_faults n place (sort_form s)) e
  in_enumerators same h = behind_count (among_right (count_faults es) _ e (subst (λ (gs : List ast.Enumerator). IsAmong (flat_map enumerator_faults (map enumerator_form gs)) e) same h))

-- the fault of the enumerator that passes the limit
pub count_at : (es : List ast.Enumerator) (limit : ℕ) (e : ast.Enumerator) → limit < length es → e ≡ get_or es limit e
    → limit_faults limit (own_names (map enumerator_form es)) ≡ unless false Limit e.name.place
count_at [] limit e below at = absurd (omega (arith, below))
count_at (f ∷ es) zero e below at = ap (λ (g : ast.Enumerator). unless false Limit g.name.place) (sym at)
count_at (f ∷ es) (suc limit) e below at = count_at es limit e (omega (arith, below)) at

-- and none where so many are enough
pub count_clear : (es : List ast.Enumerator) (limit : ℕ) → length es ≤ limit → limit_faults limit (own_names (map enumerator_form es)) ≡ []
count_clear [] limit few = refl
count_clear (e ∷ es) zero few = absurd (omega (arith, few))
count_clear (e ∷ es) (suc limit) few = count_clear es limit (omega (arith, few))

-- the number of the next struct
pub number_after : (n : ℕ) (d : SortForm) (definition : declared.Definition)
    → shown definition ≡ definition_of n (erased_sort d) → n + struct_count (shown definition) ≡ number_behind n (erased_sort d)
number_after n (struct es) definition is = ap (λ v. n + struct_count v) is ∙ omega arith
number_after n (alias t) definition is = ap (λ v. n + struct_count v) is ∙ omega arith

below_limit : (n : ℕ) → nat_lt n MAX_STRUCTS ≡ true → suc n ≤ MAX_STRUCTS
below_limit n e = search (rules, tests)

pub few_after : (n : ℕ) (place : Place) (d : SortForm) → n ≤ MAX_STRUCTS → struct_faults n place d ≡ [] → number_behind n (erased_sort d) ≤ MAX_STRUCTS
few_after n place (struct es) h e =
    below_limit n (sym (one_more_stays MAX_STRUCTS n h) ∙ holds_unless _ _ _ (no_parts (unless (stays_within MAX_STRUCTS n (suc n)) Limit place) _ e).0)
few_after n place (alias t) h e = h

-- the faults from the sort at k on
pub faults_next : (ds : List SortDeclaration) (k n : ℕ) (d : SortDeclaration) → k < length ds → d ≡ get_or ds k d
    → structs_faults n (map sort_declaration_form (drop k ds))
    ≡ struct_faults n d.name.place (sort_form d.sort)
    ++ structs_faults (number_behind n (erased_sort (sort_form d.sort))) (map sort_declaration_form (drop (k + 1) ds))
faults_next ds k n d below at = ap (λ (xs : List SortDeclaration). structs_faults n (map sort_declaration_form xs)) (drop-at ds k d below at)

-- ---- entries

module _ {V : Type 0} where
  pub names-pushed : (old new : List (Entry V)) (e : Entry V) → new ≡ old ++ (e ∷ []) → entry_names new ≡ entry_names old ++ (record { place = e.place; text = e.name.now } ∷ [])
  names-pushed old new e is = ap entry_names is ∙ map-append (λ (f : Entry V). record { place = f.place; text = f.name.now }) old (e ∷ [])

  pub values-pushed : (old new : List (Entry V)) (e : Entry V) → new ≡ old ++ (e ∷ []) → entry_values new ≡ entry_values old ++ ((e.name.now, e.value) ∷ [])
  values-pushed old new e is = ap entry_values is ∙ map-append (λ (f : Entry V). (f.name.now, f.value)) old (e ∷ [])

-- what is to come once the next is there
pub grown : {X : Type 0} (all old new z : List X) (x : X) → all ≡ old ++ (x ∷ z) → new ≡ old ++ (x ∷ []) → all ≡ new ++ z
grown all old new z x is put = is ∙ (one_more old x z ∙ ap (λ xs. xs ++ z) (sym put))

pub grown_by : {X : Type 0} (all old new b z : List X) → all ≡ old ++ (b ++ z) → new ≡ old ++ b → all ≡ new ++ z
grown_by all old new b z is put = is ∙ (more old b z ∙ ap (λ xs. xs ++ z) (sym put))

pub shown-pushed : (old new : List (Entry declared.Definition)) (e : Entry declared.Definition) → new ≡ old ++ (e ∷ [])
    → shown_entries (entry_values new) ≡ shown_entries (entry_values old) ++ ((e.name.now, shown e.value) ∷ [])
shown-pushed old new e is = ap shown_entries (values-pushed old new e is) ∙ map-append (λ (f : Name × declared.Definition). (f.0, shown f.1)) (entry_values old) ((e.name.now, e.value) ∷ [])

pub pair_path : {A B : Type 0} {a b : A} {x y : B} → a ≡ b → x ≡ y → (let p : A × B = (a, x) in p) ≡ (let q : A × B = (b, y) in q)
pair_path {A} {B} {a} {b} {x} {y} e f = ap (λ (u : A). let p : A × B = (u, x) in p) e ∙ ap (λ (v : B). let p : A × B = (b, v) in p) f
