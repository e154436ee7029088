-- Enumerators and recognisers in one table: where no name stands twice, each is found by its name.
use Rattle.std.proofs.Common.{◌≡◌, ℕ, suc, Bool, true, false, cond, not, ◌||◌, List, [], ◌∷◌, ◌++◌, length, refl, sym, ◌∙◌, ap, true≢false}
use Rattle.std.specs.Prelude.{Option, Some, None}
use Rattle.std.specs.Cmp.Lexicographic.{same_text}
use Rattle.std.proofs.lemmas.Bool.{not-true, or_right}
use Rattle.pb_text_meaning.specs.Syntax.{Name, same_name, Enumerator, Sort, Struct, Alias, SortDeclaration}
use Rattle.pb_typing_declarations.specs.declared.entry.Entry.{Entry}
use Rattle.pb_typing_declarations.specs.declared.definition.DataName.{DataName}
use Rattle.pb_typing_declarations.specs.declared.definition.DataName.TheVariants as data_name
use Rattle.pb_typing_declarations.specs.declared.fault.TypingRule.TheVariants.{NameTwice}
use Rattle.pb_typing_declarations.specs.Faults.{unless, is_among, repeated_after, repeated}
use Rattle.pb_typing_declarations.specs.Shapes.{first, number_behind}
use Rattle.pb_typing_declarations.specs.Enumerators.{Position, positioned, enumerators_from, enumerators_in, all_enumerators, recogniser_entry, recognisers_from, recognisers_in, all_recognisers}
use Rattle.pb_typing_declarations.specs.Tables.{entry_names, entry_values}
use Rattle.pb_typing_declarations.specs.Entries.{data_of_recogniser, data_from, data_in, all_data, as_enumerator, as_recogniser}
use Rattle.pb_typing_declarations.proofs.Parts.{no_parts, holds_unless}

abbrev Values : Type 0
Values = List (Name × DataName)

-- the enumerators of a list, and its recognisers
abbrev one_enumerator : Name → DataName → List (Name × Position)
one_enumerator x (data_name.Enumerator p) = (x, p) ∷ []
one_enumerator x (data_name.Recogniser p) = []

abbrev only_enumerators : Values → List (Name × Position)
only_enumerators [] = []
only_enumerators ((x, v) ∷ vs) = one_enumerator x v ++ only_enumerators vs

abbrev one_recogniser : Name → DataName → List (Name × Position)
one_recogniser x (data_name.Enumerator p) = []
one_recogniser x (data_name.Recogniser p) = (x, p) ∷ []

abbrev only_recognisers : Values → List (Name × Position)
only_recognisers [] = []
only_recognisers ((x, v) ∷ vs) = one_recogniser x v ++ only_recognisers vs

-- ---- names that were declared before are not found behind

abbrev Apart : List Name → List (Entry DataName) → Type 0
Apart before es = repeated_after before (entry_names es) ≡ []

new_name : (before : List Name) (e : Entry DataName) (es : List (Entry DataName)) → Apart before (e ∷ es) → is_among before e.name.now ≡ false
new_name before e es h = not-true _ (holds_unless _ _ _ (no_parts (unless (not (is_among before e.name.now)) NameTwice e.place) _ h).0)

behind : (before : List Name) (e : Entry DataName) (es : List (Entry DataName)) → Apart before (e ∷ es) → Apart (e.name.now ∷ before) es
behind before e es h = (no_parts (unless (not (is_among before e.name.now)) NameTwice e.place) _ h).1

not_found : (before : List Name) (es : List (Entry DataName)) (x : Name) → Apart before es → is_among before x ≡ true → first (entry_values es) x ≡ None
not_found before [] x h seen = refl
not_found before (e ∷ es) x h seen =
    by_test (same_name e.name.now x) refl (not_found (e.name.now ∷ before) es x (behind before e es h) (or_right (same_name e.name.now x) (is_among before x) seen))
  where
    by_test : (b : Bool) → same_name e.name.now x ≡ b → first (entry_values es) x ≡ None → (cond b (Some e.value) (first (entry_values es) x)) ≡ None
    by_test true same rest = absurd (true≢false (sym seen ∙ (ap (is_among before) (sym (same_text e.name.now x (sym same))) ∙ new_name before e es h)))
    by_test false other rest = rest

first_is_among : (before : List Name) (y x : Name) → same_name y x ≡ true → is_among (y ∷ before) x ≡ true
first_is_among before y x same = ap (λ b. b || is_among before x) same

pub enumerator_found : (before : List Name) (es : List (Entry DataName)) (x : Name) → Apart before es → as_enumerator (first (entry_values es) x) ≡ first (only_enumerators (entry_values es)) x
enumerator_found before [] x h = refl
enumerator_found before (e ∷ es) x h = by_value e.value (same_name e.name.now x) refl (enumerator_found (e.name.now ∷ before) es x (behind before e es h))
  where
    by_value : (v : DataName) (b : Bool) → same_name e.name.now x ≡ b → as_enumerator (first (entry_values es) x) ≡ first (only_enumerators (entry_values es)) x
        → as_enumerator (cond b (Some v) (first (entry_values es) x)) ≡ first (one_enumerator e.name.now v ++ only_enumerators (entry_values es)) x
    by_value (data_name.Enumerator p) true same rest = sym (ap (λ b. cond b (Some p) (first (only_enumerators (entry_values es)) x)) same)
    by_value (data_name.Enumerator p) false other rest = rest ∙ sym (ap (λ b. cond b (Some p) (first (only_enumerators (entry_values es)) x)) other)
    by_value (data_name.Recogniser p) true same rest = ap as_enumerator (sym (not_found (e.name.now ∷ before) es x (behind before e es h) (first_is_among before e.name.now x same))) ∙ rest
    by_value (data_name.Recogniser p) false other rest = rest

pub recogniser_found : (before : List Name) (es : List (Entry DataName)) (x : Name) → Apart before es → as_recogniser (first (entry_values es) x) ≡ first (only_recognisers (entry_values es)) x
recogniser_found before [] x h = refl
recogniser_found before (e ∷ es) x h = by_value e.value (same_name e.name.now x) refl (recogniser_found (e.name.now ∷ before) es x (behind before e es h))
  where
    by_value : (v : DataName) (b : Bool) → same_name e.name.now x ≡ b → as_recogniser (first (entry_values es) x) ≡ first (only_recognisers (entry_values es)) x
        → as_recogniser (cond b (Some v) (first (entry_values es) x)) ≡ first (one_recogniser e.name.now v ++ only_recognisers (entry_values es)) x
    by_value (data_name.Recogniser p) true same rest = sym (ap (λ b. cond b (Some p) (first (only_recognisers (entry_values es)) x)) same)
    by_value (data_name.Recogniser p) false other rest = rest ∙ sym (ap (λ b. cond b (Some p) (first (only_recognisers (entry_values es)) x)) other)
    by_value (data_name.Enumerator p) true same rest = ap as_recogniser (sym (not_found (e.name.now ∷ before) es x (behind before e es h) (first_is_among before e.name.now x same))) ∙ rest
    by_value (data_name.Enumerator p) false other rest = rest

-- ---- of all data

enumerators-append : (us vs : Values) → only_enumerators (us ++ vs) ≡ only_enumerators us ++ only_enumerators vs
enumerators-append [] vs = refl
enumerators-append ((x, data_name.Enumerator p) ∷ us) vs = ap (λ es. (x, p) ∷ es) (enumerators-append us vs)
enumerators-append ((x, data_name.Recogniser p) ∷ us) vs = enumerators-append us vs

recognisers-append : (us vs : Values) → only_recognisers (us ++ vs) ≡ only_recognisers us ++ only_recognisers vs
recognisers-append [] vs = refl
recognisers-append ((x, data_name.Recogniser p) ∷ us) vs = ap (λ es. (x, p) ∷ es) (recognisers-append us vs)
recognisers-append ((x, data_name.Enumerator p) ∷ us) vs = recognisers-append us vs

enumerators-data_from : (s c n : ℕ) (es : List Enumerator) → only_enumerators (data_from s c n es) ≡ enumerators_from s c n es
enumerators-data_from s c n [] = refl
enumerators-data_from s c n (e ∷ es) = ap (λ v. (e.name, positioned s c n) ∷ v) (no_more e.recogniser ∙ enumerators-data_from s c (suc n) es)
  where
    no_more : (o : Option Name) → only_enumerators (data_of_recogniser (positioned s c n) o ++ data_from s c (suc n) es) ≡ only_enumerators (data_from s c (suc n) es)
    no_more None = refl
    no_more (Some x) = refl

recognisers-data_from : (s c n : ℕ) (es : List Enumerator) → only_recognisers (data_from s c n es) ≡ recognisers_from s c n es
recognisers-data_from s c n [] = refl
recognisers-data_from s c n (e ∷ es) = one_more e.recogniser ∙ ap (λ v. recogniser_entry e.recogniser (positioned s c n) ++ v) (recognisers-data_from s c (suc n) es)
  where
    one_more : (o : Option Name)
        → only_recognisers (data_of_recogniser (positioned s c n) o ++ data_from s c (suc n) es)
        ≡ recogniser_entry o (positioned s c n) ++ only_recognisers (data_from s c (suc n) es)
    one_more None = refl
    one_more (Some x) = refl

enumerators-data_in : (n : ℕ) (s : Sort) → only_enumerators (data_in n s) ≡ enumerators_in n s
enumerators-data_in n (Struct es) = enumerators-data_from n (length es) 0 es
enumerators-data_in n (Alias t) = refl

recognisers-data_in : (n : ℕ) (s : Sort) → only_recognisers (data_in n s) ≡ recognisers_in n s
recognisers-data_in n (Struct es) = recognisers-data_from n (length es) 0 es
recognisers-data_in n (Alias t) = refl

pub enumerators-all_data : (n : ℕ) (ds : List SortDeclaration) → only_enumerators (all_data n ds) ≡ all_enumerators n ds
enumerators-all_data n [] = refl
enumerators-all_data n (d ∷ ds) =
    enumerators-append (data_in n d.sort) (all_data (number_behind n d.sort) ds)
    ∙ (ap (λ v. v ++ only_enumerators (all_data (number_behind n d.sort) ds)) (enumerators-data_in n d.sort)
    ∙ ap (λ v. enumerators_in n d.sort ++ v) (enumerators-all_data (number_behind n d.sort) ds))

pub recognisers-all_data : (n : ℕ) (ds : List SortDeclaration) → only_recognisers (all_data n ds) ≡ all_recognisers n ds
recognisers-all_data n [] = refl
recognisers-all_data n (d ∷ ds) =
    recognisers-append (data_in n d.sort) (all_data (number_behind n d.sort) ds)
    ∙ (ap (λ v. v ++ only_recognisers (all_data (number_behind n d.sort) ds)) (recognisers-data_in n d.sort)
    ∙ ap (λ v. recognisers_in n d.sort ++ v) (recognisers-all_data (number_behind n d.sort) ds))

-- ---- in the table's words: its look-up is that of the entries

module _ (es : List (Entry DataName)) (ds : List SortDeclaration) (look : Name → Option DataName) (apart : repeated (entry_names es) ≡ [])
    (is : (x : Name) → look x ≡ first (entry_values es) x) (are : entry_values es ≡ all_data 0 ds) where
  pub enumerators_agree : (x : Name) → as_enumerator (look x) ≡ first (all_enumerators 0 ds) x
  enumerators_agree x =
      ap as_enumerator (is x) ∙ (enumerator_found [] es x apart ∙ (ap (λ v. first (only_enumerators v) x) are ∙ ap (λ v. first v x) (enumerators-all_data 0 ds)))

  pub recognisers_agree : (x : Name) → as_recogniser (look x) ≡ first (all_recognisers 0 ds) x
  recognisers_agree x =
      ap as_recogniser (is x) ∙ (recogniser_found [] es x apart ∙ (ap (λ v. first (only_recognisers v) x) are ∙ ap (λ v. first v x) (recognisers-all_data 0 ds)))
