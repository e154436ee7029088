-- The steps of loops over what is found of properties.
use Rattle.std.proofs.Common.{◌≡◌, ◌∙◌, ◌++◌, ◌+◌, ◌<◌, ℕ, Bool, List, [], ◌∷◌, Option, Some, length, map, drop, get_or, sym, ap, subst, string_bytes}
use Rattle.std.specs.Prelude.{IfOk, Result, Ok, Err, option_map}
use Rattle.std.specs.Result.{IsErrAnd}
use Rattle.std.specs.Option.{option_map_or}
use Rattle.std.specs.List.{All, slice_get}
use Rattle.std.proofs.lemmas.List.{append_assoc, drop-drop, drop_more, map-append}
use Rattle.std.proofs.lemmas.List.Elements.{All-get_or}
use Rattle.std.proofs.lemmas.Option.{slice_get-map, slice_get-get_or}
use Rattle.pb_model_tree.specs.declared.model.Property.{Property}
use Rattle.pb_model_tree.specs.Form.{ModelForm, PropertyForm, property_form}
use Rattle.pb_command_models.specs.declared.finding.PropertyFinding.{PropertyFinding}
use Rattle.pb_command_models.specs.Models.{finding_lines, first_note, found_lines, property_name_at}

-- what holds of all holds of the one at a place
pub at_place : {X : Type 0} (P : X → Type 0) (xs : List X) (k : ℕ) (x d : X) → k < length xs → x ≡ get_or xs k d → All P xs → P x
at_place P xs k x d below is all = subst P (sym is) (All-get_or P xs k d below all)

next_first : {X : Type 0} (xs : List X) (k : ℕ) (x d : X) → k < length xs → x ≡ get_or xs k d → x ∷ drop (k + 1) xs ≡ drop k xs
next_first xs k x d below is = ap (λ y. y ∷ drop (k + 1) xs) is ∙ sym (drop_more xs k d below)

-- one more is pushed, at the place of the next
pub places_step : {X Y : Type 0} (f : X → ℕ) (g : Y → ℕ) (ys : List Y) (k : ℕ) (y d : Y) (xs new : List X) (x : X) → k < length ys → y ≡ get_or ys k d
    → map f xs ++ map g (drop k ys) ≡ map g ys → new ≡ xs ++ x ∷ [] → f x ≡ g y → map f new ++ map g (drop (k + 1) ys) ≡ map g ys
places_step f g ys k y d xs new x below is before pushed same =
    let rest = map g (drop (k + 1) ys) in
    ap (λ zs. map f zs ++ rest) pushed ∙ ap (λ l. l ++ rest) (map-append f xs (x ∷ [])) ∙ append_assoc (map f xs) (f x ∷ []) rest
    ∙ ap (λ z. map f xs ++ z ∷ rest) same ∙ ap (λ zs. map f xs ++ map g zs) (next_first ys k y d below is) ∙ before

-- the lines of one more finding, and the further line there
pub lines_step : (counts : Bool) (model : ModelForm) (ns : List (List ℕ)) (fs : List PropertyFinding) (k : ℕ) (f d : PropertyFinding) (old mid new whole : List ℕ) → k < length fs
    → f ≡ get_or fs k d → mid ≡ old ++ finding_lines counts (property_name_at model f.place) f.finding → new ≡ mid ++ first_note (drop k ns)
    → old ++ found_lines counts model (drop k ns) (drop k fs) ≡ whole
    → new ++ found_lines counts model (drop (k + 1) ns) (drop (k + 1) fs) ≡ whole
lines_step counts model ns fs k f d old mid new whole below is pushed noted before =
    let n = first_note (drop k ns) in
    let line = finding_lines counts (property_name_at model f.place) f.finding in
    let rest = found_lines counts model (drop (k + 1) ns) (drop (k + 1) fs) in
    ap (λ l. l ++ rest) (noted ∙ ap (λ l. l ++ n) pushed)
    ∙ (append_assoc (old ++ line) n rest
    ∙ (append_assoc old line (n ++ rest)
    ∙ (ap (λ (ms : List (List ℕ)). old ++ (line ++ (n ++ found_lines counts model ms (drop (k + 1) fs)))) (sym (drop-drop 1 k ns))
    ∙ (ap (λ gs. old ++ found_lines counts model (drop k ns) gs) (next_first fs k f d below is) ∙ before))))

-- the name at a place is that of the property there
pub name_there : (model : ModelForm) (ps : List Property) (k : ℕ) (p d : Property) → model.properties ≡ map property_form ps → k < length ps → p ≡ get_or ps k d
    → property_name_at model k ≡ string_bytes p.name.text
name_there model ps k p d same below is =
    let name = λ (o : Option PropertyForm). option_map_or (λ (q : PropertyForm). q.name.text) o [] in
    ap (λ (qs : List PropertyForm). name (slice_get qs k)) same
    ∙ ap name (slice_get-map property_form ps k ∙ ap (option_map property_form) (slice_get-get_or ps k d below ∙ ap Some (sym is)))

-- ---- what is written

-- there is no status where there is an error
pub no_status : {T E : Type 0} (P : T → Type 0) (Q : E → Type 0) (r : Result T E) → IsErrAnd r Q → IfOk r P
no_status P Q (Ok v) made = absurd made
no_status P Q (Err e) made = tt
