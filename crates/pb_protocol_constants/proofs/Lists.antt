-- Constants beside the places of their values, and parts of lists.
use Rattle.std.proofs.Common.{◌≡◌, ◌≤◌, ◌<◌, ◌+◌, ◌∙◌, ℕ, refl, sym, ap, subst, arith, List, [], ◌∷◌, ◌++◌, length, get_or, map, drop, take, min, ◌-◌}
use Rattle.std.specs.Prelude.{Contains, All, Some}
use Rattle.std.specs.List.{slice_get}
use Rattle.std.proofs.lemmas.List.{drop_all, length-append, map_push, take_at}
use Rattle.std.proofs.lemmas.List.Elements.{All-nil, All-cons, All-push, All-same}
use Rattle.std.proofs.lemmas.Option.{slice_get-get_or, slice_get_within, get_or_from_slice_get}
use Rattle.pb_sorts.proofs.Places.{drop-at, slice_get-mapped}
use Rattle.pb_text_tree.specs.declared.place.Place.{Place}
use Rattle.pb_protocol_tree.specs.declared.protocol.Definition.{Definition}
use Rattle.pb_protocol_tree.specs.Form.{ConstantForm, DefinitionForm, ProtocolForm, definition_form}
use Rattle.pb_protocol_constants.specs.Settled.{definition_of_constant, place_of_constant, settled_by, settled_constant, HasNumber, HaveNumbersBy}

-- ---- what stands at a place

pub at-place : {X Y : Type 0} (f : X → Y) (xs : List X) (k : ℕ) (x : X) → k < length xs → x ≡ get_or xs k x → slice_get (map f xs) k ≡ Some (f x)
at-place f xs k x below is = slice_get-mapped f xs k x (slice_get-get_or xs k x below ∙ ap Some (sym is))

pub is-among : {X Y : Type 0} (f : X → Y) (xs : List X) (k : ℕ) (x : X) → k < length xs → x ≡ get_or xs k x → Contains (map f xs) (f x)
is-among f xs k x below is =
    let at = at-place f xs k x below is in
    (k, slice_get_within (map f xs) k (f x) at, get_or_from_slice_get (map f xs) k (f x) (f x) at)

-- one more of what holds of all
pub all-more : {X Y : Type 0} (P : Y → Type 0) (f : X → Y) (xs : List X) (x : X) → All P (map f xs) → P (f x) → All P (map f (xs ++ x ∷ []))
all-more P f xs x all one = All-same P (map f (xs ++ x ∷ [])) (map f xs ++ f x ∷ []) (map_push f xs x) (All-push P (map f xs) (f x) all one)

-- what is left where the last is taken off that was put behind all
pub popped : {X : Type 0} (xs ys zs : List X) (x : X) (n : ℕ) → ys ≡ xs ++ x ∷ [] → zs ≡ take (n - 1) ys → n ≡ length ys → zs ≡ xs
popped xs ys zs x n is taken long =
    taken ∙ (ap (take (n - 1)) is ∙ take_at xs (x ∷ []) (n - 1) (omega (arith, long, ap length is, length-append xs (x ∷ []))))

-- ---- constants and places side by side

module _ (m : ProtocolForm) where
  none-left : (ds : List DefinitionForm) → settled_by m ds [] ≡ []
  none-left [] = refl
  none-left (d ∷ ds) = refl

  -- those that are left
  abbrev pub left : List Definition → List Place → ℕ → List DefinitionForm
  left ds ps k = settled_by m (map definition_form (drop k ds)) (drop k ps)

  pub one-less : (ds : List Definition) (ps : List Place) (k : ℕ) (d : Definition) (p : Place) → k < length ds → k < length ps → d ≡ get_or ds k d → p ≡ get_or ps k p
      → left ds ps k ≡ settled_constant m p (definition_form d) ∷ left ds ps (k + 1)
  one-less ds ps k d p in-ds in-ps d-is p-is =
      ap (λ (xs : List Definition). settled_by m (map definition_form xs) (drop k ps)) (drop-at ds k d in-ds d-is)
      ∙ ap (λ (qs : List Place). settled_by m (definition_form d ∷ map definition_form (drop (k + 1) ds)) qs) (drop-at ps k p in-ps p-is)

  pub one-number-less : (ds : List Definition) (ps : List Place) (k : ℕ) (d : Definition) (p : Place) → k < length ds → k < length ps → d ≡ get_or ds k d → p ≡ get_or ps k p
      → HasNumber m (definition_form d).term → HaveNumbersBy m (map definition_form (drop (k + 1) ds)) (drop (k + 1) ps)
      → HaveNumbersBy m (map definition_form (drop k ds)) (drop k ps)
  one-number-less ds ps k d p in-ds in-ps d-is p-is one others =
      subst (λ (xs : List Definition). HaveNumbersBy m (map definition_form xs) (drop k ps)) (sym (drop-at ds k d in-ds d-is))
      (subst (λ (qs : List Place). HaveNumbersBy m (definition_form d ∷ map definition_form (drop (k + 1) ds)) qs) (sym (drop-at ps k p in-ps p-is)) (one, others))

  ds-end : (ds : List Definition) (ps : List Place) (k : ℕ) → length ds ≤ k → left ds ps k ≡ []
  ds-end ds ps k h = ap (λ (xs : List Definition). settled_by m (map definition_form xs) (drop k ps)) (drop_all k ds h)

  ps-end : (ds : List Definition) (ps : List Place) (k : ℕ) → length ps ≤ k → left ds ps k ≡ []
  ps-end ds ps k h = ap (λ (qs : List Place). settled_by m (map definition_form (drop k ds)) qs) (drop_all k ps h) ∙ none-left (map definition_form (drop k ds))

  -- where the shorter of both ends nothing is left
  pub none-is-left : (ds : List Definition) (ps : List Place) (k : ℕ) → min (length ds) (length ps) ≤ k → left ds ps k ≡ []
  none-is-left ds ps k h = grind (arith, ds-end ds ps k, ps-end ds ps k)

  pub no-number-left : (ds : List DefinitionForm) (ps : List Place) → settled_by m ds ps ≡ [] → HaveNumbersBy m ds ps
  no-number-left [] ps e = tt
  no-number-left (d ∷ ds) [] e = tt
  no-number-left (d ∷ ds) (p ∷ ps) e = absurd (cc e)

  -- those of all constants
  pub all-numbers : (cs : List ConstantForm) → HaveNumbersBy m (map definition_of_constant cs) (map place_of_constant cs) → All (λ (c : ConstantForm). HasNumber m c.value) cs
  all-numbers [] h = All-nil (λ (c : ConstantForm). HasNumber m c.value)
  all-numbers (c ∷ cs) h = All-cons (λ (c : ConstantForm). HasNumber m c.value) c cs h.0 (all-numbers cs h.1)
