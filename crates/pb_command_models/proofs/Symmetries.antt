-- What symmetry shows of properties, one by one.
use Rattle.std.proofs.Common.{◌≡◌, ◌∙◌, ◌++◌, ◌+◌, ◌<◌, ◌≤◌, ℕ, true, false, Bool, List, [], ◌∷◌, Option, Some, None, length, drop, get_or, map, refl, sym, ap, subst, string_bytes}
use Rattle.std.specs.Prelude.{String, IfSome, unwrap_or}
use Rattle.pb_base_values.specs.Carrier.{Carrier}
use Rattle.pb_text_meaning.specs.Syntax.{Name}
use Rattle.pb_protocol_tree.specs.declared.protocol.Protocol.{Protocol}
use Rattle.std.specs.List.{slice_get}
use Rattle.std.proofs.lemmas.List.{append_assoc, append-nil, drop_all, drop_more, map-append}
use Rattle.std.specs.declared.alloc.Global.{Global}
use Rattle.pb_bytecode.specs.Contents.{Contents}
use Rattle.pb_model_tree.specs.Form.{ModelForm, PropertyForm}
use Rattle.pb_protocol_tree.specs.Form as protocol_form
use Rattle.pb_protocol_tree.specs.Form.{ProtocolForm}
use Rattle.pb_protocol_meaning.specs.Erase.{erase}
use Rattle.pb_protocol_symmetry.specs.ProtocolTest.{is_symmetric}
use Rattle.pb_model_properties.specs.Joint.{IsSatisfiedAt}
use Rattle.pb_model_properties.specs.Said.{tree_satisfies, IsModelFor}
use Rattle.pb_property_symmetry.specs.declared.permutable.Permutable.{Permutable}
use Rattle.pb_property_symmetry.specs.Truth.{IsTruthByExchanges, TruthsByExchangesAreAnswers}
use Rattle.pb_command_models.specs.declared.property_module.AskedModule.{AskedModule}
use Rattle.pb_command_models.specs.declared.property_module.PropertyModule.TheVariants as property_module
use Rattle.pb_command_models.specs.Outcomes.{IsModuleAt, IsPropertyModule}
use Rattle.pb_command_models.specs.Symmetries.{AreLinesAt, HasSymmetryLine, IsPermutableAt}
use Rattle.pb_command_models.proofs.Decisions.{same_at}

-- what holds of the parts of a set holds of what they are
pub of_set : (F : Protocol → Name → Carrier → Type 0) (a b : Protocol) (x y : Name) (M N : Carrier) → a ≡ b → x ≡ y → M ≡ N → F a x M → F b y N
of_set F a b x y M N p q r h = subst (λ (m : Protocol). F m y N) p (subst (λ (s : Name). F a s N) q (subst (F a x) r h))

pub some_true : (P : Bool → Type 0) (o : Option Bool) → IfSome o P → unwrap_or o false ≡ true → P true
some_true P (Some true) h holds = h
some_true P (Some false) h holds = absurd (cc holds)
some_true P None h holds = absurd (cc holds)

-- ---- a property of which elements may be permuted

module _ (protocol : ProtocolForm) (model : ModelForm) (is_for : IsModelFor protocol model) (place : ℕ) (x : Permutable) (permutable : IsPermutableAt protocol place x)
    (made : AskedModule) (same : made.place ≡ place) (there : IsModuleAt model made) where
  -- it is one of the protocol's
  in_protocol : (p : protocol_form.PropertyForm) × (slice_get protocol.properties place ≡ Some p)
  in_protocol =
      let at = subst (λ (k : ℕ). slice_get model.properties k ≡ Some there.property) same there.stands in
      let found = same_at protocol model protocol.properties model.properties place there.property is_for.solved.properties at in
      (found.0, found.1)

  pub symmetric_there : is_symmetric (erase protocol) x.sort.now x.elements.items ≡ true
  symmetric_there = (permutable in_protocol.0 in_protocol.1).same.symmetric

  -- the truth of its module by exchanges is its own
  pub satisfied_there : (m : Contents) → made.compiled ≡ property_module.Verified m → TruthsByExchangesAreAnswers → (truth : Bool)
      → IsTruthByExchanges (erase protocol) x.sort.now x.elements.items m truth → truth ≡ true → IsSatisfiedAt model place
  satisfied_there m is law truth by_exchanges holds q at =
      let p = in_protocol.0 in
      let here = subst (λ (k : ℕ). slice_get model.properties k ≡ Some there.property) same there.stands in
      let one : Some q ≡ Some there.property = sym at ∙ here in
      let own : q ≡ there.property = cc one in
      let text = subst (IsPropertyModule model there.property) is there.compiled in
      let trees = text.2.trees in
      let answers = law protocol p m trees.0 (record {
        unfolds = (permutable p in_protocol.1).unfolds;
        model = model;
        is_for = is_for;
        place = place;
        named = in_protocol.1;
        property = there.property;
        solved = here;
        text = text.0;
        is_text = text.1;
        compiled = text.2.compiled;
        ends = trees.1;
      }) x.sort.now x.elements.items (permutable p in_protocol.1) truth by_exchanges in
      let satisfied : tree_satisfies model there.property.formula ≡ true = sym (answers ∙ ((text.2.says trees.0 trees.1).answer ∙ text.1.decides)) ∙ holds in
      subst (λ (y : PropertyForm). tree_satisfies model y.formula ≡ true) (sym own) satisfied

-- ---- lines, one by one

-- with whatever lines for the places that are left, the lines so far are those of all
abbrev pub AreLinesBefore : ProtocolForm → List ℕ → ℕ → List (List ℕ) → Type 0
AreLinesBefore protocol places k lines = (rest : List (List ℕ)) → AreLinesAt protocol (drop k places) rest → AreLinesAt protocol places (lines ++ rest)

pub line_step : (protocol : ProtocolForm) (places : List ℕ) (k d : ℕ) (old new : List (String Global)) (text : String Global) → k < length places
    → new ≡ old ++ text ∷ [] → HasSymmetryLine protocol (get_or places k d) (string_bytes text)
    → AreLinesBefore protocol places k (map string_bytes old) → AreLinesBefore protocol places (k + 1) (map string_bytes new)
line_step protocol places k d old new text below pushed has before rest after =
    let bytes = string_bytes text in
    let next : AreLinesAt protocol (drop k places) (bytes ∷ rest) = subst (λ (ks : List ℕ). AreLinesAt protocol ks (bytes ∷ rest)) (sym (drop_more places k d below)) (has, after) in
    let same : map string_bytes new ++ rest ≡ map string_bytes old ++ bytes ∷ rest =
    ap (λ (l : List (String Global)). map string_bytes l ++ rest) pushed ∙ (ap (λ l. l ++ rest) (map-append string_bytes old (text ∷ []))
    ∙ append_assoc (map string_bytes old) (bytes ∷ []) rest) in
    subst (AreLinesAt protocol places) (sym same) (before (bytes ∷ rest) next)

pub lines_end : (protocol : ProtocolForm) (places : List ℕ) (k : ℕ) (lines : List (List ℕ)) → length places ≤ k → AreLinesBefore protocol places k lines → AreLinesAt protocol places lines
lines_end protocol places k lines past before =
    let none : AreLinesAt protocol (drop k places) [] = subst (λ (ks : List ℕ). AreLinesAt protocol ks []) (sym (drop_all k places past)) tt in
    subst (AreLinesAt protocol places) (append-nil lines) (before [] none)
