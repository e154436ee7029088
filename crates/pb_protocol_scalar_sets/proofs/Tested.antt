-- Definitions, one by one, and the names of what is declared.
use Rattle.std.proofs.Common.{◌≡◌, ℕ, ◌+◌, ◌<◌, length, get_or, drop, string_bytes, Bool, true, false, not, ◌&&◌, List, [], ◌∷◌, ◌++◌, map, refl, sym, ap, ◌∙◌, Option, Some, None, if◌then◌else◌}
use Rattle.std.specs.Prelude.{reverse}
use Rattle.std.proofs.lemmas.List.{reverse-append, map-append}
use Rattle.pb_sorts.proofs.Places.{drop-at}
use Rattle.pb_text_meaning.specs.Syntax.{Name, same_name}
use Rattle.pb_protocol_tree.specs.declared.protocol.Definition as declared_definition
use Rattle.pb_protocol_tree.specs.Form.{definition_form}
use Rattle.pb_protocol_meaning.specs.Syntax.{Definition}
use Rattle.pb_protocol_meaning.specs.Erase.{erased_definition}
use Rattle.pb_protocol_symmetry.specs.Kinds.{Signature}
use Rattle.pb_protocol_symmetry.specs.Test.{signature_in}
use Rattle.pb_protocol_symmetry.specs.ProtocolTest.{is_unknown}
use Rattle.pb_protocol_scalar_sets.specs.declared.signature.Signature as declared_signature
use Rattle.pb_protocol_scalar_sets.specs.declared.scalar_set.ScalarSet.{ScalarSet}
use Rattle.pb_protocol_scalar_sets.specs.Tested.{are_defined_in, tested_in, tested_signature_in}
use Rattle.pb_protocol_scalar_sets.specs.View.{signature_said}

abbrev choose : Bool → Signature → Option Signature → Option Signature
choose b t o = if b then Some t else o

pub called-known : (signatures : List Signature) (x : Name) (s : Signature) → Some s ≡ signature_in signatures x → false ≡ is_unknown signatures x
called-known [] x s e = cc
called-known (t ∷ signatures) x s e = by (same_name t.name x) (called-known signatures x s) e
  where
    by : (b : Bool) → (Some s ≡ signature_in signatures x → false ≡ is_unknown signatures x) → Some s ≡ choose b t (signature_in signatures x) → false ≡ (not b && is_unknown signatures x)
    by true rest h = refl
    by false rest h = rest h

pub called-none : (signatures : List Signature) (x : Name) → None ≡ signature_in signatures x → true ≡ is_unknown signatures x
called-none [] x e = refl
called-none (t ∷ signatures) x e = by (same_name t.name x) (called-none signatures x) e
  where
    by : (b : Bool) → (None ≡ signature_in signatures x → true ≡ is_unknown signatures x) → None ≡ choose b t (signature_in signatures x) → true ≡ (not b && is_unknown signatures x)
    by true rest h = cc
    by false rest h = rest h

-- one more definition
pub known-pushed : (base : List Signature) (v w : List declared_signature.Signature) (s : declared_signature.Signature) → w ≡ v ++ s ∷ []
    → reverse (map signature_said w) ++ base ≡ signature_said s ∷ (reverse (map signature_said v) ++ base)
known-pushed base v w s e =
    ap (λ (u : List declared_signature.Signature). reverse (map signature_said u) ++ base) e
    ∙ (ap (λ (u : List Signature). reverse u ++ base) (map-append signature_said v (s ∷ [])) ∙ ap (λ (u : List Signature). u ++ base) (reverse-append (map signature_said v) (signature_said s ∷ [])))

abbrev pub definitions_said : List declared_definition.Definition → List Definition
definitions_said ds = map erased_definition (map definition_form ds)

module _ (set : ScalarSet) (known : List Signature) (ds : List declared_definition.Definition) (k : ℕ) (d : declared_definition.Definition)
    (s : Signature) (below : k < length ds) (at : d ≡ get_or ds k d)
    (is : s ≡ tested_signature_in set known (erased_definition (definition_form d))) where
  pub next-tested : tested_in set known (definitions_said (drop k ds)) ≡ tested_in set (s ∷ known) (definitions_said (drop (k + 1) ds))
  next-tested =
      ap (λ (es : List declared_definition.Definition). tested_in set known (definitions_said es)) (drop-at ds k d below at)
      ∙ ap (λ (t : Signature). tested_in set (t ∷ known) (definitions_said (drop (k + 1) ds))) (sym is)

  pub next-defined : are_defined_in set known (definitions_said (drop k ds)) ≡ (is_unknown known (string_bytes d.name.text) && are_defined_in set (s ∷ known) (definitions_said (drop (k + 1) ds)))
  next-defined =
      ap (λ (es : List declared_definition.Definition). are_defined_in set known (definitions_said es)) (drop-at ds k d below at)
      ∙ ap (λ (t : Signature). is_unknown known (string_bytes d.name.text) && are_defined_in set (t ∷ known) (definitions_said (drop (k + 1) ds))) (sym is)
