-- Where a text has no cut, the protocol satisfies the property or its negation; so the verdict is the one in wider ranges.
use Rattle.std.proofs.Common.{◌≡◌, Bool, true, false, not, [], inl, inr, refl, sym, ap, ◌∙◌, subst}
use Rattle.pb_text_meaning.specs.Syntax.{Spec}
use Rattle.pb_model_meaning.specs.Syntax as flat
use Rattle.pb_model_meaning.specs.Steps.{data_of}
use Rattle.pb_model_meaning.specs.Satisfaction as flat_satisfaction
use Rattle.pb_model_translation.specs.Names.{names_of}
use Rattle.pb_model_translation.specs.Apart.{HasNamesApart}
use Rattle.pb_model_range_laws.specs.Calls.{StaysInRanges}
use Rattle.pb_model_range_laws.specs.Negation.{IsNegation}
use Rattle.pb_model_range_laws.specs.Negation as flat_negation
use Rattle.pb_model_range_laws.specs.Laws.{NegationsDecideWithoutCuts}
use Rattle.pb_protocol_folding.specs.FoldedModels.{is_left}
use Rattle.pb_protocol_meaning.specs.Syntax.{Formula, Protocol}
use Rattle.pb_protocol_meaning.specs.Satisfaction.{satisfies}
use Rattle.pb_protocol_unfolding.specs.Unfolding.{unfolded, unfolded_formula}
use Rattle.pb_protocol_unfolding.specs.ModelLaws.{flat_formula, flat_model, FlatModelsSatisfyTheSame, FlatNamesAreApart}
use Rattle.pb_protocol_unfolding.specs.Plain.{plain, PlainModelsKeepTheirMeaning}
use Rattle.pb_protocol_packing.specs.Packing.{with_groups}
use Rattle.pb_protocol_packing.specs.Groups.{groups_of, packed, said_formula}
use Rattle.pb_protocol_packing.specs.Laws.{PackedModelsSatisfyTheSame, PackedNamesAreApart, PropertiesStay}
use Rattle.pb_protocol_packing.proofs.Packable.{is-packing, property-apart}
use Rattle.pb_protocol_negation.specs.Laws.{NeverBoth}
use Rattle.pb_protocol_negation.specs.Negation.{negation}
use Rattle.pb_protocol_negation.specs.Verdict.{fails, holds, IsClosed}
use Rattle.pb_protocol_laws.specs.WiderProtocols.{in_ranges, FailsInAllWiderRanges, HoldsInWiderRanges}
use Rattle.pb_protocol_range_laws.specs.Texts.{IsFlat, IsOwn, IsPackedText, IsTextIn, IsUnfolded}
use Rattle.pb_protocol_range_laws.specs.Laws.{NoCutMeansOne, VerdictsAreFinalWithoutCuts}
use Rattle.pb_protocol_range_laws.proofs.Unfolded.{negation-names, unfolded-closed, unfolded-dual}
use Rattle.pb_protocol_range_laws.proofs.Folded.{fold-closed, fold-dual, is-negation}
use Rattle.pb_protocol_range_laws.proofs.Packed.{apart-dual, said-closed, said-dual}
use Rattle.pb_protocol_range_laws.proofs.Plain.{dual, dual-counts, is-dual, plain-closed, plain-dual}

module _ (decide : NegationsDecideWithoutCuts) (plain_same : PlainModelsKeepTheirMeaning) (flat_same : FlatModelsSatisfyTheSame) (flat_apart : FlatNamesAreApart)
    (packed_apart : PackedNamesAreApart) (stay : PropertiesStay) (packed_same : PackedModelsSatisfyTheSame) where
  -- ---- models

  packed-one : (n : flat.Model) (g h : flat.Formula) (text : Spec) → IsNegation g h → flat_negation.IsBound [] g → IsPackedText n g text → StaysInRanges text →
      flat_satisfaction.satisfies n h ≡ not (flat_satisfaction.satisfies n g)
  packed-one n g h text o closed k none =
      let gs = groups_of n in
      let σ = with_groups gs [] in
      let p : flat.Property = record { name = k.name; formula = g } in
      let apart = apart-dual gs g h o (property-apart n k.packable p k.property) in
      let F = said_formula n g in
      sym (packed_same n gs h (is-packing n k.packable) apart)
      ∙ decide (packed n) (names_of F) F (said_formula n h) (packed_apart n k.packable) (said-dual σ g h o) (said-closed σ g [] closed) (subst StaysInRanges k.is_text none)
      ∙ ap not (stay n p k.packable k.property)

  one-of-model : (n : flat.Model) (g h : flat.Formula) (text : Spec) → HasNamesApart n → IsNegation g h → flat_negation.IsBound [] g → IsTextIn n g text → StaysInRanges text →
      flat_satisfaction.satisfies n h ≡ not (flat_satisfaction.satisfies n g)
  one-of-model n g h text apart o closed (inl e) none = decide n (names_of g) g h apart o closed (subst StaysInRanges e none)
  one-of-model n g h text apart o closed (inr k) none = packed-one n g h text o closed k none

  -- ---- protocols

  own-one : (m : Protocol) (f : Formula) (n : flat.Model) (g : flat.Formula) (text : Spec) → IsClosed [] f → IsOwn m f n g → IsTextIn n g text → StaysInRanges text →
      fails m f ≡ not (holds m f)
  own-one m f n g text closed own at none =
      let same = (plain_same n own.is_plain).3 in
      let closed-g = plain-closed g [] (subst (IsClosed []) own.formula closed) in
      ap (λ x. satisfies x (negation f)) own.model
      ∙ ap (λ x. satisfies (plain n) (negation x)) own.formula
      ∙ sym (ap (satisfies (plain n)) (plain-dual g))
      ∙ same (dual g) (dual-counts g own.counts_nothing)
      ∙ one-of-model n g (dual g) text own.apart (is-dual g) closed-g at none
      ∙ sym (ap not (same g own.counts_nothing))
      ∙ sym (ap (λ x. not (satisfies (plain n) x)) own.formula)
      ∙ sym (ap (λ x. not (satisfies x f)) own.model)

  unfolded-one : (m : Protocol) (f : Formula) (n : flat.Model) (g : flat.Formula) (text : Spec) → IsClosed [] f → IsUnfolded m f n g → IsTextIn n g text → StaysInRanges text →
      fails m f ≡ not (holds m f)
  unfolded-one m f n g text closed at in_text none =
      let spec = data_of (unfolded m) in
      let left = is_left (unfolded m) in
      let u = unfolded_formula m [] f in
      let v = unfolded_formula m [] (negation f) in
      let F = flat_formula m f in
      let G = flat_formula m (negation f) in
      let o : IsNegation F G = is-negation F G (fold-dual spec left u v (unfolded-dual m f [])) in
      let closed-f : flat_negation.IsBound [] F = fold-closed spec left u [] (unfolded-closed m f [] [] closed) in
      let here : IsTextIn (flat_model m) F text = subst (λ x. IsTextIn x F text) at.model (subst (λ x. IsTextIn n x text) at.formula in_text) in
      sym (flat_same m at.hides_nothing (negation f) (negation-names m f at.names))
      ∙ one-of-model (flat_model m) F G text (flat_apart m at.hides_nothing) o closed-f here none
      ∙ ap not (flat_same m at.hides_nothing f at.names)

  one : (m : Protocol) (f : Formula) (n : flat.Model) (g : flat.Formula) (text : Spec) → IsClosed [] f → IsFlat m f n g → IsTextIn n g text → StaysInRanges text →
      fails m f ≡ not (holds m f)
  one m f n g text closed (inl own) in_text none = own-one m f n g text closed own in_text none
  one m f n g text closed (inr at) in_text none = unfolded-one m f n g text closed at in_text none

  pub no-cut-means-one : NoCutMeansOne
  no-cut-means-one m f text t closed none = one m f t.0 t.1 text closed t.2 t.3 none

pub verdicts-are-final : NoCutMeansOne → NeverBoth → HoldsInWiderRanges → FailsInAllWiderRanges → VerdictsAreFinalWithoutCuts
verdicts-are-final one never wider_holds wider_fails m f text ranges t closed positive wider none = by (holds m f) refl
  where
    by : (b : Bool) → holds m f ≡ b → (holds (in_ranges ranges m) f ≡ b) × (fails (in_ranges ranges m) f ≡ not b)
    by true e =
        let stays = wider_holds m ranges f wider positive e in
        (stays, never (in_ranges ranges m) f positive stays)
    by false e =
        let fails-here : fails m f ≡ true = one m f text t closed none ∙ ap not e in
        let there = wider_fails m ranges f wider positive fails-here in
        (there.1, there.0)
