-- What is found of a property, by its text and by that of its negation.
use Rattle.std.proofs.Common.{◌≡◌, ◌∙◌, ℕ, zero, suc, ◌<◌, ◌≤◌, ◌+◌, true, false, Bool, List, [], ◌∷◌, Option, Some, length, refl, sym, ap, subst, inl, inr, arith}
use Rattle.std.specs.Prelude.{◌⊎◌, Contains, IfSome, Ok, Err, if◌then◌else◌}
use Rattle.std.specs.List.{All, slice_get}
use Rattle.std.proofs.lemmas.List.Elements.{All-nil, All-cons, All-weaker}
use Rattle.std.proofs.lemmas.Option.{slice_get_within}
use Rattle.pb_bytecode.specs.Contents.{Contents}
use Rattle.pb_model_tree.specs.Form.{ModelForm, PropertyForm}
use Rattle.pb_protocol_tree.specs.Form as protocol_form
use Rattle.pb_protocol_tree.specs.Form.{ProtocolForm}
use Rattle.pb_protocol_laws.specs.Solved.{AreSameProperties, IsSameProperty}
use Rattle.pb_report.specs.declared.answer.Answer.{Answer}
use Rattle.pb_command_faults.specs.declared.property_fault.PropertyExcess.{PropertyExcess}
use Rattle.pb_model_properties.specs.declared.verdicts.Verdict.{Verdict}
use Rattle.pb_model_properties.specs.declared.verdicts.Verdict.TheVariants.{True, False, Unknown}
use Rattle.pb_model_properties.specs.Negations.{HasPropertyAt}
use Rattle.pb_model_properties.specs.Asked.{asked_from, asked_places, is_asked}
use Rattle.pb_model_properties.specs.Said.{protocol_satisfies, tree_satisfies, IsModelFor, IsModelOf, IsTheReading}
use Rattle.pb_command_models.proofs.Negations.{large_negation}
use Rattle.pb_command_models.proofs.Orders.{of_item}
use Rattle.pb_command_models.specs.declared.finding.Finding.{Finding}
use Rattle.pb_command_models.specs.declared.finding.Finding.TheVariants.{Decided, Refused, Shown}
use Rattle.pb_command_models.specs.declared.finding.PropertyFinding.{PropertyFinding}
use Rattle.pb_command_models.specs.declared.outcome.Outcome.{Outcome}
use Rattle.pb_command_models.specs.declared.outcome.Outcome.TheVariants as outcome
use Rattle.pb_command_models.specs.declared.property_module.PropertyModule.{PropertyModule}
use Rattle.pb_command_models.specs.declared.property_module.PropertyModule.TheVariants as property_module
use Rattle.pb_command_faults.specs.declared.solve_fault.SolveFault.{SolveFault}
use Rattle.pb_command_faults.specs.declared.solve_fault.SolveFault.TheVariants as solve_fault
use Rattle.pb_command_models.specs.Models.{HasLargeNegation, HasModel, IsFinding, IsPropertyAnswer, IsPropertyFound, IsShown, IsTooLargeNegation, IsTooLargeProperty, IsUnexplained, NeedsNegation}
use Rattle.pb_command_models.specs.Outcomes.{IsDecision, IsDecisionBy, IsDeniedAt, IsNegationAt, IsNegationModule, IsOutcome, IsShownAt, OfModule, verdict_in}
use Rattle.pb_command_models.specs.Why.{IsUnexplainedOf, IsVerdict}

-- the bytes that are kept say what they said
pub still_has : {new old : List ℕ} (P : ModelForm → Type 0) → new ≡ old → HasModel old P → HasModel new P
still_has P same h = subst (λ bytes. HasModel bytes P) (sym same) h

-- ---- properties of a protocol and of the model that is solved in its place

-- what stands in the model's place of a property stands there in the protocol
pub same_at : (P : ProtocolForm) (m : ModelForm) (ps : List protocol_form.PropertyForm) (qs : List PropertyForm) (k : ℕ) (q : PropertyForm)
    → AreSameProperties P m ps qs → slice_get qs k ≡ Some q → (p : protocol_form.PropertyForm) × (slice_get ps k ≡ Some p) × IsSameProperty P m p q
same_at P m [] [] k q same at = absurd (cc at)
same_at P m [] (x ∷ qs) k q same at = absurd same
same_at P m (p ∷ ps) [] k q same at = absurd same
same_at P m (p ∷ ps) (x ∷ qs) zero q same at = let is : x ≡ q = cc at in (p, refl, subst (IsSameProperty P m p) is same.0)
same_at P m (p ∷ ps) (x ∷ qs) (suc k) q same at = same_at P m ps qs k q same.1 at

-- and the other way round
pub solved_at : (P : ProtocolForm) (m : ModelForm) (ps : List protocol_form.PropertyForm) (qs : List PropertyForm) (k : ℕ) (p : protocol_form.PropertyForm)
    → AreSameProperties P m ps qs → slice_get ps k ≡ Some p → (q : PropertyForm) × (slice_get qs k ≡ Some q) × IsSameProperty P m p q
solved_at P m [] [] k p same at = absurd (cc at)
solved_at P m [] (x ∷ qs) k p same at = absurd same
solved_at P m (x ∷ ps) [] k p same at = absurd same
solved_at P m (x ∷ ps) (q ∷ qs) zero p same at = let is : x ≡ p = cc at in (q, refl, subst (λ (y : protocol_form.PropertyForm). IsSameProperty P m y q) is same.0)
solved_at P m (x ∷ ps) (q ∷ qs) (suc k) p same at = solved_at P m ps qs k p same.1 at

pub same_lengths : (P : ProtocolForm) (m : ModelForm) (ps : List protocol_form.PropertyForm) (qs : List PropertyForm) → AreSameProperties P m ps qs → length ps ≡ length qs
same_lengths P m [] [] same = refl
same_lengths P m [] (x ∷ qs) same = absurd same
same_lengths P m (p ∷ ps) [] same = absurd same
same_lengths P m (p ∷ ps) (x ∷ qs) same = ap suc (same_lengths P m ps qs same.1)

-- a property of the model stands there in the protocol
pub has_property : (bytes : List ℕ) (model : ModelForm) → IsModelOf bytes model → (k : ℕ) → k < length model.properties → HasPropertyAt bytes k
has_property bytes model said k within =
    let same = same_lengths said.protocol model said.protocol.properties model.properties said.is_for.solved.properties in
    (said.protocol, said.read, omega (arith, within, same))

-- ---- what is found

-- what the negation decides: it is satisfied, or it isn't
pub decides_false : (m : ModelForm) (a second : Answer) (o : Outcome) → o ≡ outcome.Answered second → second.truth ≡ true
    → (q : PropertyForm) → IsOutcome m q o → IsDecision m q a (Decided False a)
decides_false m a second o is truth q h = let answered : IsPropertyAnswer m q second = subst (IsOutcome m q) is h in (refl, sym answered.exact ∙ truth)

pub decides_unknown : (m : ModelForm) (a second : Answer) (o : Outcome) → o ≡ outcome.Answered second → second.truth ≡ false
    → (q : PropertyForm) → IsOutcome m q o → IsDecision m q a (Decided Unknown a)
decides_unknown m a second o is truth q h = let answered : IsPropertyAnswer m q second = subst (IsOutcome m q) is h in (refl, sym answered.exact ∙ truth)

-- what holds of an answer that is known
pub of_known : (P : Bool → Type 0) (o : Option Bool) (x b : Bool) → o ≡ Some x → x ≡ b → IfSome o P → P b
of_known P o x b is same h = subst P same (subst (λ (y : Option Bool). IfSome y P) is h)

module _ (counts : Bool) (protocol : ProtocolForm) (model : ModelForm) (is_for : IsModelFor protocol model) (place : ℕ) (q : PropertyForm) (at : slice_get model.properties place ≡ Some q) where
  pub asked_here : (p : protocol_form.PropertyForm) × (slice_get protocol.properties place ≡ Some p) × IsSameProperty protocol model p q
  asked_here = same_at protocol model protocol.properties model.properties place q is_for.solved.properties at

  found_by : (finding : Finding)
      → ((p : protocol_form.PropertyForm) → slice_get protocol.properties place ≡ Some p → IsSameProperty protocol model p q
      → IsFinding counts protocol p model q finding)
      → IsPropertyFound counts protocol model (record { place = place; finding = finding })
  found_by finding h = record {
    asked = asked_here.0;
    stands = asked_here.1;
    solved = q;
    in_model = at;
    finding = h asked_here.0 asked_here.1 asked_here.2;
  }

  -- the protocol satisfies the property exactly where the model does
  told_truth : (p : protocol_form.PropertyForm) (b : Bool) → IsSameProperty protocol model p q → b ≡ tree_satisfies model q.formula
      → protocol_satisfies protocol p.formula ≡ b
  told_truth p b same truth = sym same.satisfied ∙ sym truth

  -- ---- by what becomes of its text

  pub found_large : (excess : PropertyExcess) → IsTooLargeProperty model q excess → IsPropertyFound counts protocol model (record { place = place; finding = Refused excess })
  found_large excess large = found_by (Refused excess) (λ p stands same. inl large)

  module _ (a : Answer) (answered : IsPropertyAnswer model q a) where
    told_answer : (p : protocol_form.PropertyForm) (b : Bool) → IsSameProperty protocol model p q → a.truth ≡ b → protocol_satisfies protocol p.formula ≡ b
    told_answer p b same truth = told_truth p b same (sym truth ∙ answered.exact)

    pub found_true : a.truth ≡ true → IsPropertyFound counts protocol model (record { place = place; finding = Decided True a })
    found_true truth = found_by (Decided True a) (λ p stands same. (told_answer p true same truth, answered))

    pub found_false : a.truth ≡ false → a.cut ≡ 0 → IsPropertyFound counts protocol model (record { place = place; finding = Decided False a })
    found_false truth cut = found_by (Decided False a) (λ p stands same. ((told_answer p false same truth, inl cut), answered))

    module _ (bytes : List ℕ) (read : IsTheReading bytes protocol) (truth : a.truth ≡ false) (cut : 0 < a.cut) where
      needs : (p : protocol_form.PropertyForm) → IsSameProperty protocol model p q → NeedsNegation protocol p model q
      needs p same = (told_answer p false same truth, (a, answered, cut))

      -- by the module of the negation, which isn't refused
      module _ (m : Contents) (is_negation : IsNegationAt bytes place (property_module.Verified m)) where
        abbrev negation_here : (p : protocol_form.PropertyForm) → slice_get protocol.properties place ≡ Some p → IsNegationModule protocol p (property_module.Verified m)
        negation_here p stands = is_negation protocol read p stands

        found_open : (finding : Finding) → OfModule (property_module.Verified m) (λ n x. IsDecision n x a finding)
            → IsPropertyFound counts protocol model (record { place = place; finding = finding })
        found_open (Refused excess) decides = found_by (Refused excess) (λ p stands same.
            let n = negation_here p stands in
            inr (needs p same, large_negation protocol p n.model n.is_for n.negation n.first excess (decides n.model n.negation n.holds.0)))
        found_open (Shown b) decides = let n = negation_here asked_here.0 asked_here.1 in absurd (decides n.model n.negation n.holds.0)
        found_open (Decided True b) decides = let n = negation_here asked_here.0 asked_here.1 in absurd (decides n.model n.negation n.holds.0)
        found_open (Decided False b) decides = found_by (Decided False b) (λ p stands same.
            let n = negation_here p stands in
            let decided = decides n.model n.negation n.holds.0 in
            subst (λ (x : Answer). IsFinding counts protocol p model q (Decided False x)) (sym decided.0)
            ((told_answer p false same truth, inr (sym n.holds.1 ∙ decided.1)), answered))
        found_open (Decided Unknown b) decides = found_by (Decided Unknown b) (λ p stands same.
            let n = negation_here p stands in
            let decided = decides n.model n.negation n.holds.0 in
            subst (λ (x : Answer). IsFinding counts protocol p model q (Decided Unknown x)) (sym decided.0)
            ((told_answer p false same truth, sym n.holds.1 ∙ decided.1, cut), answered))

      -- by what the negation decides
      pub found_decided : (compiled : PropertyModule) → IsNegationAt bytes place compiled → (finding : Finding) → IsDecisionBy compiled a finding
          → IsPropertyFound counts protocol model (record { place = place; finding = finding })
      found_decided (property_module.Verified m) is_negation finding decides = found_open m is_negation finding decides
      found_decided (property_module.TooLarge excess) is_negation finding decides =
          subst (λ (f : Finding). IsPropertyFound counts protocol model (record { place = place; finding = f })) (sym decides)
          (found_by (Refused excess) (λ p stands same. inr (needs p same, is_negation protocol read p stands)))

  -- ---- by what is shown

  pub shown_true : true ≡ tree_satisfies model q.formula → IsShownAt protocol place true
  shown_true truth = (asked_here.0, asked_here.1, told_truth asked_here.0 true asked_here.2 truth)

  pub shown_false : (bytes : List ℕ) → IsTheReading bytes protocol → IsDeniedAt bytes place → false ≡ tree_satisfies model q.formula → IsShownAt protocol place false
  shown_false bytes read denied truth =
      (asked_here.0, asked_here.1, (told_truth asked_here.0 false asked_here.2 truth, denied protocol read asked_here.0 asked_here.1))

  pub found_shown : (b : Bool) → counts ≡ false → IsShownAt protocol place b → IsPropertyFound counts protocol model (record { place = place; finding = Shown b })
  found_shown b uncounted (x, there, shown) = found_by (Shown b) (λ p stands same.
      let both : Some x ≡ Some p = sym there ∙ stands in
      let is : x ≡ p = cc both in
      (uncounted, subst (λ (y : protocol_form.PropertyForm). IsShown protocol y.formula b) is shown))

-- the negation is satisfied
pub denied_at : (bytes : List ℕ) (place : ℕ) (compiled : PropertyModule) (m : Contents) → compiled ≡ property_module.Verified m → IsNegationAt bytes place compiled
    → OfModule (property_module.Verified m) (λ n q. true ≡ tree_satisfies n q.formula) → IsDeniedAt bytes place
denied_at bytes place compiled m is is_negation truth = λ protocol read p stands.
    let n : IsNegationModule protocol p (property_module.Verified m) = subst (IsNegationModule protocol p) is (is_negation protocol read p stands) in
    sym n.holds.1 ∙ sym (truth n.model n.negation n.holds.0)

-- ---- what is told of it

-- the verdict that is found is one
pub found_verdict : (protocol : ProtocolForm) (model : ModelForm) (place : ℕ) (p : protocol_form.PropertyForm) (q : PropertyForm)
    → slice_get protocol.properties place ≡ Some p → slice_get model.properties place ≡ Some q → (finding : Finding) → IsFinding false protocol p model q finding
    → (v : Verdict) → verdict_in finding ≡ Ok v → IsVerdict protocol p.formula model q v
found_verdict protocol model place p q stands at (Decided True a) h v is = let same : True ≡ v = cc is in subst (IsVerdict protocol p.formula model q) same h.0
found_verdict protocol model place p q stands at (Decided Unknown a) h v is =
    let same : Unknown ≡ v = cc is in subst (IsVerdict protocol p.formula model q) same (h.0.0, h.0.1, inl (a, h.1, h.0.2))
found_verdict protocol model place p q stands at (Decided False a) h v is =
    let same : False ≡ v = cc is in
    subst (IsVerdict protocol p.formula model q) same (h.0.0, elim h.0.1 [ inl uncut ↦ inr (a, h.1, uncut) | inr denied ↦ inl denied ])
found_verdict protocol model place p q stands at (Shown true) h v is = let same : True ≡ v = cc is in subst (IsVerdict protocol p.formula model q) same h.1
found_verdict protocol model place p q stands at (Shown false) h v is =
    let same : False ≡ v = cc is in subst (IsVerdict protocol p.formula model q) same (h.1.0, inl h.1.1)
found_verdict protocol model place p q stands at (Refused excess) h v is = absurd (cc is)

-- what is found of the properties at a place
pub finding_at : (counts : Bool) (protocol : ProtocolForm) (model : ModelForm) (place : ℕ) (finding : Finding) → IsPropertyFound counts protocol model (record { place = place; finding = finding })
    → (p : protocol_form.PropertyForm) (q : PropertyForm) → slice_get protocol.properties place ≡ Some p → slice_get model.properties place ≡ Some q
    → IsFinding counts protocol p model q finding
finding_at counts protocol model place finding found p q stands at =
    let both : Some found.asked ≡ Some p = sym found.stands ∙ stands in
    let is : found.asked ≡ p = cc both in
    let both_solved : Some found.solved ≡ Some q = sym found.in_model ∙ at in
    let is_solved : found.solved ≡ q = cc both_solved in
    subst (λ (x : protocol_form.PropertyForm). IsFinding counts protocol x model q finding) is
    (subst (λ (x : PropertyForm). IsFinding counts protocol found.asked model x finding) is_solved found.finding)

-- what is too large for one is a fault of the property
pub found_unexplained : (bytes : List ℕ) (model : ModelForm) (said : IsModelOf bytes model) (place : ℕ) (q : PropertyForm) → slice_get model.properties place ≡ Some q
    → (finding : Finding) → IsPropertyFound false said.protocol model (record { place = place; finding = finding }) → (excess : PropertyExcess) → verdict_in finding ≡ Err excess
    → IsTooLargeProperty model q excess ⊎ HasLargeNegation said.protocol model q place excess
found_unexplained bytes model said place q at (Decided v a) found excess is = absurd (cc is)
found_unexplained bytes model said place q at (Shown b) found excess is = absurd (cc is)
found_unexplained bytes model said place q at (Refused other) found excess is =
    let is_excess : other ≡ excess = cc is in
    let p = found.asked in
    let large = finding_at false said.protocol model place (Refused other) found p q found.stands at in
    let here : IsTooLargeProperty model q excess ⊎ (NeedsNegation said.protocol p model q × IsTooLargeNegation said.protocol p excess) =
    subst (λ (x : PropertyExcess). IsTooLargeProperty model q x ⊎ (NeedsNegation said.protocol p model q × IsTooLargeNegation said.protocol p x)) is_excess large in
    elim here [ inl own ↦ inl own | inr needed ↦ inr (p, found.stands, inl needed.0, needed.1) ]

-- so the property isn't explained, whichever names it is asked for by
pub large_unexplained : (bytes : List ℕ) (model : ModelForm) (said : IsModelOf bytes model) (place : ℕ) (q : PropertyForm) → slice_get model.properties place ≡ Some q
    → (excess : PropertyExcess) → IsTooLargeProperty model q excess ⊎ HasLargeNegation said.protocol model q place excess
    → (f : SolveFault) → f ≡ solve_fault.Property (record { excess = excess; place = q.name.place }) → IsUnexplainedOf bytes model place f
large_unexplained bytes model said place q at excess large f same = λ names x there asked.
    let both : Some x ≡ Some q = sym there ∙ at in
    let is : x ≡ q = cc both in
    subst (IsUnexplained names bytes) (sym same) (record {
      model = model;
      said = said;
      index = place;
      property = q;
      at = at;
      asked = subst (λ (y : PropertyForm). is_asked names y ≡ true) is asked;
      stands = refl;
      large = large;
    })

-- ---- places

asked_within : (names : List (List ℕ)) (ps : List PropertyForm) (place bound : ℕ) → place + length ps ≤ bound → All (λ k. k < bound) (asked_from place names ps)
asked_within names [] place bound long = All-nil (λ k. k < bound)
asked_within names (p ∷ ps) place bound long = go (asked_within names ps (place + 1) bound (omega (arith, long))) (is_asked names p)
  where
    go : All (λ k. k < bound) (asked_from (place + 1) names ps) → (b : Bool) → All (λ k. k < bound) (if b then place ∷ asked_from (place + 1) names ps else asked_from (place + 1) names ps)
    go rest true = All-cons (λ k. k < bound) place _ (omega (arith, long)) rest
    go rest false = rest

pub places_within : (names : List (List ℕ)) (ps : List PropertyForm) (bound : ℕ) → bound ≡ length ps → All (λ k. k < bound) (asked_places names ps)
places_within names ps bound long = asked_within names ps 0 bound (omega (arith, long))

-- what is found stands at a place of a property
pub found_within : (counts : Bool) (protocol : ProtocolForm) (model : ModelForm) (bound : ℕ) → length model.properties ≡ bound
    → (fs : List PropertyFinding) → All (IsPropertyFound counts protocol model) fs
    → All (λ found. found.place < bound) fs
found_within counts protocol model bound long fs all =
    All-weaker (IsPropertyFound counts protocol model) (λ found. found.place < bound)
    (λ found is. let within = slice_get_within model.properties found.place is.solved is.in_model in omega (arith, within, long)) fs all

-- what is said of those at places from one on: each is at least the first, and the property there is asked for
abbrev IsAskedFrom : List (List ℕ) → ℕ → List PropertyForm → ℕ → Type 0
IsAskedFrom names first ps k = (first ≤ k) × ((j : ℕ) (p : PropertyForm) → k ≡ first + j → slice_get ps j ≡ Some p → is_asked names p ≡ true)

asked_next : (names : List (List ℕ)) (first : ℕ) (x : PropertyForm) (ps : List PropertyForm) (k : ℕ) → IsAskedFrom names (first + 1) ps k → IsAskedFrom names first (x ∷ ps) k
asked_next names first x ps k (above, asked) = (omega (arith, above), among)
  where
    among : (j : ℕ) (p : PropertyForm) → k ≡ first + j → slice_get (x ∷ ps) j ≡ Some p → is_asked names p ≡ true
    among zero p e at = absurd (omega (arith, above, e))
    among (suc j) p e at = asked j p (omega (arith, e)) at

-- one property more, before others
asked_before : (names : List (List ℕ)) (first : ℕ) (x : PropertyForm) (ps : List PropertyForm) → All (IsAskedFrom names first (x ∷ ps)) (asked_from (first + 1) names ps)
    → All (IsAskedFrom names first (x ∷ ps)) (asked_from first names (x ∷ ps))
asked_before names first x ps rest = go (is_asked names x) refl
  where
    here : is_asked names x ≡ true → (j : ℕ) (p : PropertyForm) → first ≡ first + j → slice_get (x ∷ ps) j ≡ Some p → is_asked names p ≡ true
    here is zero p e at = let same : x ≡ p = cc at in subst (λ (y : PropertyForm). is_asked names y ≡ true) same is
    here is (suc j) p e at = absurd (omega (arith, e))

    go : (b : Bool) → is_asked names x ≡ b → All (IsAskedFrom names first (x ∷ ps)) (if b then first ∷ asked_from (first + 1) names ps else asked_from (first + 1) names ps)
    go true is = All-cons (IsAskedFrom names first (x ∷ ps)) first (asked_from (first + 1) names ps) (omega arith, here is) rest
    go false is = rest

asked_all : (names : List (List ℕ)) (first : ℕ) (ps : List PropertyForm) → All (IsAskedFrom names first ps) (asked_from first names ps)
asked_all names first [] = All-nil (IsAskedFrom names first [])
asked_all names first (x ∷ ps) =
    asked_before names first x ps
    (All-weaker (IsAskedFrom names (first + 1) ps) (IsAskedFrom names first (x ∷ ps)) (asked_next names first x ps) (asked_from (first + 1) names ps) (asked_all names (first + 1) ps))

-- the property at a place that is asked for is
pub asked_at : (names : List (List ℕ)) (ps : List PropertyForm) (k : ℕ) (p : PropertyForm) → Contains (asked_places names ps) k → slice_get ps k ≡ Some p → is_asked names p ≡ true
asked_at names ps k p (i, within, is) at = (of_item (IsAskedFrom names 0 ps) (asked_places names ps) i k (asked_all names 0 ps) within (sym is)).1 k p (omega arith) at
