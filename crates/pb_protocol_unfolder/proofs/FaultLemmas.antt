-- Faults of parts are faults of what they are parts of.
use Rattle.std.proofs.Common.{◌≡◌, ◌<◌, ◌∙◌, ◌⊎◌, ℕ, zero, suc, Bool, true, false, if◌then◌else◌, inl, inr, refl, sym, ap, subst, arith, List, [], ◌∷◌, map, length, get_or, Result, Ok, Err}
use Rattle.std.specs.Prelude.{Contains, IfOk, IsErrAnd, MatchResult, OnOk, filter}
use Rattle.std.proofs.lemmas.List.{get_or-map}
use Rattle.std.proofs.lemmas.List.Elements.{Contains-get_or}
use Rattle.pb_base.specs.OrMemory.{IfFault, IfRefused, raised}
use Rattle.pb_base.specs.declared.or_memory.OrMemory.{OrMemory}
use Rattle.pb_base.specs.declared.or_memory.OrMemory.TheVariants.{Refused, Memory}
use Rattle.pb_text_tree.specs.declared.place.Place.{Place}
use Rattle.pb_protocol_tree.specs.Form.{ProtocolForm}
pub use Rattle.pb_protocol_unfolder_terms.proofs.MetLemmas.{behind-in, first-in, item-in}
use Rattle.pb_protocol_unfolder_steps.specs.declared.fault.StepsFault.{StepsFault}
use Rattle.pb_protocol_unfolder.specs.declared.fault.UnfoldingFault.{UnfoldingFault}
use Rattle.pb_protocol_unfolder.specs.declared.fault.UnfoldingRule.{UnfoldingRule}
use Rattle.pb_protocol_unfolder.specs.declared.fault.UnfoldingRule.TheVariants as rule
use Rattle.pb_protocol_unfolder_terms.specs.declared.fault.UnfoldRule.{UnfoldRule}
use Rattle.pb_protocol_unfolder_terms.specs.declared.fault.UnfoldRule.TheVariants as unfold_rule
use Rattle.pb_protocol_unfolder.specs.Faults.{BreaksRule, IsFaultOfPart, IsNameFault, IsUnfoldingFault, IsValueFault, OfMany, OfTerm, OfValue, rule_of}
use Rattle.pb_protocol_unfolder.specs.Parts.{ByRule, InPart, IsFaultBy, IsFaultIn, IsFaultOfModel, IsOfNames, IsOfSteps, OfManyTuples}

-- ---- members of lists

pub first-or-behind : {X : Type 0} (y : X) (xs : List X) (x : X) → Contains (y ∷ xs) x → (y ≡ x) ⊎ Contains xs x
first-or-behind y xs x (zero, low, e) = inl e
first-or-behind y xs x (suc k, low, e) = inr (k, omega (arith, low), e)

pub none-in : {X : Type 0} (x : X) → Contains [] x → ⊥
none-in x h = omega (arith, h.1)

pub kept-in : {X : Type 0} (p : X → Bool) (xs : List X) (x : X) → Contains (filter p xs) x → Contains xs x
kept-in p [] x h = h
kept-in {X = X} p (y ∷ xs) x h = by (p y) h (kept-in p xs x)
  where
    by : (b : Bool) → Contains (if b then y ∷ filter p xs else filter p xs) x → (Contains (filter p xs) x → Contains xs x) → Contains (y ∷ xs) x
    by true h rest = elim (first-or-behind y (filter p xs) x h) [
      | inl is ↦ subst (Contains (y ∷ xs)) is (first-in y xs)
      | inr at ↦ behind-in y xs x (rest at)
    ]
    by false h rest = behind-in y xs x (rest h)

pub at-item : {X Y : Type 0} (g : X → Y) (xs : List X) (k : ℕ) (x : X) → k < length xs → x ≡ get_or xs k x → Contains (map g xs) (g x)
at-item {X = X} g xs k x within is =
    let there : k < length (map g xs) = subst (λ (n : ℕ). k < n) (sym (mapped xs)) within in
    subst (Contains (map g xs)) (get_or-map g xs k x (g x) within ∙ sym (ap g is)) (Contains-get_or (map g xs) k (g x) there)
  where
    mapped : (ys : List X) → length (map g ys) ≡ length ys
    mapped [] = refl
    mapped (y ∷ ys) = ap suc (mapped ys)

-- ---- by the rule

in-rule : (P Q : Place → Type 0) → ((p : Place) → P p → Q p) → (r : UnfoldingRule) (p : Place) → InPart P r p → InPart Q r p
in-rule P Q to rule.Names p is = is
in-rule P Q to rule.Value p is = to p is
in-rule P Q to rule.Index p is = is
in-rule P Q to rule.Count p is = is
in-rule P Q to rule.Operators p is = is

pub fault-in : (P Q : Place → Type 0) → ((p : Place) → P p → Q p) → (f : UnfoldingFault) → IsFaultIn P f → IsFaultIn Q f
fault-in P Q to f is = in-rule P Q to f.rule f.place is

-- ---- errors

-- what follows where there is none
pub ok-so : {A E : Type 0} (P Q : Type 0) (r : Result A E) → (P → Q) → OnOk r P → OnOk r Q
ok-so P Q (Ok a) to p = to p
ok-so P Q (Err e) to p = tt

-- what follows of the fault of a call
pub refused-so : {A : Type 0} (P Q : UnfoldingFault → Type 0) (r : Result A (OrMemory UnfoldingFault)) → ((f : UnfoldingFault) → P f → Q f) → IfRefused r P → IfRefused r Q
refused-so P Q (Ok a) to p = tt
refused-so P Q (Err (Refused f)) to p = to f p
refused-so P Q (Err Memory) to p = tt

-- the fault of a call is that of its caller
pub refused : {A : Type 0} (r : Result A (OrMemory UnfoldingFault)) (e : OrMemory UnfoldingFault)
    (P Q : UnfoldingFault → Type 0) → IsErrAnd r (λ d. d ≡ e) → ((f : UnfoldingFault) → P f → Q f) → IfFault e P → IfRefused r Q
refused (Ok a) e P Q h to p = tt
refused (Err d) e P Q h to p = subst (λ (x : OrMemory UnfoldingFault). IfFault x Q) (sym h) (both e p)
  where
    both : (x : OrMemory UnfoldingFault) → IfFault x P → IfFault x Q
    both (Refused f) p = to f p
    both Memory p = tt

-- what is too much for a part is too much for the whole
pub many-refused : {A : Type 0} (r : Result A (OrMemory UnfoldingFault)) (e : OrMemory UnfoldingFault) (M N : Type 0) (place : Place)
    → IsErrAnd r (λ d. d ≡ e) → (M → N) → IfFault e (OfMany M place) → IfRefused r (OfMany N place)
many-refused r e M N place h to is = refused r e (OfMany M place) (OfMany N place) h (λ f o. (to o.0, o.1)) is

pub many-so : {A : Type 0} (M N : Type 0) (place : Place) (r : Result A (OrMemory UnfoldingFault)) → (M → N) → IfRefused r (OfMany M place) → IfRefused r (OfMany N place)
many-so M N place r to is = refused-so (OfMany M place) (OfMany N place) r (λ f o. (to o.0, o.1)) is

pub part : {A : Type 0} (r : Result A (OrMemory UnfoldingFault)) (e : OrMemory UnfoldingFault) (P Q : Place → Type 0)
    → IsErrAnd r (λ d. d ≡ e) → ((p : Place) → P p → Q p) → IfFault e (IsFaultIn P) → IfRefused r (IsFaultIn Q)
part r e P Q h to is = refused r e (IsFaultIn P) (IsFaultIn Q) h (fault-in P Q to) is

pub part-so : {A : Type 0} (P Q : Place → Type 0) (r : Result A (OrMemory UnfoldingFault)) → ((p : Place) → P p → Q p) → IfRefused r (IsFaultIn P) → IfRefused r (IsFaultIn Q)
part-so P Q r to is = refused-so (IsFaultIn P) (IsFaultIn Q) r (fault-in P Q to) is

-- ---- of values and terms

by-rule : (P Q : Type 0) → (P → Q) → (r : UnfoldingRule) → ByRule r P → ByRule r Q
by-rule P Q to rule.Names is = is
by-rule P Q to rule.Value is = to is
by-rule P Q to rule.Index is = to is
by-rule P Q to rule.Count is = is
by-rule P Q to rule.Operators is = to is

pub fault-by : (P Q : UnfoldingFault → Type 0) → ((f : UnfoldingFault) → P f → Q f) → (f : UnfoldingFault) → IsFaultBy P f → IsFaultBy Q f
fault-by P Q to f is = by-rule (P f) (Q f) (to f) f.rule is

pub part-by : {A : Type 0} (r : Result A (OrMemory UnfoldingFault)) (e : OrMemory UnfoldingFault)
    (P Q : UnfoldingFault → Type 0) → IsErrAnd r (λ d. d ≡ e) → ((f : UnfoldingFault) → P f → Q f)
    → IfFault e (IsFaultBy P) → IfRefused r (IsFaultBy Q)
part-by r e P Q h to is = refused r e (IsFaultBy P) (IsFaultBy Q) h (fault-by P Q to) is

pub part-by-so : {A : Type 0} (P Q : UnfoldingFault → Type 0) (r : Result A (OrMemory UnfoldingFault)) → ((f : UnfoldingFault) → P f → Q f) → IfRefused r (IsFaultBy P) → IfRefused r (IsFaultBy Q)
part-by-so P Q r to is = refused-so (IsFaultBy P) (IsFaultBy Q) r (fault-by P Q to) is

pub part-of : {A : Type 0} (r : Result A (OrMemory UnfoldingFault)) (e : OrMemory UnfoldingFault)
    (P Q : UnfoldingFault → Type 0) → IsErrAnd r (λ d. d ≡ e) → IfFault e (IsFaultBy P)
    → ((f : UnfoldingFault) → P f → Q f) → IfRefused r (IsFaultBy Q)
part-of r e P Q h is to = refused r e (IsFaultBy P) (IsFaultBy Q) h (fault-by P Q to) is

-- one of a token, by its rule
pub of-many-by : {A : Type 0} (r : Result A (OrMemory UnfoldingFault)) (e : OrMemory UnfoldingFault) (Many : Type 0) (place : Place) (Q : UnfoldingFault → Type 0) → IsErrAnd r (λ d. d ≡ e)
    → ((f : UnfoldingFault) → OfMany Many place f → Q f) → IfFault e (OfMany Many place) → IfRefused r (IsFaultBy Q)
of-many-by r e Many place Q h to is = refused r e (OfMany Many place) (IsFaultBy Q) h (λ f o. subst (λ (r : UnfoldingRule). ByRule r (Q f)) (sym o.1.0) (to f o)) is

-- one of too many tuples
pub of-tuples-by : {A B : Type 0} (r : Result A (OrMemory UnfoldingFault)) (e : OrMemory UnfoldingFault) (place : Place) (tuples : List B) (Q : UnfoldingFault → Type 0) → IsErrAnd r (λ d. d ≡ e)
    → ((f : UnfoldingFault) → OfManyTuples place tuples f → Q f) → IfFault e (OfManyTuples place tuples) → IfRefused r (IsFaultBy Q)
of-tuples-by r e place tuples Q h to is = refused r e (OfManyTuples place tuples) (IsFaultBy Q) h (λ f o. subst (λ (r : UnfoldingRule). ByRule r (Q f)) (sym o.0.0) (to f o)) is

-- one of a value, by its rule
value-by : (P : Place → Type 0) (Q : UnfoldingFault → Type 0) → ((f : UnfoldingFault) → OfValue P f → Q f) → (f : UnfoldingFault) → IsFaultIn P f → IsFaultBy Q f
value-by P Q to f is = by f.rule refl is
  where
    by : (r : UnfoldingRule) → f.rule ≡ r → InPart P r f.place → ByRule r (Q f)
    by rule.Names e is = is
    by rule.Value e is = to f (e, is)
    by rule.Index e is = absurd is
    by rule.Count e is = is
    by rule.Operators e is = absurd is

pub of-value-by : {A : Type 0} (r : Result A (OrMemory UnfoldingFault)) (e : OrMemory UnfoldingFault)
    (P : Place → Type 0) (Q : UnfoldingFault → Type 0) → IsErrAnd r (λ d. d ≡ e)
    → ((f : UnfoldingFault) → OfValue P f → Q f) → IfFault e (IsFaultIn P) → IfRefused r (IsFaultBy Q)
of-value-by r e P Q h to is = refused r e (IsFaultIn P) (IsFaultBy Q) h (value-by P Q to) is

-- ---- what it says of the protocol

pub names-break : (m : ProtocolForm) (P : Place → Type 0) → ((p : Place) → P p → IsNameFault m p) → (f : UnfoldingFault) → IsOfNames P f → IsUnfoldingFault m f
names-break m P to f is = subst (λ (r : UnfoldingRule). BreaksRule m r f.place) (sym is.0) (to f.place is.1)

-- no rule of a term is that of values
not-value : (r : UnfoldRule) → rule.Value ≡ rule_of r → ⊥
not-value unfold_rule.Index e = cc
not-value unfold_rule.Operators e = cc
not-value unfold_rule.Depth e = cc
not-value unfold_rule.Values e = cc

as-it-is : (f : UnfoldingFault) (r : UnfoldingRule) → f.rule ≡ r → f ≡ record { rule = r; place = f.place }
as-it-is f r e = ap (λ (s : UnfoldingRule). record { rule = s; place = f.place }) e

-- the fault of a part, by the rule of a term or of values
pub part-breaks : (m : ProtocolForm) (f : UnfoldingFault) → IsFaultBy (IsFaultOfPart m) f → IsUnfoldingFault m f
part-breaks m f is = by f.rule refl is
  where
    valued : IsFaultOfPart m (record { rule = rule.Value; place = f.place }) → IsValueFault m f.place
    valued (inl o) = absurd (not-value o.0 o.1)
    valued (inr (inl o)) = absurd (not-value o.0 o.1)
    valued (inr (inr o)) = o

    by : (r : UnfoldingRule) → f.rule ≡ r → ByRule r (IsFaultOfPart m f) → BreaksRule m r f.place
    by rule.Names e is = absurd is
    by rule.Value e is = valued (subst (IsFaultOfPart m) (as-it-is f rule.Value e) is)
    by rule.Index e is = subst (IsFaultOfPart m) (as-it-is f rule.Index e) is
    by rule.Count e is = absurd is
    by rule.Operators e is = subst (IsFaultOfPart m) (as-it-is f rule.Operators e) is

pub term-breaks : (m : ProtocolForm) (P : UnfoldRule → Place → Type 0) → ((f : UnfoldingFault) → OfTerm P f → IsFaultOfPart m f) → (f : UnfoldingFault) → IsFaultBy (OfTerm P) f → IsUnfoldingFault m f
term-breaks m P to f is = part-breaks m f (fault-by (OfTerm P) (IsFaultOfPart m) to f is)

pub model-breaks : (m : ProtocolForm) (f : UnfoldingFault) → IsFaultBy (IsFaultOfModel m m m.properties) f → IsUnfoldingFault m f
model-breaks m f is = part-breaks m f (fault-by (IsFaultOfModel m m m.properties) (IsFaultOfPart m) (λ g o. inr o) f is)

-- what a fault of the state or of steps becomes
pub raised-so : (P : StepsFault → Type 0) (Q : UnfoldingFault → Type 0) (e : OrMemory StepsFault) (above : OrMemory UnfoldingFault)
    → ((s : StepsFault) (f : UnfoldingFault) → IsOfSteps s f → P s → Q f) → raised IsOfSteps e above → IfFault e P → IfFault above Q
raised-so P Q (Refused s) (Refused f) to gives is = to s f gives is
raised-so P Q (Refused s) Memory to gives is = tt
raised-so P Q Memory (Refused f) to gives is = absurd gives
raised-so P Q Memory Memory to gives is = tt

-- a call of the layer below whose error is raised
abbrev pub RaisesSteps : {A : Type 0} → Result A (OrMemory StepsFault) → Result A (OrMemory UnfoldingFault) → Type 0
RaisesSteps below above = MatchResult below (λ x. above ≡ Ok x) (λ e. IsErrAnd above (raised IsOfSteps e))

-- what it says of its value
pub ok-raised : {A : Type 0} (P : A → Type 0) (below : Result A (OrMemory StepsFault)) (x : A) → RaisesSteps below (Ok x) → IfOk below P → P x
ok-raised P (Ok y) x same h = let e : y ≡ x = cc in subst P e h
ok-raised P (Err e) x none h = absurd none

-- and of its fault
pub err-raised : {A : Type 0} (P : StepsFault → Type 0) (Q : UnfoldingFault → Type 0) (below : Result A (OrMemory StepsFault)) (above : OrMemory UnfoldingFault) → RaisesSteps below (Err above)
    → ((s : StepsFault) (f : UnfoldingFault) → IsOfSteps s f → P s → Q f) → IfRefused below P → IfFault above Q
err-raised P Q (Ok y) above none to h = let no : ⊥ = cc in absurd no
err-raised P Q (Err e) above gives to h = raised-so P Q e above to gives h
