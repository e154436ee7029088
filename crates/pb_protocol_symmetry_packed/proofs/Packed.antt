-- A packed model has the symmetries of the model.
use Rattle.std.proofs.Common.{◌≡◌, suc, ◌+◌, Bool, true, false, ◌&&◌, ◌||◌, if◌then◌else◌, List, [], ◌∷◌, refl, sym, ap, ◌∙◌}
use Rattle.std.specs.List.{list_any, list_all}
use Rattle.std.proofs.lemmas.Bool.{and_parts, cond-true}
use Rattle.pb_text_tree.specs.declared.operator.Quantifier.TheVariants.{Forall, Exists}
use Rattle.pb_model_meaning.specs.Syntax.{StepSet, Formula, Model}
use Rattle.pb_model_meaning.specs.Steps.{State, is_state, successors}
use Rattle.pb_model_meaning.specs.Satisfaction.{States, Valuation, satisfying}
use Rattle.pb_model_translation.specs.Translation.{has_equation, next_if, equation_count}
use Rattle.pb_model_translation.proofs.Lists.{of_list-map}
use Rattle.pb_model_symmetry.specs.Symmetry.{seen, KeepsSteps, IsKeptWhole, KeepsFormula, OfWhole, OfNot, OfAnd, OfOr, OfImplies, OfBox, OfDiamond, OfFixpoint}
use Rattle.pb_protocol_packing.specs.Packing.{Group, packed_by, packed_formula}
use Rattle.pb_protocol_packing.specs.Apart.{is_apart_formula}
use Rattle.pb_protocol_packing.specs.Groups.{groups_of}
use Rattle.pb_protocol_packing.proofs.Packable.{is-packing, property-apart}
use Rattle.pb_protocol_packing.specs.Unpacked.{unpacked, StandsFor, AllStandFor}
use Rattle.pb_protocol_symmetry_packed.specs.States.{packed_state}
use Rattle.pb_protocol_symmetry_packed.specs.Laws.{AreIsomorphic, AreEquivalent, through, PackedModelsAreIsomorphic, PackedFormulasAreEquivalent, PackedModelsAreSymmetric, PackedPropertiesAreSymmetric}

by_truth : {P : Type 0} (b : Bool) → (b ≡ true → P) → (b ≡ false → P) → P
by_truth true h k = h refl
by_truth false h k = k refl

-- ---- equations

has-same : (gs : List Group) (g : Formula) → has_equation (packed_formula gs g) ≡ has_equation g
has-same gs (Formula.Truth b) = refl
has-same gs (Formula.Data x) = refl
has-same gs (Formula.Named X) = refl
has-same gs (Formula.Not g) = refl
has-same gs (Formula.And g h) = refl
has-same gs (Formula.Or g h) = refl
has-same gs (Formula.Implies g h) = refl
has-same gs (Formula.Box A g) = refl
has-same gs (Formula.Diamond A g) = refl
has-same gs (Formula.Fixpoint sign X g) = refl

count-same : (gs : List Group) (g : Formula) → equation_count (packed_formula gs g) ≡ equation_count g
count-same gs (Formula.Truth b) = refl
count-same gs (Formula.Data x) = refl
count-same gs (Formula.Named X) = refl
count-same gs (Formula.Not g) = count-same gs g
count-same gs (Formula.And g h) = ap (λ k. k + equation_count (packed_formula gs h)) (count-same gs g) ∙ ap (λ k. equation_count g + k) (count-same gs h)
count-same gs (Formula.Or g h) = ap (λ k. k + equation_count (packed_formula gs h)) (count-same gs g) ∙ ap (λ k. equation_count g + k) (count-same gs h)
count-same gs (Formula.Implies g h) = ap (λ k. k + equation_count (packed_formula gs h)) (count-same gs g) ∙ ap (λ k. equation_count g + k) (count-same gs h)
count-same gs (Formula.Box A g) = ap (λ b. next_if b (equation_count (packed_formula gs g))) (has-same gs g) ∙ ap (next_if (has_equation g)) (count-same gs g)
count-same gs (Formula.Diamond A g) = ap (λ b. next_if b (equation_count (packed_formula gs g))) (has-same gs g) ∙ ap (next_if (has_equation g)) (count-same gs g)
count-same gs (Formula.Fixpoint sign X g) = ap suc (count-same gs g)

module _ (m n : Model) (unpack pack : State → State) (iso : AreIsomorphic m n unpack pack) (f : State → State) (states : (s : State) → is_state m (f s) ≡ is_state m s) where
  abbrev go : State → State
  go t = through n unpack pack f t

  at-states : (t : State) → is_state n t ≡ true → go t ≡ pack (f (unpack t))
  at-states t e = cond-true (is_state n t) (pack (f (unpack t))) t e

  f-state : (t : State) → is_state n t ≡ true → is_state m (f (unpack t)) ≡ true
  f-state t e = states (unpack t) ∙ iso.there t e

  go-state : (t : State) → is_state n t ≡ true → is_state n (go t) ≡ true
  go-state t e = ap (is_state n) (at-states t e) ∙ iso.packed (f (unpack t)) (f-state t e)

  unpack-go : (t : State) → is_state n t ≡ true → unpack (go t) ≡ f (unpack t)
  unpack-go t e = ap unpack (at-states t e) ∙ iso.unpacked (f (unpack t)) (f-state t e)

  pub states-kept : (t : State) → is_state n (go t) ≡ is_state n t
  states-kept t =
      by_truth (is_state n t)
      (λ e. go-state t e ∙ sym e)
      (λ e. ap (λ b. is_state n (if b then pack (f (unpack t)) else t)) e)

  -- ---- lists

  all-same : (p q : State → Bool) → ((s t : State) → StandsFor m n unpack s t → q t ≡ p s) → (ss ts : List State) → AllStandFor m n unpack ss ts → list_all q ts ≡ list_all p ss
  all-same p q h [] [] same = refl
  all-same p q h (s ∷ ss) (t ∷ ts) same = ap (λ b. b && list_all q ts) (h s t same.0) ∙ ap (λ b. p s && b) (all-same p q h ss ts same.1)
  all-same p q h [] (t ∷ ts) same = absurd same
  all-same p q h (s ∷ ss) [] same = absurd same

  any-same : (p q : State → Bool) → ((s t : State) → StandsFor m n unpack s t → q t ≡ p s) → (ss ts : List State) → AllStandFor m n unpack ss ts → list_any q ts ≡ list_any p ss
  any-same p q h [] [] same = refl
  any-same p q h (s ∷ ss) (t ∷ ts) same = ap (λ b. b || list_any q ts) (h s t same.0) ∙ ap (λ b. p s || b) (any-same p q h ss ts same.1)
  any-same p q h [] (t ∷ ts) same = absurd same
  any-same p q h (s ∷ ss) [] same = absurd same

  -- a set of states of n, as one of m
  abbrev of-m : States → States
  of-m S s = S (pack s)

  seen-same : (S : States) (b : Bool) (s t : State) → StandsFor m n unpack s t → seen n S b t ≡ seen m (of-m S) b s
  seen-same S b s t same =
      by_truth (is_state n t)
      (λ e. ap (λ c. if c then S t else b) e ∙ (sym (ap S (ap pack (sym (same.1 e)) ∙ iso.back t e)) ∙ sym (ap (λ c. if c then S (pack s) else b) (sym same.0 ∙ e))))
      (λ e. ap (λ c. if c then S t else b) e ∙ sym (ap (λ c. if c then S (pack s) else b) (sym same.0 ∙ e)))

  seen-gone : (S : States) (b : Bool) (s t : State) → StandsFor m n unpack s t → seen n S b (go t) ≡ seen m (of-m S) b (f s)
  seen-gone S b s t same =
      by_truth (is_state n t)
      (λ e. ap (λ c. if c then S (go t) else b) (go-state t e) ∙ (ap S (at-states t e ∙ ap (λ r. pack (f r)) (same.1 e)) ∙
      sym (ap (λ c. if c then S (pack (f s)) else b) (states s ∙ (sym same.0 ∙ e)))))
      (λ e. ap (λ c. if c then S (go t) else b) (states-kept t ∙ e) ∙ sym (ap (λ c. if c then S (pack (f s)) else b) (states s ∙ (sym same.0 ∙ e))))

  pub steps-kept : (A : StepSet) → KeepsSteps m f A → KeepsSteps n go A
  steps-kept A keeps t e S b =
      let s = unpack t in
      let r = keeps s (iso.there t e) (of-m S) b in
      let here = iso.successors A t e in
      let there = iso.successors A (go t) (go-state t e) in (
        all-same (seen m (of-m S) b) (seen n S b) (seen-same S b) (successors m A (unpack (go t))) (successors n A (go t)) there ∙
            (ap (λ r. list_all (seen m (of-m S) b) (successors m A r)) (unpack-go t e) ∙ (r.0 ∙ (of_list-map Forall (seen m (of-m S) b) f (successors m A s) ∙
            (sym (all-same (λ r. seen m (of-m S) b (f r)) (λ r. seen n S b (go r)) (seen-gone S b) (successors m A s) (successors n A t) here) ∙
            sym (of_list-map Forall (seen n S b) go (successors n A t)))))),
        any-same (seen m (of-m S) b) (seen n S b) (seen-same S b) (successors m A (unpack (go t))) (successors n A (go t)) there ∙
            (ap (λ r. list_any (seen m (of-m S) b) (successors m A r)) (unpack-go t e) ∙ (r.1 ∙ (of_list-map Exists (seen m (of-m S) b) f (successors m A s) ∙
            (sym (any-same (λ r. seen m (of-m S) b (f r)) (λ r. seen n S b (go r)) (seen-gone S b) (successors m A s) (successors n A t) here) ∙
            sym (of_list-map Exists (seen n S b) go (successors n A t)))))),
      )

  pub whole-kept : (g h : Formula) → equation_count h ≡ equation_count g → AreEquivalent m n unpack g h → IsKeptWhole m f g → IsKeptWhole n go h
  whole-kept g h count alike k = record {
    alone = count ∙ k.alone;
    same = λ ρ τ follow t e.
        let ρ' : Valuation = λ X s. ρ X (pack s) in
        let τ' : Valuation = λ X s. τ X (pack s) in
        alike τ' τ (λ X r d. ap (τ X) (sym (iso.back r d))) (go t) (go-state t e) ∙
        (ap (satisfying m τ' g) (unpack-go t e) ∙
        (k.same ρ' τ' (λ X s d.
        ap (λ r. τ X (pack (f r))) (sym (iso.unpacked s d)) ∙ (ap (τ X) (sym (at-states (pack s) (iso.packed s d))) ∙ follow X (pack s) (iso.packed s d)))
        (unpack t) (iso.there t e) ∙
        sym (alike ρ' ρ (λ X r d. ap (ρ X) (sym (iso.back r d))) t e)));
  }

module _ (m : Model) (gs : List Group) (pack : State → State) (iso : AreIsomorphic m (packed_by gs m) (unpacked gs) pack)
    (alike : (g : Formula) → is_apart_formula gs g ≡ true → AreEquivalent m (packed_by gs m) (unpacked gs) g (packed_formula gs g))
    (f : State → State) (states : (s : State) → is_state m (f s) ≡ is_state m s) where
  abbrev n : Model
  n = packed_by gs m

  abbrev unpack : State → State
  unpack = unpacked gs

  kept : (g : Formula) → is_apart_formula gs g ≡ true → KeepsFormula m f g → KeepsFormula n (through n unpack pack f) (packed_formula gs g)
  kept _ apart (OfWhole g k) = OfWhole _ (whole-kept m n unpack pack iso f states g (packed_formula gs g) (count-same gs g) (alike g apart) k)
  kept _ apart (OfNot g k) = OfNot _ (kept g apart k)
  kept _ apart (OfAnd g h k l) = let p = and_parts (is_apart_formula gs g) (is_apart_formula gs h) apart in OfAnd _ _ (kept g p.0 k) (kept h p.1 l)
  kept _ apart (OfOr g h k l) = let p = and_parts (is_apart_formula gs g) (is_apart_formula gs h) apart in OfOr _ _ (kept g p.0 k) (kept h p.1 l)
  kept _ apart (OfImplies g h k l) = let p = and_parts (is_apart_formula gs g) (is_apart_formula gs h) apart in OfImplies _ _ (kept g p.0 k) (kept h p.1 l)
  kept _ apart (OfBox A g keeps k) = OfBox A _ (steps-kept m n unpack pack iso f states A keeps) (kept g apart k)
  kept _ apart (OfDiamond A g keeps k) = OfDiamond A _ (steps-kept m n unpack pack iso f states A keeps) (kept g apart k)
  kept _ apart (OfFixpoint sign X g k) = OfFixpoint sign X _ (kept g apart k)

pub symmetric : PackedModelsAreIsomorphic → PackedFormulasAreEquivalent → PackedModelsAreSymmetric
symmetric isomorphic equivalent m gs packing g apart f sym-of =
    let iso = isomorphic m gs packing in
    record {
      states = states-kept m (packed_by gs m) (unpacked gs) (packed_state gs) iso f sym-of.states;
      formula = kept m gs (packed_state gs) iso (equivalent m gs packing) f sym-of.states g apart sym-of.formula;
    }

pub properties-symmetric : PackedModelsAreSymmetric → PackedPropertiesAreSymmetric
properties-symmetric models m p able among f sym-of =
    models m (groups_of m) (is-packing m able) p.formula (property-apart m able p among) f sym-of
