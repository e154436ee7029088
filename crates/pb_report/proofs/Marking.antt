-- Marks that are set one after the other.
use Rattle.std.proofs.Common.{◌≡◌, ℕ, ◌+◌, ◌<◌, Bool, true, false, List, length, get_or, set, inl, inr, sym, ap, ◌∙◌, arith}
use Rattle.std.specs.Prelude.{replicate}
use Rattle.std.proofs.lemmas.Bool.{cases_eq, false≢true}
use Rattle.std.proofs.lemmas.List.{get_or-replicate, get_or-set_same, get_or-set_other, length-replicate}
use Rattle.pb_fixpoint_trees.specs.Row.{TokenRow, nothing}
use Rattle.pb_evidence.specs.Marks.{IsMarked}
use Rattle.pb_evidence.proofs.Finding.{marked_within}
use Rattle.pb_report.specs.VertexNames.{AreRising}
use Rattle.pb_report.specs.InstanceMarks.{AreMarked}

unmarked : (count v : ℕ) → IsMarked (replicate count false) v → ⊥
unmarked count v h =
    let below = marked_within (replicate count false) v h in
    false≢true (sym (get_or-replicate count v false false (omega (arith, below, length-replicate count false))) ∙ h)

pub none_marked : (vertices : List ℕ) (rows : List TokenRow) (count : ℕ) (marks : List Bool) (numbers : List ℕ) →
    marks ≡ replicate count false → AreMarked vertices rows 0 marks numbers
none_marked vertices rows count marks numbers e = record {
  marked = λ k less. absurd (omega (arith, less));
  number = λ k less. absurd (omega (arith, less));
  only = λ v h. absurd (unmarked count v (sym (ap (λ (xs : List Bool). get_or xs v false) e) ∙ h));
}

pub one_marked : (vertices : List ℕ) (rows : List TokenRow) (k : ℕ) (marks : List Bool) (numbers : List ℕ) (v n : ℕ) → AreRising vertices →
    k < length vertices → v ≡ get_or vertices k 0 → n ≡ (get_or rows k nothing).number → v < length marks → v < length numbers →
    AreMarked vertices rows k marks numbers → AreMarked vertices rows (k + 1) (set marks v true) (set numbers v n)
one_marked vertices rows k marks numbers v n rising below here is l m was = record {
  marked = λ j less. elim (cases_eq j k) [
    | inl e ↦ ap (λ (u : ℕ). get_or (set marks v true) u false) (place j e) ∙ get_or-set_same marks v true false l
    | inr ne ↦ get_or-set_other marks v (get_or vertices j 0) true false (apart j (omega (arith, less, ne))) ∙ was.marked j (omega (arith, less, ne))
  ];
  number = λ j less. elim (cases_eq j k) [
    | inl e ↦
        ap (λ (u : ℕ). get_or (set numbers v n) u 0) (place j e)
        ∙ (get_or-set_same numbers v n 0 m ∙ (is ∙ ap (λ (i : ℕ). (get_or rows i nothing).number) (sym e)))
    | inr ne ↦ get_or-set_other numbers v (get_or vertices j 0) n 0 (apart j (omega (arith, less, ne))) ∙ was.number j (omega (arith, less, ne))
  ];
  only = λ u h. elim (cases_eq u v) [
    | inl e ↦ (k, omega arith, sym here ∙ sym e)
    | inr ne ↦
        let old = was.only u (sym (get_or-set_other marks v u true false ne) ∙ h) in
        let less = old.1 in
        (old.0, omega (arith, less), old.2)
  ];
}
  where
    place : (j : ℕ) → j ≡ k → get_or vertices j 0 ≡ v
    place j e = ap (λ (i : ℕ). get_or vertices i 0) e ∙ sym here

    apart : (j : ℕ) → j < k → get_or vertices j 0 ≡ v → ⊥
    apart j less e = let earlier = rising j k less below in omega (arith, earlier, here, e)
