use Rattle.std.proofs.Common.{◌≡◌, ◌==◌, ℕ, Bool, true, List, [], ◌∷◌, length, refl, sym, ap, ◌∙◌, subst, arith}
use Rattle.std.specs.Prelude.{if◌then◌else◌}
use Rattle.std.proofs.lemmas.Bool.Decides.{Decides-eqb}
use Rattle.pb_evidence_words.specs.Callers.{told_by}
use Rattle.pb_evidence_words.specs.WhyText.{dependencies_at, end_text, here_text, is_empty}
use Rattle.pb_evidence_words.proofs.Pushed.{said_as}
use Rattle.pb_evidence_words.proofs.line.Line.push_end.Goals as goal

empty-list : (xs : List ℕ) (b : Bool) → b ≡ (length xs == 0) → b ≡ true → is_empty xs ≡ true
empty-list [] b is so = refl
empty-list (x ∷ xs) b is so = absurd (omega (arith, (Decides-eqb (length (x ∷ xs)) 0).0 (sym is ∙ so)))

pub returns-then-is_empty : goal.returns-then-is_empty
returns-then-is_empty c =
    let line = c.args.self.now in
    let t = told_by line in
    let k = line.number in
    let xs = c.dependencies.result.now in
    let same : xs ≡ dependencies_at t k = c.dependencies.ensures ∙ sym (line.telling.now.ready.evidence.each k line.inside) in
    let none = subst (λ (ys : List ℕ). is_empty ys ≡ true) same (empty-list xs c.is_empty.result c.is_empty.ensures c.if-is_empty.true) in
    said_as c.push_here.result _ _ (here_text t k) (end_text t k) (sym (ap (λ b. if b then here_text t k else []) none)) c.push_here.ensures
