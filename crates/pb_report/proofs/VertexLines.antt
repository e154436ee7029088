-- The lines of a game, one after the other, and the rows whose vertices they are.
use Rattle.std.proofs.Common.{◌≡◌, ℕ, zero, suc, ◌+◌, ◌-◌, ◌<◌, ◌≤◌, List, [], ◌∷◌, ◌++◌, length, get_or, slice_index, Option, Some, None, refl, sym, ap, ◌∙◌, inl, inr, arith, ⊎_elim}
use Rattle.std.specs.Prelude.{◌==◌, true, false, IfSome, IsSome}
use Rattle.std.specs.Option.{is_some}
use Rattle.std.proofs.lemmas.Bool.{cases_Bool, cases_lt, eqb-true, eqb-false, cond-true, cond-false}
use Rattle.pb_fixpoint_trees.specs.Row as in_memory
use Rattle.pb_game.specs.declared.Game.{Game}
use Rattle.pb_game.specs.Games.{owner_of, priority_of, successors_of}
use Rattle.pb_fixpoint_trees.specs.Players.{parity_of}
use Rattle.pb_bytecode.specs.Contents.{Contents}
use Rattle.pb_report.specs.GameText.{head, numbers_text, vertex_at, vertex_line, vertex_text}
use Rattle.pb_report.specs.VertexNames.{name_by, name_in, number_in, IsAtRow, AreRising, lines_of}

pub number_some : (vs : List ℕ) (rs : List in_memory.TokenRow) (k v : ℕ) (d : in_memory.TokenRow) → length vs ≡ length rs → k < length vs → get_or vs k 0 ≡ v →
    ((j : ℕ) → j < k → get_or vs j 0 < v) → number_in vs rs v ≡ Some (get_or rs k d).number
number_some [] rs k v d m l e b = absurd (omega arith)
number_some (x ∷ vs) [] k v d m l e b = absurd (omega (arith, m))
number_some (x ∷ vs) (r ∷ rs) zero v d m l e b = elim (cases_Bool (v == x)) [
  | inl h ↦ cond-true (v == x) (Some r.number) (number_in vs rs v) h
  | inr h ↦ absurd (eqb-false v x h (sym e))
]
number_some (x ∷ vs) (r ∷ rs) (suc k) v d m l e b = elim (cases_Bool (v == x)) [
  | inl h ↦ let same : v ≡ x = eqb-true v x h in absurd (omega (arith, same, b 0 (omega arith)))
  | inr h ↦
      cond-false (v == x) (Some r.number) (number_in vs rs v) h
      ∙ number_some vs rs k v d (omega (arith, m)) (omega arith) e (λ j below. b (suc j) (omega (arith, below)))
]

pub number_none : (vs : List ℕ) (rs : List in_memory.TokenRow) (v : ℕ) → ((j : ℕ) → j < length vs → get_or vs j 0 ≡ v → ⊥) → number_in vs rs v ≡ None
number_none [] rs v never = refl
number_none (x ∷ vs) [] v never = refl
number_none (x ∷ vs) (r ∷ rs) v never = elim (cases_Bool (v == x)) [
  | inl h ↦ absurd (never 0 (omega arith) (sym (eqb-true v x h)))
  | inr h ↦ cond-false (v == x) (Some r.number) (number_in vs rs v) h ∙ number_none vs rs v (λ j below. never (suc j) (omega (arith, below)))
]

module _ (vs : List ℕ) (rising : AreRising vs) (k v : ℕ) (at : IsAtRow vs k v) where
  pub passed : (k < length vs → slice_index vs k ≡ v → ⊥) → (j : ℕ) → j < length vs → slice_index vs j ≡ v → ⊥
  passed never j l e =
      ⊎_elim (λ (h : j < k). omega (arith, at.before j h, e))
      (λ (h : k ≤ j). ⊎_elim (λ (far : k < j). omega (arith, rising k j far l, at.behind k (omega arith) (omega (arith, far, l)), e))
      (λ (near : j ≤ k). let same : j ≡ k = omega (arith, near, h) in never (omega (arith, l, near, h)) (ap (slice_index vs) (sym same) ∙ e))
      (cases_lt k j))
      (cases_lt j k)

  pub next_row : k < length vs → slice_index vs k ≡ v → IsAtRow vs (k + 1) (v + 1)
  next_row l e = record {
    before = λ j below. ⊎_elim (λ (h : j < k). omega (arith, at.before j h))
        (λ (h : k ≤ j). let same : j ≡ k = omega (arith, below, h) in omega (arith, ap (slice_index vs) same, e))
        (cases_lt j k);
    behind = λ j from below. omega (arith, rising k j (omega (arith, from)) below, e);
  }

  pub same_row : (k < length vs → slice_index vs k ≡ v → ⊥) → IsAtRow vs k (v + 1)
  same_row never = record {
    before = λ j below. omega (arith, at.before j below);
    behind = λ j from below.
        ⊎_elim (λ (h : v < slice_index vs j). omega (arith, h))
        (λ (h : slice_index vs j ≤ v). let same : slice_index vs j ≡ v = omega (arith, h, at.behind j from below) in absurd (passed never j below same))
        (cases_lt v (slice_index vs j));
  }

-- of the lines from v on to the end, the first one and the others
pub next_line : (m : Contents) (vs : List ℕ) (rows : List in_memory.TokenRow) (g : Game) (n v end : ℕ) (instance : Option ℕ) → v < end → end ≡ n → instance ≡ number_in vs rows v →
    lines_of (name_in m vs rows) g v (n - v) ≡ vertex_line v (vertex_at g v) (name_by m v instance) ++ lines_of (name_in m vs rows) g (v + 1) (n - (v + 1))
next_line m vs rows g n v end instance l all is =
    let names = name_in m vs rows in
    let more : n - v ≡ suc (n - (v + 1)) = omega (arith, l, all) in
    let next : suc v ≡ v + 1 = omega arith in
    ap (lines_of names g v) more
    ∙ (ap (λ (o : Option ℕ). vertex_line v (vertex_at g v) (name_by m v o) ++ lines_of names g (suc v) (n - (v + 1))) (sym is)
    ∙ ap (λ (u : ℕ). vertex_line v (vertex_at g v) (name_by m v instance) ++ lines_of names g u (n - (v + 1))) next)

-- a vertex's text, from parts that are read
pub vertex_is : (g : Game) (v priority parity : ℕ) (successors : List ℕ) → priority ≡ priority_of g v → parity ≡ parity_of (owner_of g v) → successors ≡ successors_of g v
    → head v priority parity ++ numbers_text successors ≡ vertex_text v (vertex_at g v)
vertex_is g v priority parity successors p o s =
    ap (λ (n : ℕ). head v n parity ++ numbers_text successors) p
    ∙ (ap (λ (n : ℕ). head v (priority_of g v) n ++ numbers_text successors) o
    ∙ ap (λ (ns : List ℕ). head v (priority_of g v) (parity_of (owner_of g v)) ++ numbers_text ns) s)

pub is_there : (o : Option ℕ) → is_some o ≡ true → IsSome o
is_there None e = cc
is_there (Some n) e = refl

pub is_absent : (o : Option ℕ) → is_some o ≡ false → IsSome o → ⊥
is_absent None e h = cc
is_absent (Some n) e h = cc

-- what holds of each number that an option can have
pub each_some : (o : Option ℕ) (P : ℕ → Type 0) → ((n : ℕ) → o ≡ Some n → P n) → IfSome o P
each_some None P each = tt
each_some (Some n) P each = each n refl
