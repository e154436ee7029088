-- Where the vertices of trees stand in the game's list of vertices.
use Rattle.std.proofs.Common.{◌≡◌, ℕ, suc, ◌+◌, ◌<◌, List, [], ◌∷◌, ◌++◌, length, Some, refl, sym, ap, ◌∙◌, subst, inl, inr, arith, append_assoc, length-append}
use Rattle.std.specs.Prelude.{slice_get, ◌==◌}
use Rattle.std.proofs.Math.Seq.{get_or-append_seam}
use Rattle.std.proofs.lemmas.Option.{slice_get-get_or}
use Rattle.std.proofs.lemmas.Bool.{cases_Bool, eqb-true, eqb-false, cond-true, cond-false}
use Rattle.pb_fixpoint_trees.specs.declared.junction.Junction.{Junction}
use Rattle.pb_fixpoint_trees.specs.Tree.{Operands, BracketThen}
use Rattle.pb_fixpoint_trees.specs.Game.{Vertex, brackets, inner, vertex_from, bracket_vertex, inner_vertices, tree_vertices, row_vertices}
use Rattle.pb_fixpoint_trees.specs.Rows.{Row}
use Rattle.pb_fixpoint_trees.proofs.Lengths.{length-inner_vertices, length-tree_vertices}
use Rattle.pb_fixpoint_trees.proofs.Members.{Among}

-- the vertices stand in the list at this place
abbrev pub StandAt : List Vertex → ℕ → List Vertex → Type 0
StandAt g n [] = Unit {0}
StandAt g n (x ∷ xs) = (slice_get g n ≡ Some x) × StandAt g (suc n) xs

stand_front : (g : List Vertex) (n : ℕ) (a b : List Vertex) → StandAt g n (a ++ b) → StandAt g n a
stand_front g n [] b h = tt
stand_front g n (x ∷ a) b h = (h.0, stand_front g (suc n) a b h.1)

stand_back : (g : List Vertex) (n : ℕ) (a b : List Vertex) → StandAt g n (a ++ b) → StandAt g (n + length a) b
stand_back g n [] b h = let e : n ≡ n + 0 = omega arith in subst (λ m. StandAt g m b) e h
stand_back g n (x ∷ a) b h =
    let e : suc n + length a ≡ n + length (x ∷ a) = omega arith in
    subst (λ m. StandAt g m b) e (stand_back g (suc n) a b h.1)

-- a list stands in itself
pub stand_all : (xs g : List Vertex) → StandAt (g ++ xs) (length g) xs
stand_all [] g = tt
stand_all (x ∷ xs) g =
    let within : length g < length (g ++ x ∷ xs) = omega (arith, length-append g (x ∷ xs)) in
    let here = slice_get-get_or (g ++ x ∷ xs) (length g) x within ∙ ap Some (get_or-append_seam g x xs x) in
    let n : length (g ++ x ∷ []) ≡ suc (length g) = omega (arith, length-append g (x ∷ [])) in
    let rest = stand_all xs (g ++ x ∷ []) in
    let rest' = subst (λ l. StandAt l (length (g ++ x ∷ [])) xs) (append_assoc g (x ∷ []) xs) rest in
    (here, subst (λ m. StandAt (g ++ x ∷ xs) m xs) n rest')

-- what stands for a bracket: its vertex, those of the brackets in it, and those of the brackets after it
pub record BracketStands (g : List Vertex) (at : ℕ → ℕ) (c : Junction) (inside after : Operands) (n : ℕ) : Type 0 where
  pub vertex : slice_get g n ≡ Some (bracket_vertex at 0 c inside (suc n))
  pub within : StandAt g (suc n) (inner_vertices at inside (suc n))
  pub behind : StandAt g (suc (n + brackets inside)) (inner_vertices at after (suc (n + brackets inside)))

pub bracket_stands : (g : List Vertex) (at : ℕ → ℕ) (c : Junction) (inside after : Operands) (n : ℕ) →
    StandAt g n (inner_vertices at (BracketThen c inside after) n) → BracketStands g at c inside after n
bracket_stands g at c inside after n h =
    let i = inner_vertices at inside (suc n) in
    let a = inner_vertices at after (suc (n + brackets inside)) in
    let e : suc n + length i ≡ suc (n + brackets inside) = omega (arith, length-inner_vertices at inside (suc n)) in
    record {
      vertex = h.0;
      within = stand_front g (suc n) i a h.1;
      behind = subst (λ m. StandAt g m a) e (stand_back g (suc n) i a h.1);
    }

-- the first row of an instance, whose vertices stand at the instance's vertex
pub record RowStands (g : List Vertex) (at priority : ℕ → ℕ) (rows : List Row) (next n : ℕ) : Type 0 where
  pub row : Row
  pub among : Among rows row
  pub numbered : row.number ≡ n
  pub stands : StandAt g (vertex_from rows next n) (tree_vertices at (priority n) row.tree (vertex_from rows next n))

pub row_stands : (g : List Vertex) (at priority : ℕ → ℕ) (rows : List Row) (next n : ℕ) → StandAt g next (row_vertices at priority rows next) →
    (r : Row) → Among rows r → r.number ≡ n → RowStands g at priority rows next n
row_stands g at priority [] next n h r among e = absurd among
row_stands g at priority (s ∷ rows) next n h r among e =
    let here = tree_vertices at (priority s.number) s.tree next in
    let later = row_vertices at priority rows (suc (next + inner s.tree)) in
    let m : next + length here ≡ suc (next + inner s.tree) = omega (arith, length-tree_vertices at (priority s.number) s.tree next) in
    let behind = subst (λ k. StandAt g k later) m (stand_back g next here later h) in
    elim (cases_Bool (s.number == n)) [
      | inl yes' ↦
          let is : s.number ≡ n = eqb-true s.number n yes' in
          let place : vertex_from (s ∷ rows) next n ≡ next = cond-true (s.number == n) next (vertex_from rows (suc (next + inner s.tree)) n) yes' in
          record {
            row = s;
            among = inl refl;
            numbered = is;
            stands = subst (λ k. StandAt g k (tree_vertices at (priority n) s.tree k)) (sym place)
                (subst (λ j. StandAt g next (tree_vertices at (priority j) s.tree next)) is (stand_front g next here later h));
          }
      | inr no' ↦
          let place : vertex_from (s ∷ rows) next n ≡ vertex_from rows (suc (next + inner s.tree)) n = cond-false (s.number == n) next (vertex_from rows (suc (next + inner s.tree)) n) no' in
          let among' : Among rows r = elim among [ inl is ↦ absurd (eqb-false s.number n no' (ap (λ (x : Row). x.number) is ∙ e)) | inr there ↦ there ] in
          let found = row_stands g at priority rows (suc (next + inner s.tree)) n behind r among' e in
          record {
            row = found.row;
            among = inr found.among;
            numbered = found.numbered;
            stands = subst (λ k. StandAt g k (tree_vertices at (priority n) found.row.tree k)) (sym place) found.stands;
          }
    ]
