-- The instructions of a piece, in a code, are its standing there.
use Rattle.std.proofs.Common.{◌≡◌, ℕ, suc, ◌+◌, List, [], ◌∷◌, ◌++◌, length, Some, refl, subst, arith, length-append}
use Rattle.std.specs.List.{slice_get}
use Rattle.pb_bytecode_program.specs.declared.instruction.Op.{Op}
use Rattle.pb_bytecode_program.specs.declared.instruction.Op.TheVariants as op
use Rattle.pb_assembler_scheme.specs.Pieces.{Piece, Empty, Plain, Then, Unless, Choose, Repeat, Block, Leave, Guard, end, flat, HasPieceAt}

pub long : (q e : ℕ) (x : Piece) → end q x ≡ q + length (flat q e x)
long q e Empty = omega arith
long q e (Plain o) = omega arith
long q e (Then a b) = omega (arith, long q e a, long (end q a) e b, length-append (flat q e a) (flat (end q a) e b))
long q e (Unless on a) = omega (arith, long (q + 1) e a)
long q e (Choose on a b) =
    let t = flat (end (q + 1) a + 1) e b in
    omega (arith, long (q + 1) e a, long (end (q + 1) a + 1) e b, length-append (flat (q + 1) e a) (op.Jump (end (end (q + 1) a + 1) b) ∷ t))
long q e (Repeat s a) = omega (arith, long (q + 1) e a, length-append (flat (q + 1) e a) (op.Next ∷ []))
long q e (Block a) = long q (end q a) a
long q e Leave = omega arith
long q e (Guard low high a) = omega (arith, long (q + 1) e a, length-append (flat (q + 1) e a) (op.Pop ∷ []))

-- the instructions stand in the code at this place
abbrev pub HasAt : List Op → ℕ → List Op → Type 0
HasAt code q [] = Unit {0}
HasAt code q (i ∷ is) = (slice_get code q ≡ Some i) × HasAt code (q + 1) is

has_front : (code : List Op) (q : ℕ) (a b : List Op) → HasAt code q (a ++ b) → HasAt code q a
has_front code q [] b h = tt
has_front code q (i ∷ a) b h = (h.0, has_front code (q + 1) a b h.1)

has_back : (code : List Op) (q r : ℕ) (a b : List Op) → r ≡ q + length a → HasAt code q (a ++ b) → HasAt code r b
has_back code q r [] b e h = let f : q ≡ r = omega arith in subst (λ n. HasAt code n b) f h
has_back code q r (i ∷ a) b e h = has_back code (q + 1) r a b (omega arith) h.1

has_cons : (code : List Op) (i : Op) (is : List Op) (q : ℕ) → HasAt code q is → HasAt (i ∷ code) (suc q) is
has_cons code i [] q h = tt
has_cons code i (j ∷ is) q h =
    let e : suc (q + 1) ≡ suc q + 1 = omega arith in
    (h.0, subst (λ n. HasAt (i ∷ code) n is) e (has_cons code i is (q + 1) h.1))

pub has_all : (is : List Op) → HasAt is 0 is
has_all [] = tt
has_all (i ∷ is) = (refl, has_cons is i is 0 (has_all is))

pub stands : (code : List Op) (q e : ℕ) (x : Piece) → HasAt code q (flat q e x) → HasPieceAt code q e x
stands code q e Empty h = tt
stands code q e (Plain o) h = h.0
stands code q e (Then a b) h =
    let f = flat q e a in
    let g = flat (end q a) e b in
    (stands code q e a (has_front code q f g h), stands code (end q a) e b (has_back code q (end q a) f g (long q e a) h))
stands code q e (Unless on a) h = (h.0, stands code (q + 1) e a h.1)
stands code q e (Choose on a b) h =
    let f = flat (q + 1) e a in
    let r = end (q + 1) a in
    let g = op.Jump (end (r + 1) b) ∷ flat (r + 1) e b in
    let k = has_back code (q + 1) r f g (long (q + 1) e a) h.1 in
    (h.0, stands code (q + 1) e a (has_front code (q + 1) f g h.1), k.0, stands code (r + 1) e b k.1)
stands code q e (Repeat s a) h =
    let f = flat (q + 1) e a in
    let k = has_back code (q + 1) (end (q + 1) a) f (op.Next ∷ []) (long (q + 1) e a) h.1 in
    (h.0, stands code (q + 1) e a (has_front code (q + 1) f (op.Next ∷ []) h.1), k.0)
stands code q e (Block a) h = stands code q (end q a) a h
stands code q e Leave h = h.0
stands code q e (Guard low high a) h =
    let f = flat (q + 1) e a in
    let k = has_back code (q + 1) (end (q + 1) a) f (op.Pop ∷ []) (long (q + 1) e a) h.1 in
    (h.0, stands code (q + 1) e a (has_front code (q + 1) f (op.Pop ∷ []) h.1), k.0)
