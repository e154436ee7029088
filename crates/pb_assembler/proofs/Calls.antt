-- Emitting arguments, one in front of the others, and calls.
use Rattle.std.proofs.Common.{◌≡◌, ℕ, Bool, true, cond, List, [], ◌∷◌, ◌++◌, length, map, Option, Some, None, sym, subst}
use Rattle.std.specs.Prelude.{ℤ}
use Rattle.std.specs.List.{slice_set}
use Rattle.pb_sorts.specs.declared.carrier.Carrier.{Carrier}
use Rattle.pb_typing_tree.specs.View.{shape_view}
use Rattle.pb_bytecode_program.specs.declared.instruction.Leaf.TheVariants as leaf
use Rattle.pb_bytecode_program.specs.declared.instruction.Op.TheVariants as op
use Rattle.pb_typing_tree.specs.declared.formula.Argument.{Argument}
use Rattle.pb_normal.specs.Normal as normal
use Rattle.pb_normal.specs.View.{argument_view, term_view}
use Rattle.pb_assembler_scheme.specs.Pieces.{Piece, Plain, Then, Block, Leave}
use Rattle.pb_assembler_scheme.specs.Scheme.{data_piece, tested_range, any_tested, guarded, arguments_piece, call_piece}
use Rattle.pb_assembler_scheme.proofs.Sites.{data_stays}
use Rattle.pb_assembler_builder.specs.Draft.{Draft, Places}
use Rattle.pb_assembler.specs.Emitted.{Emits, nowhere, block_end, called_piece}
use Rattle.pb_assembler.proofs.Emitting.{emits_then, emits_anywhere, block_emitted}

-- the pieces of the arguments of a call, whose block ends at this label, if one is given
abbrev pub behind_arguments : ℕ → Option ℕ → List Carrier → List Argument → Piece
behind_arguments equation l cs xs = arguments_piece cs (map argument_view xs) (called_piece equation l)

-- an argument without a parameter
pub argument_alone : (equation : ℕ) (l : Option ℕ) {Cs : List Carrier} {Xs : List Argument} {X : Argument} {xs : List Argument} {d d1 d2 : Draft}
    → Cs ≡ [] → Xs ≡ X ∷ xs
    → Emits (data_piece (term_view X.term)) nowhere d d1 → Emits (behind_arguments equation l [] xs) (block_end l) d1 d2
    → Emits (behind_arguments equation l Cs Xs) (block_end l) d d2
argument_alone equation l {Cs} {Xs} {X} {xs} {d} {d1} {d2} none one hx hs =
    subst (λ (cs : List Carrier). Emits (behind_arguments equation l cs Xs) (block_end l) d d2) (sym none)
    (subst (λ (zs : List Argument). Emits (behind_arguments equation l [] zs) (block_end l) d d2) (sym one)
    (emits_then (emits_anywhere (data_stays (term_view X.term)) hx) hs))

-- an argument with its parameter
pub argument_first : (equation : ℕ) (l : Option ℕ) {Cs : List Carrier} {Xs : List Argument} {C : Carrier}
    {cs : List Carrier} {X : Argument} {xs : List Argument} {r : Option (ℤ × ℤ)} {later : Bool} {d d1 d2 : Draft}
    → Cs ≡ C ∷ cs → Xs ≡ X ∷ xs → r ≡ tested_range C (shape_view X.shape) → later ≡ any_tested cs (map argument_view xs)
    → Emits (data_piece (term_view X.term)) nowhere d d1 → Emits (guarded r later (behind_arguments equation l cs xs)) (block_end l) d1 d2
    → Emits (behind_arguments equation l Cs Xs) (block_end l) d d2
argument_first equation l {Cs} {Xs} {C} {cs} {X} {xs} {r} {later} {d} {d1} {d2} more one known behind hx hs =
    let x = data_piece (term_view X.term) in
    let rest = behind_arguments equation l cs xs in
    subst (λ (zs : List Carrier). Emits (behind_arguments equation l zs Xs) (block_end l) d d2) (sym more)
    (subst (λ (zs : List Argument). Emits (behind_arguments equation l (C ∷ cs) zs) (block_end l) d d2) (sym one)
    (subst (λ (q : Option (ℤ × ℤ)). Emits (Then x (guarded q (any_tested cs (map argument_view xs)) rest)) (block_end l) d d2) known
    (subst (λ (b : Bool). Emits (Then x (guarded r b rest)) (block_end l) d d2) behind
    (emits_then (emits_anywhere (data_stays (term_view X.term)) hx) hs))))

-- what is taken off behind an argument
pub popped : {x : Piece} {e : Places → ℕ} {d d1 d2 : Draft} → Emits x e d d1 → Emits (Plain op.Pop) nowhere d1 d2 → Emits (Then x (Plain op.Pop)) e d d2
popped h k = emits_then h (emits_anywhere tt k)

-- a call with a cut
pub cut_emitted : (equation : ℕ) (cs : List Carrier) (xs : List normal.Argument) (d d1 d2 d3 d4 : Draft) (l : ℕ)
    → true ≡ any_tested cs xs → l ≡ length d.places → d1 ≡ record d { places = d.places ++ None ∷ [] }
    → Emits (arguments_piece cs xs (called_piece equation (Some l))) (block_end (Some l)) d1 d2 → Emits (Plain (op.Emit leaf.Cut)) nowhere d2 d3
    → d4 ≡ record d3 { places = slice_set d3.places l (Some (length d3.ops)) } → Emits (call_piece equation cs xs) nowhere d d4
cut_emitted equation cs xs d d1 d2 d3 d4 l some n e1 h k e4 =
    let x = arguments_piece cs xs (Then (Plain (op.Call equation)) Leave) in
    let cut = Plain (op.Emit leaf.Cut) in
    subst (λ (b : Bool). Emits (cond b (Block (Then x cut)) (arguments_piece cs xs (Plain (op.Call equation)))) nowhere d d4) some
    (block_emitted (Then x cut) d d1 d3 d4 l n e1 (emits_then h (emits_anywhere tt k)) e4 nowhere)
