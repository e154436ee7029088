-- The code of whole equations, as the builder's calls make it.
use Rattle.std.proofs.Common.{◌≡◌, ◌≤◌, List, [], length, refl, subst, arith}
use Rattle.pb_base.specs.declared.limits.TheConstants.{MAX_INSTRUCTIONS}
use Rattle.pb_sorts.specs.declared.carrier.Carrier.{Carrier}
use Rattle.pb_fixpoint_trees.specs.declared.junction.Junction.{Junction}
use Rattle.pb_bytecode_program.specs.declared.instruction.Op.TheVariants as op
use Rattle.pb_normal.specs.Normal.{Formula}
use Rattle.pb_assembler_scheme.proofs.Flat.{long}
use Rattle.pb_assembler_scheme.specs.Pieces.{Plain, Then}
use Rattle.pb_assembler_scheme.specs.Scheme.{bracketed, equation_code, equation_piece, formula_piece, head}
use Rattle.pb_assembler_builder.specs.Draft.{Draft, label_place}
use Rattle.pb_assembler.specs.Emitted.{Emits, nowhere}
use Rattle.pb_assembler.proofs.Emitting.{bracket_emitted, emits_then, emitted_long}

abbrev pub empty : Draft
empty = record { ops = []; places = [] }

pub equation_emitted : (callees : List (List Carrier)) (f : Formula) {m : Junction} {d0 d1 d2 d3 d4 : Draft} → m ≡ head f → d0 ≡ empty
    → Emits (Plain (op.Open m)) nowhere d0 d1 → Emits (formula_piece callees m f) nowhere d1 d2 → Emits (Plain op.Close) nowhere d2 d3 → Emits (Plain op.End) nowhere d3 d4
    → Emits (equation_piece callees f) nowhere empty d4
equation_emitted callees f {m} {d0} {d1} {d2} {d3} {d4} is new opened inner closed ended =
    subst (λ (d : Draft). Emits (equation_piece callees f) nowhere d d4) new
    (subst (λ (h : Junction). Emits (Then (bracketed h (formula_piece callees h f)) (Plain op.End)) nowhere d0 d4) is
    (emits_then (bracket_emitted m refl opened inner closed) ended))

pub code_short : (callees : List (List Carrier)) (f : Formula) {d : Draft}
    → length (equation_code callees f) ≤ MAX_INSTRUCTIONS → Emits (equation_piece callees f) nowhere empty d
    → length d.ops ≤ MAX_INSTRUCTIONS
code_short callees f {d} few h =
    omega (arith, emitted_long (equation_piece callees f) nowhere empty d (label_place d.places) h (λ l q at. at), long 0 0 (equation_piece callees f), few)
