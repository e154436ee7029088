-- How many instances the equations of a module have.
use Rattle.std.proofs.Common.{◌≡◌, ℕ, zero, suc, ◌<◌, List, [], ◌∷◌, length, get_or, map, Some, sym, ap, arith}
use Rattle.std.specs.Prelude.{slice_get}
use Rattle.pb_base_values.specs.Carrier.{tuple_count}
use Rattle.pb_sorts.specs.Carrier.{values_of}
use Rattle.pb_sorts.specs.Instance.{size_of}
use Rattle.pb_sorts.specs.Layout.{carriers_of}
use Rattle.pb_bytecode.specs.Contents.{EquationContents}
use Rattle.pb_bytecode.specs.declared.equation.Equation.{Equation}
use Rattle.pb_bytecode.specs.Views.{equation_contents}
use Rattle.pb_bytecode.specs.Meaning.{signature_of}

pub size_at : (es : List EquationContents) (k : ℕ) (e : EquationContents) → slice_get es k ≡ Some e →
    size_of (carriers_of (map (λ (x : EquationContents). x.parameters) es)) k ≡ (signature_of e).size
size_at [] k e h = cc
size_at (d ∷ es) zero e h = let same : d ≡ e = cc in ap (λ (x : EquationContents). tuple_count (map values_of x.parameters)) same
size_at (d ∷ es) (suc k) e h = size_at es k e h

pub contents_at : (xs : List Equation) (k : ℕ) (x : Equation) → k < length xs → x ≡ get_or xs k x → slice_get (map equation_contents xs) k ≡ Some (equation_contents x)
contents_at [] k x l e = absurd (omega arith)
contents_at (y ∷ xs) zero x l e = ap (λ (z : Equation). Some (equation_contents z)) (sym e)
contents_at (y ∷ xs) (suc k) x l e = contents_at xs k x (omega arith) e
