-- The instances of a text's module have the carriers of the text.
use Rattle.std.proofs.Common.{◌≡◌, ◌∙◌, List, [], ◌∷◌, map, refl, sym}
use Rattle.pb_text_tree.specs.Form.{SpecForm}
use Rattle.pb_text_meaning.specs.Erase.{erase}
use Rattle.pb_text_meaning.specs.Syntax.{Equation, Spec}
use Rattle.pb_text_meaning.specs.Formula as formula
use Rattle.pb_sorts.specs.declared.carrier.Carrier.{Carrier}
use Rattle.pb_sorts.specs.Layout.{carriers_of}
use Rattle.pb_typing.specs.Typed.{IsLayout}
use Rattle.pb_bytecode.specs.Contents.{EquationContents, Contents}
use Rattle.pb_bytecode.specs.Meaning.{parameters}
use Rattle.pb_assembler_scheme.proofs.TextEquations.{all_values}
use Rattle.pb_assembler_modules.specs.Module.{AreEquationsOf, IsCompiledModule}

pub equations_carriers : (spec : Spec) (m : Contents) (E : List Equation) (es : List EquationContents) → AreEquationsOf spec m E es
    → carriers_of (map (λ (e : EquationContents). e.parameters) es) ≡ map (λ (X : Equation). formula.carriers_of spec X.parameters) E
equations_carriers spec m [] [] q = refl
equations_carriers spec m [] (e ∷ es) q = absurd q
equations_carriers spec m (X ∷ E) [] q = absurd q
equations_carriers spec m (X ∷ E) (e ∷ es) q =
    let first = all_values spec e.parameters X.parameters q.0.parameters in
    let rest = equations_carriers spec m E es q.1 in
    cc

pub same_carriers : (text : SpecForm) (layout : List (List Carrier)) (m : Contents) → IsLayout (erase text) layout → IsCompiledModule (erase text) m
    → carriers_of (parameters m) ≡ carriers_of layout
same_carriers text layout m laid compiled =
    equations_carriers (erase text) m (erase text).equations m.equations compiled.equations ∙ sym laid.values
