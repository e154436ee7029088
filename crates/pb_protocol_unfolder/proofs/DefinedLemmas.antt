-- What names stand for in sets of steps, by the last definition first.
use Rattle.std.proofs.Common.{◌≡◌, ◌∙◌, ◌<◌, ℕ, zero, suc, arith, refl, sym, ap, Bool, false, ◌&&◌, if◌then◌else◌, List, [], ◌∷◌, take, length, get_or}
use Rattle.pb_text_tree.specs.Form.{VariableForm, variable_forms}
use Rattle.pb_text_meaning.specs.Syntax.{Name, same_name, Term}
use Rattle.pb_text_meaning.specs.Erase.{erased_variables}
use Rattle.pb_protocol_folding.specs.View.{term_of}
use Rattle.pb_protocol_tree.specs.declared.protocol.Definition as declared_definition
use Rattle.pb_protocol_tree.specs.Form.{definition_form}
use Rattle.pb_protocol_meaning.specs.Syntax.{Definition}
use Rattle.pb_protocol_meaning.specs.Erase.{erased_definition}
use Rattle.pb_protocol_unfolder.specs.Apart.{definition_bytes}
use Rattle.pb_protocol_unfolder.specs.Defined.{definitions_said, has_no_parameters, is_named, said_by, standing_by, stands_for, with_definition}
use Rattle.pb_protocol_unfolder.specs.Plain.{has_no_variables}

abbrev definition_said : declared_definition.Definition → Definition
definition_said d = erased_definition (definition_form d)

one-more : (look : Name → Term) (ds : List declared_definition.Definition) (k : ℕ) (d : declared_definition.Definition) (x : Name) → k < length ds → d ≡ get_or ds k d
    → standing_by look (definitions_said (take (suc k) ds)) x ≡ with_definition (standing_by look (definitions_said (take k ds))) (definition_said d) x
one-more look [] k d x within is = absurd (omega (arith, within))
one-more look (e ∷ ds) zero d x within is = ap (λ y. with_definition look (definition_said y) x) (sym is)
one-more look (e ∷ ds) (suc k) d x within is = one-more (with_definition look (definition_said e)) ds k d x (omega (arith, within)) is

no-parameters : (xs : List VariableForm) → has_no_parameters (erased_variables xs) ≡ has_no_variables xs
no-parameters [] = refl
no-parameters (x ∷ xs) = refl

-- the definition at a place, if it is meant, else those before it
pub definition-next : (ds : List declared_definition.Definition) (p k : ℕ) (d : declared_definition.Definition) (x : Name) → p ≡ suc k → k < length ds → d ≡ get_or ds k d
    → {truth : Bool} → (same_name (definition_bytes d) x && has_no_variables (variable_forms d.parameters.items)) ≡ truth → stands_for (definitions_said (take p ds)) x
    ≡ (if truth then said_by (stands_for (definitions_said (take k ds))) (term_of d.term) else stands_for (definitions_said (take k ds)) x)
definition-next ds p k d x next within is {truth = truth} meant =
    let look = stands_for (definitions_said (take k ds)) in
    ap (λ (n : ℕ). stands_for (definitions_said (take n ds)) x) next
    ∙ one-more (λ y. Term.Named y) ds k d x within is
    ∙ ap (λ (b : Bool). if same_name (definition_bytes d) x && b then said_by look (term_of d.term) else look x) (no-parameters (variable_forms d.parameters.items))
    ∙ ap (λ (b : Bool). if b then said_by look (term_of d.term) else look x) meant

-- what is no name stands as it is
pub said-itself : (look : Name → Term) (t : Term) → is_named t ≡ false → said_by look t ≡ t
said-itself look (Term.Named x) e = absurd (cc e)
said-itself look (Term.Truth b) e = refl
said-itself look (Term.Number n) e = refl
said-itself look (Term.Not t) e = refl
said-itself look (Term.Negative t) e = refl
said-itself look (Term.Binary o s t) e = refl
said-itself look (Term.Apply f ts) e = refl
said-itself look (Term.Quantified q xs t) e = refl

pub said-name : (look : Name → Term) (t : Term) (x : Name) → t ≡ Term.Named x → said_by look t ≡ look x
said-name look t x is = ap (said_by look) is
