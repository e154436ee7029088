-- The variables of one group among those of a list.
use Rattle.std.proofs.Common.{◌≡◌, ℕ, ◌+◌, ◌<◌, Bool, true, false, ◌||◌, if◌then◌else◌, List, [], ◌∷◌, ◌++◌, length, get_or, drop, map, refl, sym, ◌∙◌, ap, Option, Some}
use Rattle.std.specs.Prelude.{string_bytes}
use Rattle.pb_sorts.proofs.Places.{drop-at}
use Rattle.pb_text_tree.specs.declared.name.Name as declared_name
use Rattle.pb_text_tree.specs.declared.variable.Variables.{Variables}
use Rattle.pb_text_tree.specs.Form.{Named, VariableForm, named, variable_forms}
use Rattle.pb_text_meaning.specs.Syntax.{Name, same_name, Spec}
use Rattle.pb_typing_declarations.specs.Declarations.{variable_names}
use Rattle.pb_typing_declarations.specs.Shapes.{sort_shape}
use Rattle.pb_typing_declarations.specs.declared.fault.TypingFault.{TypingFault}
use Rattle.pb_typing_declarations.specs.Faults.{is_among}
use Rattle.pb_protocol_typing.specs.Names.{name_texts}
use Rattle.pb_protocol_typing.specs.Fault.{either_fault, first_fault}
use Rattle.pb_protocol_typing.specs.Scopes.{sort_in}
use Rattle.pb_protocol_typing.specs.Signatures.{variable_shapes}
use Rattle.pb_protocol_typing.proofs.Rows.{or_else-assoc}

either : (b c : Bool) (s : Name) (o : Option Name) → (if b then Some s else (if c then Some s else o)) ≡ (if b || c then Some s else o)
either true c s o = refl
either false c s o = refl

pub group-sort : (ns : List declared_name.Name) (sort : Named) (ys : List VariableForm) (x : Name)
    → sort_in (map (λ n. record { name = named n; sort = sort }) ns ++ ys) x ≡ (if is_among (name_texts ns) x then Some sort.text else sort_in ys x)
group-sort [] sort ys x = refl
group-sort (n ∷ ns) sort ys x =
    ap (λ o. if same_name (string_bytes n.text) x then Some sort.text else o) (group-sort ns sort ys x)
    ∙ either (same_name (string_bytes n.text) x) (is_among (name_texts ns) x) sort.text (sort_in ys x)

-- the variables of the groups from the one at k on
pub group-next : (gs : List Variables) (k : ℕ) (g : Variables) (x : Name) → k < length gs → g ≡ get_or gs k g
    → sort_in (variable_forms (drop k gs)) x ≡ (if is_among (name_texts g.names.items) x then Some (string_bytes g.sort.text) else sort_in (variable_forms (drop (k + 1) gs)) x)
group-next gs k g x below at =
    ap (λ (hs : List Variables). sort_in (variable_forms hs) x) (drop-at gs k g below at)
    ∙ group-sort g.names.items (named g.sort) (variable_forms (drop (k + 1) gs)) x

pub group-found : (o : Option Name) (b : Bool) (s : Name) (rest : Option Name) → o ≡ (if b then Some s else rest) → b ≡ true → Some s ≡ o
group-found o b s rest is h = cc

pub group-left : (o : Option Name) (b : Bool) (s : Name) (rest : Option Name) → o ≡ (if b then Some s else rest) → b ≡ false → o ≡ rest
group-left o b s rest is h = is ∙ ap (λ c. if c then Some s else rest) h

pub group-names : (sort : Named) (ns : List declared_name.Name) → variable_names (map (λ n. record { name = named n; sort = sort }) ns) ≡ map named ns
group-names sort [] = refl
group-names sort (n ∷ ns) = ap (λ xs. named n ∷ xs) (group-names sort ns)

-- the shapes of a group's variables are those of its sort
pub group-shapes : (spec : Spec) (sort : Named) (ns : List declared_name.Name)
    → variable_shapes spec (map (λ n. record { name = named n; sort = sort }) ns) ≡ map (λ (n : declared_name.Name). sort_shape spec sort.text) ns
group-shapes spec sort [] = refl
group-shapes spec sort (n ∷ ns) = ap (λ hs. sort_shape spec sort.text ∷ hs) (group-shapes spec sort ns)

-- the first fault of a group's names, and of those behind it
pub first-names : (fault : Named → Option TypingFault) (sort : Named) (ns : List declared_name.Name) (ys : List VariableForm)
    → first_fault fault (variable_names (map (λ n. record { name = named n; sort = sort }) ns ++ ys)) ≡ either_fault (first_fault fault (map named ns)) (first_fault fault (variable_names ys))
first-names fault sort [] ys = refl
first-names fault sort (n ∷ ns) ys =
    ap (either_fault (fault (named n))) (first-names fault sort ns ys)
    ∙ sym (or_else-assoc (fault (named n)) (first_fault fault (map named ns)) (first_fault fault (variable_names ys)))

-- the first fault of the groups from the one at k on
pub group-first : (fault : Named → Option TypingFault) (gs : List Variables) (k : ℕ) (g : Variables) → k < length gs → g ≡ get_or gs k g
    → first_fault fault (variable_names (variable_forms (drop k gs)))
    ≡ either_fault (first_fault fault (map named g.names.items)) (first_fault fault (variable_names (variable_forms (drop (k + 1) gs))))
group-first fault gs k g below at =
    ap (λ (hs : List Variables). first_fault fault (variable_names (variable_forms hs))) (drop-at gs k g below at)
    ∙ first-names fault (named g.sort) g.names.items (variable_forms (drop (k + 1) gs))
