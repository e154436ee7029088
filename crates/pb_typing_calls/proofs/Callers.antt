-- The right side of a caller: its typed tree, and the first call and all calls of its text.
use Rattle.std.proofs.Common.{◌≡◌, Bool, ℕ, zero, suc, ◌<◌, ◌≤◌, true, List, [], ◌∷◌, ◌++◌, Option}
use Rattle.std.proofs.Common.{Some, None, length, get_or, map, pos, replicate, refl, sym, ◌∙◌, ap}
use Rattle.std.proofs.Common.{subst, arith}
use Rattle.std.specs.List.{find, slice_get}
use Rattle.std.specs.Option.{option_map}
use Rattle.std.proofs.Math.ListN.{get_or-map}
use Rattle.std.proofs.Math.Path.{fun_ext}
use Rattle.std.proofs.lemmas.List.{length-append, length-replicate}
use Rattle.std.proofs.lemmas.Option.{get_or_from_slice_get, same_Some, slice_get-get_or}
use Rattle.std.proofs.lemmas.Option.{slice_get_past, slice_get_read, slice_get_within}
use Rattle.pb_text_tree.specs.declared.place.Place.{Place}
use Rattle.pb_text_tree.specs.Form.{EquationForm, SpecForm, spec_form}
use Rattle.pb_base_values.specs.Carrier as carriers
use Rattle.pb_base_values.specs.Carrier.{Tuple, is_within}
use Rattle.pb_sorts.specs.declared.carrier.Carrier.{Carrier}
use Rattle.pb_sorts.specs.Instance as numbered
use Rattle.pb_sorts.specs.Instance.{is_instance, is_tuple_of}
use Rattle.pb_sorts.specs.Layout.{carriers_of}
use Rattle.pb_sorts.proofs.Places.{IsImage, map_cases, map_length, slice_get-mapped}
use Rattle.pb_text_meaning.specs.Erase.{erase, erased_equation, erased_variables}
use Rattle.pb_text_meaning.specs.Formula as meaning
use Rattle.pb_text_meaning.specs.Formula.{Instance}
use Rattle.pb_text_meaning.specs.Meaning.{assigned}
use Rattle.pb_text_meaning.specs.Syntax.{Equation, Name, Spec}
use Rattle.pb_typing_declarations.specs.Entries.{shape_of, shapes_of}
use Rattle.pb_typing_declarations.specs.Shapes.{Shape}
use Rattle.pb_typing_rules.specs.Formula.{IsProper}
use Rattle.pb_typing_rules.specs.WellTyped.{AreProper, IsWellTyped, parameter_scope}
use Rattle.pb_typing_tree.specs.Calls.{call_places, calls_in}
use Rattle.pb_typing_tree.specs.Elaboration.{elaborated_equation, unslotted, with_slots}
use Rattle.pb_typing_tree.specs.Equations.{Hold}
use Rattle.pb_typing_tree.specs.Fits.{AreClear, EquationFits, FormulaFits, slot_count}
use Rattle.pb_typing_tree.specs.Loops.{equation_loops}
use Rattle.pb_typing_tree.specs.Meaning.{Slots}
use Rattle.pb_typing_tree.specs.Tree as tree
use Rattle.pb_typing_tree.specs.View.{formula_view}
use Rattle.pb_typing_tree.specs.declared.formula.Equation as typed
use Rattle.pb_typing_tree.proofs.EquationsFit.{equations-fit, within-length}
use Rattle.pb_typing_tree.proofs.Parameters.{agree-parameters, free-parameters}
use Rattle.pb_typing.specs.declared.typed.Typed.{Typed}
use Rattle.pb_typing.proofs.Accepted.{accepted-well-typed}
use Rattle.pb_typing_values.specs.Environment.{IsLaidOut, all_carriers}
use Rattle.pb_typing_values.specs.Slots.{slots_of}
use Rattle.pb_typing_values.proofs.Called.{length-laid_out}
use Rattle.pb_typing_calls.specs.Calls.{call_place, first_call, first_call_at, instance_named}
use Rattle.pb_typing_calls.specs.Calls.{makes_call}
use Rattle.pb_typing_calls.specs.Gathered.{gathered}
use Rattle.pb_typing_calls.specs.MadeCalls.{calls_at, equation_calls, made_calls}
use Rattle.pb_typing_calls.specs.Made.{first_made, made}
use Rattle.pb_typing_calls.proofs.Elaborated.{AreSame, elaborated-makes}
use Rattle.pb_typing_calls.proofs.EquationNames.{place-named}
use Rattle.pb_typing_calls.proofs.MadeCalls.{elaborated-gathers, inside-none}

-- ---- slots of which the first hold values, and the others 0

pub first-hold : (vs zs : Tuple) → Hold (slots_of (vs ++ zs)) vs
first-hold [] zs s below = absurd (omega (arith, below))
first-hold (v ∷ vs) zs zero below = refl
first-hold (v ∷ vs) zs (suc s) below = first-hold vs zs s (omega (arith, below))

zeros-clear : (m : ℕ) → AreClear 0 (slots_of (replicate m (pos 0)))
zeros-clear zero s le = refl
zeros-clear (suc m) zero le = refl
zeros-clear (suc m) (suc s) le = zeros-clear m s (omega arith)

pub rest-clear : (vs : Tuple) (m : ℕ) → AreClear (length vs) (slots_of (vs ++ replicate m (pos 0)))
rest-clear [] m s le = zeros-clear m s le
rest-clear (v ∷ vs) m zero le = absurd (omega (arith, le))
rest-clear (v ∷ vs) m (suc s) le = rest-clear vs m s (omega (arith, le))

-- ---- the first call of a text's equation

pub proper-at : (spec : Spec) (E : List Equation) (k : ℕ) (X : Equation) → AreProper spec E
    → slice_get E k ≡ Some X → IsProper spec true (parameter_scope spec X) X.right
proper-at spec [] k X proper at = cc
proper-at spec (Y ∷ E) zero X proper at =
    subst (λ (Z : Equation). IsProper spec true (parameter_scope spec Z) Z.right)
    (same_Some Y X at) proper.0
proper-at spec (Y ∷ E) (suc k) X proper at = proper-at spec E k X proper.1 at

pub no_caller : (text : SpecForm) (i j : numbered.Instance)
    → slice_get text.equations i.equation ≡ None → None ≡ call_place text i j
no_caller text i j e =
    sym (ap (λ (o : Option EquationForm). first_call_at (erase text) o i.values
    (instance_named text j)) e)

pub no_called : (text : SpecForm) (i j : numbered.Instance) (X : EquationForm)
    → slice_get text.equations i.equation ≡ Some X → slice_get text.equations j.equation ≡ None
    → None ≡ call_place text i j
no_called text i j X at e =
    let first : Option EquationForm → Option Instance → Option Place =
    λ o k. first_call_at (erase text) o i.values k in
    let name : EquationForm → Instance = λ Y. record { name = Y.name.text; values = j.values } in
    sym (ap (λ (o : Option EquationForm). first o (instance_named text j)) at
    ∙ ap (first (Some X)) (ap (option_map name) e))

-- the instance that is called, by its name
abbrev named : EquationForm → Tuple → Instance
named Y vs = record { name = Y.name.text; values = vs }

same-instance : (text : SpecForm) → IsWellTyped (erase text) → (j : numbered.Instance)
    (Y : EquationForm) → slice_get text.equations j.equation ≡ Some Y
    → AreSame (erase text) (named Y j.values) j
same-instance text well j Y at =
    let E = (erase text).equations in
    let there = slice_get-mapped erased_equation text.equations j.equation Y at in
    let name = slice_get-mapped (λ (Z : Equation). Z.name) E j.equation (erased_equation Y) there in
    record {
      equation = λ x.
          place-named E 0 j.equation j.equation x Y.name.text well.declarations.predicate_variables
          (omega arith) name;
      values = refl;
    }

call-place : (text : SpecForm) (i j : numbered.Instance) (X Y : EquationForm)
    → slice_get text.equations i.equation ≡ Some X → slice_get text.equations j.equation ≡ Some Y
    → first_call (erase text) (named Y j.values)
    (assigned (erased_variables X.parameters) i.values []) X.right
    ≡ call_place text i j
call-place text i j X Y at at_called =
    let first : Option EquationForm → Option Instance → Option Place =
    λ o k. first_call_at (erase text) o i.values k in
    let name : EquationForm → Instance = λ Z. named Z j.values in
    sym (ap (λ (o : Option EquationForm). first o (instance_named text j)) at
    ∙ ap (first (Some X)) (ap (option_map name) at_called))

-- where the first slots hold a caller's values, its typed tree makes the first call of the text
pub first-kept : (text : SpecForm) → IsWellTyped (erase text) → (i j : numbered.Instance)
    (X Y : EquationForm)
    → slice_get text.equations i.equation ≡ Some X → slice_get text.equations j.equation ≡ Some Y
    → (slots : Slots) → length i.values ≡ length (erased_variables X.parameters)
    → Hold slots i.values
    → first_made (erase text) j slots (elaborated_equation (erase text) (erased_equation X))
    (calls_in X.right)
    ≡ call_place text i j
first-kept text well i j X Y at at_called slots count hold =
    let S = erase text in
    let xs = erased_variables X.parameters in
    let ps = calls_in X.right in
    let there = slice_get-mapped erased_equation text.equations i.equation X at in
    let scope = parameter_scope S (erased_equation X) in
    let proper = proper-at S S.equations i.equation (erased_equation X) well.rights there in
    let a = assigned xs i.values [] in
    let c = with_slots xs 0 unslotted in
    let of_tree : Place → Bool =
    λ p. made S j p slots (elaborated_equation S (erased_equation X)) ps in
    let of_text : Place → Bool = λ p. makes_call S (named Y j.values) p a X.right in
    let same : of_tree ≡ of_text =
    fun_ext (λ p. elaborated-makes S p (named Y j.values) j (same-instance text well j Y at_called)
    X.right true scope proper c (length xs) slots a (free-parameters xs)
    (agree-parameters xs i.values slots count hold)) in
    ap (λ (f : Place → Bool). find f ps) same ∙ call-place text i j X Y at at_called

-- ---- the typed tree of a caller's equation

-- what an equation of the code says of the equation of the text that it comes from
pub record IsTreeOf (text : SpecForm) (k : ℕ) (X : typed.Equation) : Type 0 where
  pub form : EquationForm
  pub at : slice_get text.equations k ≡ Some form
  pub right : formula_view X.right ≡ elaborated_equation (erase text) (erased_equation form)
  pub calls : call_places X.right ≡ calls_in form.right
  pub loops : length X.loops.items ≡ length (equation_loops (erase text) (erased_equation form))

read : {Y : Type 0} (f : typed.Equation → Y) (E : List typed.Equation) (k : ℕ)
    (X : typed.Equation) → k < length E → X ≡ get_or E k X → slice_get (map f E) k ≡ Some (f X)
read f E k X lt at = slice_get-mapped f E k X (slice_get_read E (length E) k X refl lt at)

pub tree-at : (t : Typed) (k : ℕ) (X : typed.Equation) → k < length t.equations.items
    → X ≡ get_or t.equations.items k X → IsTreeOf (spec_form t.spec) k X
tree-at t k X lt at =
    let text = spec_form t.spec in
    let S = erase text in
    let E = t.equations.items in
    let right_of : typed.Equation → tree.Formula = λ Z. formula_view Z.right in
    let places_of : typed.Equation → List Place = λ Z. call_places Z.right in
    let shapes : typed.Equation → List Shape = λ Z. shapes_of Z.loops.items in
    let right_at : slice_get (map (elaborated_equation S) S.equations) k ≡ Some (right_of X) =
    ap (λ (fs : List tree.Formula). slice_get fs k) (sym t.rights) ∙ read right_of E k X lt at in
    let of : IsImage (elaborated_equation S) S.equations k (right_of X) =
    map_cases (elaborated_equation S) S.equations k (right_of X) right_at in
    let origin : IsImage erased_equation text.equations k of.source =
    map_cases erased_equation text.equations k of.source of.at in
    let W = origin.source in
    let calls_of : EquationForm → List Place = λ Z. calls_in Z.right in
    let loops_of : slice_get (map (equation_loops S) S.equations) k ≡ Some (shapes X) =
    ap (λ (ls : List (List Shape)). slice_get ls k) (sym t.loops) ∙ read shapes E k X lt at in
    let there = slice_get-mapped erased_equation text.equations k W origin.at in
    record {
      form = W;
      at = origin.at;
      right = sym of.image ∙ ap (elaborated_equation S) (sym origin.image);
      calls =
          same_Some (places_of X) (calls_of W)
          (sym (read places_of E k X lt at) ∙ ap (λ (ps : List
          (List Place)). slice_get ps k) t.calls
          ∙ slice_get-mapped calls_of text.equations k W origin.at);
      loops =
          sym (map_length shape_of X.loops.items)
          ∙ ap (λ (ls : List Shape). length ls) (same_Some (shapes X) (equation_loops S
          (erased_equation W))
          (sym loops_of ∙ slice_get-mapped (equation_loops S) S.equations k
          (erased_equation W) there));
    }

-- the equation that was read
pub tree-read : (t : Typed) (E : List typed.Equation) (k n : ℕ) (X : typed.Equation)
    → E ≡ t.equations.items → n ≡ k → n < length E → X ≡ get_or E n X
    → IsTreeOf (spec_form t.spec) k X
tree-read t E k n X same is lt at =
    subst (λ (m : ℕ). IsTreeOf (spec_form t.spec) m X) is
    (tree-at t n X (subst (λ (F : List typed.Equation). n < length F) same lt)
    (at ∙ ap (λ (F : List typed.Equation). get_or F n X) same))

equations-count : (t : Typed) → length t.equations.items ≡ length (spec_form t.spec).equations
equations-count t =
    let text = spec_form t.spec in
    let S = erase text in
    let right_of : typed.Equation → tree.Formula = λ Z. formula_view Z.right in
    sym (map_length right_of t.equations.items)
    ∙ ap (λ (fs : List tree.Formula). length fs) t.rights
    ∙ map_length (elaborated_equation S) S.equations ∙ map_length erased_equation text.equations

pub no-form : (t : Typed) (E : List typed.Equation) (k n : ℕ) → E ≡ t.equations.items → n ≡ k
    → length E ≤ n → slice_get (spec_form t.spec).equations k ≡ None
no-form t E k n same is le =
    let long = ap (λ (F : List typed.Equation). length F) same in
    slice_get_past (spec_form t.spec).equations k (omega (arith, equations-count t, long, is, le))

pub form-at : (t : Typed) (E : List typed.Equation) (k n : ℕ) (W : EquationForm)
    → E ≡ t.equations.items → n ≡ k → n < length E
    → slice_get (spec_form t.spec).equations k ≡ Some (get_or (spec_form t.spec).equations k W)
form-at t E k n W same is lt =
    let long = ap (λ (F : List typed.Equation). length F) same in
    slice_get-get_or (spec_form t.spec).equations k W (omega
    (arith, equations-count t, long, is, lt))

pub laid-out : (t : Typed) → IsLaidOut (erase (spec_form t.spec)) t.layout
laid-out t =
    let E = (erase (spec_form t.spec)).equations in
    let well = accepted-well-typed (spec_form t.spec) t.faultless in
    let name : Equation → Name = λ X. X.name in
    record {
      apart = λ i j d lt below e.
          well.declarations.predicate_variables i j d.name lt
          (omega (arith, below, map_length name E))
          (get_or-map name E i d ∙ (e ∙ sym (get_or-map name E j d)));
      carriers = t.laid_out.values;
    }

-- the values of a caller are in the carriers of its equation's parameters
within-carriers : (t : Typed) (i : numbered.Instance) (X : EquationForm)
    → slice_get (spec_form t.spec).equations i.equation ≡ Some X
    → is_instance (carriers_of t.layout) i ≡ true
    → is_within (meaning.carriers_of (erase (spec_form t.spec))
    (erased_variables X.parameters)) i.values ≡ true
within-carriers t i X at instance =
    let text = spec_form t.spec in
    let S = erase text in
    let there = slice_get-mapped erased_equation text.equations i.equation X at in
    let carriers_at : Equation → List carriers.Carrier = λ Y. meaning.carriers_of S Y.parameters in
    let parameters : slice_get (all_carriers S) i.equation ≡ Some (carriers_at
    (erased_equation X)) =
    slice_get-mapped carriers_at S.equations i.equation (erased_equation X) there in
    ap (λ (o : Option (List carriers.Carrier)). is_tuple_of o i.values) (sym parameters)
    ∙ (ap (λ (css : List (List carriers.Carrier)). is_tuple_of (slice_get css i.equation) i.values)
    (sym t.laid_out.values)
    ∙ instance)

pub values-count : (t : Typed) (i : numbered.Instance) (X : EquationForm)
    → slice_get (spec_form t.spec).equations i.equation ≡ Some X
    → is_instance (carriers_of t.layout) i ≡ true
    → length i.values ≡ length (erased_variables X.parameters)
values-count t i X at instance =
    within-length (erase (spec_form t.spec)) (erased_variables X.parameters) i.values
    (within-carriers t i X at instance)

-- the slots of a caller, as they are made: its values, and 0 for each variable of a quantifier
pub caller-slots : {slots made vs us : Tuple} {cs ds : List Carrier}
    → slots ≡ made → made ≡ vs ++ replicate (length cs) (pos 0) → vs ≡ us → cs ≡ ds → slots ≡ us ++ replicate (length ds) (pos 0)
caller-slots {slots} {made} {vs} {us} {cs} same is values loops =
    same ∙ (is ∙ (ap (λ (ws : Tuple). ws ++ replicate (length cs) (pos 0)) values
    ∙ ap (λ (es : List Carrier). us ++ replicate (length es) (pos 0)) loops))

-- its tree fits them
pub caller-fits : (t : Typed) (i : numbered.Instance) (X : typed.Equation) (slots : Tuple)
    → IsTreeOf (spec_form t.spec) i.equation X → is_instance (carriers_of t.layout) i ≡ true
    → slots ≡ i.values ++ replicate (length X.loops.items) (pos 0)
    → FormulaFits (length t.layout) (length slots) (slots_of slots) (formula_view X.right)
caller-fits t i X slots of instance are =
    let text = spec_form t.spec in
    let S = erase text in
    let Z = erased_equation of.form in
    let xs = erased_variables of.form.parameters in
    let vs = i.values in
    let m = length X.loops.items in
    let zeros = replicate m (pos 0) in
    let there = slice_get-mapped erased_equation text.equations i.equation of.form of.at in
    let count = values-count t i of.form of.at instance in
    let well = accepted-well-typed text t.faultless in
    let fits : EquationFits S Z =
    subst (EquationFits S) (get_or_from_slice_get S.equations i.equation Z Z there)
    (equations-fit S well i.equation Z (slice_get_within S.equations i.equation Z there)) in
    let clear = subst (λ (n : ℕ). AreClear n (slots_of (vs ++ zeros))) count (rest-clear vs m) in
    let here =
    fits vs (slots_of (vs ++ zeros)) (within-carriers t i of.form of.at instance)
    (first-hold vs zeros) clear in
    let equations = length-laid_out S t.layout (laid-out t) in
    let long : slot_count S Z ≡ length slots =
    sym (ap (λ (us : Tuple). length us) are
    ∙ omega (arith, length-append vs zeros, length-replicate m (pos 0), count, of.loops)) in
    subst (λ (us : Tuple). FormulaFits (length t.layout) (length slots) (slots_of us)
    (formula_view X.right))
    (sym are)
    (subst (λ (f : tree.Formula). FormulaFits (length t.layout) (length slots) (slots_of
    (vs ++ zeros)) f)
    (sym of.right)
    (subst (λ (k : ℕ). FormulaFits k (length slots) (slots_of (vs ++ zeros))
    (elaborated_equation S Z))
    (sym equations)
    (subst (λ (n : ℕ). FormulaFits (length S.equations) n (slots_of (vs ++ zeros))
    (elaborated_equation S Z))
    long here)))

-- the first call of its typed tree is that of its text
pub first-of-text : (t : Typed) (i j : numbered.Instance) (X : typed.Equation) (Y : EquationForm)
    (slots : Tuple) → IsTreeOf (spec_form t.spec) i.equation X
    → is_instance (carriers_of t.layout) i ≡ true
    → slots ≡ i.values ++ replicate (length X.loops.items) (pos 0)
    → slice_get (spec_form t.spec).equations j.equation ≡ Some Y
    → first_made (erase (spec_form t.spec)) j (slots_of slots) (formula_view X.right)
    (call_places X.right)
    ≡ call_place (spec_form t.spec) i j
first-of-text t i j X Y slots of instance are at_called =
    let text = spec_form t.spec in
    let S = erase text in
    let zeros = replicate (length X.loops.items) (pos 0) in
    let hold : Hold (slots_of slots) i.values =
    subst (λ (us : Tuple). Hold (slots_of us) i.values) (sym are) (first-hold i.values zeros) in
    ap (λ (f : tree.Formula). first_made S j (slots_of slots) f (call_places X.right)) of.right
    ∙ (ap (first_made S j (slots_of slots) (elaborated_equation S
    (erased_equation of.form))) of.calls
    ∙ first-kept text (accepted-well-typed text t.faultless) i j of.form Y of.at at_called
    (slots_of slots) (values-count t i of.form of.at instance) hold)

-- ---- all calls

-- the calls of its typed tree are those of its text
pub calls-of-text : (t : Typed) (i : numbered.Instance) (X : typed.Equation) (slots : Tuple)
    → IsTreeOf (spec_form t.spec) i.equation X → is_instance (carriers_of t.layout) i ≡ true
    → slots ≡ i.values ++ replicate (length X.loops.items) (pos 0)
    → gathered (erase (spec_form t.spec)) [] (slots_of slots) (formula_view X.right)
    (call_places X.right)
    ≡ calls_at (spec_form t.spec) i
calls-of-text t i X slots of instance are =
    let text = spec_form t.spec in
    let S = erase text in
    let Y = erased_equation of.form in
    let xs = erased_variables of.form.parameters in
    let zeros = replicate (length X.loops.items) (pos 0) in
    let well = accepted-well-typed text t.faultless in
    let there = slice_get-mapped erased_equation text.equations i.equation of.form of.at in
    let scope = parameter_scope S Y in
    let proper = proper-at S S.equations i.equation Y well.rights there in
    let a = assigned xs i.values [] in
    let c = with_slots xs 0 unslotted in
    let hold : Hold (slots_of slots) i.values =
    subst (λ (us : Tuple). Hold (slots_of us) i.values) (sym are) (first-hold i.values zeros) in
    ap (λ (f : tree.Formula). gathered S [] (slots_of slots) f (call_places X.right)) of.right
    ∙ (ap (gathered S [] (slots_of slots) (elaborated_equation S Y)) of.calls
    ∙ (elaborated-gathers S of.form.right true scope proper c (length xs) (slots_of slots) a []
    (free-parameters xs)
    (agree-parameters xs i.values (slots_of slots) (values-count t i of.form of.at instance) hold)
    tt
    ∙ (inside-none (made_calls S a of.form.right)
    ∙ sym (ap (λ (o : Option EquationForm). equation_calls S o i.values) of.at))))
