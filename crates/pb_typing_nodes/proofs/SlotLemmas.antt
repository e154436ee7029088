-- How lists of variables get shapes, slots and carriers.
use Rattle.std.proofs.Common.{◌≡◌, ℕ, zero, suc, ◌+◌, ◌<◌, ◌≤◌, Bool, true, false, cond, List, [], ◌∷◌, ◌++◌, map, length, get_or, drop, refl, sym, ◌∙◌, ap, arith, string_bytes, Option, Some}
use Rattle.std.proofs.Math.Path.{fun_ext}
use Rattle.std.proofs.lemmas.List.{length-append, length-map, drop-drop, drop_all}
use Rattle.std.specs.HashMap.{IsEmpty}
use Rattle.std.specs.Option.{option_map}
use Rattle.pb_sorts.specs.declared.carrier.Carrier.{Carrier}
use Rattle.pb_sorts.proofs.Places.{drop-at}
use Rattle.pb_text_tree.specs.declared.name.Name as ast
use Rattle.pb_text_tree.specs.declared.variable.Variables.{Variables}
use Rattle.pb_text_tree.specs.Form.{VariableForm, named, variable_forms}
use Rattle.pb_text_meaning.specs.Syntax.{Name, same_name, Variable, Spec}
use Rattle.pb_typing_rules.specs.Scope as scopes
use Rattle.pb_typing_rules.specs.Scope.{Scope, outermost, declare, bound}
use Rattle.pb_text_meaning.specs.Sorts.{or_else}
use Rattle.pb_text_meaning.specs.Erase.{erased_variables}
use Rattle.pb_typing_declarations.specs.Shapes.{Shape, sort_shape}
use Rattle.pb_typing_declarations.specs.Entries.{shape_of}
use Rattle.pb_typing_declarations.specs.Tables.{Table, entry_of}
use Rattle.pb_typing_declarations.proofs.Filling.{none_in}
use Rattle.pb_typing_tree.specs.Loops.{variable_shapes}
use Rattle.pb_typing_tree.specs.Elaboration.{Slotting, unslotted, with_slot, with_slots}
use Rattle.pb_typing_tree.specs.View.{shape_view}
use Rattle.pb_typing_nodes.specs.declared.scope.Variable as program
use Rattle.pb_typing_nodes.specs.Scopes.{inner_slots, inner_view, named_shapes, named_slots, table_slots, table_view, with_entry}
use Rattle.pb_typing_declarations.specs.Entries.{shapes_of}

-- ---- names

-- one more entry, as shapes and as slots
mapped : {B : Type 0} (f : program.Variable → B) (b : Bool) (v : program.Variable) (o : Option program.Variable) → option_map f (cond b (Some v) o) ≡ cond b (Some (f v)) (option_map f o)
mapped f true v o = refl
mapped f false v o = refl

view-put : (y : Name) (v : program.Variable) (old new : Table program.Variable)
    → ((x : Name) → entry_of new x ≡ with_entry y v (entry_of old) x) → table_view new ≡ declare y (shape_view v.shape) (table_view old)
view-put y v old new put =
    let f = λ (w : program.Variable). shape_view w.shape in
    fun_ext (λ x. ap (λ (o : Option program.Variable). option_map f o) (put x) ∙ mapped f (same_name y x) v (entry_of old x))

slots-put : (y : Name) (v : program.Variable) (old new : Table program.Variable)
    → ((x : Name) → entry_of new x ≡ with_entry y v (entry_of old) x) → table_slots new ≡ with_slot y v.slot (table_slots old)
slots-put y v old new put =
    let f = λ (w : program.Variable). w.slot in
    fun_ext (λ x. ap (λ (o : Option program.Variable). option_map f o) (put x) ∙ mapped f (same_name y x) v (entry_of old x))

-- a name that is put into a table
pub shapes_next : (names : List ast.Name) (k : ℕ) (n : ast.Name) (carriers : List Carrier) (slot : ℕ)
    (carrier : Carrier) (old new : Table program.Variable) (v : program.Variable) → k < length names → n ≡ get_or names k n
    → slot < length carriers → carrier ≡ get_or carriers slot carrier → shape_view v.shape ≡ shape_of carrier → ((x : Name) → entry_of new x ≡ with_entry (string_bytes n.text) v (entry_of old) x)
    → named_shapes (drop (k + 1) names) (shapes_of (drop (slot + 1) carriers)) (table_view new) ≡ named_shapes (drop k names) (shapes_of (drop slot carriers)) (table_view old)
shapes_next names k n carriers slot carrier old new v below at within here is put =
    let shapes = shapes_of (drop (slot + 1) carriers) in
    ap (named_shapes (drop (k + 1) names) shapes) (view-put (string_bytes n.text) v old new put ∙ ap (λ (t : Shape). declare (string_bytes n.text) t (table_view old)) is)
    ∙ (sym (ap (λ (ns : List ast.Name). named_shapes ns (shape_of carrier ∷ shapes) (table_view old)) (drop-at names k n below at))
    ∙ sym (ap (λ (cs : List Carrier). named_shapes (drop k names) (shapes_of cs) (table_view old)) (drop-at carriers slot carrier within here)))

pub slots_next : (names : List ast.Name) (k : ℕ) (n : ast.Name) (old new : Table program.Variable) (v : program.Variable) (slot : ℕ) → k < length names → n ≡ get_or names k n → v.slot ≡ slot
    → ((x : Name) → entry_of new x ≡ with_entry (string_bytes n.text) v (entry_of old) x)
    → named_slots (drop (k + 1) names) (suc slot) (table_slots new) ≡ named_slots (drop k names) slot (table_slots old)
slots_next names k n old new v slot below at is put =
    ap (named_slots (drop (k + 1) names) (suc slot)) (slots-put (string_bytes n.text) v old new put ∙ ap (λ (m : ℕ). with_slot (string_bytes n.text) m (table_slots old)) is)
    ∙ sym (ap (λ (ns : List ast.Name). named_slots ns slot (table_slots old)) (drop-at names k n below at))

pub shapes_all : (names : List ast.Name) (k : ℕ) (shapes : List Shape) (a : Scope) → length names ≤ k → named_shapes (drop k names) shapes a ≡ a
shapes_all names k shapes a h = ap (λ (ns : List ast.Name). named_shapes ns shapes a) (drop_all k names h)

pub slots_all : (names : List ast.Name) (k n : ℕ) (c : Slotting) → length names ≤ k → named_slots (drop k names) n c ≡ c
slots_all names k n c h = ap (λ (ns : List ast.Name). named_slots ns n c) (drop_all k names h)

-- ---- carriers, as shapes

shapes-drop : (n : ℕ) (cs : List Carrier) → shapes_of (drop n cs) ≡ drop n (shapes_of cs)
shapes-drop zero cs = refl
shapes-drop (suc n) [] = refl
shapes-drop (suc n) (c ∷ cs) = shapes-drop n cs

drop-shapes : (slot n : ℕ) (cs : List Carrier) → shapes_of (drop (slot + n) cs) ≡ drop n (shapes_of (drop slot cs))
drop-shapes slot n cs = ap shapes_of (sym (drop-drop n slot cs)) ∙ shapes-drop n (drop slot cs)

pub shapes-append : (xs ys : List Carrier) → shapes_of (xs ++ ys) ≡ shapes_of xs ++ shapes_of ys
shapes-append [] ys = refl
shapes-append (x ∷ xs) ys = ap (λ (ss : List Shape). shape_of x ∷ ss) (shapes-append xs ys)

-- ---- groups of names

abbrev group_variables : Variables → List ast.Name → List VariableForm
group_variables group names = map (λ (n : ast.Name). record { name = named n; sort = named group.sort }) names

group-slots : (group : Variables) (rest : List Variables) (names : List ast.Name) (n m : ℕ) (c : Slotting) → m ≡ n + length names
    → with_slots (erased_variables (group_variables group names ++ variable_forms rest)) n c ≡ with_slots (erased_variables (variable_forms rest)) m (named_slots names n c)
group-slots group rest [] n m c e = ap (λ (k : ℕ). with_slots (erased_variables (variable_forms rest)) k c) (omega (arith, e))
group-slots group rest (x ∷ names) n m c e = group-slots group rest names (suc n) m (with_slot (string_bytes x.text) n c) (omega (arith, e))

-- the shapes behind those of the group
group-behind : (S : Spec) (group : Variables) (rest : List Variables) (names : List ast.Name)
    → drop (length names) (variable_shapes S (erased_variables (group_variables group names ++ variable_forms rest))) ≡ variable_shapes S (erased_variables (variable_forms rest))
group-behind S group rest [] = refl
group-behind S group rest (x ∷ names) = group-behind S group rest names

group-bound : (S : Spec) (group : Variables) (rest : List Variables) (names : List ast.Name) (scope : Scope)
    → bound S (erased_variables (variable_forms rest)) (named_shapes names (variable_shapes S (erased_variables (group_variables group names ++ variable_forms rest))) scope)
    ≡ bound S (erased_variables (group_variables group names ++ variable_forms rest)) scope
group-bound S group rest [] scope = refl
group-bound S group rest (n ∷ names) scope = group-bound S group rest names (declare (string_bytes n.text) (sort_shape S (string_bytes group.sort.text)) scope)

-- ---- groups, in the code's words

abbrev pub variables_of : List Variables → List Variable
variables_of groups = erased_variables (variable_forms groups)

-- the slots of the groups that are left, where a group's names have slots
pub group_put : (groups : List Variables) (k : ℕ) (group : Variables) (names : List ast.Name) (n m : ℕ)
    (old new : Slotting) → k < length groups → group ≡ get_or groups k group → names ≡ group.names.items → m ≡ n + length names
    → new ≡ named_slots names n old
    → with_slots (variables_of (drop (k + 1) groups)) m new ≡ with_slots (variables_of (drop k groups)) n old
group_put groups k group names n m old new below at are count put =
    let rest = drop (k + 1) groups in
    ap (with_slots (variables_of rest) m) (put ∙ ap (λ (ns : List ast.Name). named_slots ns n old) are)
    ∙ (sym (group-slots group rest group.names.items n m old (count ∙ ap (λ (ns : List ast.Name). n + length ns) are))
    ∙ sym (ap (λ (gs : List Variables). with_slots (variables_of gs) n old) (drop-at groups k group below at)))

-- the shapes of the groups that are left, where a group's names have the first ones
pub group_shown : (S : Spec) (groups : List Variables) (k : ℕ) (group : Variables) (names : List ast.Name)
    (shapes : List Shape) (old new : Scope) → k < length groups → group ≡ get_or groups k group → names ≡ group.names.items
    → shapes ≡ variable_shapes S (variables_of (drop k groups)) → new ≡ named_shapes names shapes old
    → bound S (variables_of (drop (k + 1) groups)) new ≡ bound S (variables_of (drop k groups)) old
group_shown S groups k group names shapes old new below at are is put =
    let rest = drop (k + 1) groups in
    let left = drop-at groups k group below at in
    ap (bound S (variables_of rest))
    (put ∙ (ap (λ (ns : List ast.Name). named_shapes ns shapes old) are
    ∙ ap (λ (ss : List Shape). named_shapes group.names.items ss old)
    (is ∙ ap (λ (gs : List Variables). variable_shapes S (variables_of gs)) left)))
    ∙ (group-bound S group rest group.names.items old
    ∙ sym (ap (λ (gs : List Variables). bound S (variables_of gs) old) left))

-- and the ones behind these
pub group_behind : (S : Spec) (groups : List Variables) (k : ℕ) (group : Variables) (names : List ast.Name)
    (carriers : List Carrier) (slot : ℕ) → k < length groups → group ≡ get_or groups k group → names ≡ group.names.items
    → shapes_of (drop slot carriers) ≡ variable_shapes S (variables_of (drop k groups))
    → shapes_of (drop (slot + length names) carriers) ≡ variable_shapes S (variables_of (drop (k + 1) groups))
group_behind S groups k group names carriers slot below at are is =
    let left = drop-at groups k group below at in
    drop-shapes slot (length names) carriers
    ∙ (ap (drop (length names)) (is ∙ ap (λ (gs : List Variables). variable_shapes S (variables_of gs)) left)
    ∙ (ap (λ (ns : List ast.Name). drop (length ns) (variable_shapes S (variables_of (group ∷ drop (k + 1) groups)))) are
    ∙ group-behind S group (drop (k + 1) groups) group.names.items))

pub group_counted : (groups : List Variables) (k : ℕ) (group : Variables) (names : List ast.Name) → k < length groups → group ≡ get_or groups k group → names ≡ group.names.items
    → length (variable_forms (drop k groups)) ≡ length names + length (variable_forms (drop (k + 1) groups))
group_counted groups k group names below at are =
    let rest = variable_forms (drop (k + 1) groups) in
    ap (λ (gs : List Variables). length (variable_forms gs)) (drop-at groups k group below at)
    ∙ (length-append (group_variables group group.names.items) rest
    ∙ (ap (λ (n : ℕ). n + length rest) (length-map group.names.items (λ (n : ast.Name). record { name = named n; sort = named group.sort }))
    ∙ ap (λ (ns : List ast.Name). length ns + length rest) (sym are)))

pub groups_begun : (groups : List Variables) (n : ℕ) (table : Table program.Variable) → IsEmpty table
    → with_slots (variables_of groups) n (table_slots table) ≡ with_slots (variables_of groups) n unslotted
groups_begun groups n table e =
    ap (with_slots (variables_of groups) n) (ap (λ (look : Name → Option program.Variable). λ (x : Name). option_map (λ (v : program.Variable). v.slot) (look x)) (none_in table e))

pub scopes_begun : (S : Spec) (groups : List Variables) (table : Table program.Variable) → IsEmpty table → bound S (variables_of groups) (table_view table) ≡ bound S (variables_of groups) outermost
scopes_begun S groups table e =
    ap (bound S (variables_of groups)) (ap (λ (look : Name → Option program.Variable). λ (x : Name). option_map (λ (v : program.Variable). shape_view v.shape) (look x)) (none_in table e))

pub groups_ended : (groups : List Variables) (k n : ℕ) (c : Slotting) → length groups ≤ k → with_slots (variables_of (drop k groups)) n c ≡ c
groups_ended groups k n c h = ap (λ (gs : List Variables). with_slots (variables_of gs) n c) (drop_all k groups h)

pub scopes_ended : (S : Spec) (groups : List Variables) (k : ℕ) (a : Scope) → length groups ≤ k → bound S (variables_of (drop k groups)) a ≡ a
scopes_ended S groups k a h = ap (λ (gs : List Variables). bound S (variables_of gs) a) (drop_all k groups h)

-- the groups that are left, over a table, make the shapes and the slots of all; their carriers stand from a slot on
pub record AreLeft (all : List Variables) (carriers : List Carrier) (first : ℕ) (left : List Variables) (slot : ℕ) (table : Table program.Variable) : Type 0 where
  pub shapes : (S : Spec) → shapes_of (drop first carriers) ≡ variable_shapes S (variables_of all)
      → (shapes_of (drop slot carriers) ≡ variable_shapes S (variables_of left)) × (bound S (variables_of left) (table_view table) ≡ bound S (variables_of all) outermost)
  pub slots : with_slots (variables_of left) slot (table_slots table) ≡ with_slots (variables_of all) first unslotted
  pub count : length carriers ≡ slot + length (variable_forms left)

pub left_begun : (all : List Variables) (carriers : List Carrier) (first : ℕ) (table : Table program.Variable)
    → length carriers ≡ first + length (variable_forms all) → IsEmpty table → AreLeft all carriers first all first table
left_begun all carriers first table count empty = record {
  shapes = λ S is. (is, scopes_begun S all table empty);
  slots = groups_begun all first table empty;
  count = count;
}

pub left_next : (all : List Variables) (carriers : List Carrier) (first k : ℕ) (group : Variables) (names : List ast.Name) (slot next : ℕ) (old new : Table program.Variable)
    → k < length all → group ≡ get_or all k group → names ≡ group.names.items → next ≡ slot + length names
    → table_view new ≡ named_shapes names (shapes_of (drop slot carriers)) (table_view old) → table_slots new ≡ named_slots names slot (table_slots old)
    → AreLeft all carriers first (drop k all) slot old → AreLeft all carriers first (drop (k + 1) all) next new
left_next all carriers first k group names slot next old new below at are is shown put h = record {
  shapes = λ S e. let left = h.shapes S e in (
    ap (λ (n : ℕ). shapes_of (drop n carriers)) is ∙ group_behind S all k group names carriers slot below at are left.0,
    group_shown S all k group names (shapes_of (drop slot carriers)) (table_view old) (table_view new) below at are left.0 shown ∙ left.1,
  );
  slots = group_put all k group names slot next (table_slots old) (table_slots new) below at are is put ∙ h.slots;
  count = let counted = group_counted all k group names below at are in let before = h.count in omega (arith, counted, before, is);
}

-- ---- an inner list of variables

by_test : (b : Bool) (n : ℕ) (o p : Option ℕ) → or_else (cond b (Some n) o) p ≡ cond b (Some n) (or_else o p)
by_test true n o p = refl
by_test false n o p = refl

with-slots-over : (xs : List Variable) (n : ℕ) (c outer : Slotting) → (λ (x : Name). or_else (with_slots xs n c x) (outer x)) ≡ with_slots xs n (λ x. or_else (c x) (outer x))
with-slots-over [] n c outer = refl
with-slots-over (y ∷ xs) n c outer =
    with-slots-over xs (suc n) (with_slot y.name n c) outer
    ∙ ap (with_slots xs (suc n)) (fun_ext (λ x. by_test (same_name y.name x) n (c x) (outer x)))

pub inner_slotting : (xs : List Variable) (n : ℕ) (table : Table program.Variable) (outer : Slotting) → table_slots table ≡ with_slots xs n unslotted → inner_slots table outer ≡ with_slots xs n outer
inner_slotting xs n table outer h = ap (λ (look : Slotting). λ (x : Name). or_else (look x) (outer x)) h ∙ with-slots-over xs n unslotted outer

-- the variables of a list hide those of an outer scope
bound-outer : (S : Spec) (xs : List Variable) (inner outer : Scope) → bound S xs (λ x. scopes.shape_or (inner x) (outer x)) ≡ (λ x. scopes.shape_or (bound S xs inner x) (outer x))
bound-outer S [] inner outer = refl
bound-outer S (x ∷ xs) inner outer =
    ap (bound S xs) (fun_ext (λ y. by_name y (same_name x.name y)))
    ∙ bound-outer S xs (declare x.name (sort_shape S x.sort) inner) outer
  where
    by_name : (y : Name) (b : Bool) → cond b (Some (sort_shape S x.sort)) (scopes.shape_or (inner y) (outer y)) ≡ scopes.shape_or (cond b (Some (sort_shape S x.sort)) (inner y)) (outer y)
    by_name y true = refl
    by_name y false = refl

pub inner_scope : (S : Spec) (xs : List Variable) (table : Table program.Variable) (outer : Scope) → table_view table ≡ bound S xs outermost → inner_view table outer ≡ bound S xs outer
inner_scope S xs table outer same = ap (λ (look : Scope). λ (x : Name). scopes.shape_or (look x) (outer x)) same ∙ sym (bound-outer S xs outermost outer)

-- ---- the carriers of one list of variables

pub length-shapes : (cs : List Carrier) → length (shapes_of cs) ≡ length cs
length-shapes [] = refl
length-shapes (c ∷ cs) = ap suc (length-shapes cs)

pub length-variables : (S : Spec) (xs : List Variable) → length (variable_shapes S xs) ≡ length xs
length-variables S [] = refl
length-variables S (x ∷ xs) = ap suc (length-variables S xs)

-- carriers that grew by so many
pub length_behind : (old new : List Carrier) (ss : List Shape) → shapes_of new ≡ shapes_of old ++ ss → length new ≡ length old + length ss
length_behind old new ss e = sym (length-shapes new) ∙ (ap length e ∙ (length-append (shapes_of old) ss ∙ ap (λ (n : ℕ). n + length ss) (length-shapes old)))

drop-length : (xs ys : List Shape) → drop (length xs) (xs ++ ys) ≡ ys
drop-length [] ys = refl
drop-length (x ∷ xs) ys = drop-length xs ys

-- what was added
pub shapes_behind : (old new own : List Carrier) (n : ℕ) (ss : List Shape) → shapes_of new ≡ shapes_of old ++ ss → n ≡ length old → own ≡ drop n new → shapes_of own ≡ ss
shapes_behind old new own n ss e at is =
    ap shapes_of is
    ∙ (shapes-drop n new
    ∙ (ap (drop n) e
    ∙ (ap (λ (m : ℕ). drop m (shapes_of old ++ ss)) (at ∙ sym (length-shapes old)) ∙ drop-length (shapes_of old) ss)))
