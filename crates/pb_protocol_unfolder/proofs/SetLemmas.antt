-- Unions of sets of steps by their names.
use Rattle.std.proofs.Common.{◌≡◌, ◌∙◌, ◌+◌, refl, sym, ap, Bool, true, false, if◌then◌else◌, List, [], ◌∷◌, ◌++◌, map, filter, length, take, drop, get_or, Vec, Global, Box}
use Rattle.std.specs.Prelude.{box_value}
use Rattle.pb_text_tree.specs.Form.{chained}
use Rattle.pb_text_meaning.specs.Syntax.{Name}
use Rattle.pb_model_tree.specs.declared.step_set.StepSet as set
use Rattle.pb_model_tree.specs.declared.step_set.StepSetLink.{StepSetLink}
use Rattle.pb_model_tree.specs.Form.{StepSetForm, step_set_form}
use Rattle.pb_model_meaning.specs.Syntax.{StepSet}
use Rattle.pb_model_meaning.specs.Erase.{erased_steps}
use Rattle.pb_protocol_folding.specs.View.{set_of}
use Rattle.pb_protocol_folding.specs.FoldedModels.{folded_set, folded_only, folded_union}
use Rattle.pb_protocol_unfolding.specs.Unfolding.{named_steps}
use Rattle.pb_protocol_unfolder.specs.Sets.{only, set_behind, united}
use Rattle.pb_protocol_unfolder.specs.View.{flat_set_link}
use Rattle.pb_protocol_unfolder.proofs.Chains.{flat-union-form}

pub names-united : (xs : List Name) → united (map only xs) ≡ named_steps xs
names-united [] = refl
names-united (x ∷ []) = refl
names-united (x ∷ y ∷ xs) = ap (StepSet.Union (StepSet.Only x)) (names-united (y ∷ xs))

pub none-united : (ls : List StepSetLink) → length ls ≡ 0 → StepSet.Complement StepSet.All ≡ united (map set_behind ls)
none-united [] e = refl
none-united (l ∷ ls) e = cc

chained-united : (A : StepSetForm) (ls : List StepSetLink) → erased_steps (chained StepSetForm.union A (map flat_set_link ls)) ≡ united (erased_steps A ∷ map set_behind ls)
chained-united A [] = refl
chained-united A (l ∷ ls) = ap (StepSet.Union (erased_steps A)) (chained-united (step_set_form l.operand) ls)

pub links-united : (ls : List StepSetLink) (l : StepSetLink) (p : Box set.StepSet Global) (v : Vec StepSetLink Global) → ls ≡ l ∷ v.items → box_value p ≡ l.operand
    → set_of (set.Union p v) ≡ united (map set_behind ls)
links-united ls l p v are first =
    ap erased_steps (flat-union-form p v) ∙ chained-united (step_set_form (box_value p)) v.items
    ∙ ap (λ (A : set.StepSet). united (set_of A ∷ map set_behind v.items)) first ∙ ap (λ (ks : List StepSetLink). united (map set_behind ks)) (sym are)

-- a list without its first element
pub first-left : {A : Type 0} (xs : List A) (x : A) (ys : List A) → (length xs ≡ 0 → ⊥) → x ≡ get_or xs 0 x → ys ≡ take 0 xs ++ drop (0 + 1) xs → xs ≡ x ∷ ys
first-left [] x ys some first others = absurd (some refl)
first-left (z ∷ xs) x ys some first others = ap (λ y. y ∷ xs) (sym first) ∙ ap (λ zs. x ∷ zs) (sym others)

-- ---- steps that are left

left-before : (x : Name) (xs : List Name) → folded_union (StepSet.Only x) (named_steps xs) ≡ named_steps (x ∷ xs)
left-before x [] = refl
left-before x (y ∷ []) = refl
left-before x (y ∷ z ∷ xs) = refl

-- the names of steps that are left are those that a folded set has
pub names-left : (left : Name → Bool) (xs : List Name) → folded_set left (named_steps xs) ≡ named_steps (filter left xs)
names-left left [] = refl
names-left left (x ∷ []) = by (left x)
  where
    by : (b : Bool) → folded_only b x ≡ named_steps (if b then x ∷ [] else [])
    by true = refl
    by false = refl
names-left left (x ∷ y ∷ xs) =
    ap (folded_union (folded_only (left x) x)) (names-left left (y ∷ xs)) ∙ by (left x) (filter left (y ∷ xs))
  where
    by : (b : Bool) (ys : List Name) → folded_union (folded_only b x) (named_steps ys) ≡ named_steps (if b then x ∷ ys else ys)
    by true ys = left-before x ys
    by false ys = refl
