-- Sets of steps by the names of the steps that are left.
use Rattle.std.proofs.Common.{◌≡◌, ◌∙◌, refl, sym, ap, Bool, true, false, ◌&&◌, ◌||◌, if◌then◌else◌, List, [], ◌∷◌, ◌++◌, map, filter, length, Vec, Global, Box}
use Rattle.std.specs.Prelude.{box_value}
use Rattle.std.specs.List.{list_any}
use Rattle.std.proofs.lemmas.Slice.Eq.{bytes_eq-Decides}
use Rattle.pb_text_tree.specs.Form.{chained}
use Rattle.pb_text_meaning.specs.Syntax.{Name, same_name}
use Rattle.pb_model_meaning.specs.Syntax as flat
use Rattle.pb_protocol_tree.specs.declared.step_set.StepSet as set
use Rattle.pb_protocol_tree.specs.declared.step_set.StepSet.{StepSet}
use Rattle.pb_protocol_tree.specs.declared.step_set.StepSetLink.{StepSetLink}
use Rattle.pb_protocol_tree.specs.Form.{StepSetForm, step_set_form}
use Rattle.pb_protocol_meaning.specs.Syntax.{Protocol}
use Rattle.pb_protocol_meaning.specs.Erase.{erased_steps}
use Rattle.pb_protocol_meaning.specs.Steps.{data_of}
use Rattle.pb_protocol_folding.specs.FoldedModels.{folded_set, folded_step, is_left, is_possible}
use Rattle.pb_protocol_folding.specs.Names.{AreDistinct, IsNot}
use Rattle.pb_protocol_unfolding.specs.Unfolding.{Instance, instance_name, instances, named_steps, unfolded, unfolded_set, unfolded_step}
use Rattle.pb_protocol_unfolder_terms.specs.declared.scope.TermScope.{TermScope}
use Rattle.pb_protocol_unfolder_steps.specs.declared.instance.Instance as declared_instance
use Rattle.pb_protocol_unfolder_steps.specs.declared.unfolder.Unfolder.{Unfolder}
use Rattle.pb_protocol_unfolder_steps.specs.Elements.{instance_said}
use Rattle.pb_protocol_unfolder_steps.specs.Steps.{is_kept}
use Rattle.pb_protocol_unfolder_steps.specs.Unfolder.{protocol_in, scope_within}
use Rattle.pb_protocol_unfolder.specs.Sets.{is_each}
use Rattle.pb_protocol_unfolder.specs.Values.{is_member}
use Rattle.pb_protocol_unfolder.specs.View.{set_link_form}
use Rattle.pb_protocol_unfolder.specs.Left.{AreLeft, left_set, member_names}
use Rattle.pb_protocol_unfolder.proofs.Chains.{union-form}
use Rattle.pb_protocol_unfolder.proofs.SetLemmas.{names-left}

-- ---- whether a set is that of all steps

each-without : (A : StepSetForm) (ls : List StepSetLink) → length ls ≡ 0 → is_each (chained StepSetForm.union A (map set_link_form ls)) ≡ is_each A
each-without A [] e = refl
each-without A (l ∷ ls) e = cc

each-with : (A : StepSetForm) (ls : List StepSetLink) → (length ls ≡ 0 → ⊥) → false ≡ is_each (chained StepSetForm.union A (map set_link_form ls))
each-with A [] some = absurd (some refl)
each-with A (l ∷ ls) some = refl

pub each-alone : (A x : StepSet) (p : Box StepSet Global) (v : Vec StepSetLink Global) → A ≡ set.Union p v
    → x ≡ box_value p → length v.items ≡ 0 → is_each (step_set_form x) ≡ is_each (step_set_form A)
each-alone A x p v is at none =
    ap (λ (B : StepSet). is_each (step_set_form B)) at ∙ sym (each-without (step_set_form (box_value p)) v.items none)
    ∙ sym (ap (λ (B : StepSet). is_each (step_set_form B)) is ∙ ap is_each (union-form p v))

pub each-many : (A : StepSet) (p : Box StepSet Global) (v : Vec StepSetLink Global) → A ≡ set.Union p v → (length v.items ≡ 0 → ⊥) → false ≡ is_each (step_set_form A)
each-many A p v is some =
    each-with (step_set_form (box_value p)) v.items some ∙ sym (ap (λ (B : StepSet). is_each (step_set_form B)) is ∙ ap is_each (union-form p v))

-- ---- names of steps

swapped : (x y : Name) → same_name y x ≡ false → same_name x y ≡ false
swapped x y e = by (same_name x y) refl
  where
    by : (b : Bool) → same_name x y ≡ b → same_name x y ≡ false
    by false h = h
    by true h = absurd (clash (sym e ∙ (bytes_eq-Decides y x).1 (sym ((bytes_eq-Decides x y).0 h))))
      where
        clash : false ≡ true → ⊥
        clash k = cc

itself : (x : Name) → same_name x x ≡ true
itself x = (bytes_eq-Decides x x).1 refl

module _ (m : Protocol) where
  -- the steps that are left among these
  abbrev possible : List Instance → List flat.Step
  possible is = filter is_possible (map (folded_step (data_of m)) (map (unfolded_step m) is))

  -- whether a step of this name is left among these
  abbrev left_in : List Instance → Name → Bool
  left_in is x = list_any (λ (a : flat.Step). same_name a.name x) (possible is)

  left-first : (i : Instance) (is : List Instance) (x : Name) → left_in (i ∷ is) x ≡ ((is_kept m i && same_name (instance_name i) x) || left_in is x)
  left-first i is x = by (is_kept m i)
    where
      by : (b : Bool)
          → list_any (λ (a : flat.Step). same_name a.name x)
          (if b then folded_step (data_of m) (unfolded_step m i) ∷ possible is else possible is)
          ≡ ((b && same_name (instance_name i) x) || left_in is x)
      by true = refl
      by false = refl

  neither : (k a r : Bool) → a ≡ false → ((k && a) || r) ≡ r
  neither true a r e = ap (λ b. b || r) e
  neither false a r e = refl

  left-none : (x : Name) (is : List Instance) → IsNot x (map instance_name is) → left_in is x ≡ false
  left-none x [] apart = refl
  left-none x (i ∷ is) apart = left-first i is x ∙ neither (is_kept m i) (same_name (instance_name i) x) (left_in is x) apart.0 ∙ left-none x is apart.1

  -- a name that isn't the first step's
  filter-others : (i : Instance) (is : List Instance) (ys : List Name) → IsNot (instance_name i) ys → filter (left_in (i ∷ is)) ys ≡ filter (left_in is) ys
  filter-others i is [] apart = refl
  filter-others i is (y ∷ ys) apart =
      ap (λ b. if b then y ∷ filter (left_in (i ∷ is)) ys else filter (left_in (i ∷ is)) ys)
      (left-first i is y ∙ neither (is_kept m i) (same_name (instance_name i) y) (left_in is y) (swapped (instance_name i) y apart.0))
      ∙ ap (λ zs. if left_in is y then y ∷ zs else zs) (filter-others i is ys apart.1)

  not-among : (x : Name) (p : Instance → Bool) (is : List Instance) → IsNot x (map instance_name is) → IsNot x (map instance_name (filter p is))
  not-among x p [] apart = apart
  not-among x p (i ∷ is) apart = by (p i) (not-among x p is apart.1)
    where
      by : (b : Bool) → IsNot x (map instance_name (filter p is)) → IsNot x (map instance_name (if b then i ∷ filter p is else filter p is))
      by true h = (apart.0, h)
      by false h = h

  last-kept : (k a r : Bool) → a ≡ true → r ≡ false → ((k && a) || r) ≡ k
  last-kept true true r e h = refl
  last-kept true false r e h = cc
  last-kept false a r e h = h

  -- of names apart those are left whose steps are
  kept-names : (p : Instance → Bool) (is : List Instance) → AreDistinct (map instance_name is)
      → filter (left_in is) (map instance_name (filter p is)) ≡ map instance_name (filter p (filter (is_kept m) is))
  kept-names p [] apart = refl
  kept-names p (i ∷ is) apart =
      by (p i) (is_kept m i) refl
      (left-first i is (instance_name i)
      ∙ last-kept (is_kept m i) (same_name (instance_name i) (instance_name i)) (left_in is (instance_name i))
      (itself (instance_name i)) (left-none (instance_name i) is apart.0))
      (filter-others i is (map instance_name (filter p is)) (not-among (instance_name i) p is apart.0) ∙ kept-names p is apart.1)
    where
      by : (b k : Bool) → p i ≡ b → left_in (i ∷ is) (instance_name i) ≡ k → filter (left_in (i ∷ is)) (map instance_name (filter p is)) ≡ map instance_name (filter p (filter (is_kept m) is))
          → filter (left_in (i ∷ is)) (map instance_name (if b then i ∷ filter p is else filter p is)) ≡ map instance_name (filter p (if k then i ∷ filter (is_kept m) is else filter (is_kept m) is))
      by true true pb lk same =
          ap (λ c. if c then instance_name i ∷ filter (left_in (i ∷ is)) (map instance_name (filter p is)) else filter (left_in (i ∷ is)) (map instance_name (filter p is))) lk
          ∙ ap (λ xs. instance_name i ∷ xs) same ∙ sym (ap (λ c. map instance_name (if c then i ∷ filter p (filter (is_kept m) is) else filter p (filter (is_kept m) is))) pb)
      by true false pb lk same =
          ap (λ c. if c then instance_name i ∷ filter (left_in (i ∷ is)) (map instance_name (filter p is)) else filter (left_in (i ∷ is)) (map instance_name (filter p is))) lk ∙ same
      by false true pb lk same = same ∙ sym (ap (λ c. map instance_name (if c then i ∷ filter p (filter (is_kept m) is) else filter p (filter (is_kept m) is))) pb)
      by false false pb lk same = same

-- ---- sets of steps

module _ (u : Unfolder) (scope : TermScope) where
  members-named : (A : StepSetForm) (is : List Instance) → map instance_name (filter (λ (i : Instance). is_member u scope i A) is) ≡ member_names u scope A is
  members-named A [] = refl
  members-named A (i ∷ is) = by (is_member u scope i A) (members-named A is)
    where
      by : (b : Bool) → map instance_name (filter (λ (j : Instance). is_member u scope j A) is) ≡ member_names u scope A is
          → map instance_name
          (if b then i ∷ filter (λ (j : Instance). is_member u scope j A) is else filter
          (λ (j : Instance). is_member u scope j A) is) ≡ (if b then instance_name i ∷ [] else []) ++ member_names u scope A is
      by true e = ap (λ v. instance_name i ∷ v) e
      by false e = e

  set-named : (A : StepSetForm) → is_each A ≡ false
      → unfolded_set (protocol_in u) (scope_within u scope) (erased_steps A)
      ≡ named_steps (map instance_name (filter (λ (i : Instance). is_member u scope i A) (instances (protocol_in u))))
  set-named (StepSetForm.all p) e = absurd (cc)
  set-named (StepSetForm.step x) e = refl
  set-named (StepSetForm.instances x values) e = refl
  set-named (StepSetForm.complement p A) e = refl
  set-named (StepSetForm.union p A B) e = refl

  pub each-left : (A : StepSetForm) → is_each A ≡ true → flat.StepSet.All ≡ left_set u scope A
  each-left (StepSetForm.all p) e = refl
  each-left (StepSetForm.step x) e = absurd (cc)
  each-left (StepSetForm.instances x values) e = absurd (cc)
  each-left (StepSetForm.complement p A) e = absurd (cc)
  each-left (StepSetForm.union p A B) e = absurd (cc)

  pub named-left : (left : List declared_instance.Instance) (A : StepSetForm) → AreLeft u left → is_each A ≡ false → named_steps (member_names u scope A (map instance_said left)) ≡ left_set u scope A
  named-left left A are e =
      let m = protocol_in u in
      let p : Instance → Bool = λ i. is_member u scope i A in
      ap (λ (is : List Instance). named_steps (member_names u scope A is)) are.steps
      ∙ ap named_steps (sym (members-named A (filter (is_kept m) (instances m))) ∙ sym (kept-names m p (instances m) are.apart))
      ∙ sym (names-left (is_left (unfolded m)) (map instance_name (filter p (instances m))))
      ∙ sym (ap (folded_set (is_left (unfolded m))) (set-named A e))
