-- Lists that are cut into parts, one after another.
use Rattle.std.proofs.Common.{◌≡◌, ℕ, zero, suc, ◌+◌, ◌-◌, ◌<◌, ◌≤◌, ◌==◌, Bool, true, false, true≢false, List, [], ◌∷◌, ◌++◌, map, take, drop, get_or, length, refl, sym, ap, subst, ◌∙◌, append_assoc, arith}
use Rattle.std.specs.Prelude.{min, ◌&&◌, Option, MatchOption}
use Rattle.std.specs.List.{list_all}
use Rattle.std.proofs.lemmas.List.{take-map, take_min, drop_min, drop_more, drop-drop, length-drop}
use Rattle.std.specs.Prelude.{codes}
use Rattle.std.proofs.lemmas.Bool.{and_from, lt-ltb, le-leb}
use Rattle.std.proofs.lemmas.List.{map-append}
use Rattle.std.proofs.lemmas.List.Elements.{Contains-push}
use Rattle.pb_protocol_packing.specs.declared.limits.TheConstants.{MAX_GROUP_VALUES}
use Rattle.pb_base.specs.declared.or_memory.OrMemory.{OrMemory}
use Rattle.pb_base.specs.declared.or_memory.OrMemory.TheVariants.{Refused, Memory}
use Rattle.pb_text_tree.specs.declared.place.Place.{Place}
use Rattle.pb_typing_declarations.specs.declared.fault.TypingRule.TheVariants.{Limit}
use Rattle.pb_typing_declarations.specs.declared.fault.TypingFault.{TypingFault}
use Rattle.pb_typing_declarations.specs.Faults.{unless, IsAmong}
use Rattle.pb_text_meaning.specs.Syntax.{Name, Variable}
use Rattle.pb_model_meaning.specs.Syntax.{Model}
use Rattle.pb_protocol_packing.specs.Packing.{Member, Group, Joined, capacity}
use Rattle.pb_protocol_packer.specs.declared.group.Group as declared_group
use Rattle.pb_protocol_packer.specs.Groups.{group_of, groups_in}
use Rattle.pb_protocol_packing.specs.Groups.{named_groups, member_for, groups_of, names_in, all_members_for, unused_name}
use Rattle.pb_protocol_packing.specs.Sizes.{is_few, are_few, has_few, makes_few, cut_into_groups, group_sizes}
use Rattle.pb_protocol_packing.proofs.Sizes.{few-named}
use Rattle.pb_protocol_packer.specs.Members.{members_said}
use Rattle.pb_protocol_groups.specs.declared.grouping.Grouping.{Grouping}
use Rattle.pb_protocol_groups.specs.declared.members.Members.{Members}
use Rattle.pb_protocol_groups.specs.Groups.{grouped_behind, named_variable}
use Rattle.pb_protocol_groups.specs.declared.state_variables.StateVariable.{StateVariable}
use Rattle.pb_protocol_groups.specs.Variables.{as_member, members_for, variable_of_state, variables_of_state}
use Rattle.pb_protocol_groups.specs.Taken.{taken_of}

pub drop-map : {A : Type 0} (f : A → Member) (k : ℕ) (xs : List A) → drop k (map f xs) ≡ map f (drop k xs)
drop-map f zero xs = refl
drop-map f (suc k) [] = refl
drop-map f (suc k) (x ∷ xs) = drop-map f k xs

-- the first part, and what is left
pub cut-step : (m : Model) (xs : List StateVariable) (k first end : ℕ) (ks : List ℕ) → first ≤ length xs → end ≡ first + min (length xs - first) k
    → cut_into_groups (k ∷ ks) (members_for m (drop first xs)) ≡ members_for m (take (end - first) (drop first xs)) ∷ cut_into_groups ks (members_for m (drop end xs))
cut-step m xs k first end ks within is =
    let f = as_member m in
    let d = drop first xs in
    let n : end - first ≡ min k (length d) = omega (arith, is, length-drop first xs) in
    let e : first + min k (length d) ≡ end = omega (arith, is, length-drop first xs) in
    let front : take k (map f d) ≡ map f (take (end - first) d) = take-map f k d ∙ ap (map f) (sym (take_min k d) ∙ ap (λ (i : ℕ). take i d) (sym n)) in
    let back : drop k (map f d) ≡ map f (drop end xs) =
    drop-map f k d ∙ ap (map f) (sym (drop_min k d) ∙ drop-drop (min k (length d)) first xs ∙ ap (λ (i : ℕ). drop i xs) e) in
    ap (λ (ps : List Member). ps ∷ cut_into_groups ks (drop k (map f d))) front ∙ ap (λ (ps : List Member). map f (take (end - first) d) ∷ cut_into_groups ks ps) back

pub members-all : (m : Model) (xs : List StateVariable) → members_for m xs ≡ map (member_for m) (variables_of_state xs)
members-all m [] = refl
members-all m (x ∷ xs) = ap (λ (ps : List Member). as_member m x ∷ ps) (members-all m xs)

-- ---- the groups so far, and those of the variables from one on

pub record AreBehind (m : Model) (g : Grouping) (xs : List StateVariable) (sizes : List ℕ) (first : ℕ) : Type 0 where
  pub within : first ≤ length xs
  pub groups : grouped_behind g (cut_into_groups sizes (members_for m (drop first xs))) ≡ groups_of m
  pub few : list_all makes_few (cut_into_groups sizes (members_for m (drop first xs))) ≡ list_all has_few (groups_of m)

pub start : (m : Model) (g : Grouping) (xs : List StateVariable) (sizes : List ℕ) → taken_of g.names ≡ names_in m → groups_in g.groups.items ≡ [] → variables_of_state xs ≡ m.variables
    → sizes ≡ group_sizes (members_for m xs) → AreBehind m g xs sizes 0
start m g xs sizes taken none vars is =
    let all : members_for m xs ≡ all_members_for m = members-all m xs ∙ ap (λ (ys : List Variable). map (member_for m) ys) vars in
    let cuts : cut_into_groups sizes (members_for m xs) ≡ cut_into_groups (group_sizes (all_members_for m)) (all_members_for m) =
    ap (λ (ks : List ℕ). cut_into_groups ks (members_for m xs)) is ∙ ap (λ (ps : List Member). cut_into_groups (group_sizes ps) ps) all in
    record {
      within = omega arith;
      groups = ap (λ (gs : List Group). gs ++ named_groups (taken_of g.names) (cut_into_groups sizes (members_for m xs))) none
          ∙ ap (λ (ns : List Name). named_groups ns (cut_into_groups sizes (members_for m xs))) taken ∙ ap (named_groups (names_in m)) cuts;
      few = ap (list_all makes_few) cuts ∙ sym (few-named (cut_into_groups (group_sizes (all_members_for m)) (all_members_for m)) (names_in m));
    }

-- the next size, and those behind it
pub next-size : (m : Model) (g : Grouping) (xs : List StateVariable) (sizes : List ℕ) (i first : ℕ) → i < length sizes → AreBehind m g xs (drop i sizes) first
    → AreBehind m g xs (get_or sizes i 0 ∷ drop (i + 1) sizes) first
next-size m g xs sizes i first within grouped_behind = subst (λ (ks : List ℕ). AreBehind m g xs ks first) (drop_more sizes i 0 within) grouped_behind

pub step : (m : Model) (g h : Grouping) (xs part : List StateVariable) (k : ℕ) (sizes : List ℕ) (first end : ℕ) → AreBehind m g xs (k ∷ sizes) first → end ≡ first + min (length xs - first) k
    → part ≡ take (end - first) (drop first xs) → ((others : List (List Member)) → grouped_behind h others ≡ grouped_behind g (members_for m part ∷ others)) → makes_few (members_for m part) ≡ true
    → AreBehind m h xs sizes end
step m g h xs part k sizes first end was is parts made few =
    let rest = cut_into_groups sizes (members_for m (drop end xs)) in
    let cuts : cut_into_groups (k ∷ sizes) (members_for m (drop first xs)) ≡ members_for m part ∷ rest =
    cut-step m xs k first end sizes was.within is ∙ ap (λ (ys : List StateVariable). members_for m ys ∷ rest) (sym parts) in
    record {
      within = omega (arith, is, was.within);
      groups = made rest ∙ ap (grouped_behind g) (sym cuts) ∙ was.groups;
      few = sym (ap (λ (b : Bool). b && list_all makes_few rest) few) ∙ sym (ap (list_all makes_few) cuts) ∙ was.few;
    }

-- ---- faults

pub clear : (b : Bool) (p : Place) → unless b Limit p ≡ [] → b ≡ true
clear true p h = refl
clear false p h = absurd (cc h)

pub refused : (p : Place) → IsAmong (unless false Limit p) (Refused (record { rule = Limit; place = p }))
refused p = Contains-push [] (record { rule = Limit; place = p })

one-of-all : (b rest : Bool) (p : Place) (e : OrMemory TypingFault) → IsAmong (unless b Limit p) e → IsAmong (unless (b && rest) Limit p) e
one-of-all true rest p (Refused f) h = absurd (omega (arith, h.1))
one-of-all true rest p Memory h = tt
one-of-all false rest p e h = h

pub refuses : (m : Model) (g : Grouping) (xs part : List StateVariable) (k : ℕ) (sizes : List ℕ) (first end : ℕ) (p : Place) (e : OrMemory TypingFault) → AreBehind m g xs (k ∷ sizes) first
    → end ≡ first + min (length xs - first) k → part ≡ take (end - first) (drop first xs) → IsAmong (unless (makes_few (members_for m part)) Limit p) e
    → IsAmong (unless (list_all has_few (groups_of m)) Limit p) e
refuses m g xs part k sizes first end p e was is parts h =
    let rest = cut_into_groups sizes (members_for m (drop end xs)) in
    let cuts : cut_into_groups (k ∷ sizes) (members_for m (drop first xs)) ≡ members_for m part ∷ rest =
    cut-step m xs k first end sizes was.within is ∙ ap (λ (ys : List StateVariable). members_for m ys ∷ rest) (sym parts) in
    subst (λ (b : Bool). IsAmong (unless b Limit p) e) (sym (ap (list_all makes_few) cuts) ∙ was.few) (one-of-all (makes_few (members_for m part)) (list_all makes_few rest) p e h)

-- ---- one group more

pub occupied : (n : ℕ) (b : Bool) → b ≡ (n == 0) → b ≡ false → n ≡ 0 → ⊥
occupied n b is none e = true≢false (sym (ap (λ (k : ℕ). k == 0) e) ∙ sym is ∙ none)

-- what the search for members says, by what it finds
abbrev pub AreFound : Model → List StateVariable → Option Members → Type 0
AreFound m xs found = MatchOption found (are_few (members_for m xs) ≡ false) (λ (ms : Members). members_said ms.items.items ≡ members_for m xs)

pub makes-several : (m : Model) (xs : List StateVariable) (x : StateVariable) (ys : List StateVariable) → xs ≡ x ∷ ys → (length ys ≡ 0 → ⊥) → makes_few (members_for m xs) ≡ are_few (members_for m xs)
makes-several m xs x [] is some = absurd (some refl)
makes-several m xs x (y ∷ ys) is some = ap (λ (zs : List StateVariable). makes_few (members_for m zs)) is ∙ sym (ap (λ (zs : List StateVariable). are_few (members_for m zs)) is)

pub are-few : (ps qs : List Member) (n : ℕ) → qs ≡ ps → n ≡ capacity qs → 0 < n → n ≤ MAX_GROUP_VALUES → are_few ps ≡ true
are-few ps qs n same counted some few =
    ap is_few (sym (ap capacity same) ∙ sym counted) ∙ and_from _ _ (lt-ltb 0 n some) (le-leb n MAX_GROUP_VALUES few)

pub several : (m : Model) (taken new : List Name) (old made : List declared_group.Group) (e : declared_group.Group) (x : Name) (xs ys : List StateVariable) (first : StateVariable)
    → made ≡ old ++ (e ∷ []) → group_of e ≡ Joined (named_variable x) (members_for m xs) → new ≡ x ∷ taken → x ≡ unused_name taken ((variable_of_state first).name ++ codes "'")
    → xs ≡ first ∷ ys → (length ys ≡ 0 → ⊥) → (cs : List (List Member)) → groups_in made ++ named_groups new cs ≡ groups_in old ++ named_groups taken (members_for m xs ∷ cs)
several m taken new old made e x xs [] first push is names fresh parts some cs = absurd (some refl)
several m taken new old made e x xs (y ∷ ys) first push is names fresh parts some cs =
    let all = members_for m (first ∷ y ∷ ys) in
    let with = ap (λ (zs : List StateVariable). members_for m zs) parts in
    ap (λ (gs : List declared_group.Group). groups_in gs ++ named_groups new cs) push
    ∙ ap (λ (gs : List Group). gs ++ named_groups new cs) (map-append group_of old (e ∷ []))
    ∙ append_assoc (groups_in old) (group_of e ∷ []) (named_groups new cs)
    ∙ ap (λ (h : Group). groups_in old ++ (h ∷ named_groups new cs)) (is ∙ ap (λ (ps : List Member). Joined (named_variable x) ps) with)
    ∙ ap (λ (ns : List Name). groups_in old ++ (Joined (named_variable x) all ∷ named_groups ns cs)) names
    ∙ ap (λ (n : Name). groups_in old ++ (Joined (named_variable n) all ∷ named_groups (n ∷ taken) cs)) fresh
    ∙ sym (ap (λ (ps : List Member). groups_in old ++ named_groups taken (ps ∷ cs)) with)
