-- The names of the steps of a tree of which nothing is kept, step by step.
use Rattle.std.proofs.Common.{◌≡◌, ◌∙◌, ◌<◌, ◌≤◌, ◌+◌, ℕ, refl, sym, ap, subst, arith, Bool, true, false, not, ◌||◌, if◌then◌else◌, List, [], ◌∷◌, ◌++◌, map, filter, flat_map, length, take, drop, get_or, string_bytes}
use Rattle.std.specs.List.{list_any}
use Rattle.std.proofs.lemmas.List.Folds.{length-flat_map-take}
use Rattle.std.proofs.lemmas.List.{append_assoc, drop_more, length-map, map-append}
use Rattle.std.proofs.Math.Seq.{take-append_seam, drop-append_seam}
use Rattle.pb_text_meaning.specs.Syntax.{Name}
use Rattle.pb_protocol_tree.specs.declared.step.Step as declared
use Rattle.pb_protocol_tree.specs.Form.{step_form}
use Rattle.pb_protocol_meaning.specs.Syntax.{Protocol, Step}
use Rattle.pb_protocol_meaning.specs.Erase.{erased_step}
use Rattle.pb_protocol_unfolding.specs.Unfolding.{Instance, instances_of}
use Rattle.pb_protocol_unfolder.specs.Told.{may_be_taken, is_impossible}

any-mapped : {X : Type 0} (p : X → Bool) (xs : List X) → list_any (λ (b : Bool). b) (map p xs) ≡ list_any p xs
any-mapped p [] = refl
any-mapped p (x ∷ xs) = ap (λ b. p x || b) (any-mapped p xs)

module _ (m : Protocol) where
  abbrev pub own_instances : declared.Step → List Instance
  own_instances a = instances_of m (erased_step (step_form a))

  instances-parted : (steps : List declared.Step) → flat_map own_instances steps ≡ flat_map (instances_of m) (map erased_step (map step_form steps))
  instances-parted [] = refl
  instances-parted (a ∷ others) = ap (λ (is : List Instance). own_instances a ++ is) (instances-parted others)

  -- a step makes no more of them than all do
  pub no-more-than-all : (steps : List declared.Step) (k : ℕ) (a : declared.Step) → k < length steps → a ≡ get_or steps k a
      → length (own_instances a) ≤ length (flat_map (instances_of m) (map erased_step (map step_form steps)))
  no-more-than-all steps k a below is =
      let f = own_instances in
      let all = flat_map f steps in
      let upto = subst (λ (b : declared.Step). length (flat_map f (take k steps)) + length (f b) ≤ length all) (sym is) (length-flat_map-take f steps k a below) in
      subst (λ (is : List Instance). length (f a) ≤ length is) (instances-parted steps) (omega (arith, upto))

  -- whether the steps with values of these steps are kept
  abbrev pub kept_of : List declared.Step → List Bool
  kept_of steps = map (may_be_taken m) (flat_map (instances_of m) (map erased_step (map step_form steps)))

  -- the names of those of which none is
  abbrev pub names_of : List declared.Step → List Name
  names_of steps = map (λ (a : Step). a.name) (filter (is_impossible m) (map erased_step (map step_form steps)))

  parted : (a : declared.Step) (others : List declared.Step) → kept_of (a ∷ others) ≡ map (may_be_taken m) (own_instances a) ++ kept_of others
  parted a others = map-append (may_be_taken m) (own_instances a) (flat_map (instances_of m) (map erased_step (map step_form others)))

  first-of : (steps : List declared.Step) (k : ℕ) (a : declared.Step) → k < length steps → a ≡ get_or steps k a → drop k steps ≡ a ∷ drop (k + 1) steps
  first-of steps k a below is = drop_more steps k a below ∙ ap (λ (b : declared.Step). b ∷ drop (k + 1) steps) (sym is)

  -- what is kept of the next step stands first
  parted-at : (steps : List declared.Step) (k : ℕ) (a : declared.Step) (rest : List Bool) → k < length steps → a ≡ get_or steps k a → rest ≡ kept_of (drop k steps)
      → rest ≡ map (may_be_taken m) (own_instances a) ++ kept_of (drop (k + 1) steps)
  parted-at steps k a rest below is kept = kept ∙ ap kept_of (first-of steps k a below is) ∙ parted a (drop (k + 1) steps)

  pub rest-behind : (steps : List declared.Step) (k : ℕ) (a : declared.Step) (rest others : List Bool) (n : ℕ) → k < length steps → a ≡ get_or steps k a → rest ≡ kept_of (drop k steps)
      → n ≡ length (own_instances a) → others ≡ drop n rest → others ≡ kept_of (drop (k + 1) steps)
  rest-behind steps k a rest others n below is kept count dropped =
      let own = map (may_be_taken m) (own_instances a) in
      dropped ∙ ap (λ (i : ℕ). drop i rest) (count ∙ sym (length-map (own_instances a) (may_be_taken m)))
      ∙ ap (drop (length own)) (parted-at steps k a rest below is kept) ∙ drop-append_seam own (kept_of (drop (k + 1) steps))

  some-kept : (steps : List declared.Step) (k : ℕ) (a : declared.Step) (rest own : List Bool) (n : ℕ) → k < length steps → a ≡ get_or steps k a → rest ≡ kept_of (drop k steps)
      → n ≡ length (own_instances a) → own ≡ take n rest → list_any (λ (b : Bool). b) own ≡ list_any (may_be_taken m) (own_instances a)
  some-kept steps k a rest own n below is kept count taken =
      let mine = map (may_be_taken m) (own_instances a) in
      ap (list_any (λ (b : Bool). b)) (taken ∙ ap (λ (i : ℕ). take i rest) (count ∙ sym (length-map (own_instances a) (may_be_taken m)))
      ∙ ap (take (length mine)) (parted-at steps k a rest below is kept) ∙ take-append_seam mine (kept_of (drop (k + 1) steps)))
      ∙ any-mapped (may_be_taken m) (own_instances a)

  name-unless : (a : declared.Step) (others : List declared.Step) →
      (if list_any (may_be_taken m) (own_instances a) then [] else string_bytes a.name.text ∷ []) ++ names_of others ≡ names_of (a ∷ others)
  name-unless a others = by (list_any (may_be_taken m) (own_instances a))
    where
      by : (b : Bool) → (if b then [] else string_bytes a.name.text ∷ []) ++ names_of others
          ≡ map (λ (c : Step). c.name)
          (if not b then erased_step (step_form a) ∷ filter (is_impossible m)
          (map erased_step (map step_form others)) else filter (is_impossible m) (map erased_step (map step_form others)))
      by true = refl
      by false = refl

  pub named-so-far : (steps : List declared.Step) (k : ℕ) (a : declared.Step) (rest own : List Bool) (n : ℕ) (old new all : List Name) → k < length steps → a ≡ get_or steps k a
      → rest ≡ kept_of (drop k steps) → n ≡ length (own_instances a) → own ≡ take n rest
      → new ≡ old ++ (if list_any (λ (b : Bool). b) own then [] else string_bytes a.name.text ∷ [])
      → old ++ names_of (drop k steps) ≡ all → new ++ names_of (drop (k + 1) steps) ≡ all
  named-so-far steps k a rest own n old new all below is kept count taken pushed before =
      let more = names_of (drop (k + 1) steps) in
      let mine : Bool → List Name = λ b. if b then [] else string_bytes a.name.text ∷ [] in
      ap (λ (l : List Name). l ++ more) pushed ∙ append_assoc old (mine (list_any (λ (b : Bool). b) own)) more
      ∙ ap (λ (b : Bool). old ++ (mine b ++ more)) (some-kept steps k a rest own n below is kept count taken)
      ∙ ap (λ (l : List Name). old ++ l) (name-unless a (drop (k + 1) steps) ∙ ap names_of (sym (first-of steps k a below is))) ∙ before
