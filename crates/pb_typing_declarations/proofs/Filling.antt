-- How a table of names is filled, entry by entry.
use Rattle.std.proofs.Common.{◌≡◌, ℕ, ◌+◌, ◌<◌, Bool, true, false, cond, not, ◌||◌, List, [], ◌∷◌, ◌++◌, length, get_or, drop, refl, sym, ◌∙◌, ap, bytes_eq}
use Rattle.std.specs.Prelude.{Option, Some, None, is_some}
use Rattle.std.proofs.Math.Path.{fun_ext}
use Rattle.std.specs.Cmp.Lexicographic.{same_text}
use denote.Ref.{Bor}
use Rattle.std.specs.HashMap.{IsEmpty, Updates}
use Rattle.pb_sorts.proofs.Places.{drop-at}
use Rattle.pb_text_tree.specs.Form.{Named}
use Rattle.pb_text_meaning.specs.Syntax.{Name}
use Rattle.pb_typing_declarations.specs.declared.entry.Entry.{Entry}
use Rattle.pb_typing_declarations.specs.declared.fault.TypingRule.TheVariants.{NameTwice}
use Rattle.pb_typing_declarations.specs.declared.fault.TypingFault.{TypingFault}
use Rattle.pb_typing_declarations.specs.Faults.{unless, is_among, repeated_after}
use Rattle.pb_typing_declarations.specs.Tables.{Table, entry_of, entry_names, entry_values}

abbrev pub Seen : Type 0
Seen = Name → Bool

abbrev pub seen_too : Name → Seen → Seen
seen_too x seen = λ y. bytes_eq x y || seen y

-- the faults of names that stand behind those that `seen` tells
abbrev pub seen_repeated : Seen → List Named → List TypingFault
seen_repeated seen [] = []
seen_repeated seen (x ∷ xs) = unless (not (seen x.text)) NameTwice x.place ++ seen_repeated (seen_too x.text seen) xs

pub repeated_after-seen : (before : List Name) (xs : List Named) → repeated_after before xs ≡ seen_repeated (is_among before) xs
repeated_after-seen before [] = refl
repeated_after-seen before (x ∷ xs) = ap (λ (rest : List TypingFault). unless (not (is_among before x.text)) NameTwice x.place ++ rest) (repeated_after-seen (x.text ∷ before) xs)

module _ {V : Type 0} where
  abbrev pub has : Table V → Seen
  has table = λ x. is_some (entry_of table x)

  abbrev pub or_first : Option V → Option V → Option V
  or_first None o = o
  or_first (Some v) o = Some v

  abbrev pub value_of : Entry V → Name × V
  value_of e = (e.name.now, e.value)

  -- the faults from the next entry on, where the code's test says whether its name is new
  pub faults_next : (old : Table V) (es : List (Entry V)) (k : ℕ) (e : Entry V) (new : Bool) → k < length es → e ≡ get_or es k e → new ≡ not (has old e.name.now)
      → seen_repeated (has old) (entry_names (drop k es)) ≡ unless new NameTwice e.place ++ seen_repeated (seen_too e.name.now (has old)) (entry_names (drop (k + 1) es))
  faults_next old es k e new below at is =
      ap (λ (ds : List (Entry V)). seen_repeated (has old) (entry_names ds)) (drop-at es k e below at)
      ∙ ap (λ (b : Bool). unless b NameTwice e.place ++ seen_repeated (seen_too e.name.now (has old)) (entry_names (drop (k + 1) es))) (sym is)

  pub values-drop : (es : List (Entry V)) (k : ℕ) (e : Entry V) → k < length es → e ≡ get_or es k e → entry_values (drop k es) ≡ value_of e ∷ entry_values (drop (k + 1) es)
  values-drop es k e below at = ap entry_values (drop-at es k e below at)

  pub none_in : (table : Table V) → IsEmpty table → entry_of table ≡ (λ x. None)
  none_in table e = fun_ext (λ x. rw e refl)

  pub none_has : (table : Table V) → IsEmpty table → has table ≡ is_among []
  none_has table e = ap (λ (look : Name → Option V). λ x. is_some (look x)) (none_in table e)

  -- after an entry was put in, the table has that entry and those it had
  pub put_in : (old new : Table V) (key : Bor (List ℕ)) (v : V) → Updates (λ x y. bytes_eq x.now y.now) old new key (Some v)
      → entry_of new ≡ (λ x. cond (bytes_eq key.now x) (Some v) (entry_of old x))
  put_in old new key v u = fun_ext (λ x. u.0 (record { ref_ptr = (0, 0); now = x }))

  some_cond : (b : Bool) (v : V) (o : Option V) → is_some (cond b (Some v) o) ≡ (b || is_some o)
  some_cond true v o = refl
  some_cond false v o = refl

  pub has-put : (old new : Table V) (key : Bor (List ℕ)) (v : V) → entry_of new ≡ (λ x. cond (bytes_eq key.now x) (Some v) (entry_of old x)) → has new ≡ seen_too key.now (has old)
  has-put old new key v is = ap (λ (look : Name → Option V). λ x. is_some (look x)) is ∙ fun_ext (λ x. some_cond (bytes_eq key.now x) v (entry_of old x))

  -- the first of old entries and then of these is the first of the new entries and then of the rest
  pub first_put : (old : Name → Option V) (name x : Name) (v : V) (rest : Option V) → old name ≡ None
      → or_first (old x) (cond (bytes_eq name x) (Some v) rest) ≡ or_first (cond (bytes_eq name x) (Some v) (old x)) rest
  first_put old name x v rest none = by_case (bytes_eq name x) refl
    where
      by_case : (b : Bool) → bytes_eq name x ≡ b → or_first (old x) (cond b (Some v) rest) ≡ or_first (cond b (Some v) (old x)) rest
      by_case true same = ap (λ o. or_first o (Some v)) (ap old (sym (same_text name x (sym same))) ∙ none)
      by_case false other = refl

  pub or_none : (o : Option V) → or_first o None ≡ o
  or_none None = refl
  or_none (Some v) = refl

  -- what isn't there is none
  pub absent : (o : Option V) → not (is_some o) ≡ true → o ≡ None
  absent None h = refl
  absent (Some v) h = cc

  -- whether a name is new, by what stood at it
  pub is_new : (b : Bool) (o look : Option V) → is_some o ≡ not b → o ≡ look → b ≡ not (is_some look)
  is_new true o look is same = ap not (sym is ∙ ap is_some same)
  is_new false o look is same = ap not (sym is ∙ ap is_some same)
