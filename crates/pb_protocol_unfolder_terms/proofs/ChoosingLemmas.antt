-- A choice among the values of an index that isn't written: by the first of them and the further ones.
use Rattle.std.proofs.Common.{◌≡◌, ◌≤◌, ◌<◌, ◌-◌, ◌+◌, ◌==◌, ℕ, Bool, true, false, if◌then◌else◌, List, map, drop, take, length, Some, sym, ◌∙◌, ap, subst, arith}
use Rattle.std.specs.List.{slice_get}
use Rattle.std.specs.Prelude.{Result, IsErrAnd, codes, string_bytes}
use Rattle.pb_base.specs.declared.or_memory.OrMemory.{OrMemory}
use Rattle.pb_base.specs.declared.or_memory.OrMemory.TheVariants.{Refused}
use Rattle.pb_text_tree.specs.declared.place.Place.{Place}
use Rattle.pb_protocol_unfolder_terms.specs.declared.fault.UnfoldRule.TheVariants as rule
use Rattle.pb_text_tree.specs.declared.name.Name as declared_name
use Rattle.pb_text_tree.specs.declared.sort.SortDeclaration.{SortDeclaration}
use Rattle.pb_text_tree.specs.declared.term.Term as declared_term
use Rattle.pb_text_meaning.specs.Syntax.{Operator, Term}
use Rattle.pb_protocol_folding.specs.Folding.{folded, truth_value}
use Rattle.pb_protocol_folding.specs.View as tree
use Rattle.pb_protocol_unfolding.specs.PutIn.{choice, choices}
use Rattle.pb_protocol_unfolder_terms.specs.declared.array.Choices.{Choices}
use Rattle.pb_protocol_unfolder_terms.specs.declared.context.Context.{Context}
use Rattle.pb_protocol_unfolder_terms.specs.declared.fault.UnfoldFault.{UnfoldFault}
use Rattle.pb_protocol_unfolder_terms.specs.declared.level.Level.{Level}
use Rattle.pb_protocol_unfolder_terms.specs.declared.scope.TermScope as declared_scope
use Rattle.pb_protocol_unfolder_terms.specs.declared.unfolded.Unfolded.{Unfolded}
use Rattle.pb_protocol_unfolder_terms.specs.declared.written.Written.{Written}
use Rattle.pb_protocol_unfolder_terms.specs.Contexts.{folding_in}
use Rattle.pb_protocol_unfolder_terms.specs.Puts.{choice_of, element_by}
use Rattle.pb_protocol_unfolder_terms.specs.Unfolding.{IsRefusal, IsUnfolded, Unfolds, operator_count}
use Rattle.pb_protocol_unfolder_terms.specs.Values.{written_term}
use Rattle.pb_protocol_unfolder_terms.proofs.ArgumentLemmas.{behind-first, some-of}
use Rattle.pb_protocol_unfolder_terms.proofs.ChainLemmas.{err-kept, no-room}
use Rattle.pb_protocol_unfolder_terms.proofs.ChoiceLemmas.{IsChoice, IsChosen, chosen-refused, if-named, right-refused, truth-said, two-unfolded}
use Rattle.pb_protocol_unfolder_terms.proofs.ReadLemmas.{choices-more}

-- the index has this value
abbrev pub equal_to : Term → Written → Term
equal_to t value = Term.Binary Operator.Equal t (written_term value)

-- the element at a value, and a choice among values
abbrev pub element_at : Context → Level → declared_scope.TermScope → Choices → Written → Term
element_at k v s all value = element_by k v.definitions s all.others (written_term value)

abbrev pub among : Context → Level → declared_scope.TermScope → Choices → Term → List Written → Term
among k v s all t values = choices (element_by k v.definitions s all.others) t (map written_term values)

-- the values behind the first, as the code takes them
abbrev pub further_values : Choices → List Written
further_values all = take (length all.values.now - 1) (drop 1 all.values.now)

-- t is an index of these choices
abbrev pub IsIndexOf : Context → Choices → Term → Type 0
IsIndexOf k all t = tree.term_of all.index.now ≡ folded (folding_in k) false t

-- there are more values than the first, and a condition says whether the index has that one
pub record IsChoosing (k : Context) (v : Level) (s : declared_scope.TermScope) (all : Choices) (value : Written) (condition : declared_term.Term) : Type 0 where
  pub first : Some value ≡ slice_get all.values.now 0
  pub more : (length (further_values all) == 0) ≡ false
  pub says : (t : Term) → IsIndexOf k all t → tree.term_of condition ≡ folded (folding_in k) true (equal_to t value)

pub choosing : (k : Context) (v : Level) (s : declared_scope.TermScope) (all : Choices) (condition : declared_term.Term) {value : Written} {D : List SortDeclaration}
    → Some value ≡ slice_get all.values.now 0
    → (length (further_values all) == 0) ≡ false → D ≡ k.declarations.now
    → ((t : Term) (truth : Bool) → tree.term_of all.index.now ≡ folded (tree.spec_of D) false t → tree.term_of condition ≡ folded (tree.spec_of D) truth (equal_to t value))
    → IsChoosing k v s all value condition
choosing k v s all condition {value = value} first more sorts equality = record {
  first = first;
  more = more;
  says = λ t. subst (λ (ds : List SortDeclaration). tree.term_of all.index.now ≡ folded (tree.spec_of ds) false t
      → tree.term_of condition ≡ folded (tree.spec_of ds) true (equal_to t value)) sorts (equality t true);
}

-- the element at a value that the index is known to have, of the room for which so many operators are taken
module _ (k : Context) (v : Level) (s : declared_scope.TermScope) (all : Choices) (value : Written) (taken : ℕ) (most : taken ≤ all.operators + 2) where
  pub known-without-room : {place : Place} (r : Result Unfolded (OrMemory UnfoldFault)) (e : OrMemory UnfoldFault) → IsErrAnd r (λ d. d ≡ e)
      → e ≡ Refused (record { rule = rule.Operators; place = place }) → v.room < taken
      → (c y : Term) (truth : Bool) → folded (folding_in k) true c ≡ Term.Truth true → all.operators < operator_count c
      → Unfolds (folding_in k) truth v.room (choice c (element_at k v s all value) y) r
  known-without-room {place = place} r e same is many c y truth holds less =
      err-kept r e _ (IsRefusal v.room (choice c (element_at k v s all value) y)) same
      (no-room v.room (choice c (element_at k v s all value) y) e place is (omega (arith, many, most, less)))

  pub known-refused : (m : ℕ) (r : Result Unfolded (OrMemory UnfoldFault)) (e : OrMemory UnfoldFault) → v.room ≡ m + taken → IsErrAnd r (λ d. d ≡ e)
      → ((truth : Bool) → IsRefusal m (element_at k v s all value) e)
      → (c y : Term) (truth : Bool) → folded (folding_in k) true c ≡ Term.Truth true → all.operators < operator_count c
      → Unfolds (folding_in k) truth v.room (choice c (element_at k v s all value) y) r
  known-refused m r e spent same h c y truth holds less =
      err-kept r e _ (IsRefusal v.room (choice c (element_at k v s all value) y)) same
      (chosen-refused v.room m (codes "if") c (element_at k v s all value) y true e (omega (arith, spent, most, less)) (h truth))

  pub known-unfolded : (m : ℕ) {u r : Unfolded} → v.room ≡ m + taken → IsChosen u r → ((truth : Bool) → IsUnfolded (folding_in k) truth m (element_at k v s all value) u)
      → (c y : Term) (truth : Bool) → folded (folding_in k) true c ≡ Term.Truth true → all.operators < operator_count c
      → IsUnfolded (folding_in k) truth v.room (choice c (element_at k v s all value) y) r
  known-unfolded m spent chosen h c y truth holds less =
      chosen (folding_in k) (codes "if") c (element_at k v s all value) y m v.room true truth if-named holds (h false) (omega (arith, spent, most, less))

module _ {k : Context} {v : Level} {s : declared_scope.TermScope} {all : Choices} {value : Written} {condition : declared_term.Term} (is : IsChoosing k v s all value condition) where
  choice-said : (t : Term) → choice_of (codes "if") (equal_to t value) (element_at k v s all value) (among k v s all t (further_values all)) ≡ among k v s all t all.values.now
  choice-said t =
      let some : length (drop 1 all.values.now) ≡ 0 → ⊥ = λ end. some-of (further_values all) is.more (ap length (behind-first all.values.now) ∙ end) in
      ap (λ (ws : List Written). choice_of (codes "if") (equal_to t value) (element_at k v s all value) (among k v s all t ws)) (behind-first all.values.now)
      ∙ choices-more (element_by k v.definitions s all.others) t all.values.now value is.first some

  refused-as : (t : Term) (truth : Bool) (r : Result Unfolded (OrMemory UnfoldFault)) (e : OrMemory UnfoldFault) → IsErrAnd r (λ d. d ≡ e)
      → IsRefusal v.room (choice_of (codes "if") (equal_to t value) (element_at k v s all value) (among k v s all t (further_values all))) e
      → Unfolds (folding_in k) truth v.room (among k v s all t all.values.now) r
  refused-as t truth r e same h =
      err-kept r e _ (IsRefusal v.room (among k v s all t all.values.now)) same (subst (λ (z : Term). IsRefusal v.room z e) (choice-said t) h)

  -- there is no room for the index, its value and the choice
  pub choosing-without-room : {place : Place} (r : Result Unfolded (OrMemory UnfoldFault)) (e : OrMemory UnfoldFault) → IsErrAnd r (λ d. d ≡ e)
      → e ≡ Refused (record { rule = rule.Operators; place = place }) → v.room < all.operators + 2
      → (t : Term) (truth : Bool) → IsIndexOf k all t → all.operators ≤ operator_count t → Unfolds (folding_in k) truth v.room (among k v s all t all.values.now) r
  choosing-without-room {place = place} r e same is many t truth said within =
      refused-as t truth r e same
      (no-room v.room (choice_of (codes "if") (equal_to t value) (element_at k v s all value) (among k v s all t (further_values all))) e place is (omega (arith, many, within)))

  -- where the condition holds, it is the element at the first value
  pub first-known : (r : Result Unfolded (OrMemory UnfoldFault)) → Some true ≡ truth_value (tree.term_of condition)
      → ((c y : Term) (truth : Bool) → folded (folding_in k) true c ≡ Term.Truth true → all.operators < operator_count c
      → Unfolds (folding_in k) truth v.room (choice c (element_at k v s all value) y) r)
      → (t : Term) (truth : Bool) → IsIndexOf k all t → all.operators ≤ operator_count t → Unfolds (folding_in k) truth v.room (among k v s all t all.values.now) r
  first-known r says h t truth said within =
      subst (λ (z : Term). Unfolds (folding_in k) truth v.room z r) (choice-said t)
      (h (equal_to t value) (among k v s all t (further_values all)) truth (sym (is.says t said) ∙ truth-said condition true says) (omega (arith, within)))

  -- decided, it is the element that is chosen
  pub decided-unfolded : (decision : Bool) {u r : Unfolded} → Some decision ≡ truth_value (tree.term_of condition) → IsChosen u r
      → ((t : Term) → IsIndexOf k all t → all.operators ≤ operator_count t
      → IsUnfolded (folding_in k) false v.room (if decision then element_at k v s all value else among k v s all t (further_values all)) u)
      → (t : Term) (truth : Bool) → IsIndexOf k all t → all.operators ≤ operator_count t → IsUnfolded (folding_in k) truth v.room (among k v s all t all.values.now) r
  decided-unfolded decision {r = r} says chosen h t truth said within =
      subst (λ (z : Term). IsUnfolded (folding_in k) truth v.room z r) (choice-said t)
      (chosen (folding_in k) (codes "if") (equal_to t value) (element_at k v s all value) (among k v s all t (further_values all)) v.room v.room decision truth if-named
      (sym (is.says t said) ∙ truth-said condition decision says) (h t said within) (omega arith))

  -- or refused
  pub decided-refused : (decision : Bool) (r : Result Unfolded (OrMemory UnfoldFault)) (e : OrMemory UnfoldFault) → IsErrAnd r (λ d. d ≡ e)
      → ((t : Term) (truth : Bool) → IsIndexOf k all t → all.operators ≤ operator_count t
      → IsRefusal v.room (if decision then element_at k v s all value else among k v s all t (further_values all)) e)
      → (t : Term) (truth : Bool) → IsIndexOf k all t → all.operators ≤ operator_count t → Unfolds (folding_in k) truth v.room (among k v s all t all.values.now) r
  decided-refused decision r e same h t truth said within =
      refused-as t truth r e same
      (chosen-refused v.room v.room (codes "if") (equal_to t value) (element_at k v s all value) (among k v s all t (further_values all)) decision e (omega arith) (h t truth said within))

  -- not decided, the first element is refused
  pub first-refused : (m : ℕ) (r : Result Unfolded (OrMemory UnfoldFault)) (e : OrMemory UnfoldFault) → v.room ≡ m + 2 + all.operators → IsErrAnd r (λ d. d ≡ e)
      → ((truth : Bool) → IsRefusal m (element_at k v s all value) e)
      → (t : Term) (truth : Bool) → IsIndexOf k all t → all.operators ≤ operator_count t → Unfolds (folding_in k) truth v.room (among k v s all t all.values.now) r
  first-refused m r e spent same h t truth said within =
      refused-as t truth r e same
      (chosen-refused v.room m (codes "if") (equal_to t value) (element_at k v s all value) (among k v s all t (further_values all)) true e (omega (arith, spent, within)) (h truth))

  -- the further ones are
  pub further-refused : (m : ℕ) {left : Unfolded} (r : Result Unfolded (OrMemory UnfoldFault)) (e : OrMemory UnfoldFault) → v.room ≡ m + 2 + all.operators → IsErrAnd r (λ d. d ≡ e)
      → ((truth : Bool) → IsUnfolded (folding_in k) truth m (element_at k v s all value) left)
      → ((t : Term) (truth : Bool) → IsIndexOf k all t → all.operators ≤ operator_count t → IsRefusal left.room (among k v s all t (further_values all)) e)
      → (t : Term) (truth : Bool) → IsIndexOf k all t → all.operators ≤ operator_count t → Unfolds (folding_in k) truth v.room (among k v s all t all.values.now) r
  further-refused m {left = left} r e spent same l h t truth said within =
      refused-as t truth r e same
      (right-refused v.room m left.room (codes "if") (equal_to t value) (element_at k v s all value) (among k v s all t (further_values all)) e
      (omega (arith, spent, within)) (l truth).room (h t truth said within))

  -- it is a choice of both
  pub further-unfolded : (m : ℕ) (name : declared_name.Name) {D : List SortDeclaration} {left right r : Unfolded} → v.room ≡ m + 2 + all.operators → D ≡ k.declarations.now
      → string_bytes name.text ≡ codes "if" → ((truth : Bool) → IsUnfolded (folding_in k) truth m (element_at k v s all value) left)
      → ((t : Term) (truth : Bool) → IsIndexOf k all t → all.operators ≤ operator_count t → IsUnfolded (folding_in k) truth left.room (among k v s all t (further_values all)) right)
      → IsChoice D name condition left right r
      → (t : Term) (truth : Bool) → IsIndexOf k all t → all.operators ≤ operator_count t → IsUnfolded (folding_in k) truth v.room (among k v s all t all.values.now) r
  further-unfolded m name spent sorts named l h choice t truth said within =
      two-unfolded k truth name condition sorts named (choice-said t) (is.says t said) (l false) (h t false said within) (omega (arith, spent, within)) choice
