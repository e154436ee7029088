-- What levels are left for the indices of an array, and for the values that one is chosen among.
use Rattle.std.proofs.Common.{◌≡◌, ◌<◌, ◌≤◌, ◌+◌, ℕ, suc, Bool, true, false, if◌then◌else◌, refl, sym, ap, subst, arith, List, [], ◌∷◌, map, drop, length, Some, ◌∙◌}
use Rattle.std.specs.List.{slice_get}
use Rattle.pb_text_tree.specs.declared.name.Name.{Name}
use Rattle.pb_text_tree.specs.declared.place.Place.{Place}
use Rattle.pb_text_tree.specs.declared.term.Argument.{Argument}
use Rattle.pb_text_tree.specs.Form.{TermForm, argument_forms, term_form}
use Rattle.pb_text_meaning.specs.Erase.{erased_term}
use Rattle.pb_text_meaning.specs.Syntax as syntax
use Rattle.pb_protocol_unfolding.specs.PutIn.{TermScope, put_in}
use Rattle.pb_protocol_unfolding.specs.Written.{is_written, written_values}
use Rattle.pb_protocol_unfolder_terms.specs.declared.array.Array.{Array}
use Rattle.pb_protocol_unfolder_terms.specs.declared.array.Choices.{Choices}
use Rattle.pb_protocol_unfolder_terms.specs.declared.context.Context.{Context}
use Rattle.pb_protocol_unfolder_terms.specs.declared.sorts.Variable.{Variable}
use Rattle.pb_protocol_unfolder_terms.specs.declared.scope.TermScope as declared_scope
use Rattle.pb_protocol_unfolder_terms.specs.declared.written.Written.{Written}
use Rattle.pb_protocol_unfolder_terms.specs.Deep.{IsDepthFault}
use Rattle.pb_protocol_unfolder_terms.specs.Met.{Occurrence, Surroundings, all_index_levels, forms, index_levels}
use Rattle.pb_protocol_unfolder_terms.specs.Tells.{AreChoicesMet, IsArrayMet, IsTokenAt, scope_said, surroundings_in}
use Rattle.pb_protocol_unfolder_terms.specs.View.{variable_of}
use Rattle.pb_protocol_unfolder_terms.proofs.MetLemmas.{array-others}
use Rattle.pb_protocol_unfolder_terms.proofs.ArgumentLemmas.{behind-first}
use Rattle.pb_protocol_unfolder_terms.proofs.ChoosingLemmas.{further_values}
use Rattle.pb_protocol_unfolder_terms.proofs.ReadLemmas.{AreOthers, not-none, some-is}

-- an index takes at least one level
some-levels : (m : Surroundings) (n : ℕ) (ρ : TermScope) (x : TermForm) (i : syntax.Variable) → 0 < index_levels m n ρ x i
some-levels m n ρ x i = by (is_written (put_in m.spec (forms m n) ρ (erased_term x)) (written_values m.spec i.sort))
  where
    by : (b : Bool) → 0 < (if b then 1 else suc (length (written_values m.spec i.sort)))
    by true = omega arith
    by false = omega arith

-- one that isn't written one more for each value
pub unwritten-levels : (m : Surroundings) (n : ℕ) (ρ : TermScope) (x : TermForm) (i : syntax.Variable)
    → is_written (put_in m.spec (forms m n) ρ (erased_term x)) (written_values m.spec i.sort) ≡ false
    → index_levels m n ρ x i ≡ suc (length (written_values m.spec i.sort))
unwritten-levels m n ρ x i w = ap (λ (b : Bool). if b then 1 else suc (length (written_values m.spec i.sort))) w

some-length : {A : Type 0} (v : A) (vs : List A) → Some v ≡ slice_get vs 0 → length vs ≡ suc (length (drop 1 vs))
some-length v [] e = absurd (not-none v e)
some-length v (w ∷ vs) e = refl

first-levels : (m : Surroundings) (n : ℕ) (ρ : TermScope) (is : List Variable) (given : List Argument) (i : Variable) (a : Argument) → Some i ≡ slice_get is 0 → Some a ≡ slice_get given 0
    → index_levels m n ρ (term_form a.term) (variable_of i) ≤ all_index_levels m n ρ (argument_forms given) (map variable_of is)
first-levels m n ρ [] given i a there first = absurd (not-none i there)
first-levels m n ρ (j ∷ is) [] i a there first = absurd (not-none a first)
first-levels m n ρ (j ∷ is) (b ∷ given) i a there first =
    let own = ap (λ (z : Argument). index_levels m n ρ (term_form z.term) (variable_of i)) (some-is a b first) in
    let sort = ap (λ (z : Variable). index_levels m n ρ (term_form b.term) (variable_of z)) (some-is i j there) in
    omega (arith, own, sort)

-- the array is read where it is used
abbrev pub IsReadThere : Context → ℕ → ℕ → declared_scope.TermScope → Array → Occurrence → Type 0
IsReadThere c l n scope array whole = IsArrayMet c l n scope array.name.now.place array.arguments.now array.indices.now whole

module _ (c : Context) (n : ℕ) (scope : declared_scope.TermScope) {whole : Occurrence} where
  -- no level is left for an index
  pub array-deep : (array : Array) {l : ℕ} {i : Variable} {a : Argument} → Some i ≡ slice_get array.indices.now 0 → Some a ≡ slice_get array.arguments.now 0 → l ≡ 0
      → IsReadThere c l n scope array whole → IsDepthFault (surroundings_in c) whole array.name.now.place
  array-deep array {i = i} {a = a} there first none h =
      h.deep (omega (
        arith,
        none,
        some-levels (surroundings_in c) n (scope_said c scope) (term_form a.term) (variable_of i),
        first-levels (surroundings_in c) n (scope_said c scope) array.indices.now array.arguments.now i a there first,
      ))

  module _ {array : Array} {i : Variable} {a : Argument} {l : ℕ} (k : ℕ) (more : l ≡ k + 1) where
    others-met : {others : Array} (d j : ℕ) → AreOthers array others i a → l ≡ j + d → 0 < d → d ≤ index_levels (surroundings_in c) n (scope_said c scope) (term_form a.term) (variable_of i)
        → IsReadThere c l n scope array whole → IsReadThere c j n scope others whole
    others-met {others = others} d j is left some within h =
        subst (λ (r : Place). IsArrayMet c j n scope r others.arguments.now others.indices.now whole) (sym (ap (λ (x : Name). x.place) is.name))
        (subst (λ (vs : List Variable). IsArrayMet c j n scope array.name.now.place others.arguments.now vs whole) (sym is.indices)
        (subst (λ (bs : List Argument). IsArrayMet c j n scope array.name.now.place bs (drop 1 array.indices.now) whole) (sym is.arguments)
        (array-others c n scope whole array.name.now.place array.indices.now array.arguments.now j d i a is.first is.there some within
        (subst (λ (z : ℕ). IsReadThere c z n scope array whole) left h))))

    -- the element at one value, with a level less
    pub element-met : {others : Array} → AreOthers array others i a → IsReadThere c l n scope array whole → IsReadThere c k n scope others whole
    element-met is h = others-met 1 k is more (omega arith) (omega (arith, some-levels (surroundings_in c) n (scope_said c scope) (term_form a.term) (variable_of i))) h

    -- a choice among the values of an index that isn't written
    pub choices-met : (all : Choices) → AreOthers array all.others i a → index_levels (surroundings_in c) n (scope_said c scope) (term_form a.term) (variable_of i) ≡ suc (length all.values.now)
        → IsReadThere c l n scope array whole → AreChoicesMet c k n scope all whole
    choices-met all is levels h = record {
      others = λ j t some within left. others-met (suc t) j is (omega (arith, more, left)) (omega arith) (omega (arith, within, levels)) h;
      deep = λ less. subst (IsDepthFault (surroundings_in c) whole) (sym (ap (λ (x : Name). x.place) is.name))
          (h.deep (omega (arith, less, levels, more, first-levels (surroundings_in c) n (scope_said c scope) array.indices.now array.arguments.now i a is.first is.there)));
      token = subst (λ (r : Place). IsTokenAt c r whole) (sym (ap (λ (x : Name). x.place) is.name)) h.read.token;
    }

module _ {c : Context} {l n : ℕ} {scope : declared_scope.TermScope} {all : Choices} {whole : Occurrence} {v : Written} (some : Some v ≡ slice_get all.values.now 0)
    (h : AreChoicesMet c l n scope all whole) where
  -- no level is left for a value
  pub choices-deep : l ≡ 0 → IsDepthFault (surroundings_in c) whole all.others.name.now.place
  choices-deep none = h.deep (omega (arith, none, some-length v all.values.now some))

  -- the element at the first value
  pub choice-first : {k : ℕ} → l ≡ k + 1 → IsReadThere c k n scope all.others whole
  choice-first {k = k} more = h.others k 1 (omega arith) (omega (arith, some-length v all.values.now some)) more

  -- and the further ones
  pub choices-further : {k : ℕ} (further : Choices) → further.others ≡ all.others → further.values.now ≡ further_values all → l ≡ k + 1 → AreChoicesMet c k n scope further whole
  choices-further further e f more =
      let count = some-length v all.values.now some in
      let left = ap length (f ∙ behind-first all.values.now) in
      record {
        others = λ j t some within rest. subst (λ (o : Array). IsReadThere c j n scope o whole) (sym e)
            (h.others j (suc t) (omega arith) (omega (arith, within, count, left)) (omega (arith, more, rest)));
        deep = λ less. subst (λ (o : Array). IsDepthFault (surroundings_in c) whole o.name.now.place) (sym e) (h.deep (omega (arith, less, count, left, more)));
        token = subst (λ (o : Array). IsTokenAt c o.name.now.place whole) (sym e) h.token;
      }
