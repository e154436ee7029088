-- Operands of a connective one after another, and what is left of the whole behind them.
use Rattle.std.proofs.Common.{◌≡◌, ℕ, zero, suc, ◌+◌, ◌<◌, ◌≤◌, ◌++◌, Bool, true, false, List, [], ◌∷◌, map, drop, length, get_or, refl, sym, ◌∙◌, ap, subst, arith, add-one}
use Rattle.std.specs.Prelude.{Result, IsErrAnd, MatchResult}
use Rattle.pb_text_tree.specs.declared.operator.Connective.{Connective}
use Rattle.pb_text_tree.specs.declared.operator.Connective.TheVariants as connective
use Rattle.pb_text_tree.specs.declared.operator.Quantifier.{Quantifier}
use Rattle.pb_text_tree.specs.declared.operator.Quantifier.TheVariants.{Forall, Exists}
use Rattle.pb_text_tree.specs.declared.place.Place.{Place}
use Rattle.pb_text_tree.specs.declared.term.Term as declared_term
use Rattle.pb_text_tree.specs.declared.term.TermLink.{TermLink}
use Rattle.pb_text_meaning.specs.Syntax.{Term, Spec}
use Rattle.pb_text_meaning.specs.Erase.{of_connective}
use Rattle.pb_protocol_folding.specs.Folding.{folded}
use Rattle.pb_protocol_folding.specs.Kept.{folded_connective, joining, neutral, truth_counts}
use Rattle.pb_protocol_folding.specs.View as tree
use Rattle.pb_base.specs.declared.or_memory.OrMemory.{OrMemory}
use Rattle.pb_base.specs.declared.or_memory.OrMemory.TheVariants.{Refused}
use Rattle.pb_protocol_unfolding.specs.PutIn.{joined}
use Rattle.pb_protocol_unfolder_terms.specs.declared.connectives.Chain.{Chain}
use Rattle.pb_protocol_unfolder_terms.specs.declared.context.Context.{Context}
use Rattle.pb_protocol_unfolder_terms.specs.declared.fault.UnfoldFault.{UnfoldFault}
use Rattle.pb_protocol_unfolder_terms.specs.declared.fault.UnfoldRule.TheVariants as rule
use Rattle.pb_protocol_unfolder_terms.specs.declared.level.Level.{Level}
use Rattle.pb_protocol_unfolder_terms.specs.declared.operands.Operands as declared_operands
use Rattle.pb_protocol_unfolder_terms.specs.declared.scope.TermScope.{TermScope}
use Rattle.pb_protocol_unfolder_terms.specs.declared.unfolded.Unfolded.{Unfolded}
use Rattle.pb_protocol_unfolder_terms.specs.Contexts.{folding_in}
use Rattle.pb_protocol_unfolder_terms.specs.Chains.{chain_term, deciding, operand_of, operands_of, outcome}
use Rattle.pb_protocol_unfolder_terms.specs.Forms.{is_plain}
use Rattle.pb_protocol_unfolder_terms.specs.Operands.{AreOperands, IsLeft, behind}
use Rattle.pb_protocol_unfolder_terms.specs.Puts.{put}
use Rattle.pb_protocol_unfolder_terms.specs.Unfolding.{IsRefusal, IsUnfolded, operator_count}
use Rattle.pb_protocol_unfolder_terms.proofs.ChainLemmas.{err-kept, no-room, refusal-weaker}

-- ---- behind operands

pub counts-true : {A : Type 0} (xs : List A) → truth_counts true xs ≡ true
counts-true [] = refl
counts-true (x ∷ xs) = refl

counts-more : {A : Type 0} (truth : Bool) (xs : List A) (x : A) → truth_counts truth (xs ++ (x ∷ [])) ≡ true
counts-more truth [] x = refl
counts-more truth (y ∷ xs) x = refl

behind-last : (c : Connective) (truth : Bool) (xs : List Term) (x t : Term) → behind c truth (xs ++ (x ∷ [])) t ≡ behind c truth xs (folded_connective c (truth_counts truth xs) x t)
behind-last c truth [] x t = refl
behind-last c truth (y ∷ xs) x t =
    ap (folded_connective c truth y) (behind-last c true xs x t ∙ ap (λ b. behind c true xs (folded_connective c b x t)) (counts-true xs))

pub operands-more : (xs : List TermLink) (x : TermLink) → operands_of (xs ++ (x ∷ [])) ≡ operands_of xs ++ (operand_of x ∷ [])
operands-more [] x = refl
operands-more (y ∷ xs) x = ap (λ ys. operand_of y ∷ ys) (operands-more xs x)

-- one operand less, from the last on
pub operand-joined : (c : Connective) (truth counts : Bool) (xs ys : List TermLink) (x : TermLink)
    (t u : declared_term.Term) (whole : Term) → xs ≡ ys ++ (x ∷ []) → counts ≡ truth_counts truth (operands_of ys)
    → tree.term_of u ≡ folded_connective c counts (operand_of x) (tree.term_of t) → behind c truth (operands_of xs) (tree.term_of t) ≡ whole
    → behind c truth (operands_of ys) (tree.term_of u) ≡ whole
operand-joined c truth counts xs ys x t u whole split counted said before =
    ap (behind c truth (operands_of ys)) (said ∙ ap (λ b. folded_connective c b (operand_of x) (tree.term_of t)) counted)
    ∙ sym (behind-last c truth (operands_of ys) (operand_of x) (tree.term_of t))
    ∙ ap (λ zs. behind c truth zs (tree.term_of t)) (sym (ap operands_of split ∙ operands-more ys x)) ∙ before

-- ---- a connective that is folded

folded-binary : (S : Spec) (c : Connective) (b : Bool) (x y : Term) → folded S b (Term.Binary (of_connective c) x y) ≡ folded_connective c b (folded S true x) (folded S true y)
folded-binary S connective.And b x y = refl
folded-binary S connective.Or b x y = refl
folded-binary S connective.Implies b x y = refl

decided-binary : (c : Connective) (b : Bool) (y : Term) → folded_connective c b (Term.Truth (deciding c)) y ≡ Term.Truth (outcome c)
decided-binary connective.And true y = refl
decided-binary connective.And false y = refl
decided-binary connective.Or true y = refl
decided-binary connective.Or false y = refl
decided-binary connective.Implies true y = refl
decided-binary connective.Implies false y = refl

-- ---- what is left

-- nothing is unfolded yet
pub all-left : (S : Spec) (c : Connective) (truth : Bool) (n : ℕ) (whole rest : Term) → rest ≡ whole → IsLeft S c truth n whole rest [] n
all-left S c truth n whole rest e = record {
  term = ap (folded S truth) e;
  room = subst (λ (t : Term). n + operator_count t ≤ n + operator_count whole) (sym e) (omega arith);
}

module _ {S : Spec} {c : Connective} {truth : Bool} {n : ℕ} {whole x rest : Term} {before : List Term} {room : ℕ}
    (l : IsLeft S c truth n whole (Term.Binary (of_connective c) x rest) before room) where
  -- with the operand that comes next unfolded
  behind-next : folded_connective c (truth_counts truth before) (folded S true x) (folded S true rest) ≡ folded S (truth_counts truth before) (Term.Binary (of_connective c) x rest)
  behind-next = sym (folded-binary S c (truth_counts truth before) x rest)

  -- one more operand
  pub left-further : {inner : ℕ} {u : Unfolded} {after : List Term} → room ≡ suc inner → IsUnfolded S true inner x u → after ≡ before ++ (tree.term_of u.term ∷ [])
      → IsLeft S c truth n whole rest after u.room
  left-further {u = u} one h more = record {
    term =
        ap (λ xs. behind c truth xs (folded S (truth_counts truth xs) rest)) more
        ∙ ap (λ b. behind c truth (before ++ (tree.term_of u.term ∷ [])) (folded S b rest)) (counts-more truth before (tree.term_of u.term))
        ∙ behind-last c truth before (tree.term_of u.term) (folded S true rest)
        ∙ ap (λ y. behind c truth before (folded_connective c (truth_counts truth before) y (folded S true rest))) h.term
        ∙ ap (behind c truth before) behind-next ∙ l.term;
    room = omega (arith, one, h.room, l.room);
  }

  -- no room for one more connective
  pub left-without-room : {place : Place} (r : Result declared_operands.Operands (OrMemory UnfoldFault)) (e : OrMemory UnfoldFault) → IsErrAnd r (λ d. d ≡ e)
      → e ≡ Refused (record { rule = rule.Operators; place = place }) → room ≡ 0 → MatchResult r (AreOperands S c truth n whole) (IsRefusal n whole)
  left-without-room {place = place} r e same refused none =
      err-kept r e (AreOperands S c truth n whole) (IsRefusal n whole) same (no-room n whole e place refused (omega (arith, none, l.room)))

  -- or for its operand
  pub left-refused : {inner : ℕ} (r : Result declared_operands.Operands (OrMemory UnfoldFault)) (e : OrMemory UnfoldFault) → IsErrAnd r (λ d. d ≡ e)
      → room ≡ suc inner → IsRefusal inner x e → MatchResult r (AreOperands S c truth n whole) (IsRefusal n whole)
  left-refused {inner = inner} r e same one h =
      err-kept r e (AreOperands S c truth n whole) (IsRefusal n whole) same (refusal-weaker n inner x whole e (λ g. omega (arith, one, l.room, g)) h)

-- an operand that decides
pub left-decided : {S : Spec} {c : Connective} {truth : Bool} {n : ℕ} {whole x rest : Term} {room inner : ℕ} {u : Unfolded} (os : declared_operands.Operands)
    → IsLeft S c truth n whole (Term.Binary (of_connective c) x rest) (operands_of os.before.items) room → room ≡ suc inner → IsUnfolded S true inner x u
    → tree.term_of u.term ≡ Term.Truth (deciding c) → tree.term_of os.last ≡ Term.Truth (outcome c) → os.room ≡ u.room → is_plain whole ≡ false → AreOperands S c truth n whole os
left-decided {S = S} {c = c} {truth = truth} {x = x} {rest = rest} os l one h decides last left form =
    let before = operands_of os.before.items in
    record {
      term =
          ap (behind c truth before) (last ∙ sym (decided-binary c (truth_counts truth before) (folded S true rest)))
          ∙ ap (λ y. behind c truth before (folded_connective c (truth_counts truth before) y (folded S true rest))) (sym decides ∙ h.term)
          ∙ ap (behind c truth before) (behind-next l) ∙ l.term;
      form = form;
      room = omega (arith, one, h.room, left, l.room);
    }

-- the last operand
pub left-last : {S : Spec} {c : Connective} {truth counts : Bool} {n : ℕ} {whole rest : Term} {room : ℕ} (os : declared_operands.Operands)
    → IsLeft S c truth n whole rest (operands_of os.before.items) room → counts ≡ truth_counts truth (operands_of os.before.items)
    → tree.term_of os.last ≡ folded S counts rest → room ≤ os.room + operator_count rest → is_plain whole ≡ false → AreOperands S c truth n whole os
left-last {S = S} {c = c} {truth = truth} {rest = rest} os l counted last within form = record {
  term = ap (behind c truth (operands_of os.before.items)) (last ∙ ap (λ b. folded S b rest) counted) ∙ l.term;
  form = form;
  room = omega (arith, within, l.room);
}

-- or there is no room for the last one
pub last-refused : {S : Spec} {c : Connective} {truth : Bool} {n : ℕ} {whole rest : Term} {before : List Term} {room : ℕ} → IsLeft S c truth n whole rest before room
    → (r : Result declared_operands.Operands (OrMemory UnfoldFault)) (e : OrMemory UnfoldFault) → IsErrAnd r (λ d. d ≡ e) → IsRefusal room rest e
    → MatchResult r (AreOperands S c truth n whole) (IsRefusal n whole)
last-refused {S = S} {c = c} {truth = truth} {n = n} {whole = whole} {rest = rest} {room = room} l r e same h =
    err-kept r e (AreOperands S c truth n whole) (IsRefusal n whole) same (refusal-weaker n room rest whole e (λ g. omega (arith, l.room, g)) h)

-- ---- the next one

dropped : {A : Type 0} (xs : List A) (k : ℕ) (x : A) → k < length xs → x ≡ get_or xs k x → drop k xs ≡ x ∷ drop (suc k) xs
dropped [] k x within is = absurd (omega (arith, within))
dropped (y ∷ xs) zero x within is = ap (λ z. z ∷ xs) (sym is)
dropped (y ∷ xs) (suc k) x within is = dropped xs k x (omega (arith, within)) is

past : {A : Type 0} (xs : List A) (k : ℕ) → (k < length xs → ⊥) → drop k xs ≡ []
past [] zero end = refl
past [] (suc k) end = refl
past (x ∷ xs) zero end = absurd (end (omega arith))
past (x ∷ xs) (suc k) end = past xs k (λ h. end (omega (arith, h)))

chain-next : (c : Connective) (x : Term) (ls : List TermLink) (k : ℕ) (l : TermLink) → k < length ls → l ≡ get_or ls k l
    → chain_term c x (operands_of (drop k ls)) ≡ Term.Binary (of_connective c) x (chain_term c (operand_of l) (operands_of (drop (k + 1) ls)))
chain-next c x ls k l within is =
    ap (λ ms. chain_term c x (operands_of ms)) (dropped ls k l within is)
    ∙ ap (λ (q : ℕ). Term.Binary (of_connective c) x (chain_term c (operand_of l) (operands_of (drop q ls)))) (sym (add-one k))

chain-end : (c : Connective) (x : Term) (ls : List TermLink) (k : ℕ) → (k < length ls → ⊥) → chain_term c x (operands_of (drop k ls)) ≡ x
chain-end c x ls k end = ap (λ ms. chain_term c x (operands_of ms)) (past ls k end)

-- what is left of a chain behind so many operands
abbrev pub IsRestOf : Context → Level → TermScope → Chain → Term → List Term → ℕ → Type 0
IsRestOf k v s chain rest before room =
    IsLeft (folding_in k) chain.connective v.truth v.room (put k v.definitions s (chain_term chain.connective (tree.term_of chain.first.now) (operands_of chain.links.now))) rest before room

-- the operand that comes next, and those behind it
abbrev pub IsChainLeft : Context → Level → TermScope → Chain → declared_term.Term → ℕ → TermLink → List Term → ℕ → Type 0
IsChainLeft k v s chain x i l before room =
    IsRestOf k v s chain (Term.Binary (of_connective chain.connective) (put k v.definitions s (tree.term_of x))
    (put k v.definitions s (chain_term chain.connective (operand_of l) (operands_of (drop (i + 1) chain.links.now))))) before room

module _ (k : Context) (v : Level) (s : TermScope) (chain : Chain) (x : declared_term.Term) (i : ℕ) {before : List Term} {room : ℕ} where
  pub chain-left : (l : TermLink) → i < length chain.links.now → l ≡ get_or chain.links.now i l
      → IsRestOf k v s chain (put k v.definitions s (chain_term chain.connective (tree.term_of x) (operands_of (drop i chain.links.now)))) before room
      → IsChainLeft k v s chain x i l before room
  chain-left l within is =
      subst (λ (z : Term). IsRestOf k v s chain z before room) (ap (put k v.definitions s) (chain-next chain.connective (tree.term_of x) chain.links.now i l within is))

  -- the last operand
  pub chain-over : length chain.links.now ≤ i
      → IsRestOf k v s chain (put k v.definitions s (chain_term chain.connective (tree.term_of x) (operands_of (drop i chain.links.now)))) before room
      → IsRestOf k v s chain (put k v.definitions s (tree.term_of x)) before room
  chain-over end =
      subst (λ (z : Term). IsRestOf k v s chain z before room)
      (ap (put k v.definitions s) (chain-end chain.connective (tree.term_of x) chain.links.now i (λ h. omega (arith, h, end))))

joined-first : (q : Quantifier) (t : Term) (ts : List Term) → joined q (t ∷ ts) ≡ Term.Binary (of_connective (joining q)) t (joined q ts)
joined-first Forall t ts = refl
joined-first Exists t ts = refl

pub joined-none : (q : Quantifier) → joined q [] ≡ Term.Truth (neutral q)
joined-none Forall = refl
joined-none Exists = refl

length-mapped : {A B : Type 0} (f : A → B) (xs : List A) → length (map f xs) ≡ length xs
length-mapped f [] = refl
length-mapped f (x ∷ xs) = ap suc (length-mapped f xs)

map-dropped : {A B : Type 0} (f : A → B) (xs : List A) (k : ℕ) → drop k (map f xs) ≡ map f (drop k xs)
map-dropped f [] zero = refl
map-dropped f [] (suc k) = refl
map-dropped f (x ∷ xs) zero = refl
map-dropped f (x ∷ xs) (suc k) = map-dropped f xs k

-- a copy for each element
joined-next : {A B : Type 0} (q : Quantifier) (g : A → B) (f : B → Term) (xs : List A) (k : ℕ) (x : A) → k < length xs → x ≡ get_or xs k x
    → joined q (drop k (map f (map g xs))) ≡ Term.Binary (of_connective (joining q)) (f (g x)) (joined q (drop (k + 1) (map f (map g xs))))
joined-next q g f xs k x within is =
    ap (joined q) (map-dropped f (map g xs) k ∙ ap (map f) (map-dropped g xs k) ∙ ap (λ ys. map f (map g ys)) (dropped xs k x within is))
    ∙ joined-first q (f (g x)) (map f (map g (drop (suc k) xs)))
    ∙ ap (λ ts. Term.Binary (of_connective (joining q)) (f (g x)) (joined q ts))
    (sym (ap (map f) (map-dropped g xs (suc k))) ∙ sym (map-dropped f (map g xs) (suc k)) ∙ ap (λ (p : ℕ). drop p (map f (map g xs))) (sym (add-one k)))

-- what is left of copies, with the one that comes next
pub copies-left : {S : Spec} {truth : Bool} {n room : ℕ} {whole : Term} {before : List Term} {A B : Type 0} (q : Quantifier) (g : A → B) (f : B → Term) (xs : List A) (k : ℕ) (x : A)
    → k < length xs → x ≡ get_or xs k x → IsLeft S (joining q) truth n whole (joined q (drop k (map f (map g xs)))) before room
    → IsLeft S (joining q) truth n whole (Term.Binary (of_connective (joining q)) (f (g x)) (joined q (drop (k + 1) (map f (map g xs))))) before room
copies-left {S = S} {truth = truth} {n = n} {room = room} {whole = whole} {before = before} q g f xs k x within is =
    subst (λ (z : Term). IsLeft S (joining q) truth n whole z before room) (joined-next q g f xs k x within is)

pub joined-end : {A B : Type 0} (q : Quantifier) (g : A → B) (f : B → Term) (xs : List A) (k : ℕ) → (k < length xs → ⊥) → joined q (drop k (map f (map g xs))) ≡ Term.Truth (neutral q)
joined-end q g f xs k end =
    ap (joined q) (map-dropped f (map g xs) k ∙ ap (map f) (map-dropped g xs k) ∙ ap (λ ys. map f (map g ys)) (past xs k end)) ∙ joined-none q

-- with an operand on the left nothing is plain
pub chain-form : (k : Context) (v : Level) (s : TermScope) (chain : Chain) → 0 < length chain.links.now
    → is_plain (put k v.definitions s (chain_term chain.connective (tree.term_of chain.first.now) (operands_of chain.links.now))) ≡ false
chain-form k v s chain = by chain.links.now
  where
    by : (ls : List TermLink) → 0 < length ls → is_plain (put k v.definitions s (chain_term chain.connective (tree.term_of chain.first.now) (operands_of ls))) ≡ false
    by [] some = absurd (omega (arith, some))
    by (l ∷ ls) some = refl

pub joined-form : {A B : Type 0} (q : Quantifier) (g : A → B) (f : B → Term) (xs : List A) → 0 < length xs → is_plain (joined q (map f (map g xs))) ≡ false
joined-form q g f [] some = absurd (omega (arith, some))
joined-form Forall g f (x ∷ xs) some = refl
joined-form Exists g f (x ∷ xs) some = refl
