-- Chains of aliases, followed step by step.
use Rattle.std.proofs.Common.{◌≡◌, ◌≤◌, ◌<◌, ◌+◌, ◌-◌, ℕ, zero, suc, Bool, true, false, cond, refl, sym, ◌∙◌, ap, subst, arith, bytes_eq, List}
use Rattle.std.specs.Prelude.{Option, Some, None, MatchOption, Result, Ok, Err, IfOk, codes}
use Rattle.std.specs.Option.{option_map}
use Rattle.std.specs.Cmp.Lexicographic.{same_text}
use denote.Ref.{Bor}
use Rattle.std.specs.HashMap.{IsEmpty, Updates}
use Rattle.std.proofs.lemmas.Option.{none-some}
use Rattle.pb_sorts.specs.declared.carrier.Range.{Range}
use Rattle.pb_text_meaning.specs.Syntax.{Name, same_name}
use Rattle.pb_typing_declarations.specs.declared.chain.End as chains
use Rattle.pb_typing_declarations.specs.declared.ends.Chain.{Chain}
use Rattle.pb_typing_declarations.specs.Shapes.{Definition, Structure, Renaming, Bounds, End, Endless, built_in_integers, end_by, end_within}
use Rattle.pb_typing_declarations.specs.Entries.{end_shown, range_in, range_shown}
use Rattle.pb_typing_declarations.specs.Tables.{Table, entry_of}
use Rattle.pb_typing_declarations.specs.Chains.{IsChain, AreChains}
use Rattle.pb_typing_declarations.proofs.Filling.{none_in, put_in}

-- where a chain has no end through some sorts, it has none through fewer
shorter_by : (range : Option Bounds) (is_bool : Bool) (d : Option Definition) (other : End) (f g : Name → End) → ((t : Name) → f t ≡ Endless → g t ≡ Endless)
    → end_by range is_bool d other f ≡ Endless → end_by range is_bool d other g ≡ Endless
shorter_by (Some (low, high)) b d other f g fewer h = cc
shorter_by None true d other f g fewer h = cc
shorter_by None false (Some (Structure n c)) other f g fewer h = cc
shorter_by None false (Some (Renaming t)) other f g fewer h = fewer t h
shorter_by None false None other f g fewer h = h

-- the program's chain
abbrev pub chain_of : chains.End → ℕ → Chain
chain_of end aliases = record { end = end; aliases = aliases }

module _ (B : Name → Option Bounds) (D : Name → Option Definition) where
  pub shorter : (n m : ℕ) (s : Name) → n ≤ m → end_within m B D s ≡ Endless → end_within n B D s ≡ Endless
  shorter zero m s h none = refl
  shorter (suc n) zero s h none = absurd (omega arith)
  shorter (suc n) (suc m) s h none =
      shorter_by (B s) _ (D s) _ (end_within m B D) (end_within n B D) (λ t. shorter n m t (omega arith)) none

  -- from s, so many aliases lead to t
  abbrev pub Leads : ℕ → Name → Name → Type 0
  Leads w s t = (n : ℕ) → end_within (w + n) B D s ≡ end_within n B D t

  -- what a sort comes to, where `next` says what other sorts come to
  abbrev pub step : Name → (Name → End) → End
  step s next = end_by (B s) (same_name s (codes "Bool")) (D s) (built_in_integers s) next

  -- t is the target of s
  abbrev pub Steps : Name → Name → Type 0
  Steps s t = (next : Name → End) → next t ≡ step s next

  -- this end stands at s itself
  abbrev pub Stops : Name → chains.End → Type 0
  Stops s e = (next : Name → End) → end_shown e ≡ step s next

  pub no_step : (limit : ℕ) (s : Name) → Leads (limit - limit) s s
  no_step limit s n = let e : (limit - limit) + n ≡ n = omega arith in ap (λ m. end_within m B D s) e

  pub one_more : (limit left : ℕ) (s t u : Name) → left ≤ limit → 0 < left → Leads (limit - left) s t → Steps t u → Leads (limit - (left - 1)) s u
  one_more limit left s t u below some leads steps n =
      let e : (limit - (left - 1)) + n ≡ (limit - left) + suc n = omega arith in
      ap (λ m. end_within m B D s) e ∙ (leads (suc n) ∙ sym (steps (end_within n B D)))

  -- a chain behind some aliases
  pub longer : (w : ℕ) (s t : Name) (e : chains.End) (k : ℕ) → Leads w s t → IsChain B D t (chain_of e k) → IsChain B D s (chain_of e (w + k))
  longer w s t e k leads chain = record {
    ends = λ n.
        let same : suc ((w + k) + n) ≡ w + suc (k + n) = omega arith in
        ap (λ m. end_within m B D s) same ∙ (leads (suc (k + n)) ∙ chain.ends n);
    goes_on = leads k ∙ chain.goes_on;
  }

  pub at_once : (t : Name) (e : chains.End) → Stops t e → IsChain B D t (chain_of e 0)
  at_once t e is = record {
    ends = λ n.
        let same : suc (0 + n) ≡ suc n = omega arith in
        ap (λ m. end_within m B D t) same ∙ sym (is (end_within n B D));
    goes_on = refl;
  }

  pub ended : (w : ℕ) (s t : Name) (e : chains.End) → Leads w s t → Stops t e → IsChain B D s (chain_of e w)
  ended w s t e leads is =
      let same : w + 0 ≡ w = omega arith in
      subst (λ k. IsChain B D s (chain_of e k)) same (longer w s t e 0 leads (at_once t e is))

  -- a chain that is too long
  pub too_long : (limit left : ℕ) (s t : Name) (e : chains.End) (k : ℕ) → left ≤ limit → left < k → Leads (limit - left) s t → IsChain B D t (chain_of e k) → end_within (suc limit) B D s ≡ Endless
  too_long limit left s t e k below long leads chain =
      let same : suc limit ≡ (limit - left) + suc left = omega arith in
      ap (λ m. end_within m B D s) same ∙ (leads (suc left) ∙ shorter (suc left) k t (omega arith) chain.goes_on)

  pub all_used : (limit left : ℕ) (s t u : Name) → left ≡ 0 → Leads (limit - left) s t → Steps t u → end_within (suc limit) B D s ≡ Endless
  all_used limit left s t u none leads steps =
      let same : suc limit ≡ (limit - left) + 1 = omega arith in
      ap (λ m. end_within m B D s) same ∙ (leads 1 ∙ sym (steps (end_within 0 B D)))

  abbrev pub IsLonger : ℕ → ℕ → Chain → Chain → Type 0
  IsLonger limit left kept longer = (longer.end ≡ kept.end) × (longer.aliases ≡ (limit - left) + kept.aliases) × (longer.aliases ≤ limit)

  -- a chain that is kept, and the aliases before it
  pub lengthened : (limit left : ℕ) (s t : Name) (kept : Chain) → left ≤ limit → Leads (limit - left) s t → IsChain B D t kept
      → (o : Option Chain) → MatchOption o (left < kept.aliases) (IsLonger limit left kept)
      → MatchOption o (end_within (suc limit) B D s ≡ Endless) (λ chain. IsChain B D s chain × (chain.aliases ≤ limit))
  lengthened limit left s t kept below leads chain None long = too_long limit left s t kept.end kept.aliases below long leads chain
  lengthened limit left s t kept below leads chain (Some more) (end, aliases, few) =
      let same : chain_of kept.end ((limit - left) + kept.aliases) ≡ more = ap (λ e. chain_of e ((limit - left) + kept.aliases)) (sym end) ∙ ap (chain_of more.end) (sym aliases) in
      (subst (λ (c : Chain). IsChain B D s c) same (longer (limit - left) s t kept.end kept.aliases leads chain), few)

  -- the end through one sort more than the limit
  pub end_is : (limit : ℕ) (s : Name) (chain : Chain) → chain.aliases ≤ limit → IsChain B D s chain → end_shown chain.end ≡ end_within (suc limit) B D s
  end_is limit s chain below is =
      let same : suc (chain.aliases + (limit - chain.aliases)) ≡ suc limit = omega arith in
      sym (is.ends (limit - chain.aliases)) ∙ ap (λ m. end_within m B D s) same

  -- the chain behind the first alias
  pub behind : (s t : Name) (e : chains.End) (k : ℕ) → 0 < k → Steps s t → IsChain B D s (chain_of e k) → IsChain B D t (chain_of e (k - 1))
  behind s t e k some steps chain = record {
    ends = λ n.
        let same : suc (suc ((k - 1) + n)) ≡ suc (k + n) = omega arith in
        steps (end_within (suc ((k - 1) + n)) B D) ∙ (ap (λ m. end_within m B D s) same ∙ chain.ends n);
    goes_on =
        let same : suc (k - 1) ≡ k = omega arith in
        steps (end_within (k - 1) B D) ∙ (ap (λ m. end_within m B D s) same ∙ chain.goes_on);
  }

  -- ---- tables of chains

  pub none_kept : (table : Table Chain) → IsEmpty table → AreChains B D table
  none_kept table empty = λ s chain found. absurd (none-some chain (sym (ap (λ (look : Name → Option Chain). look s) (none_in table empty)) ∙ found))

  pub one_kept : (old new : Table Chain) (key : Bor (List ℕ)) (chain : Chain) → AreChains B D old → IsChain B D key.now chain
      → Updates (λ x y. bytes_eq x.now y.now) old new key (Some chain) → AreChains B D new
  one_kept old new key chain kept is updates = λ s other found.
      by_case s other (bytes_eq key.now s) refl (sym (ap (λ (look : Name → Option Chain). look s) (put_in old new key chain updates)) ∙ found)
    where
      by_case : (s : Name) (other : Chain) (b : Bool) → bytes_eq key.now s ≡ b → cond b (Some chain) (entry_of old s) ≡ Some other → IsChain B D s other
      by_case s other true same found =
          let here : chain ≡ other = cc in
          subst (λ (c : Chain). IsChain B D s c) here (subst (λ (x : Name). IsChain B D x chain) (same_text key.now s (sym same)) is)
      by_case s other false differs found = kept s other found

-- ---- without ranges

module _ (D : Name → Option Definition) (none : Table Range) (empty : IsEmpty none) where
  has_no_ranges : range_in none ≡ (λ s. None)
  has_no_ranges = ap (λ (look : Name → Option Range). λ s. option_map range_shown (look s)) (none_in none empty)

  pub bases_are : {E : Type 0} (r : Result (Table Chain) E) → IfOk r (λ table. AreChains (range_in none) D table) → IfOk r (λ table. AreChains (λ s. None) D table)
  bases_are (Ok table) kept = subst (λ (B : Name → Option Bounds). AreChains B D table) has_no_ranges kept
  bases_are (Err e) kept = kept

  pub bases_kept : (table : Table Chain) → AreChains (λ s. None) D table → AreChains (range_in none) D table
  bases_kept table kept = subst (λ (B : Name → Option Bounds). AreChains B D table) (sym has_no_ranges) kept
