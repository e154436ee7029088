-- Names that were met, as a set of them.
use Rattle.std.proofs.Common.{◌≡◌, ◌∙◌, ◌+◌, ◌<◌, ℕ, Bool, true, false, true≢false, cond, not, ◌||◌, List, [], ◌∷◌, ◌++◌, map, length, take, slice_index_or, refl, sym, ap, subst, bytes_eq}
use Rattle.std.specs.Prelude.{Option, Some, None, MatchOption}
use Rattle.std.specs.List.{list_any}
use Rattle.std.specs.Cmp.Lexicographic.{same_text}
use Rattle.std.proofs.lemmas.List.{map_more}
use Rattle.std.proofs.lemmas.Slice.Eq.{bytes_eq-Decides}
use denote.Ref.{Bor}
use Rattle.std.specs.HashSet.{HashSet, IsEmpty, Updates, contains_by}
use Rattle.std.specs.declared.hash.FoldHasher.{FoldHasher}
use Rattle.std.specs.declared.hash.BuildHasherDefault.{BuildHasherDefault}
use Rattle.pb_text_tree.specs.declared.name.Name as declared_name
use Rattle.pb_text_meaning.specs.Syntax.{Name, same_name}
use Rattle.pb_protocol_folding.specs.Names.{AreDistinct}
use Rattle.pb_protocol_unfolder.specs.Apart.{name_bytes, RepeatsAt}
use Rattle.pb_protocol_unfolder.proofs.ApartLemmas.{any-appended, distinct-more}

abbrev pub NameSet : Type 0
NameSet = HashSet (Bor (List ℕ)) (BuildHasherDefault FoldHasher)

abbrev pub in_set : NameSet → Name → Bool
in_set names = λ x. contains_by (λ (k : Bor (List ℕ)). bytes_eq x k.now) names

-- the set has these names, which are apart
pub record AreMet (set : NameSet) (names : List Name) : Type 0 where
  pub distinct : AreDistinct names
  pub has : (x : Name) → in_set set x ≡ list_any (same_name x) names

pub met-none : (set : NameSet) → IsEmpty set → AreMet set []
met-none set e = record { distinct = tt; has = λ x. rw e refl }

either : (b c : Bool) → cond b true c ≡ (b || c)
either true c = refl
either false c = refl

turned : (b c : Bool) → (b || c) ≡ (c || (b || false))
turned true true = refl
turned true false = refl
turned false true = refl
turned false false = refl

same-turned : (x y : Name) → same_name x y ≡ same_name y x
same-turned x y = by (same_name x y) (same_name y x) refl refl
  where
    by : (b c : Bool) → same_name x y ≡ b → same_name y x ≡ c → b ≡ c
    by true true e h = refl
    by false false e h = refl
    by true false e h = absurd (true≢false (sym ((bytes_eq-Decides y x).1 (sym (same_text x y (sym e)))) ∙ h))
    by false true e h = absurd (true≢false (sym ((bytes_eq-Decides x y).1 (sym (same_text y x (sym h)))) ∙ e))

-- the name at i goes into the set
pub met-more : (old new : NameSet) (key : Bor (List ℕ)) (ns : List declared_name.Name) (i : ℕ) (n : declared_name.Name) → i < length ns → n ≡ slice_index_or ns i n
    → Updates (λ x y. bytes_eq x.now y.now) old new key true → key.now ≡ name_bytes n → AreMet old (map name_bytes (take i ns)) → in_set old key.now ≡ false
    → AreMet new (map name_bytes (take (i + 1) ns))
met-more old new key ns i n low is put same h fresh =
    let xs = map name_bytes (take i ns) in
    let more : xs ++ name_bytes n ∷ [] ≡ map name_bytes (take (i + 1) ns) =
    ap (λ (m : declared_name.Name). xs ++ name_bytes m ∷ []) is ∙ sym (map_more name_bytes ns i n low) in
    record {
      distinct = distinct-more ns i n low is h.distinct (sym (h.has (name_bytes n)) ∙ ap (in_set old) (sym same) ∙ fresh);
      has = λ x.
          put.0 (record { ref_ptr = (0, 0); now = x })
          ∙ either (bytes_eq key.now x) (in_set old x)
          ∙ ap (λ (y : Name). bytes_eq y x || in_set old x) same
          ∙ ap (λ (b : Bool). b || in_set old x) (same-turned (name_bytes n) x)
          ∙ ap (λ (b : Bool). same_name x (name_bytes n) || b) (h.has x)
          ∙ turned (same_name x (name_bytes n)) (list_any (same_name x) xs)
          ∙ sym (any-appended (same_name x) xs (name_bytes n ∷ []))
          ∙ ap (λ (ys : List Name). list_any (same_name x) ys) more;
    }

pub met-again : (set : NameSet) (key : Bor (List ℕ)) (ns : List declared_name.Name) (i : ℕ) (n : declared_name.Name) → key.now ≡ name_bytes n
    → AreMet set (map name_bytes (take i ns)) → in_set set key.now ≡ true → list_any (same_name (name_bytes n)) (map name_bytes (take i ns)) ≡ true
met-again set key ns i n same h again = sym (h.has (name_bytes n)) ∙ ap (in_set set) (sym same) ∙ again

-- ---- what is found is said of the names

pub repeats-where : (shown names : List declared_name.Name) (found : Option ℕ) (i : ℕ) → shown ≡ names → found ≡ Some i
    → MatchOption found (AreDistinct (map name_bytes shown)) (RepeatsAt (map name_bytes shown)) → RepeatsAt (map name_bytes names) i
repeats-where shown names found i same is h =
    subst (λ (v : List declared_name.Name). RepeatsAt (map name_bytes v) i) same
    (subst (λ (f : Option ℕ). MatchOption f (AreDistinct (map name_bytes shown)) (RepeatsAt (map name_bytes shown))) is h)

pub distinct-where : (shown names : List declared_name.Name) (found : Option ℕ) → shown ≡ names → found ≡ None
    → MatchOption found (AreDistinct (map name_bytes shown)) (RepeatsAt (map name_bytes shown)) → AreDistinct (map name_bytes names)
distinct-where shown names found same is h =
    subst (λ (v : List declared_name.Name). AreDistinct (map name_bytes v)) same
    (subst (λ (f : Option ℕ). MatchOption f (AreDistinct (map name_bytes shown)) (RepeatsAt (map name_bytes shown))) is h)

-- ---- whether a name is new

pub was-met : (is_new has : Bool) → is_new ≡ not has → is_new ≡ false → has ≡ true
was-met is_new true e h = refl
was-met is_new false e h = absurd (true≢false (sym e ∙ h))

pub not-met : (is_new has : Bool) → is_new ≡ not has → is_new ≡ true → has ≡ false
not-met is_new true e h = absurd (true≢false (sym h ∙ e))
not-met is_new false e h = refl
