-- How a set of names is filled, name by name.
use Rattle.std.proofs.Common.{◌≡◌, ℕ, ◌+◌, ◌<◌, ◌≤◌, Bool, true, false, cond, ◌||◌, List, [], ◌∷◌, length, get_or, drop, refl, sym, ap, ◌∙◌, bytes_eq}
use Rattle.std.proofs.Math.Bool.{or-false}
use Rattle.std.proofs.lemmas.List.{at_drop_all, at_drop_more}
use denote.Ref.{Bor}
use Rattle.std.specs.HashSet.{HashSet, IsEmpty, Updates}
use Rattle.std.specs.declared.hash.FoldHasher.{FoldHasher}
use Rattle.std.specs.declared.hash.BuildHasherDefault.{BuildHasherDefault}
use Rattle.pb_text_tree.specs.declared.name.Name as declared_name
use Rattle.pb_text_meaning.specs.Syntax.{Name}
use Rattle.pb_protocol_packing.specs.Apart.{is_among}
use Rattle.pb_protocol_packer.specs.Initial.{names_by}
use Rattle.pb_protocol_packer.specs.View.{name_bytes}
use Rattle.pb_protocol_groups.specs.NameSets.{is_name_in}

abbrev pub NameSet : Type 0
NameSet = HashSet (Bor (List ℕ)) (BuildHasherDefault FoldHasher)

-- the names in a set with those that are left are all
abbrev pub IsFilled : List Name → NameSet → List Name → Type 0
IsFilled all set left = (x : Name) → (is_name_in set x || is_among left x) ≡ is_among all x

pub filled-none : (all : List Name) (set : NameSet) → IsEmpty set → IsFilled all set all
filled-none all set e x = rw e refl

-- the first that is left goes into the set
shift : (a b d : Bool) → (cond a true b || d) ≡ (b || (a || d))
shift true true d = refl
shift true false d = refl
shift false true d = refl
shift false false d = refl

pub filled-more : (all : List Name) (old new : NameSet) (key : Bor (List ℕ)) (names : List (Bor declared_name.Name)) (k : ℕ) (n : Bor declared_name.Name)
    → Updates (λ x y. bytes_eq x.now y.now) old new key true → key.now ≡ name_bytes n.now → k < length names → n ≡ get_or names k n
    → IsFilled all old (names_by (drop k names)) → IsFilled all new (names_by (drop (k + 1) names))
filled-more all old new key names k n put is below at filled x =
    let rest = is_among (names_by (drop (k + 1) names)) x in
    ap (λ (has : Bool). has || rest) (put.0 (record { ref_ptr = (0, 0); now = x }))
    ∙ (shift (bytes_eq key.now x) (is_name_in old x) rest
    ∙ (ap (λ (y : Name). is_name_in old x || (bytes_eq y x || rest)) is
    ∙ (ap (λ (m : Bor declared_name.Name). is_name_in old x || (bytes_eq (name_bytes m.now) x || rest)) at
    ∙ (sym (at_drop_more (λ (ns : List (Bor declared_name.Name)). is_name_in old x || is_among (names_by ns) x) names k n below) ∙ filled x))))

pub filled-all : (all : List Name) (set : NameSet) (names : List (Bor declared_name.Name)) (k : ℕ) → length names ≤ k → IsFilled all set (names_by (drop k names))
    → (x : Name) → is_name_in set x ≡ is_among all x
filled-all all set names k end filled x =
    sym (or-false (is_name_in set x))
    ∙ (sym (at_drop_all (λ (ns : List (Bor declared_name.Name)). is_name_in set x || is_among (names_by ns) x) names k end) ∙ filled x)
