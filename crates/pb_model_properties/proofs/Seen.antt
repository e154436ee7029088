-- How a set of names is filled, name by name.
use Rattle.std.proofs.Common.{◌≡◌, ℕ, Bool, true, false, cond, ◌||◌, List, [], refl, ◌∙◌, bytes_eq}
use Rattle.std.proofs.Math.Path.{fun_ext}
use denote.Ref.{Bor}
use Rattle.std.specs.HashSet.{IsEmpty, Updates, contains_by}
use Rattle.pb_typing_declarations.specs.Faults.{is_among}
use Rattle.pb_typing_declarations.proofs.Filling.{Seen, seen_too}
use Rattle.pb_model_properties.specs.NameSets.{NameSet}

abbrev pub in_set : NameSet → Seen
in_set names = λ x. contains_by (λ (k : Bor (List ℕ)). bytes_eq x k.now) names

pub none-in_set : (names : NameSet) → IsEmpty names → in_set names ≡ is_among []
none-in_set names e = fun_ext (λ x. rw e refl)

either : (b c : Bool) → cond b true c ≡ (b || c)
either true c = refl
either false c = refl

pub put-in_set : (old new : NameSet) (key : Bor (List ℕ)) → Updates (λ x y. bytes_eq x.now y.now) old new key true → in_set new ≡ seen_too key.now (in_set old)
put-in_set old new key u = fun_ext (λ x. u.0 (record { ref_ptr = (0, 0); now = x }) ∙ either (bytes_eq key.now x) (in_set old x))
