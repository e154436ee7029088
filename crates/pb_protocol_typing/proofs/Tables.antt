-- What a table of signatures or of steps shows after a name was put in.
use Rattle.std.proofs.Common.{◌≡◌, ℕ, Bool, true, false, cond, List, refl, ◌∙◌, ap, Option, Some, None, bytes_eq}
use Rattle.std.specs.Option.{option_map}
use Rattle.std.proofs.Math.Path.{fun_ext}
use denote.Ref.{Bor}
use Rattle.std.specs.HashMap.{IsEmpty, Updates}
use Rattle.pb_text_meaning.specs.Syntax.{Name}
use Rattle.pb_typing_declarations.specs.Tables.{Table, entry_of}
use Rattle.pb_typing_declarations.proofs.Filling.{none_in, put_in}
use Rattle.pb_protocol_typing.specs.Signatures.{with_entry}

module _ {V W : Type 0} (view : V → W) where
  abbrev seen : Table V → Name → Option W
  seen table = λ x. option_map view (entry_of table x)

  seen-cond : (b : Bool) (v : V) (o : Option V) → option_map view (cond b (Some v) o) ≡ cond b (Some (view v)) (option_map view o)
  seen-cond true v o = refl
  seen-cond false v o = refl

  pub put-seen : (old new : Table V) (key : Bor (List ℕ)) (v : V) → Updates (λ x y. bytes_eq x.now y.now) old new key (Some v) → seen new ≡ with_entry key.now (view v) (seen old)
  put-seen old new key v u =
      ap (λ (look : Name → Option V). λ x. option_map view (look x)) (put_in old new key v u)
      ∙ fun_ext (λ x. seen-cond (bytes_eq key.now x) v (entry_of old x))

  pub none-seen : (table : Table V) → IsEmpty table → seen table ≡ (λ x. None)
  none-seen table e = ap (λ (look : Name → Option V). λ x. option_map view (look x)) (none_in table e)
