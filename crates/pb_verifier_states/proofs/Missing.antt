-- Instructions that find fewer operands than they take, or operands of another kind, are refused.
use Rattle.std.proofs.Common.{◌≡◌, ◌<◌, Bool, true, false, cond, List, [], ◌∷◌, length, reverse, None, refl, arith}
use Rattle.std.proofs.lemmas.Grind.{common_steps}
use Rattle.std.proofs.lemmas.List.{length-reverse}
use Rattle.pb_bytecode_program.specs.Abstract.{abstraction_of, same_kind}
use Rattle.pb_bytecode_program.specs.Transfer.{Flow, abstract_pop_args, accepts}
use Rattle.pb_bytecode_program.specs.declared.domain.AbstractValue.{AbstractValue}
use Rattle.pb_bytecode_program.specs.declared.domain.AbstractValue.TheVariants as abstract
use Rattle.pb_sorts.specs.declared.carrier.Carrier.{Carrier}
use Rattle.pb_sorts.specs.declared.carrier.Carrier.TheVariants as carrier
use Rattle.pb_verifier_states.specs.Kinds.{are_of_kinds}

none_either : (b : Bool) (flow : Flow) → (b ≡ true → flow ≡ None) → cond b flow None ≡ None
none_either true flow h = h refl
none_either false flow h = refl

too_few : (cs : List Carrier) (ss : List AbstractValue) (go : List AbstractValue → Flow) → length ss < length cs → abstract_pop_args cs ss go ≡ None
too_few [] ss go h = absurd (omega arith)
too_few (c ∷ cs) [] go h = refl
too_few (c ∷ cs) (s ∷ ss) go h = none_either (accepts s c) (abstract_pop_args cs ss go) (λ _. too_few cs ss go (omega arith))

pub are_missing : (cs : List Carrier) (ss : List AbstractValue) (go : List AbstractValue → Flow) → length ss < length cs → abstract_pop_args (reverse cs) ss go ≡ None
are_missing cs ss go h = too_few (reverse cs) ss go (rw length-reverse h)

accepted_kind : (s : AbstractValue) (c : Carrier) → accepts s c ≡ true → same_kind s (abstraction_of c) ≡ true
accepted_kind abstract.Bool carrier.Bool h = refl
accepted_kind (abstract.Int l u) (carrier.Range range) h = refl
accepted_kind (abstract.Enum s n) (carrier.Enum enum) h = grind (arith, common_steps)
accepted_kind abstract.Bool (carrier.Enum enum) h = cc
accepted_kind abstract.Bool (carrier.Range range) h = cc
accepted_kind (abstract.Int l u) carrier.Bool h = cc
accepted_kind (abstract.Int l u) (carrier.Enum enum) h = cc
accepted_kind (abstract.Enum s n) carrier.Bool h = cc
accepted_kind (abstract.Enum s n) (carrier.Range range) h = cc

some_wrong_kind : (cs : List Carrier) (ss : List AbstractValue) (go : List AbstractValue → Flow) → are_of_kinds cs ss ≡ false → abstract_pop_args cs ss go ≡ None
some_wrong_kind [] ss go h = cc
some_wrong_kind (c ∷ cs) [] go h = refl
some_wrong_kind (c ∷ cs) (s ∷ ss) go h =
    none_either (accepts s c) (abstract_pop_args cs ss go) (λ e. let kind = accepted_kind s c e in some_wrong_kind cs ss go (rw kind at h))

pub wrong_kinds : (cs : List Carrier) (ss : List AbstractValue) (go : List AbstractValue → Flow) → are_of_kinds (reverse cs) ss ≡ false → abstract_pop_args (reverse cs) ss go ≡ None
wrong_kinds cs ss go h = some_wrong_kind (reverse cs) ss go h
