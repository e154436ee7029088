-- The first slots hold the parameters of an equation.
use Rattle.std.proofs.Common.{◌≡◌, ℕ, suc, ◌+◌, ◌<◌, Bool, true, false, if◌then◌else◌, List, [], ◌∷◌, length, Some, refl, ◌∙◌, ap, subst, arith}
use Rattle.std.specs.List.{slice_get}
use Rattle.std.specs.Option.{option_map}
use Rattle.pb_base_values.specs.Carrier.{Value, Tuple}
use Rattle.pb_text_meaning.specs.Syntax.{Name, same_name, Variable}
use Rattle.pb_text_meaning.specs.Value.{Assignment, looked_up}
use Rattle.pb_text_meaning.specs.Meaning.{assigned}
use Rattle.pb_typing_tree.specs.Meaning.{Slots}
use Rattle.pb_typing_tree.specs.Elaboration.{Slotting, unslotted, with_slot, with_slots}
use Rattle.pb_typing_tree.specs.Plain.{AreFree, Agree}
use Rattle.pb_typing_tree.specs.Equations.{Hold}
use Rattle.pb_typing_tree.proofs.Truth.{free-with}

-- the slots from n on hold these values, in order
abbrev HoldFrom : Slots → ℕ → Tuple → Type 0
HoldFrom slots n vs = (s : ℕ) → s < length vs → slice_get vs s ≡ Some (slots (n + s))

hold-next : (slots : Slots) (n : ℕ) (v : Value) (vs : Tuple) → HoldFrom slots n (v ∷ vs) → HoldFrom slots (suc n) vs
hold-next slots n v vs hold s below =
    let at : n + suc s ≡ suc n + s = omega arith in
    hold (suc s) (omega arith) ∙ ap (λ (k : ℕ). Some (slots k)) at

hold-here : (slots : Slots) (n : ℕ) (v : Value) (vs : Tuple) → HoldFrom slots n (v ∷ vs) → Some v ≡ Some (slots n)
hold-here slots n v vs hold =
    let at : n + 0 ≡ n = omega arith in
    hold 0 (omega arith) ∙ ap (λ (k : ℕ). Some (slots k)) at

-- one more variable, whose slot holds its value already
agree-next : (c : Slotting) (n : ℕ) (slots : Slots) (a : Assignment) (y : Name) (v : Value) → Some v ≡ Some (slots n) → Agree c slots a → Agree (with_slot y n c) slots ((y, v) ∷ a)
agree-next c n slots a y v here agree x = by-name (same_name y x)
  where
    by-name : (same : Bool) → (if same then Some v else looked_up a x) ≡ option_map slots (if same then Some n else c x)
    by-name true = here
    by-name false = agree x

agree-all : (xs : List Variable) (vs : Tuple) (c : Slotting) (n : ℕ) (slots : Slots) (a : Assignment) → length vs ≡ length xs → HoldFrom slots n vs → Agree c slots a
    → Agree (with_slots xs n c) slots (assigned xs vs a)
agree-all [] vs c n slots a count hold agree = agree
agree-all (x ∷ xs) [] c n slots a count hold agree = absurd (omega arith)
agree-all (x ∷ xs) (v ∷ vs) c n slots a count hold agree =
    agree-all xs vs (with_slot x.name n c) (suc n) slots ((x.name, v) ∷ a) (omega arith) (hold-next slots n v vs hold)
    (agree-next c n slots a x.name v (hold-here slots n v vs hold) agree)

-- the slots of parameters agree with the assignment of the values that they hold, also where two parameters share a name
pub agree-parameters : (xs : List Variable) (vs : Tuple) (slots : Slots) → length vs ≡ length xs → Hold slots vs → Agree (with_slots xs 0 unslotted) slots (assigned xs vs [])
agree-parameters xs vs slots count hold =
    agree-all xs vs unslotted 0 slots [] count
    (λ s below. let at : s ≡ 0 + s = omega arith in hold s below ∙ ap (λ (k : ℕ). Some (slots k)) at) (λ x. refl)

free-all : (xs : List Variable) (c : Slotting) (n m : ℕ) → m ≡ n + length xs → AreFree c n → AreFree (with_slots xs n c) m
free-all [] c n m at free = let same : n ≡ m = omega arith in subst (λ (k : ℕ). AreFree c k) same free
free-all (x ∷ xs) c n m at free = free-all xs (with_slot x.name n c) (suc n) m (omega arith) (free-with c n x.name free)

-- no parameter has a slot behind those of the parameters
pub free-parameters : (xs : List Variable) → AreFree (with_slots xs 0 unslotted) (length xs)
free-parameters xs = free-all xs unslotted 0 (length xs) (omega arith) (λ x s none. cc)
