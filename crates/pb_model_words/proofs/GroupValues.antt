-- Of the values of groups' variables, those of the groups from k on: the first one's and the others', and that none are left where there are no more groups or values.
use Rattle.std.proofs.Common.{◌≡◌, ℕ, zero, suc, ◌<◌, ◌≤◌, min, pos, List, [], ◌∷◌, ◌++◌, length, get_or, drop, refl, sym, ap, ◌∙◌, arith}
use Rattle.std.proofs.Math.Seq.{drop-nil}
use Rattle.std.proofs.lemmas.List.{append-nil}
use Rattle.pb_base_values.specs.Carrier.{Value, Tuple}
use Rattle.pb_protocol_packing.specs.Packing as packing
use Rattle.pb_protocol_packing.specs.Packing.{capacity}
use Rattle.pb_protocol_packing.specs.Unpacked.{unpacked}
use Rattle.pb_protocol_packer.specs.declared.group.Group.{Group}
use Rattle.pb_protocol_packer.specs.Groups.{group_of, groups_in}
use Rattle.pb_model_words.specs.States.{group_number_after, numbers_after}

unpacked-more : (g : packing.Group) (gs : List packing.Group) (v : Value) (t : Tuple) → unpacked (g ∷ gs) (v ∷ t) ≡ unpacked (g ∷ []) (v ∷ []) ++ unpacked gs t
unpacked-more (packing.Group.Alone x) gs v t = refl
unpacked-more (packing.Group.Joined x ps) gs v t = ap (λ (us : Tuple). us ++ unpacked gs t) (sym (append-nil _))

-- the values of groups by their values before and after
abbrev pub values_after : List Group → Tuple → Tuple → Tuple
values_after gs us vs = unpacked (groups_in gs) (numbers_after (groups_in gs) us vs)

-- those of one group
abbrev pub group_after : Group → Value → Value → Tuple
group_after g u v = unpacked (group_of g ∷ []) (group_number_after (group_of g) u v ∷ [])

pub values-at : (gs : List Group) (us vs : Tuple) (k : ℕ) (d : Group) → k < length gs → k < length vs →
    values_after (drop k gs) (drop k us) (drop k vs) ≡ group_after (get_or gs k d) (get_or us k (pos 0)) (get_or vs k (pos 0)) ++ values_after (drop (suc k) gs) (drop (suc k) us) (drop (suc k) vs)
values-at [] us vs k d h h' = absurd (omega arith)
values-at (g ∷ gs) us [] k d h h' = absurd (omega arith)
values-at (g ∷ gs) [] (v ∷ vs) zero d h h' = unpacked-more (group_of g) (groups_in gs) _ _
values-at (g ∷ gs) (u ∷ us) (v ∷ vs) zero d h h' = unpacked-more (group_of g) (groups_in gs) _ _
values-at (g ∷ gs) [] (v ∷ vs) (suc k) d h h' =
    ap (λ (us : Tuple). values_after (drop k gs) us (drop k vs)) (sym (drop-nil k))
    ∙ values-at gs [] vs k d (omega arith) (omega arith)
    ∙ ap (λ (us : Tuple). group_after (get_or gs k d) (pos 0) (get_or vs k (pos 0)) ++ values_after (drop (suc k) gs) us (drop (suc k) vs)) (drop-nil (suc k))
values-at (g ∷ gs) (u ∷ us) (v ∷ vs) (suc k) d h h' = values-at gs us vs k d (omega arith) (omega arith)

pub values-end : (gs : List Group) (us vs : Tuple) (k : ℕ) → min (length gs) (length vs) ≤ k → values_after (drop k gs) (drop k us) (drop k vs) ≡ []
values-end [] us vs zero h = refl
values-end [] us vs (suc k) h = refl
values-end (g ∷ gs) us [] k h = ap (λ (vs : Tuple). values_after (drop k (g ∷ gs)) (drop k us) vs) (drop-nil k) ∙ none (drop k (g ∷ gs)) (drop k us)
  where
    none : (hs : List Group) (ws : Tuple) → values_after hs ws [] ≡ []
    none [] ws = refl
    none (h ∷ hs) [] = refl
    none (h ∷ hs) (w ∷ ws) = refl
values-end (g ∷ gs) us (v ∷ vs) zero h = absurd (omega arith)
values-end (g ∷ gs) [] (v ∷ vs) (suc k) h = ap (λ (us : Tuple). values_after (drop k gs) us (drop k vs)) (sym (drop-nil k)) ∙ values-end gs [] vs k (omega arith)
values-end (g ∷ gs) (u ∷ us) (v ∷ vs) (suc k) h = values-end gs us vs k (omega arith)
