-- The bytes behind white space are those that are left where it is dropped.
use Rattle.std.proofs.Common.{◌≡◌, ℕ, suc, ◌+◌, ◌-◌, Bool, true, false, cond, List, [], ◌∷◌, length, take, drop, refl, ap, ◌∙◌, arith, subst}
use Rattle.std.specs.List.{prefix_len}
use Rattle.std.proofs.lemmas.List.{take_rest}
use Rattle.std.proofs.lemmas.List.Folds.{length-prefix_len}
use Rattle.pb_text_lexer.specs.Bytes.{is_blank, blanks}
use Rattle.pb_text_lexer.specs.ModelPieces.{behind_blanks}

drop-more : (b : ℕ) (bs : List ℕ) → drop (prefix_len is_blank bs) bs ≡ behind_blanks bs → (v : Bool)
    → drop (cond v (1 + prefix_len is_blank bs) 0) (b ∷ bs) ≡ cond v (behind_blanks bs) (b ∷ bs)
drop-more b bs rest true =
    let more : suc (prefix_len is_blank bs) ≡ 1 + prefix_len is_blank bs = omega arith in
    subst (λ (n : ℕ). drop n (b ∷ bs) ≡ behind_blanks bs) more rest
drop-more b bs rest false = refl

drop-blanks : (bs : List ℕ) → drop (prefix_len is_blank bs) bs ≡ behind_blanks bs
drop-blanks [] = refl
drop-blanks (b ∷ bs) = drop-more b bs (drop-blanks bs) (is_blank b)

pub rest-is : (bs : List ℕ) (n : ℕ) → n ≡ length (blanks bs) → take (length bs - n) (drop n bs) ≡ behind_blanks bs
rest-is bs n is = take_rest bs n ∙ ap (λ m. drop m bs) (is ∙ length-prefix_len is_blank bs) ∙ drop-blanks bs
