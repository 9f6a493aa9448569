-- Erasing undoes typing.
use Rattle.std.proofs.Common.{◌≡◌, ℕ, suc, ◌<◌, ◌≤◌, ◌==◌, ◌&&◌, false, List, [], ◌∷◌, ◌++◌, length, take, refl, sym, ap, subst, ◌∙◌, arith}
use Rattle.std.proofs.Math.Seq.{take-append_seam}
use Rattle.std.proofs.lemmas.Bool.{cond-false, lt-leb, ne_eqb, and_left}
use Rattle.std.proofs.lemmas.List.{length-append}
use Rattle.xinu_base.specs.declared.console.TtyMode.TheVariants.{Cooked}
use Rattle.xinu_model.specs.Console.Constants.{TY_IBUFLEN, TY_BACKSP, TY_BLANK, TY_RETURN}
use Rattle.xinu_model.specs.Console.Echo.{echo_of, erasing}
use Rattle.xinu_model.specs.Console.Receiving.{going_on, received_in, received, flowing}
use Rattle.xinu_model.specs.Console.Rows.{Committed, commits_none, typed, joined, last_or, without_last, erased, is_empty, is_full, is_line_full, cooked_rows}
use Rattle.xinu_model.specs.Console.State.{Console, input_size}
use Rattle.part_laws.specs.Consoles.{SameInput}
use Rattle.part_laws.proofs.Consoles.Steps.{echoed_only}

-- the line before its last byte
without_last_byte : (l : List ℕ) (b : ℕ) → without_last (l ++ b ∷ []) ≡ l
without_last_byte [] b = refl
without_last_byte (x ∷ l) b =
    let n : length (l ++ b ∷ []) ≡ suc (length l) = (let e = length-append l (b ∷ []) in omega arith) in
    ap (λ k. take k (x ∷ (l ++ b ∷ []))) n ∙ ap (λ k. x ∷ k) (take-append_seam l (b ∷ []))

-- a printing character has no meaning of its own
other : (b n : ℕ) → TY_BLANK ≤ b → n < TY_BLANK → (b == n) ≡ false
other b n h k = ne_eqb b n (λ (e : b ≡ n). absurd (omega arith))

-- A printing character is typed, if there is room for it and a newline.
printing_is_typed : (b : ℕ) (c : Console) → c.mode ≡ Cooked → TY_BLANK ≤ b → suc (input_size c) < TY_IBUFLEN
    → received b c ≡ commits_none (joined b (going_on c))
printing_is_typed b c cooked h room =
    let d = going_on c in
    let not_8 = other b 8 h (omega arith) in
    let not_10 = other b 10 h (omega arith) in
    let not_4 = other b 4 h (omega arith) in
    ap (λ mode. received_in mode b c) cooked
    ∙ ap (λ n. flowing cooked_rows n c) (cond-false (b == TY_RETURN) 10 b (other b 13 h (omega arith)))
    ∙ cond-false (b == 19) _ _ (other b 19 h (omega arith))
    ∙ cond-false (b == 17) _ _ (other b 17 h (omega arith))
    ∙ cond-false ((b == 8) && (length d.line == 0)) _ _ (and_left (b == 8) (length d.line == 0) not_8)
    ∙ cond-false (b == 8) _ _ not_8
    ∙ cond-false (b == 21) _ _ (other b 21 h (omega arith))
    ∙ cond-false ((b == 10) && is_full d) _ _ (and_left (b == 10) (is_full d) not_10)
    ∙ cond-false (b == 10) _ _ not_10
    ∙ cond-false ((b == 4) && (is_empty d && is_full d)) _ _ (and_left (b == 4) (is_empty d && is_full d) not_4)
    ∙ cond-false ((b == 4) && is_empty d) _ _ (and_left (b == 4) (is_empty d) not_4)
    ∙ cond-false (is_line_full d) _ _ (lt-leb 127 (input_size d) (omega arith))

-- A backspace on a line that isn't empty erases.
backspace_erases : (c : Console) → c.mode ≡ Cooked → 0 < length c.line → received TY_BACKSP c ≡ commits_none (erased (going_on c))
backspace_erases c cooked h =
    ap (λ mode. received_in mode TY_BACKSP c) cooked
    ∙ cond-false (length c.line == 0) _ _ (ne_eqb (length c.line) 0 (λ (e : length c.line ≡ 0). absurd (omega arith)))

back_after : (b : ℕ) (c d : Console) → d.mode ≡ Cooked → d.line ≡ c.line ++ b ∷ [] → d.committed ≡ c.committed
    → SameInput c (received TY_BACKSP d).console
back_after b c d cooked line committed =
    let n : length d.line ≡ suc (length c.line) = ap length line ∙ (let e = length-append c.line (b ∷ []) in omega arith) in
    let e = echoed_only (erasing (echo_of (last_or 0 d.line))) (record (going_on d) { line = without_last d.line }) in
    subst (λ (m : Committed). SameInput c m.console) (sym (backspace_erases d cooked (omega arith)))
    (record { line = e.line ∙ (ap without_last line ∙ without_last_byte c.line b); committed = e.committed ∙ committed })

-- Erasing undoes typing.
pub erasing_undoes : (b : ℕ) (c : Console) → c.mode ≡ Cooked → TY_BLANK ≤ b → suc (input_size c) < TY_IBUFLEN
    → SameInput c (received TY_BACKSP (received b c).console).console
erasing_undoes b c cooked h room =
    let e = echoed_only (echo_of b) (typed b (going_on c)) in
    subst (λ (m : Committed). SameInput c (received TY_BACKSP m.console).console) (sym (printing_is_typed b c cooked h room))
    (back_after b c (joined b (going_on c)) (e.mode ∙ cooked) e.line e.committed)
