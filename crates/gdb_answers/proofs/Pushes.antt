-- Texts with one more element after them.
use Rattle.std.proofs.Common.{ℕ, ◌≡◌, ◌∙◌, ◌+◌, List, [], ◌∷◌, ◌++◌, add-one, append-nil, append_assoc, ap, sym}
use Rattle.std.specs.Prelude.{codes}
use Rattle.std.specs.Fmt.{decimal}
use Rattle.gdb_answers.specs.Descriptions.{register_entry, registers_below}
use Rattle.gdb_answers.specs.Registers.{word_text, words_text}
use Rattle.gdb_answers.specs.Threads.{entry_if, is_thread, name_text, plain_byte, threads_below}
use Rattle.xinu_model.specs.Tables.{Tables}

-- two appended, one after the other
pub both : (t a b r s : List ℕ) → r ≡ t ++ a → s ≡ r ++ b → s ≡ t ++ (a ++ b)
both t a b r s e f = f ∙ ap (λ l. l ++ b) e ∙ append_assoc t a b

pub words_text-push : (words : List ℕ) (w : ℕ) → words_text (words ++ w ∷ []) ≡ words_text words ++ word_text w
words_text-push [] w = append-nil (word_text w)
words_text-push (a ∷ words) w =
    ap (λ t. word_text a ++ t) (words_text-push words w) ∙ sym (append_assoc (word_text a) (words_text words) (word_text w))

pub registers_below-more : (n : ℕ) → registers_below (n + 1) ≡ registers_below n ++ register_entry (codes "x" ++ decimal n)
unfolding registers_below
registers_below-more n = ap registers_below (add-one n)

pub threads_below-more : (t : Tables) (p : ℕ) → threads_below t (p + 1) ≡ threads_below t p ++ entry_if (is_thread t p) t p
unfolding threads_below
threads_below-more t p = ap (threads_below t) (add-one p)

pub name_text-push : (name : List ℕ) (b : ℕ) → name_text (name ++ b ∷ []) ≡ name_text name ++ plain_byte b
name_text-push [] b = append-nil (plain_byte b)
name_text-push (a ∷ name) b =
    ap (λ t. plain_byte a ++ t) (name_text-push name b) ∙ sym (append_assoc (plain_byte a) (name_text name) (plain_byte b))
