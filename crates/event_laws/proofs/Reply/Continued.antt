-- What is left of a call that waited answers -1 only if it is refused, and -3 only if its time ran out: the answers that no continuation gives.
use Rattle.std.proofs.Common.{◌≡◌, ◌≢◌, Bool, true, false, cond, ◌&&◌, ℕ, zero, suc, ◌+◌, List, [], ◌∷◌, pos, negsuc}
use Rattle.std.specs.Prelude.{slice_index}
use Rattle.std.proofs.lemmas.Bool.{cond_both}
use Rattle.xinu_base.specs.Constants.{EOF}
use Rattle.xinu_base.specs.declared.console.Item.{Item}
use Rattle.xinu_base.specs.declared.processes.Rest.{Rest}
use Rattle.xinu_base.specs.declared.processes.Rest.TheVariants as rest
use Rattle.xinu_model.specs.Console.Constants.{TY_NEWLINE, TY_RETURN}
use Rattle.xinu_model.specs.Console.Putting.{TY_OSEM, put, needs_return, put_byte, writes}
use Rattle.xinu_model.specs.Console.State.{byte_of}
use Rattle.xinu_model.specs.Console.Taking.{TY_ISEM, console_of, is_cooked, is_end, with_committed, take_char, span, stored, ends_line, count_at_end, read_item, read_next, reads}
use Rattle.xinu_model.specs.Machine.{Xinu, Returns, CallState, CallResult, start, returns}
use Rattle.xinu_model.specs.Semaphores.Calls.{answers}
use Rattle.xinu_model.specs.Semaphores.Waiting.{take_token, await}
use Rattle.xinu_model.specs.Tables.{semaphore_at}

-- a call that doesn't answer -(k + 1)
abbrev pub Never : ℕ → CallResult → Type 0
Never k result = result.answer ≡ Returns (negsuc k) → ⊥

-- an answer that isn't negative
pub answers_never : (k : ℕ) (d : CallState) (n : ℕ) → Never k (returns d (pos n))
answers_never k d n e = absurd (cc)

-- either of two ways to go on
pub either_never : (k : ℕ) (b : Bool) (x y : CallResult) → Never k x → Never k y → Never k (cond b x y)
either_never k b x y f g = cond_both b x y (Never k) (λ _. f) (λ _. g)

-- one who waits for a token, or goes on with it
pub await_never : (k sem : ℕ) (left : Rest) (then_ : Xinu → CallResult) (s : Xinu) → ((u : Xinu) → Never k (then_ u))
    → Never k (await sem left then_ s)
await_never k sem left then_ s go = by_tokens (semaphore_at s.tables sem).tokens
  where
    by_tokens : (tokens : ℕ) → Never k (take_token tokens sem left then_ s)
    by_tokens zero = λ e. absurd (cc)
    by_tokens (suc n) = go _

-- the calls on the console answer no negative number but that of the end of the input
module _ (k : ℕ) (other : k ≢ 1) where
  -- a character, or the end mark
  char_never : (b : Bool) (n : ℕ) (s : Xinu) → Never k (answers (cond b EOF (pos n)) s)
  char_never true n s e = other (cc)
  char_never false n s e = absurd (cc)

  -- the character is taken
  pub take_char_never : (items : List Item) (s : Xinu) → Never k (take_char items s)
  take_char_never [] s = λ e. absurd (cc)
  take_char_never (x ∷ items) s = char_never (is_cooked (console_of s).mode && is_end x) (byte_of x) (with_committed items s)

  -- what a read answers at the end mark
  count_never : (done : ℕ) (s : Xinu) → Never k (answers (count_at_end done) s)
  count_never zero s e = other (cc)
  count_never (suc done) s e = absurd (cc)

  -- an item is read, and then the rest
  pub read_item_never : (items : List Item) (at done : ℕ) (then_ : Xinu → CallResult) (s : Xinu) → ((u : Xinu) → Never k (then_ u))
      → Never k (read_item items at done then_ s)
  read_item_never [] at done then_ s go = λ e. absurd (cc)
  read_item_never (x ∷ items) at done then_ s go =
      either_never k _ _ _ (count_never done (with_committed items s))
      (either_never k (ends_line (console_of s).mode x) _ _ (answers_never k (start (stored x at done (with_committed items s))) (suc done))
      (go (stored x at done (with_committed items s))))

  -- a read goes on to its end
  pub reads_never : (left at done : ℕ) (s : Xinu) → Never k (reads left at done s)
  reads_never zero at done s = λ e. absurd (cc)
  reads_never (suc left) at done s =
      await_never k TY_ISEM (rest.TtyRead (span at done (done + suc left))) (read_next at done (reads left at (suc done))) s
      (λ u. read_item_never (console_of u).committed at done (reads left at (suc done)) u (reads_never left at (suc done)))

-- a byte is put, and then the rest
pub put_byte_never : (k b : ℕ) (left : Rest) (then_ : Xinu → CallResult) (s : Xinu) → ((u : Xinu) → Never k (then_ u))
    → Never k (put_byte b left then_ s)
put_byte_never k b left then_ s go =
    either_never k (needs_return b (console_of s).mode) (await TY_OSEM left (λ x. then_ (put TY_NEWLINE x)) (put TY_RETURN s))
    (then_ (put b s))
    (await_never k TY_OSEM left (λ x. then_ (put TY_NEWLINE x)) (put TY_RETURN s) (λ u. go (put TY_NEWLINE u))) (go (put b s))

-- a write goes on to its end
pub writes_never : (k left at done : ℕ) (s : Xinu) → Never k (writes left at done s)
writes_never k zero at done s = λ e. absurd (cc)
writes_never k (suc left) at done s =
    let part = span at done (done + suc left) in
    await_never k TY_OSEM (rest.TtyWrite part false)
    (λ x. put_byte (slice_index x.memory (at + done)) (rest.TtyWrite part true) (writes left at (suc done)) x) s
    (λ u. put_byte_never k (slice_index u.memory (at + done)) (rest.TtyWrite part true) (writes left at (suc done)) u
    (writes_never k left at (suc done)))
