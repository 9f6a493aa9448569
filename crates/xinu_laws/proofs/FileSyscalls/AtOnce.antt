-- A call on files that takes effect as it is made keeps the state sound.
use Rattle.std.proofs.Common.{◌≡◌, ◌≢◌, ℕ, zero, suc, ◌≤◌, ◌==◌, true, List, [], ◌∷◌, Option, Some, None, refl, sym, ap, subst, ◌∙◌, arith}
use Rattle.std.specs.Prelude.{if◌then◌else◌, IsSome}
use Rattle.std.specs.List.{AllByRecursion}
use Rattle.std.proofs.lemmas.Bool.{cond_both, cond-true, eqb-true, eq-eqb}
use Rattle.part_laws.specs.Preserve.{MayCallAny, KeepsAll}
use Rattle.xinu_model.specs.Events.{made_first, next_file_call, step_at_once, step_with, stepped, is_done, instruction_step}
use Rattle.xinu_model.specs.Calls.{continued}
use Rattle.xinu_model.specs.Files.Sound.{IsFileRequest, IsSoundWork}
use Rattle.xinu_model.specs.Files.Syscalls.{files_of, at_once}
use Rattle.xinu_model.specs.Files.Work.{FileRequest, most_at_issue, callers_waiting}
use Rattle.xinu_model.specs.Machine.{Xinu, EventResult, nothing_happens, end_of_event}
use Rattle.xinu_model.specs.RawDisk.Callers.{is_caller}
use Rattle.xinu_model.specs.Tables.{process_at}
use Rattle.part_laws.proofs.FileWork.Sound.{sound_issued}

-- What is known of a call that p made as the first.
pub record MadeFirst (p : ℕ) (before after : List FileRequest) (a : FileRequest) : Type 0 where
  pub none : before ≡ []
  pub more : List FileRequest
  pub is : after ≡ a ∷ more
  pub caller : a.caller ≡ Some p

caller_is : (p : ℕ) (o : Option ℕ) → is_caller p o ≡ true → o ≡ Some p
caller_is p None e = cc
caller_is p (Some q) e = ap Some (eqb-true q p e)

pub made_first_is : (p : ℕ) (before after : List FileRequest) (a : FileRequest) → made_first p before after ≡ Some a
    → MadeFirst p before after a
made_first_is p [] [] a e = cc
made_first_is p (b ∷ before) after a e = cc
made_first_is p [] (b ∷ more) a e =
    cond_both (is_caller p b.caller) (Some b) None (λ o. o ≡ Some a → MadeFirst p [] (b ∷ more) a)
    (λ made is. let same : b ≡ a = cc in
    record { none = refl; more = more; is = ap (λ x. x ∷ more) same; caller = ap (λ (x : FileRequest). x.caller) (sym same) ∙ caller_is p b.caller made })
    (λ _ is. cc) e

pub next_is : (s : Xinu) (a : FileRequest) → next_file_call s ≡ Some a
    → MadeFirst s.tables.current (files_of s).calls (files_of (stepped s).state).calls a
unfolding next_file_call
next_is s a e = made_first_is s.tables.current (files_of s).calls (files_of (stepped s).state).calls a e

-- no call is made in a step that leaves the calls as they are
pub none_made : (s : Xinu) (a : FileRequest) → files_of (stepped s).state ≡ files_of s → next_file_call s ≡ Some a → ⊥
none_made s a same e =
    let m = next_is s a e in
    let calls : (files_of (stepped s).state).calls ≡ (files_of s).calls = ap (λ w. w.calls) same in
    let f : a ∷ m.more ≡ [] = sym m.is ∙ calls ∙ m.none in
    absurd (cc)

-- so the null process makes none
pub not_null_makes : (s : Xinu) (a : FileRequest) → next_file_call s ≡ Some a → s.tables.current ≢ 0
not_null_makes s a made null =
    let rest = (process_at s.tables s.tables.current).rest in
    none_made s a
    (ap (λ (x : EventResult). files_of x.state)
    (cond-true (s.tables.current == 0) (nothing_happens s)
    (if is_done rest then instruction_step s else end_of_event s.tables.current [] (continued rest s))
    (eq-eqb s.tables.current 0 null)))
    made

-- It keeps all, if no call is before it and it can be carried out.
pub at_once_keeps : (a : FileRequest) (s : Xinu) → MayCallAny s → (files_of s).calls ≡ [] → IsSome a.caller → IsFileRequest a
    → KeepsAll (at_once a s)
at_once_keeps a s c none caller is =
    let files = c.devices.files in
    let first : 1 ≤ most_at_issue (files_of s).calls = subst (λ l. 1 ≤ most_at_issue l) (sym none) (omega arith) in
    let after = sound_issued 1 a s.memory (files_of s) first caller is c.ram.bytes files.itself in
    record {
      preserved = record { tables = c.may.tables; harts = c.may.harts; released = tt };
      unused = c.unused;
      pools = c.pools;
      ports = c.ports;
      devices = record {
        console = c.devices.console;
        names = c.devices.names;
        disk = c.devices.disk;
        files = record {
          itself = after.work;
          waiters = files.waiters ∙ ap callers_waiting none;
          tokens = files.tokens;
        };
      };
      ram = record { bytes = after.memory; heap = c.ram.heap };
    }

-- A call that the next step makes can be carried out, if that leaves sound files.
pub next_can : (s : Xinu) (a : FileRequest) → next_file_call s ≡ Some a → IsSoundWork (files_of (stepped s).state) → IsFileRequest a
next_can s a made sound = (subst (AllByRecursion IsFileRequest) (next_is s a made).is sound.calls).0

-- What holds of a step in which no call on files takes effect, and of each in which one does, holds of a step whatever is chosen in it.
pub step_holds : (P : EventResult → Type 0) (choice : ℕ) (found : Option FileRequest) (s : Xinu) → P (stepped s)
    → ((a : FileRequest) → P (step_at_once a s)) → P (step_with choice found s)
step_holds P zero found s waits at_once = waits
step_holds P (suc choice) None s waits at_once = waits
step_holds P (suc choice) (Some a) s waits at_once = at_once a

-- A step that leaves files as they are is the only one, whatever is chosen.
alone : (choice : ℕ) (found : Option FileRequest) (s : Xinu) → ((a : FileRequest) → found ≡ Some a → ⊥)
    → step_with choice found s ≡ stepped s
alone zero found s none = refl
alone (suc choice) None s none = refl
alone (suc choice) (Some a) s none = absurd (none a refl)

pub only_step : (choice : ℕ) (s : Xinu) → files_of (stepped s).state ≡ files_of s → step_with choice (next_file_call s) s ≡ stepped s
only_step choice s same = alone choice (next_file_call s) s (λ a e. none_made s a same e)
