-- A tick: those of the programs whose tick has come go on, with 0 in a0, and the others are as they were.
use Rattle.std.proofs.Common.{Bool, List, Option, [], ap, append-nil, append_assoc, arith, cond, false, filter, get_or, inl, inr, length, map, refl, set, subst, suc, sym, true, zero, ℕ, ℤ, ⊎_elim, ◌++◌, ◌+◌, ◌<◌, ◌==◌, ◌∙◌, ◌∷◌, ◌≡◌, ◌≢◌, ◌≤◌, ◌⊎◌}
use Rattle.std.proofs.Math.ListN.{length-set}
use Rattle.std.proofs.lemmas.Bool.{cond_both, eq-eqb, ne_eqb}
use Rattle.std.proofs.lemmas.List.{get_or-set_other, get_or-set_same, set-set}
use Rattle.scheduling_laws.proofs.Resched.{by_tick}
use Rattle.scheduling_laws.proofs.Waiters.{not_waiting}
use Rattle.table_laws.proofs.Frame.MoveTo.{same_written}
use Rattle.table_laws.proofs.Lists.Counts.{filter_absent}
use Rattle.table_laws.proofs.Tables.MoveTo.{by_number, process_move_other, process_move_same}
use Rattle.table_laws.proofs.Tables.Places.{semaphore_at_without}
use Rattle.table_laws.proofs.Tables.Unblock.{unblock_all_ready}
use Rattle.xinu_base.specs.Constants.{OK}
use Rattle.xinu_base.specs.declared.processes.Process.{Process}
use Rattle.xinu_base.specs.declared.processes.Rest.TheVariants.{Nothing}
use Rattle.xinu_base.specs.declared.processes.State.{State}
use Rattle.xinu_base.specs.declared.processes.State.TheVariants.{Current, Ready, Waiting}
use Rattle.xinu_base.specs.declared.registers.Hart.{Hart}
use Rattle.xinu_model.specs.Clock.{due, ticked, wakeup}
use Rattle.xinu_model.specs.Machine.{CallState, Xinu, no_hart, reply_at_unblock, start, unblock_all, unblock_with, with_replies, with_reply}
use Rattle.xinu_model.specs.Memory.{number_at}
use Rattle.xinu_model.specs.Process.Scheduling.{in_state, ready, ready_all, resched}
use Rattle.xinu_model.specs.Sound.Tables.{CanRun, IsInside, count_in, entries_of, sleeping_places, waiting_places}
use Rattle.xinu_model.specs.Tables.{InReady, Semaphore, Tables, message_at, no_process, process_at, semaphore_at, state_at}
use Rattle.program_logic.proofs.Idle.{nothing_left}
use Rattle.program_logic.proofs.Threads.{free_kept, lock_kept, thread_kept}
use Rattle.program_logic.proofs.Turns.{Turned, turned_same, turned_through, turns_resched}
use Rattle.program_logic.specs.Images.{Lie}
use Rattle.program_logic.specs.Outlines.{At, System, has, words_of}
use Rattle.program_logic.specs.Running.{AreRunning, IsThread, Runs, Stands}

-- ---- who is in a list

-- one number more in a list
count_first : (q p : ℕ) (ps : List ℕ) → p ≡ q → count_in q (p ∷ ps) ≡ suc (count_in q ps)
count_first q p ps is = ap (λ b. cond b (suc (count_in q ps)) (count_in q ps)) (eq-eqb p q is)

count_next : (q p : ℕ) (ps : List ℕ) → p ≢ q → count_in q (p ∷ ps) ≡ count_in q ps
count_next q p ps other = ap (λ b. cond b (suc (count_in q ps)) (count_in q ps)) (ne_eqb p q other)

-- in it or not
none_or_some : (n : ℕ) → (n ≡ 0) ⊎ (0 < n)
none_or_some zero = inl refl
none_or_some (suc n) = inr (omega arith)

-- p is q, or another one, by how often q is in p ∷ ps
others_only : (q p : ℕ) (ps : List ℕ) → count_in q (p ∷ ps) ≡ 0 → (q ≢ p) × (count_in q ps ≡ 0)
others_only q p ps none =
    let other : q ≢ p = λ e. (let f = count_first q p ps (sym e) in absurd (omega arith)) in
    (other, sym (count_next q p ps (λ e. other (sym e))) ∙ none)

-- ---- tables

ready_other : (ps : List ℕ) (t : Tables) (q : ℕ) → count_in q ps ≡ 0 → process_at (ready_all ps t) q ≡ process_at t q
ready_other [] t q none = refl
ready_other (p ∷ ps) t q none =
    let o = others_only q p ps none in
    ready_other ps (ready p t) q o.1 ∙ process_move_other t q p (in_state Ready (process_at t p)) (message_at t p) InReady o.0

abbrev IsWoken : Process → Process → Type 0
IsWoken x y = (y.rest ≡ x.rest) × (y.state ≡ Ready)

ready_mine : (ps : List ℕ) (t : Tables) (q : ℕ) → length t.processes ≡ 64 → q < 64 → 0 < count_in q ps → IsWoken (process_at t q) (process_at (ready_all ps t) q)
ready_mine [] t q many few some = absurd (omega arith)
ready_mine (p ∷ ps) t q many few some =
    let x = in_state Ready (process_at t p) in
    let u = ready p t in
    let size : length u.processes ≡ 64 = length-set t.processes p x ∙ many in
    by_number p q (λ r. r ≡ p → IsWoken (process_at t q) (process_at (ready_all ps u) q))
    (λ e. let own : process_at u q ≡ in_state Ready (process_at t q) =
    subst (λ r. process_at (ready r t) q ≡ in_state Ready (process_at t q)) e
    (process_move_same t q (in_state Ready (process_at t q)) (message_at t q) InReady many few) in
    ⊎_elim
    (λ (none : count_in q ps ≡ 0). let all = ready_other ps u q none ∙ own in (ap (λ (y : Process). y.rest) all, ap (λ (y : Process). y.state) all))
    (λ (more : 0 < count_in q ps). let w = ready_mine ps u q size few more in (w.0 ∙ ap (λ (y : Process). y.rest) own, w.1))
    (none_or_some (count_in q ps)))
    (λ other _. let own = process_move_other t q p x (message_at t p) InReady (λ e. other (sym e)) in
    let c = count_next q p ps other in
    let w = ready_mine ps u q size few (omega arith) in (w.0 ∙ ap (λ (y : Process). y.rest) own, w.1))
    refl

ready_waiters : (sem : ℕ) (ps : List ℕ) (t : Tables) → ((p : ℕ) → 0 < count_in p ps → count_in p (semaphore_at t sem).waiters ≡ 0)
    → semaphore_at (ready_all ps t) sem ≡ semaphore_at t sem
ready_waiters sem [] t none = refl
ready_waiters sem (p ∷ ps) t none =
    let x = semaphore_at t sem in
    let c = count_first p p ps refl in
    let one : semaphore_at (ready p t) sem ≡ x =
    semaphore_at_without p sem t.semaphores
    ∙ ap (λ (ws : List ℕ). record { owner = x.owner; tokens = x.tokens; waiters = ws }) (filter_absent (λ w. w == p) x.waiters (none p (omega arith))) in
    ready_waiters sem ps (ready p t)
    (λ q some. ap (λ (y : Semaphore). count_in q y.waiters) one ∙ none q (more q some))
    ∙ one
  where
    more : (q : ℕ) → 0 < count_in q ps → 0 < count_in q (p ∷ ps)
    more q some = by_number q p (λ r. r ≡ q → 0 < count_in q (p ∷ ps))
        (λ e. (let c = count_first q p ps e in omega arith)) (λ other _. (let c = count_next q p ps (λ e. other (sym e)) in omega arith)) refl

ready_last : (ps : List ℕ) (t : Tables) → (ready_all ps t).last_semaphore ≡ t.last_semaphore
ready_last [] t = refl
ready_last (p ∷ ps) t = ready_last ps (ready p t)

-- What a tick does to the tables, if these are due.
record Ticks (ps : List ℕ) (t u : Tables) : Type 0 where
  still : (q : ℕ) → count_in q ps ≡ 0 → Turned (process_at t q) (process_at u q)
  woken : (q : ℕ) → q < 64 → 0 < count_in q ps → ((process_at u q).rest ≡ (process_at t q).rest) × CanRun (state_at u q)
  semaphores : (sem : ℕ) → 4 ≤ sem → semaphore_at u sem ≡ semaphore_at t sem
  last : u.last_semaphore ≡ t.last_semaphore

ticks_on : (ps : List ℕ) (t u : Tables) → IsInside u → Ticks ps t u → Ticks ps t (resched u)
ticks_on ps t u o h =
    let turns = turns_resched u o in
    record {
      still = λ q none. turned_through (h.still q none) (turns.entries q);
      woken = λ q few some. (
        (turns.entries q).rest ∙ (h.woken q few some).0,
        ⊎_elim (λ (e : state_at (resched u) q ≡ state_at u q). subst CanRun (sym e) (h.woken q few some).1)
            (λ (d : CanRun (state_at u q) × CanRun (state_at (resched u) q)). d.1) (turns.entries q).state,
      );
      semaphores = λ sem far. turns.semaphores sem far ∙ h.semaphores sem far;
      last = turns.last ∙ h.last;
    }

-- ---- registers

abbrev answers_of : List ℕ → List (ℕ × ℤ)
answers_of ps = map (λ p. (p, OK)) ps

replied_other : (ps : List ℕ) (harts : List Hart) (q : ℕ) → count_in q ps ≡ 0 → get_or (with_replies (answers_of ps) harts) q no_hart ≡ get_or harts q no_hart
replied_other [] harts q none = refl
replied_other (p ∷ ps) harts q none =
    let o = others_only q p ps none in
    let g = get_or harts p no_hart in
    replied_other ps (with_reply harts (p, OK)) q o.1 ∙ get_or-set_other harts p q (record g { regs = set g.regs 10 0 }) no_hart o.0

abbrev answered_0 : Hart → Hart
answered_0 h = record h { regs = set h.regs 10 0 }

replied_mine : (ps : List ℕ) (harts : List Hart) (q : ℕ) → q < length harts → 0 < count_in q ps
    → get_or (with_replies (answers_of ps) harts) q no_hart ≡ answered_0 (get_or harts q no_hart)
replied_mine [] harts q few some = absurd (omega arith)
replied_mine (p ∷ ps) harts q few some =
    let g = get_or harts p no_hart in
    let h = get_or harts q no_hart in
    let l = with_reply harts (p, OK) in
    let size = length-set harts p (answered_0 g) in
    by_number p q (λ r. r ≡ p → get_or (with_replies (answers_of ps) l) q no_hart ≡ answered_0 h)
    (λ e. let own : get_or l q no_hart ≡ answered_0 h =
    subst (λ r. get_or (with_reply harts (r, OK)) q no_hart ≡ answered_0 h) e (get_or-set_same harts q (answered_0 h) no_hart few) in
    ⊎_elim
    (λ (none : count_in q ps ≡ 0). replied_other ps l q none ∙ own)
    (λ (more : 0 < count_in q ps). replied_mine ps l q (omega arith) more ∙ ap answered_0 own ∙ ap (λ regs. record h { regs = regs }) (set-set h.regs 10 0 0))
    (none_or_some (count_in q ps)))
    (λ other _. let own = get_or-set_other harts p q (answered_0 g) no_hart (λ e. other (sym e)) in
    let c = count_next q p ps other in
    replied_mine ps l q (omega arith) (omega arith) ∙ ap answered_0 own)
    refl

-- each is answered 0
released_all : (ps : List ℕ) (d : CallState) → ((q : ℕ) → (process_at d.state.tables q).rest ≡ Nothing) → (unblock_all ps d).released ≡ d.released ++ answers_of ps
released_all [] d left = sym (append-nil d.released)
released_all (p ∷ ps) d left =
    let t = d.state.tables in
    let one : (unblock_with OK p d).released ≡ d.released ++ (p, OK) ∷ [] = ap (λ r. d.released ++ reply_at_unblock OK p r) (left p) in
    released_all ps (unblock_with OK p d)
    (λ q. same_written (λ (x : Process). x.rest) t.processes p q (in_state Ready (process_at t p)) no_process refl ∙ left q)
    ∙ ap (λ l. l ++ answers_of ps) one ∙ append_assoc d.released ((p, OK) ∷ []) (answers_of ps)

-- ---- sleepers

-- who is due sleeps
due_sleeps : (tick q : ℕ) (l : List (ℕ × ℕ)) → count_in q (due tick l) ≤ entries_of q l
due_sleeps tick q [] = omega arith
due_sleeps tick q (e ∷ l) =
    let less = due_sleeps tick q l in
    cond_both (e.1 == tick) (e ∷ filter (λ x. x.1 == tick) l) (filter (λ x. x.1 == tick) l) (λ (m : List (ℕ × ℕ)). count_in q (map (λ x. x.0) m) ≤ entries_of q (e ∷ l))
    (λ _. both (e.0 == q) (count_in q (due tick l)) (entries_of q l) less) (λ _. one (e.0 == q) (count_in q (due tick l)) (entries_of q l) less)
  where
    both : (b : Bool) (m n : ℕ) → m ≤ n → cond b (suc m) m ≤ cond b (suc n) n
    both true m n h = omega arith
    both false m n h = h

    one : (b : Bool) (m n : ℕ) → m ≤ n → m ≤ cond b (suc n) n
    one true m n h = omega arith
    one false m n h = h

-- ---- a tick

-- The programs run on.
pub tick_runs : (y : System) (holder : Option ℕ) (n : ℕ) (s : Xinu) → 4 ≤ y.sem → y.many < 64 → Runs y holder n s → AreRunning y holder n (ticked s).state
tick_runs y holder n s far small k =
    let t = s.tables in
    let w = number_at s.memory y.word 4 in
    let o = k.sound.tables.inside in
    let ps = due (t.ticks + 1) t.sleepers in
    let u = ticked s in
    let same = unblock_all_ready ps (start s) in
    let released : (wakeup s).released ≡ answers_of ps = released_all ps (start s) (nothing_left k) in
    let harts : u.state.harts ≡ with_replies (answers_of ps) s.harts =
    ap (λ (x : Xinu). with_replies (wakeup s).released x.harts) same ∙ ap (λ l. with_replies l s.harts) released in
    let memory : u.state.memory ≡ s.memory = ap (λ (x : Xinu). x.memory) same in
    let word : number_at u.state.memory y.word 4 ≡ w = ap (λ m. number_at m y.word 4) memory in
    let sleeps : (q : ℕ) → 0 < count_in q ps → 0 < sleeping_places (state_at t q) =
    λ q some. (let a = due_sleeps (t.ticks + 1) q t.sleepers in let b = o.sleeping q in omega arith) in
    let ticks : Ticks ps t u.state.tables =
    by_tick (Ticks ps t) s k.sound.tables
    (λ v quantum ticks h. record { still = h.still; woken = h.woken; semaphores = h.semaphores; last = h.last })
    (λ v i h. ticks_on ps t v i h)
    (record {
      still = λ q none. subst (Turned (process_at t q)) (sym (ready_other ps t q none)) (turned_same (process_at t q));
      woken = λ q few some. (let r = ready_mine ps t q o.processes few some in (r.0, inr r.1));
      semaphores = λ sem _. ready_waiters sem ps t (λ p some. not_waiting t p sem o (no_places (state_at t p) (sleeps p some)));
      last = ready_last ps t;
    }) in
    record {
      threads = λ q some few.
          let th = k.running.threads q some few in
          let h = get_or s.harts q no_hart in
          ⊎_elim
          (λ (none : count_in q ps ≡ 0).
          thread_kept y holder holder n w n (number_at u.state.memory y.word 4) t u.state.tables q h (get_or u.state.harts q no_hart)
          (ap (λ l. get_or l q no_hart) harts ∙ replied_other ps s.harts q none) refl (λ _. (refl, word)) (ticks.still q none) th)
          (λ (more : 0 < count_in q ps).
          let z = ticks.woken q (omega arith) more in
          let mine : get_or u.state.harts q no_hart ≡ answered_0 h =
          ap (λ l. get_or l q no_hart) harts ∙ replied_mine ps s.harts q (let m = k.sound.harts.many in omega arith) more in
          subst (IsThread y holder n (number_at u.state.memory y.word 4) u.state.tables q) (sym mine)
          (subst (λ v. IsThread y holder n v u.state.tables q (answered_0 h)) (sym word)
          (record {
            place = th.place;
            pc = th.pc;
            regs = length-set h.regs 10 0 ∙ th.regs;
            rest = z.0 ∙ th.rest;
            stands = inl (z.1, by_sleeping q (has holder q) th.place n w h.regs (state_at t q) (sleeps q more) th.stands);
          })))
          (none_or_some (count_in q ps));
      others = λ q more.
          free_kept (process_at t q) (process_at u.state.tables q)
          (ticks.still q (⊎_elim (λ (none : count_in q ps ≡ 0). none)
          (λ (some : 0 < count_in q ps). (let a = sleeps q some in let b = ap sleeping_places (k.running.others q more) in absurd (omega arith))) (none_or_some (count_in q ps))))
          (k.running.others q more);
      lock = lock_kept y holder n w n (number_at u.state.memory y.word 4) t u.state.tables (ticks.semaphores y.sem far) ticks.last (λ _. (refl, word)) k.running.lock;
      loaded = λ q some few. subst (λ m. Lie m (y.first q) (words_of (y.code q))) (sym memory) (k.running.loaded q some few);
      disk = ap (λ (x : Xinu). x.parts.devices.disk.requests) same ∙ k.running.disk;
      files = ap (λ (x : Xinu). x.parts.devices.files.calls) same ∙ k.running.files;
    }
  where
    -- who sleeps waits on no semaphore
    no_places : (x : State) → 0 < sleeping_places x → waiting_places x ≡ 0
    no_places Waiting h = absurd (omega arith)
    no_places _ h = refl

    by_sleeping : (q : ℕ) (b : Bool) (j m v : ℕ) (regs : List ℕ) (state : State) → 0 < sleeping_places state → Stands y q b j m v regs state → At y q b j m v (set regs 10 0)
    by_sleeping q b j m v regs state some (inl (can, at)) = ⊎_elim
        (λ (e : state ≡ Current). (let f = ap sleeping_places e in absurd (omega arith))) (λ (e : state ≡ Ready). (let f = ap sleeping_places e in absurd (omega arith))) can
    by_sleeping q b j m v regs state some (inr (inl (waits, rest))) = (let f = ap sleeping_places waits in absurd (omega arith))
    by_sleeping q b j m v regs state some (inr (inr (sleeps, at))) = at
