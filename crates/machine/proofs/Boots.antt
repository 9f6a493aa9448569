-- If an image is booted, a process lives besides the null process at the start; and the clock and the numbers of the ports begin at 0.
use Rattle.std.proofs.Common.{◌≡◌, ◌≢◌, ◌∙◌, ℕ, ◌+◌, ◌<◌, ◌≤◌, ◌&&◌, false, List, [], ◌∷◌, drop, get_or, length, Option, Some, None, ℤ, refl, sym, ap, subst, inl, inr, arith, get_or-set_same, get_or-set_other}
use Rattle.std.specs.List.{list_all}
use Rattle.std.proofs.lemmas.Bool.{cases_eq, cases_lt, cond_both}
use Rattle.std.proofs.lemmas.List.{get_or_past}
use Rattle.xinu_base.specs.declared.processes.Process.{Process}
use Rattle.xinu_base.specs.declared.processes.State.{State}
use Rattle.xinu_base.specs.declared.processes.State.TheVariants.{Current, Free, Ready, Suspended}
use Rattle.table_laws.proofs.Tables.Starts.{all_are_made, boots_from, none_made}
use Rattle.event_laws.proofs.Ownership.Boot.{apart_boot}
use Rattle.xinu_laws.proofs.Touches.Boot.{boot_numbers, boot_ticks}
use Rattle.event_laws.specs.Ownership.Apart.{IsApart}
use Rattle.xinu_model.specs.Boot.{all_made, all_ready, all_started, boot, boot_on, Boots, Disks, first_overlap, Loaded, on_disks, loaded_machine, unless_overlap}
use Rattle.xinu_model.specs.Machine.{Xinu}
use Rattle.xinu_model.specs.Ports.Queues.{port_at}
use Rattle.xinu_model.specs.Process.Scheduling.{dispatch_first, in_state, is_current, keeps_cpu, preempt, ready, resched}
use Rattle.xinu_model.specs.Runs.{is_over}
use Rattle.xinu_model.specs.Tables.{InReady, is_free, message_at, move_to, no_process, Nowhere, Place, process_at, state_at, Tables}

-- who lives still does after a process moved that isn't freed
alive_moved : (t : Tables) (p j : ℕ) (x : Process) (m : Option ℕ) (place : Place) → x.state ≢ Free → state_at t j ≢ Free → state_at (move_to p x m place t) j ≢ Free
alive_moved t p j x m place lives alive = elim (cases_eq j p) [
  | inr n ↦ (λ h. alive (sym (ap (λ (y : Process). y.state) (get_or-set_other t.processes p j x no_process n)) ∙ h))
  | inl e ↦ (elim (cases_lt p (length t.processes)) [
    | inl lt ↦ (λ h. lives (sym (ap (λ (y : Process). y.state) (get_or-set_same t.processes p x no_process lt)) ∙ sym (ap (λ q. state_at (move_to p x m place t) q) e) ∙ h))
    | inr le ↦ (λ h. alive (ap (λ (y : Process). y.state) (get_or_past t.processes j no_process (omega (arith, e, le)))))
  ])
]

-- after processes became ready
alive_all_ready : (images : List Loaded) (i j : ℕ) (t : Tables) → state_at t j ≢ Free → state_at (all_ready i images t) j ≢ Free
alive_all_ready [] i j t alive = alive
alive_all_ready (image ∷ images) i j t alive =
    alive_all_ready images (i + 1) j (ready i t) (alive_moved t i j (in_state Ready (process_at t i)) (message_at t i) InReady (λ f. cc) alive)

-- and after a resched
alive_resched : (j : ℕ) (t : Tables) → state_at t j ≢ Free → state_at (resched t) j ≢ Free
alive_resched j t alive =
    let room = preempt t in
    cond_both (keeps_cpu t.ready t) t (dispatch_first room.ready room) (λ u. state_at u j ≢ Free) (λ _. alive) (λ _. dispatched room.ready room preempted)
  where
    dispatched : (l : List (ℕ × ℤ)) (u : Tables) → state_at u j ≢ Free → state_at (dispatch_first l u) j ≢ Free
    dispatched [] u a = a
    dispatched (e ∷ es) u a =
        let v = record u { current = e.0; quantum = 2 } in alive_moved v e.0 j (in_state Current (process_at u e.0)) (message_at u e.0) Nowhere (λ f. cc) a

    preempted : state_at (preempt t) j ≢ Free
    preempted = cond_both (is_current (state_at t t.current)) (ready t.current t) t (λ u. state_at u j ≢ Free)
        (λ _. alive_moved t t.current j (in_state Ready (process_at t t.current)) (message_at t t.current) InReady (λ f. cc) alive) (λ _. alive)

-- the run isn't over while process 1 lives
not_over : (l : List Process) → (get_or l 1 no_process).state ≢ Free → list_all (λ (x : Process). is_free x.state) (drop 1 l) ≡ false
not_over [] alive = absurd (alive refl)
not_over (x ∷ []) alive = absurd (alive refl)
not_over (x ∷ y ∷ l) alive = ap (λ b. b && list_all (λ (x : Process). is_free x.state) l) (lives y.state alive)
  where
    lives : (s : State) → s ≢ Free → is_free s ≡ false
    lives Free n = absurd (n refl)
    lives _ n = refl

-- the process of the first image lives once all are started
started_lives : (images : List Loaded) (x : Xinu) → state_at x.tables 1 ≢ Free → is_over (all_started images x) ≡ false
started_lives images x alive = not_over (all_started images x).tables.processes (alive_resched 1 (all_ready 1 images x.tables) (alive_all_ready images 1 1 x.tables alive))

unless_overlap_lives : (o : Option ℕ) (images : List Loaded) (start : Xinu) → 1 ≤ length images → length images < 64 → unless_overlap o images ≡ Boots start → is_over start ≡ false
unless_overlap_lives (Some i) images start some few e = absurd (cc)
unless_overlap_lives None images start some few e =
    let b = boots_from (all_made 1 images (loaded_machine images)) (λ s. Boots (all_started images s)) start e in
    let same : all_started images b.0 ≡ start = cc in
    let made = all_are_made images 1 (loaded_machine images) b.0 (none_made images) (omega arith) (omega (arith, few)) b.1 in
    let suspended : state_at b.0.tables 1 ≡ Suspended = made.suspended 1 (omega arith) (omega (arith, some)) in
    subst (λ s. is_over s ≡ false) same (started_lives images b.0 (λ f. let h = sym suspended ∙ f in cc))

-- A process lives besides the null process.
pub boot_lives : (images : List Loaded) (start : Xinu) → 1 ≤ length images → length images < 64 → boot images ≡ Boots start → is_over start ≡ false
boot_lives images start some few e = unless_overlap_lives (first_overlap 1 [] images) images start some few e

-- ---- on disks

-- The machine starts on disks as it does without, but for the disks.
pub started_on : (disks : Disks) (images : List Loaded) (start : Xinu) → boot_on disks images ≡ Boots start → (s : Xinu) × ((boot images ≡ Boots s) × (on_disks disks s ≡ start))
started_on disks images start e =
    let b = boots_from (boot images) (λ s. Boots (on_disks disks s)) start e in
    let same : on_disks disks b.0 ≡ start = cc in (b.0, (b.1, same))

-- what holds of each start without disks and doesn't speak of them holds of one on disks
on_given : (P : Xinu → Type 0) (disks : Disks) (images : List Loaded) (start : Xinu) → ((s : Xinu) → P s → P (on_disks disks s)) → ((s : Xinu) → boot images ≡ Boots s → P s)
    → boot_on disks images ≡ Boots start → P start
on_given P disks images start keeps holds e =
    let b = started_on disks images start e in subst P b.1.1 (keeps b.0 (holds b.0 b.1.0))

-- A process lives besides the null process.
pub boot_on_lives : (disks : Disks) (images : List Loaded) (start : Xinu) → 1 ≤ length images → length images < 64 → boot_on disks images ≡ Boots start → is_over start ≡ false
boot_on_lives disks images start some few e = on_given (λ s. is_over s ≡ false) disks images start (λ s h. h) (λ s b. boot_lives images s some few b) e

-- The clock begins at 0.
pub boot_on_ticks : (disks : Disks) (images : List Loaded) (start : Xinu) → boot_on disks images ≡ Boots start → start.tables.ticks ≡ 0
boot_on_ticks disks images start e = on_given (λ s. s.tables.ticks ≡ 0) disks images start (λ s h. h) (λ s b. boot_ticks images s b) e

-- The numbers of the ports begin at 0.
pub boot_on_numbers : (disks : Disks) (images : List Loaded) (start : Xinu) → boot_on disks images ≡ Boots start → (q : ℕ) → (port_at start.parts.ports q).seq ≡ 0
boot_on_numbers disks images start e q =
    on_given (λ s. (port_at s.parts.ports q).seq ≡ 0) disks images start (λ s h. h) (λ s b. boot_numbers images s b q) e

-- No address has two owners.
pub boot_on_apart : (disks : Disks) (images : List Loaded) (start : Xinu) → boot_on disks images ≡ Boots start → IsApart start
boot_on_apart disks images start e = on_given IsApart disks images start (λ s h. record { low = h.low; stacks = h.stacks; claims = h.claims }) (λ s b. apart_boot images s b) e
