-- The machine starts with the two programs: they run, and nothing was put or taken yet.
use Rattle.std.proofs.Common.{◌≡◌, ◌≢◌, ◌∙◌, ⊎_elim, inl, inr, refl, sym, ap, subst, arith, ℕ, suc, zero, ◌+◌, ◌≤◌, List, [], ◌∷◌, Option, Some, None}
use Rattle.part_laws.specs.GivenDisks.{AreSoundDisks}
use Rattle.table_laws.proofs.Frame.MoveTo.{owner_move}
use Rattle.table_laws.proofs.Tables.Starts.{all_are_made, boots_from, made_on_stack, none_made, same_everywhere, sound_all_ready}
use Rattle.xinu_base.specs.declared.processes.Process.{Process}
use Rattle.xinu_base.specs.declared.processes.State.TheVariants.{Free, Ready}
use Rattle.xinu_laws.proofs.Preserve.Disks.{sound_boot_on}
use Rattle.xinu_model.specs.Boot.{Boots, Disks, Loaded, all_made, all_ready, all_started, boot, boot_on, first_overlap, first_semaphores, image_process, loaded_machine, null_tables, on_disks, unless_overlap, where_stack, with_image, with_images}
use Rattle.xinu_model.specs.Heap.Cells.{Stack, take_stack}
use Rattle.xinu_model.specs.Machine.{Xinu}
use Rattle.xinu_model.specs.Memory.{zeros}
use Rattle.xinu_model.specs.Process.Creation.{stack_size}
use Rattle.xinu_model.specs.Process.Scheduling.{in_state, ready, resched}
use Rattle.xinu_model.specs.Sound.Tables.{CanRun, IsInside}
use Rattle.xinu_model.specs.Tables.{InReady, Nowhere, Semaphore, message_at, no_process, process_at, state_at}
use Rattle.program_logic.proofs.Threads.{free_kept}
use Rattle.program_logic.proofs.Turns.{Turned, turns_resched}
use Rattle.program_logic.specs.Images.{Lie}
use Rattle.bounded_buffer.proofs.Idle.{each_of}
use Rattle.bounded_buffer.proofs.Running.{AreRunning, Runs, owner_of}
use Rattle.bounded_buffer.specs.Buffer.{code, consumer, first, producer}
use Rattle.bounded_buffer.specs.Places.{Bare, Outside, words_in}

-- no semaphore but the kernel's has an owner at first
unowned : (owner_of null_tables 4 ≡ None) × ((owner_of null_tables 5 ≡ None) × (owner_of null_tables 6 ≡ None))
unfolding first_semaphores
unowned = (refl, (refl, refl))

-- who is ready can run after a resched
ready_can : (x y : Process) → Turned x y → x.state ≡ Ready → CanRun y.state
ready_can x y turned is = ⊎_elim (λ (e : y.state ≡ x.state). inr (e ∙ is)) (λ (d : CanRun x.state × CanRun y.state). d.1) turned.state

same_state : (u r : Xinu) → Boots u ≡ Boots r → u ≡ r
same_state u r is = cc

module _ (a b : Loaded) (disks : Disks) where
  abbrev images : List Loaded
  images = a ∷ b ∷ []

  -- both processes are made on their stacks
  abbrev made : Stack → Stack → Xinu
  made k l = with_image 2 b l (with_image 1 a k (loaded_machine images))

  owners : (k l : Stack) (sem : ℕ) → owner_of (all_ready 1 images (made k l).tables) sem ≡ owner_of null_tables sem
  owners k l sem =
      let t = null_tables in
      let x = image_process 1 a k.top in
      let u = (with_image 1 a k (loaded_machine images)).tables in
      let y = image_process 2 b l.top in
      let v = (made k l).tables in
      let w = ready 1 v in
      owner_move w 2 (in_state Ready (process_at w 2)) (message_at w 2) InReady sem
      ∙ owner_move v 1 (in_state Ready (process_at v 1)) (message_at v 1) InReady sem
      ∙ owner_move u 2 y None Nowhere sem ∙ owner_move t 1 x None Nowhere sem

  others_free : (k l : Stack) (p : ℕ) → state_at (all_ready 1 images (made k l).tables) (suc (suc (suc p))) ≡ Free
  others_free k l p = ap (λ (x : Process). x.state) (same_everywhere 61 p no_process)

  started : (k l : Stack) → a.entry ≡ 0 → b.entry ≡ 96 → IsInside (all_ready 1 images (made k l).tables)
      → Lie (with_images images zeros) 0 (words_in producer) → Lie (with_images images zeros) 96 (words_in consumer)
      → AreRunning Bare Outside 0 0 (on_disks disks (all_started images (made k l)))
  started k l first_entry second_entry o lie_first lie_second =
      let r = all_ready 1 images (made k l).tables in
      let turns = turns_resched r o in
      let owner : (sem : ℕ) → 4 ≤ sem → owner_of (resched r) sem ≡ owner_of null_tables sem =
      λ sem far. ap (λ (x : Semaphore). x.owner) (turns.semaphores sem far) ∙ owners k l sem in
      let u = unowned in
      record {
        pair = record {
          mine = record {
            place = 0;
            pc = first_entry;
            regs = refl;
            rest = (turns.entries 1).rest;
            stands = inl (ready_can (process_at r 1) (process_at (resched r) 1) (turns.entries 1) refl, (refl, (refl, tt)));
          };
          other = record {
            place = 0;
            pc = second_entry;
            regs = refl;
            rest = (turns.entries 2).rest;
            stands = inl (ready_can (process_at r 2) (process_at (resched r) 2) (turns.entries 2) refl, (refl, tt));
          };
          free = λ p some not neither. free_kept (process_at r p) (process_at (resched r) p) (turns.entries p) (all_free k l p some not neither);
          a_tokens = 2;
          b_tokens = 0;
          own = inr (owner 4 (omega arith) ∙ u.0, refl);
          own_sum = refl;
          their = inr (owner 5 (omega arith) ∙ u.1.0, refl);
          their_sum = refl;
          made = (owner 4 (omega arith) ∙ u.0, (owner 5 (omega arith) ∙ u.1.0, (owner 6 (omega arith) ∙ u.1.1, ap (λ i. i + 1) turns.last)));
        };
        items = λ n low high. absurd (omega arith);
        loaded = each_of (λ p. Lie (with_images images zeros) (first p) (words_in (code p))) lie_first lie_second;
        disk = refl;
        files = refl;
      }
    where
      all_free : (k l : Stack) (p : ℕ) → p ≢ 0 → p ≢ 1 → p ≢ 2 → state_at (all_ready 1 images (made k l).tables) p ≡ Free
      all_free k l zero some not neither = absurd (some refl)
      all_free k l (suc zero) some not neither = absurd (not refl)
      all_free k l (suc (suc zero)) some not neither = absurd (neither refl)
      all_free k l (suc (suc (suc p))) some not neither = others_free k l p

  -- A machine that starts with images of the two programs runs them.
  pub boots_running : (start : Xinu) → a.entry ≡ 0 → b.entry ≡ 96 → Lie (with_images images zeros) 0 (words_in producer)
      → Lie (with_images images zeros) 96 (words_in consumer) → AreSoundDisks disks → boot_on disks images ≡ Boots start → Runs Bare Outside 0 0 start
  boots_running start first_entry second_entry lie_first lie_second sound is =
      let m = boots_from (boot images) (λ s. Boots (on_disks disks s)) start is in
      record {
        sound = sound_boot_on disks images start (omega arith) sound is;
        running = subst (AreRunning Bare Outside 0 0) (same_state (on_disks disks m.0) start m.2) (by_overlap (first_overlap 1 [] images) m.0 m.1);
      }
    where
      by_overlap : (o : Option ℕ) (s : Xinu) → unless_overlap o images ≡ Boots s → AreRunning Bare Outside 0 0 (on_disks disks s)
      by_overlap (Some i) s is = absurd (cc)
      by_overlap None s is =
          let machine = loaded_machine images in
          let m = boots_from (all_made 1 images machine) (λ s. Boots (all_started images s)) s is in
          let f = boots_from (where_stack (take_stack (stack_size a.stack) machine.parts.heap) 1 a machine) (λ y. all_made 2 (b ∷ []) y) m.0 m.1 in
          let k = made_on_stack (take_stack (stack_size a.stack) machine.parts.heap) 1 a machine f.0 f.1 in
          let g = boots_from (where_stack (take_stack (stack_size b.stack) f.0.parts.heap) 2 b f.0) (λ y. all_made 3 [] y) m.0 f.2 in
          let l = made_on_stack (take_stack (stack_size b.stack) f.0.parts.heap) 2 b f.0 g.0 g.1 in
          let same : made k.0 l.0 ≡ m.0 = ap (λ y. with_image 2 b l.0 y) k.1 ∙ l.1 ∙ same_state g.0 m.0 g.2 in
          let all = all_are_made images 1 machine m.0 (none_made images) (omega arith) (omega arith) m.1 in
          let tables = sound_all_ready images 1 m.0.tables all.tables (λ j low high. all.suspended j (omega arith) high) in
          subst (λ x. AreRunning Bare Outside 0 0 (on_disks disks x)) (ap (all_started images) same ∙ same_state (all_started images m.0) s m.2)
          (started k.0 l.0 first_entry second_entry (subst (λ (x : Xinu). IsInside (all_ready 1 images x.tables)) (sym same) tables.inside) lie_first lie_second)
