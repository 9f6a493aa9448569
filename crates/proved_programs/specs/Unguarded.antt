-- The contrast: two processes that add 1 to a word without a semaphore, and a schedule on which an addition is lost.
use Rattle.std.specs.Prelude.{ℕ, List, [], ◌∷◌, ◌++◌, replicate, slice_set, pos, None}
use Rattle.std.specs.List.{flat_map}
use Rattle.xinu_base.specs.declared.events.Event.{Event}
use Rattle.xinu_base.specs.declared.events.Event.TheVariants.{Step, Tick}
use Rattle.xinu_model.specs.Boot.{image_name, null_tables}
use Rattle.xinu_model.specs.Events.{effect_of}
use Rattle.xinu_model.specs.Machine.{Xinu, first_parts, no_hart}
use Rattle.xinu_model.specs.Process.Creation.{new_hart, new_process}
use Rattle.xinu_model.specs.Process.Scheduling.{ready, resched}
use Rattle.xinu_model.specs.Tables.{Nowhere, Tables, move_to}
use Rattle.program_logic.specs.Images.{bytes_of}

-- again: lw t0, 64(zero) · addi t0, t0, 1 · sw t0, 64(zero) · j again
abbrev pub unguarded_words : List ℕ
unguarded_words = 0x04002283 ∷ 0x00128293 ∷ 0x04502023 ∷ 0xff5ff06f ∷ []

-- one process of these words
abbrev pub with_process : ℕ → Tables → Tables
with_process p t = move_to p (new_process (image_name p) (pos 20) 0 0 0) None Nowhere t

-- Two processes are ready at the first word, the first of them runs, and the bytes from 16 on are 0.
unfoldable pub two_unguarded : Xinu
two_unguarded = record {
  tables = resched (ready 2 (ready 1 (with_process 2 (with_process 1 null_tables))));
  harts = slice_set (slice_set (replicate 64 no_hart) 1 (new_hart 0 0 0 0)) 2 (new_hart 0 0 0 0);
  memory = flat_map bytes_of unguarded_words ++ replicate 64 0;
  parts = first_parts (record { low = 1048576; cells = [] });
}

-- the state after some events
abbrev pub after_events : List Event → Xinu → Xinu
after_events [] s = s
after_events (e ∷ events) s = after_events events (effect_of s e 0).state

-- The first loads; its quantum ends; the second loads, adds and stores; its quantum ends; the first adds and stores.
abbrev pub losing : List Event
losing = Step ∷ Tick ∷ Tick ∷ Step ∷ Step ∷ Step ∷ Tick ∷ Tick ∷ Step ∷ Step ∷ []

-- the same steps with no tick between the load and the store of a process
abbrev pub keeping : List Event
keeping = Step ∷ Step ∷ Step ∷ Tick ∷ Tick ∷ Step ∷ Step ∷ Step ∷ []
