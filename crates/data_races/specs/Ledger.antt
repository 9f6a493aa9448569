-- Who gave what is still to be taken: tokens, messages, buffers; and who died.
use Rattle.std.specs.Prelude.{◌≡◌, ℕ, ◌-◌, ◌==◌, not, if◌then◌else◌, ◌&&◌, List, [], ◌∷◌, ◌++◌, drop, filter, map, replicate, Option, Some, None, is_some}
use Rattle.xinu_base.specs.declared.syscalls.Call.{Call}
use Rattle.xinu_model.specs.Machine.{Xinu}
use Rattle.xinu_model.specs.Pools.Buffers.{is_in}
use Rattle.xinu_model.specs.Tables.{message_at, process_at}
use Rattle.happens_before.specs.Order.{Part, part}
use Rattle.data_races.specs.Changes.{buffers_freed, dead, dies, is_remade, is_renewed, messages_of, tokens_of}

-- Of each semaphore the parts that gave its tokens, in order; of each process those that put the message that it holds; of each port those
-- that put its messages, in order; of each buffer the one that gave it back, or made it; of each number the one in which its last process
-- died.
pub record Ledger : Type 0 where
  pub tokens : ℕ → List Part
  pub messages : ℕ → List Part
  pub port_messages : ℕ → List Part
  pub buffers : ℕ → List Part
  pub deaths : ℕ → List Part

abbrev pub no_parts : ℕ → List Part
no_parts x = []

abbrev pub first_ledger : Ledger
first_ledger = record { tokens = no_parts; messages = no_parts; port_messages = no_parts; buffers = no_parts; deaths = no_parts }

-- a queue from which the first entries are taken, as many as there are fewer now, or to which a part puts as many as there are more
abbrev pub queue_next : Part → ℕ → ℕ → List Part → List Part
queue_next by was is queue = drop (was - is) queue ++ replicate (is - was) by

-- the parts of the children of p that die in event n
abbrev pub dead_children : ℕ → Xinu → Xinu → ℕ → List Part
dead_children n old new p = map (part n) (filter (λ w. (process_at old.tables w).parent == p) (dead old new))

-- The ledger after event n, in which process u steps.
module _ (n u : ℕ) (call : Option Call) (old new : Xinu) (ledger : Ledger) where
  abbrev pub tokens_next : ℕ → List Part
  tokens_next sem =
      if is_remade call old new sem then replicate (tokens_of new sem) (part n u)
      else queue_next (part n u) (tokens_of old sem) (tokens_of new sem) (ledger.tokens sem)

  -- a message is put by the process that steps and, if it tells of a death, by the one that dies
  abbrev pub messages_next : ℕ → List Part
  messages_next p =
      if is_some (message_at new.tables p) && not (is_some (message_at old.tables p)) then part n u ∷ dead_children n old new p
      else ledger.messages p

  abbrev pub port_messages_next : ℕ → List Part
  port_messages_next q =
      if is_renewed old new q then [] else queue_next (part n u) (messages_of old q) (messages_of new q) (ledger.port_messages q)

  abbrev pub buffers_next : ℕ → List Part
  buffers_next a = if is_in a (buffers_freed old new) then part n u ∷ [] else ledger.buffers a

  abbrev pub deaths_next : ℕ → List Part
  deaths_next w = if dies old new w then part n w ∷ [] else ledger.deaths w

  abbrev pub with_step : Ledger
  with_step = record {
    tokens = tokens_next;
    messages = messages_next;
    port_messages = port_messages_next;
    buffers = buffers_next;
    deaths = deaths_next;
  }

-- nothing is given or taken in an event in which no process steps
unfoldable pub ledger_next : ℕ → Option ℕ → Option Call → Xinu → Xinu → Ledger → Ledger
ledger_next n None call old new ledger = ledger
ledger_next n (Some u) call old new ledger = with_step n u call old new ledger

-- Two ledgers have the same entries.
pub record HasSameEntries (a b : Ledger) : Type 0 where
  pub tokens : (sem : ℕ) → a.tokens sem ≡ b.tokens sem
  pub messages : (p : ℕ) → a.messages p ≡ b.messages p
  pub port_messages : (q : ℕ) → a.port_messages q ≡ b.port_messages q
  pub buffers : (address : ℕ) → a.buffers address ≡ b.buffers address
  pub deaths : (p : ℕ) → a.deaths p ≡ b.deaths p
