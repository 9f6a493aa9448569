-- What orders processes in an event: the rules, one after another.
use Rattle.std.specs.Prelude.{ℕ, ◌-◌, ◌==◌, Bool, not, if◌then◌else◌, ◌&&◌, ◌||◌, List, [], ◌++◌, filter, map, slice_index, take, Option, Some, None, is_some}
use Rattle.std.specs.List.{flat_map}
use Rattle.xinu_base.specs.Constants.{NSEM}
use Rattle.xinu_base.specs.declared.syscalls.Call.{Call}
use Rattle.xinu_model.specs.Machine.{Xinu}
use Rattle.xinu_model.specs.Ports.Queues.{most_ports}
use Rattle.xinu_model.specs.Tables.{is_free, message_at, state_at}
use Rattle.happens_before.specs.Histories.{Edge}
use Rattle.happens_before.specs.Order.{Part, part}
use Rattle.data_races.specs.Changes.{born, buffers_taken, dead, is_remade, is_renewed, messages_of, numbers, orders, tokens_of, woken}
use Rattle.data_races.specs.Ledger.{Ledger}

-- what one part did comes before what v does
abbrev pub edge_to : ℕ → Part → Edge
edge_to v x = record { event = x.event; source = x.process; target = v }

-- whether a call names a number and tells by a refusal that it is free: `resume`, `suspend`, `kill`, `chprio`, `getprio`, `send`
abbrev pub looks_up : ℕ → Bool
looks_up number = ((number == 3) || ((number == 4) || (number == 5))) || ((number == 7) || ((number == 8) || (number == 21)))

abbrev pub absence : Option Call → Xinu → Ledger → List Part
absence None old ledger = []
absence (Some call) old ledger =
    let p = slice_index call.args 0 in
    if looks_up call.number && is_free (state_at old.tables p) then ledger.deaths p else []

-- Event n, in which process u steps.
module _ (n u : ℕ) (call : Option Call) (old new : Xinu) (ledger : Ledger) where
  -- *Wake*: who becomes ready by what u does. *Birth*: who begins.
  abbrev pub leads_to : List ℕ → List Edge
  leads_to ps = map (λ v. edge_to v (part n u)) (filter (λ v. not (v == u)) ps)

  -- *Death*: who dies, before what u does next
  abbrev pub deaths_end : List Edge
  deaths_end = map (λ w. edge_to u (part n w)) (filter (λ w. not (w == u)) (dead old new))

  -- *Message*: those who put the message that u takes
  abbrev pub message_taken : List Part
  message_taken =
      if is_some (message_at old.tables u) && (not (is_some (message_at new.tables u)) && not (is_free (state_at new.tables u)))
      then ledger.messages u else []

  -- *Token*: those who gave the tokens that u takes
  abbrev pub tokens_taken : ℕ → List Part
  tokens_taken sem =
      if orders old sem && not (is_remade call old new sem) then take (tokens_of old sem - tokens_of new sem) (ledger.tokens sem) else []

  -- *Port*: those who put the messages that u takes; all of them if it resets or deletes the port
  abbrev pub port_messages_taken : ℕ → List Part
  port_messages_taken q =
      if is_renewed old new q then ledger.port_messages q else take (messages_of old q - messages_of new q) (ledger.port_messages q)

  -- *Buffer*: who gave back, or made, the buffer that u gets
  abbrev pub buffers_got : List Part
  buffers_got = flat_map ledger.buffers (buffers_taken old new)

  -- all that u takes or learns
  abbrev pub taken : List Part
  taken =
      message_taken ++ (flat_map tokens_taken (numbers NSEM) ++ (flat_map port_messages_taken (numbers most_ports)
      ++ (buffers_got ++ absence call old ledger)))

  abbrev pub edges_of : List Edge
  edges_of = leads_to (woken old new) ++ (leads_to (born old new) ++ (deaths_end ++ map (edge_to u) taken))

-- the edges of an event; none if no process steps
unfoldable pub edges_in : ℕ → Option ℕ → Option Call → Xinu → Xinu → Ledger → List Edge
edges_in n None call old new ledger = []
edges_in n (Some u) call old new ledger = edges_of n u call old new ledger
