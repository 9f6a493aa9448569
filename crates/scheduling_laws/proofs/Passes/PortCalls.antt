-- Calls 28 to 35, on buffer pools and ports, keep a predicate that is closed under their moves.
use Rattle.std.proofs.Common.{◌≡◌, inl, ℕ, Bool, ◌&&◌, List, [], ◌∷◌, ◌++◌, length, Option, Some, None, refl, ℤ, pos, negsuc}
use Rattle.std.specs.Prelude.{nat_le, nat_lt}
use Rattle.xinu_base.specs.Constants.{OK}
use Rattle.xinu_base.specs.declared.processes.PortTicket.{PortTicket}
use Rattle.xinu_base.specs.declared.processes.Rest.TheVariants as rest
use Rattle.xinu_base.specs.declared.semaphores.Owner.TheVariants as owner
use Rattle.xinu_model.specs.Heap.Cells as heap
use Rattle.xinu_model.specs.Heap.Cells.{Grant}
use Rattle.xinu_model.specs.Machine.{Xinu, Panics, start, with_tables, returns, refused}
use Rattle.xinu_model.specs.Pools.Buffers.{most_pools, pool_at, pool_bytes, whole_words, meets_pool}
use Rattle.xinu_model.specs.Pools.Calls.{made_pool, with_pool, is_pool_size, mkbufpool, take_first, take_buffer, getbuf, freed_by}
use Rattle.xinu_model.specs.Ports.Calls.{free_port, made_port, started_port, ptcreate, cleared, with_messages, deleted_where, reset_where, put_message, finish_send, take_message, take_from, finish_receive, ticket_of, sent_to, received_from}
use Rattle.xinu_model.specs.Ports.Queues.{PortQueue, most_nodes, port_at, nodes, is_stale}
use Rattle.xinu_model.specs.Semaphores.Counts.{with_semaphore, with_tokens, free_semaphore, make_semaphore}
use Rattle.xinu_model.specs.Semaphores.Waiting.{signalled}
use Rattle.xinu_model.specs.Tables.{no_semaphore, Tables, semaphore_at}
use Rattle.table_laws.proofs.Tables.Found.{free_semaphore_free}
use Rattle.scheduling_laws.proofs.Kernels.{HavePools, HavePorts, HasQueue}
use Rattle.scheduling_laws.proofs.Moves.{Goes, Settled, IsClosed}
use Rattle.scheduling_laws.proofs.Passes.Steps.{refused_settles, either_settles, await_settles, await_with, inside_tokens, inside_signalled, inside_put_back, inside_cleared, holds_made}

module _ {May Touch : ℕ → Type 0} {Begins : Tables → Type 0} {Holds : Tables → Bool → Type 0} (k : IsClosed May Touch Begins Holds) where
  -- call 28
  made_pool_settles : (found : Option Grant) (sem : Option ℕ) (size n : ℕ) (s : Xinu) → free_semaphore s.tables ≡ sem → Goes Holds s
      → Settled Holds (made_pool found sem size n s)
  made_pool_settles (Some grant) (Some sem) size n s e h =
      either_settles k (meets_pool grant.address (pool_bytes size n) s.parts.pools) (refused s) (with_pool grant sem size n s)
      (λ _. refused_settles k s h) (λ _. holds_made k sem n (owner.Pool (length s.parts.pools)) s.tables (free_semaphore_free s.tables sem e) h)
  made_pool_settles (Some grant) None size n s e h = refused_settles k s h
  made_pool_settles None sem size n s e h = refused_settles k s h

  pub mkbufpool_settles : (size n : ℕ) (s : Xinu) → Goes Holds s → Settled Holds (mkbufpool size n s)
  mkbufpool_settles size n s h =
      either_settles k (is_pool_size size n && nat_lt (length s.parts.pools) most_pools) _ (refused s)
      (λ _. made_pool_settles (heap.take_memory (pool_bytes (whole_words size) n) s.parts.heap) (free_semaphore s.tables) (whole_words size) n s refl h)
      (λ _. refused_settles k s h)

  -- call 29
  pub take_first_settles : (free : List ℕ) (i : ℕ) (s : Xinu) → Goes Holds s → Settled Holds (take_first free i s)
  take_first_settles [] i s h = h
  take_first_settles (a ∷ free) i s h = h

  pub getbuf_settles : (i : ℕ) (s : Xinu) → HavePools Touch s.parts.pools → Goes Holds s → Settled Holds (getbuf i s)
  getbuf_settles i s may h =
      either_settles k (nat_lt i (length s.parts.pools)) _ (refused s)
      (λ _. await_settles k (pool_at s.parts.pools i).semaphore (rest.GetBuf i) (take_buffer i) s (may.pools i) h
      (λ u g. take_first_settles (pool_at u.parts.pools i).free i u g))
      (λ _. refused_settles k s h)

  -- call 30
  pub freed_by_settles : (found : Option ℕ) (a : ℕ) (s : Xinu) → HavePools Touch s.parts.pools → Goes Holds s → Settled Holds (freed_by found a s)
  freed_by_settles None a s may h = refused_settles k s h
  freed_by_settles (Some i) a s may h = inside_put_back k a i (start s) may h

  -- call 31
  made_port_settles : (found : Option ℕ) (q n send : ℕ) (s : Xinu) → (semaphore_at s.tables send).owner ≡ None
      → free_semaphore (make_semaphore send (owner.Port q) n s.tables) ≡ found → Goes Holds s → Settled Holds (made_port found q n send s)
  made_port_settles None q n send s e f h = h
  made_port_settles (Some receive) q n send s e f h =
      let u = make_semaphore send (owner.Port q) n s.tables in
      holds_made k receive 0 (owner.Port q) u (free_semaphore_free u receive f) (holds_made k send n (owner.Port q) s.tables e h)

  started_port_settles : (q send : Option ℕ) (n : ℕ) (s : Xinu) → free_semaphore s.tables ≡ send → Goes Holds s → Settled Holds (started_port q send n s)
  started_port_settles (Some q) (Some send) n s e h =
      made_port_settles (free_semaphore (make_semaphore send (owner.Port q) n s.tables)) q n send s (free_semaphore_free s.tables send e) refl h
  started_port_settles (Some q) None n s e h = refused_settles k s h
  started_port_settles None send n s e h = refused_settles k s h

  pub ptcreate_settles : (n : ℤ) (s : Xinu) → Goes Holds s → Settled Holds (ptcreate n s)
  ptcreate_settles (negsuc n) s h = refused_settles k s h
  ptcreate_settles (pos n) s h = started_port_settles (free_port s) (free_semaphore s.tables) n s refl h

  -- call 32
  pub deleted_settles : (found : Option PortQueue) (q how : ℕ) (s : Xinu) → HavePools Touch s.parts.pools
      → ((queue : PortQueue) → found ≡ Some queue → HasQueue Touch queue) → Goes Holds s → Settled Holds (deleted_where found q how s)
  deleted_settles None q how s pools may h = refused_settles k s h
  deleted_settles (Some queue) q how s pools may h =
      let d = cleared how queue (start s) in
      let t = d.state.tables in
      either_settles k (nat_le how 1) _ (refused s)
      (λ _. k.counts (with_semaphore queue.send no_semaphore t) d.owes_resched queue.receive no_semaphore (inl (may queue refl).receive) (inl refl)
      (k.counts t d.owes_resched queue.send no_semaphore (inl (may queue refl).send) (inl refl) (inside_cleared k how queue (start s) pools (may queue refl) h)))
      (λ _. refused_settles k s h)

  -- call 33
  pub reset_settles : (found : Option PortQueue) (q how : ℕ) (s : Xinu) → HavePools Touch s.parts.pools
      → ((queue : PortQueue) → found ≡ Some queue → HasQueue Touch queue) → Goes Holds s → Settled Holds (reset_where found q how s)
  reset_settles None q how s pools may h = refused_settles k s h
  reset_settles (Some queue) q how s pools may h =
      let d = cleared how queue (start s) in
      let e = with_tables (with_tokens queue.send queue.first_count d.state.tables) d in
      either_settles k (nat_le how 1) _ (refused s)
      (λ _. inside_tokens k queue.receive 0 e (may queue refl).receive
      (inside_tokens k queue.send queue.first_count d (may queue refl).send (inside_cleared k how queue (start s) pools (may queue refl) h)))
      (λ _. refused_settles k s h)

  -- call 35
  take_message_settles : (messages : List ℕ) (queue : PortQueue) (q : ℕ) (s : Xinu) → HasQueue Touch queue → Goes Holds s
      → Settled Holds (take_message messages queue q s)
  take_message_settles [] queue q s may h = refused_settles k s h
  take_message_settles (message ∷ messages) queue q s may h = inside_signalled k queue.send (with_messages q queue messages (start s)) may.send h

  take_from_settles : (found : Option PortQueue) (q : ℕ) (s : Xinu) → ((queue : PortQueue) → found ≡ Some queue → HasQueue Touch queue) → Goes Holds s → Settled Holds (take_from found q s)
  take_from_settles None q s may h = refused_settles k s h
  take_from_settles (Some queue) q s may h = take_message_settles queue.messages queue q s (may queue refl) h

  pub finish_receive_settles : (ticket : PortTicket) (s : Xinu) → HavePorts Touch s.parts.ports → Goes Holds s → Settled Holds (finish_receive ticket s)
  finish_receive_settles ticket s may h =
      either_settles k (is_stale ticket s.parts.ports) (refused s) _ (λ _. refused_settles k s h)
      (λ _. take_from_settles (port_at s.parts.ports ticket.port).queue ticket.port s (may.ports ticket.port) h)

  pub received_from_settles : (found : Option PortQueue) (q : ℕ) (s : Xinu) → HavePorts Touch s.parts.ports
      → ((queue : PortQueue) → found ≡ Some queue → HasQueue Touch queue) → Goes Holds s → Settled Holds (received_from found q s)
  received_from_settles None q s ports may h = refused_settles k s h
  received_from_settles (Some queue) q s ports may h =
      await_with k queue.receive (rest.PtRecv (ticket_of q queue.receive s)) (finish_receive (ticket_of q queue.receive s)) s
      (may queue refl).receive h (λ t g. finish_receive_settles (ticket_of q queue.receive s) (record s { tables = t }) ports g)

  -- call 34
  put_message_settles : (found : Option PortQueue) (q message : ℕ) (s : Xinu)
      → ((queue : PortQueue) → found ≡ Some queue → HasQueue Touch queue) → Goes Holds s
      → Settled Holds (put_message found q message s)
  put_message_settles None q message s may h = refused_settles k s h
  put_message_settles (Some queue) q message s may h =
      let d = with_messages q queue (queue.messages ++ message ∷ []) (start s) in
      either_settles k (nat_le most_nodes (nodes s.parts.ports)) (record { call = start s; answer = Panics })
      (returns (signalled queue.receive d) OK) (λ _. h) (λ _. inside_signalled k queue.receive d (may queue refl).receive h)

  pub finish_send_settles : (ticket : PortTicket) (message : ℕ) (s : Xinu) → HavePorts Touch s.parts.ports → Goes Holds s → Settled Holds (finish_send ticket message s)
  finish_send_settles ticket message s may h =
      either_settles k (is_stale ticket s.parts.ports) (refused s) _ (λ _. refused_settles k s h)
      (λ _. put_message_settles (port_at s.parts.ports ticket.port).queue ticket.port message s (may.ports ticket.port) h)

  pub sent_to_settles : (found : Option PortQueue) (q message : ℕ) (s : Xinu) → HavePorts Touch s.parts.ports
      → ((queue : PortQueue) → found ≡ Some queue → HasQueue Touch queue) → Goes Holds s → Settled Holds (sent_to found q message s)
  sent_to_settles None q message s ports may h = refused_settles k s h
  sent_to_settles (Some queue) q message s ports may h =
      await_with k queue.send (rest.PtSend (ticket_of q queue.send s) message) (finish_send (ticket_of q queue.send s) message) s
      (may queue refl).send h (λ t g. finish_send_settles (ticket_of q queue.send s) message (record s { tables = t }) ports g)
