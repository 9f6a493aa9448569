-- A port is deleted or reset once all who wait on it are released: what holds of tables and ports is kept, and the rest is left alone.
use Rattle.std.proofs.Common.{◌≡◌, ◌≢◌, ◌⊎◌, ℕ, ◌<◌, ◌≤◌, false, [], None, Some, inl, inr, ⊎_elim, refl, sym, ap, subst, ◌∙◌, arith, get_or-set_same, get_or-set_other}
use Rattle.xinu_base.specs.declared.semaphores.Owner.TheVariants as owner
use Rattle.xinu_model.specs.Machine.{Parts, CallState}
use Rattle.xinu_model.specs.Ports.Queues.{PortQueue, port_at}
use Rattle.xinu_model.specs.Footprints.{on_ports}
use Rattle.table_laws.specs.Preserve.{AreAlive}
use Rattle.xinu_laws.specs.Touches.{Reach, reach, Touches}
use Rattle.xinu_model.specs.Ports.Calls.{renewed, deleted, emptied_port}
use Rattle.xinu_model.specs.Semaphores.Counts.{with_semaphore, with_tokens}
use Rattle.xinu_model.specs.Semaphores.Waiting.{emptied}
use Rattle.xinu_model.specs.Sound.Tables.{IsSoundTables}
use Rattle.xinu_model.specs.Sound.Ports.{ArePorts}
use Rattle.xinu_model.specs.Tables.{Semaphore, no_semaphore, Tables, semaphore_at}
use Rattle.table_laws.proofs.Frame.MoveTo.{same_written}
use Rattle.xinu_laws.proofs.Touches.{touches_trans}
use Rattle.xinu_laws.proofs.Touches.Ports.{HasPort, port_reached, port_cleared_touches, deleted_touches, emptied_port_touches}
use Rattle.table_laws.proofs.Tables.Changes.{owned_is_no_device, sound_given_up, sound_tokens}
use Rattle.table_laws.proofs.Tables.Owners.{owner_tokens}
use Rattle.table_laws.proofs.Tables.MoveTo.{by_number, semaphore_within}
use Rattle.xinu_laws.proofs.Ports.Cleared.{port_cleared}
use Rattle.xinu_laws.proofs.Ports.Kept.{keeps_rests_trans}
use Rattle.xinu_laws.proofs.Ports.Messages.{port_within}
use Rattle.xinu_laws.proofs.Ports.Moves.{keeps_rests_semaphore}
use Rattle.xinu_laws.proofs.Ports.Renewed.{is_other_port, asks_other_port, not_other, unasked_here, IsNewPort, ports_renewed}
use Rattle.xinu_laws.proofs.Ports.Signals.{HasPorts}

-- From d to e port q is renewed: what holds of tables and ports holds, and nothing else is touched.
pub record IsRenewed (q : ℕ) (d e : CallState) : Type 0 where
  pub tables : IsSoundTables e.state.tables
  pub harts : e.state.harts ≡ d.state.harts
  pub released : AreAlive d.state.tables d.released → AreAlive e.state.tables e.released
  pub ports : HasPorts e
  pub touches : Touches (reach on_ports) d.state e.state

-- what leaves the ports other than q alone, and may touch port q
abbrev pub beside_ports : ℕ → Reach
beside_ports q = record { mine = is_other_port q; asks = asks_other_port q; parts = on_ports; clock = false }

pub port_reached_alone : (q : ℕ) → HasPort (beside_ports q) q
port_reached_alone q = record { none = λ sem. refl; owner = λ sem. not_other q q refl; waits = unasked_here q; nothing = refl; parts = refl }

-- a semaphore of a port is one of the table, and not the kernel's
port_semaphore : (q sem : ℕ) (t : Tables) → IsSoundTables t → (semaphore_at t sem).owner ≡ Some (owner.Port q) → (sem < 128) × (4 ≤ sem)
port_semaphore q sem t k e = (semaphore_within t sem k.inside.semaphores (λ f. cc), owned_is_no_device t sem k.inside (λ f. cc))

-- another semaphore than the one that is written
written_other : (t : Tables) (sem r : ℕ) (x : Semaphore) → r ≢ sem → semaphore_at (with_semaphore sem x t) r ≡ semaphore_at t r
written_other t sem r x n = get_or-set_other t.semaphores sem r x no_semaphore n

-- and the one that is written
written_here : (t : Tables) (sem : ℕ) (x : Semaphore) → IsSoundTables t → sem < 128 → semaphore_at (with_semaphore sem x t) sem ≡ x
written_here t sem x k w = get_or-set_same t.semaphores sem x no_semaphore (let e = k.inside.semaphores in omega arith)

-- A port is deleted.
pub port_deleted : (q : ℕ) (queue : PortQueue) (d : CallState) → IsSoundTables d.state.tables → HasPorts d
    → (port_at d.state.parts.ports q).queue ≡ Some queue → IsRenewed q d (deleted q queue (emptied queue.receive (emptied queue.send d)))
port_deleted q queue d k a here =
    let i = a.each q queue here in
    let e = emptied queue.receive (emptied queue.send d) in
    let c = port_cleared q queue d k i.send_owner i.receive_owner in
    let t = e.state.tables in
    let u = with_semaphore queue.send no_semaphore t in
    let v = with_semaphore queue.receive no_semaphore u in
    let send : (semaphore_at t queue.send).owner ≡ Some (owner.Port q) = c.owners queue.send ∙ i.send_owner in
    let other = written_other t queue.send queue.receive no_semaphore (λ f. i.differ (sym f)) in
    let receive : (semaphore_at u queue.receive).owner ≡ Some (owner.Port q) = ap (λ (x : Semaphore). x.owner) other
    ∙ c.owners queue.receive ∙ i.receive_owner in
    let ws = port_semaphore q queue.send t c.tables send in
    let ku = sound_given_up t queue.send c.tables ws.0 ws.1 c.no_senders in
    let wr = port_semaphore q queue.receive u ku receive in
    let kv = sound_given_up u queue.receive ku wr.0 wr.1 (ap (λ (x : Semaphore). x.waiters) other ∙ c.no_receivers) in
    let touches : (f : Reach) → HasPort f q → Touches f d.state (deleted q queue e).state = λ f g.
    touches_trans (port_cleared_touches q g queue d k i.send_owner i.receive_owner)
    (deleted_touches q g queue e send (c.owners queue.receive ∙ i.receive_owner)) in
    let gone : (sem : ℕ) → (semaphore_at v sem).owner ≢ Some (owner.Port q) = λ sem. by_number sem queue.receive
    (λ r. (semaphore_at v r).owner ≢ Some (owner.Port q))
    (λ f. (let g = ap (λ (x : Semaphore). x.owner) (written_here u queue.receive no_semaphore ku wr.0) in cc))
    (λ n f. by_number sem queue.send (λ r. (semaphore_at u r).owner ≢ Some (owner.Port q))
    (λ g. (let h = ap (λ (x : Semaphore). x.owner) (written_here t queue.send no_semaphore c.tables ws.0) in cc))
    (λ m g. (let h = a.owned sem q
    (sym (c.owners sem) ∙ sym (ap (λ (x : Semaphore). x.owner) (written_other t queue.send sem no_semaphore m)) ∙ g) in
    let same : h.0 ≡ queue = (let h1 = h.1 in cc) in
    ⊎_elim (λ (x : sem ≡ h.0.send). m (x ∙ ap (λ (y : PortQueue). y.send) same))
    (λ (x : sem ≡ h.0.receive). n (x ∙ ap (λ (y : PortQueue). y.receive) same)) h.2))
    (sym (ap (λ (x : Semaphore). x.owner) (written_other u queue.receive sem no_semaphore n)) ∙ f)) in
    record {
      tables = kv;
      harts = c.harts;
      released = c.released;
      ports = subst (λ l. ArePorts v (renewed q None l)) (sym (ap (λ (p : Parts). p.ports) c.parts))
          (ports_renewed q None d.state.tables v d.state.parts.ports
          (let w = port_within q queue d.state.parts.ports here in let m = a.many in omega arith) kv.inside
          (touches (beside_ports q) (port_reached_alone q)).frame
          (keeps_rests_trans d.state.tables t v c.rests
          (keeps_rests_trans t u v (keeps_rests_semaphore t queue.send no_semaphore) (keeps_rests_semaphore u queue.receive no_semaphore)))
          (λ x f. cc) (λ sem f. absurd (gone sem f)) refl a);
      touches = touches (reach on_ports) (port_reached q);
    }

-- other tokens leave a semaphore its waiters
waiters_tokens : (t : Tables) (sem n r : ℕ) → (semaphore_at (with_tokens sem n t) r).waiters ≡ (semaphore_at t r).waiters
waiters_tokens t sem n r =
    same_written (λ (x : Semaphore). x.waiters) t.semaphores sem r (record (semaphore_at t sem) { tokens = n }) no_semaphore refl

-- A port is reset.
pub port_reset : (q : ℕ) (queue : PortQueue) (d : CallState) → IsSoundTables d.state.tables → HasPorts d
    → (port_at d.state.parts.ports q).queue ≡ Some queue
    → IsRenewed q d (emptied_port q queue (emptied queue.receive (emptied queue.send d)))
port_reset q queue d k a here =
    let i = a.each q queue here in
    let e = emptied queue.receive (emptied queue.send d) in
    let c = port_cleared q queue d k i.send_owner i.receive_owner in
    let t = e.state.tables in
    let n = queue.first_count in
    let next : PortQueue = record queue { messages = [] } in
    let u = with_tokens queue.send n t in
    let v = with_tokens queue.receive 0 u in
    let owners : (r : ℕ) → (semaphore_at v r).owner ≡ (semaphore_at d.state.tables r).owner = λ r. owner_tokens u queue.receive 0 r
    ∙ owner_tokens t queue.send n r ∙ c.owners r in
    let waiters : (r : ℕ) → (semaphore_at v r).waiters ≡ (semaphore_at t r).waiters = λ r. waiters_tokens u queue.receive 0 r
    ∙ waiters_tokens t queue.send n r in
    let send : (semaphore_at t queue.send).owner ≡ Some (owner.Port q) = c.owners queue.send ∙ i.send_owner in
    let receive : (semaphore_at u queue.receive).owner ≡ Some (owner.Port q) = owner_tokens t queue.send n queue.receive
    ∙ c.owners queue.receive ∙ i.receive_owner in
    let ws = port_semaphore q queue.send t c.tables send in
    let ku = sound_tokens t queue.send n c.tables ws.0 (λ f. cc) (inr c.no_senders) in
    let wr = port_semaphore q queue.receive u ku receive in
    let kv = sound_tokens u queue.receive 0 ku wr.0 (λ f. cc) (inl refl) in
    let touches : (f : Reach) → HasPort f q → Touches f d.state (emptied_port q queue e).state = λ f g.
    touches_trans (port_cleared_touches q g queue d k i.send_owner i.receive_owner)
    (emptied_port_touches q g queue e send (c.owners queue.receive ∙ i.receive_owner)) in
    let y : Semaphore = record (semaphore_at t queue.send) { tokens = n } in
    let z : Semaphore = record (semaphore_at u queue.receive) { tokens = 0 } in
    let new : IsNewPort v q next = record {
      send_owner = owners queue.send ∙ i.send_owner;
      receive_owner = owners queue.receive ∙ i.receive_owner;
      differ = i.differ;
      no_senders = waiters queue.send ∙ c.no_senders;
      no_receivers = waiters queue.receive ∙ c.no_receivers;
      room = ap (λ (x : Semaphore). x.tokens) (written_other u queue.receive queue.send z i.differ) ∙ ap (λ (x : Semaphore). x.tokens) (written_here t queue.send y c.tables ws.0);
      no_tokens = ap (λ (x : Semaphore). x.tokens) (written_here u queue.receive z ku wr.0);
      empty = refl;
    } in
    record {
      tables = kv;
      harts = c.harts;
      released = c.released;
      ports = subst (λ l. ArePorts v (renewed q (Some next) l)) (sym (ap (λ (p : Parts). p.ports) c.parts))
          (ports_renewed q (Some next) d.state.tables v d.state.parts.ports
          (let w = port_within q queue d.state.parts.ports here in let m = a.many in omega arith) kv.inside
          (touches (beside_ports q) (port_reached_alone q)).frame
          (keeps_rests_trans d.state.tables t v c.rests
          (keeps_rests_trans t u v (keeps_rests_semaphore t queue.send y) (keeps_rests_semaphore u queue.receive z)))
          (λ x f. subst (λ (w : PortQueue). IsNewPort v q w) (let g : next ≡ x = cc in g) new)
          (λ s f. (let h = a.owned s q (sym (owners s) ∙ f) in
          let same : h.0 ≡ queue = (let h1 = h.1 in cc) in
          (next, refl, subst (λ (w : PortQueue). (s ≡ w.send) ⊎ (s ≡ w.receive)) same h.2)))
          refl a);
      touches = touches (reach on_ports) (port_reached q);
    }
