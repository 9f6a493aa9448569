-- The ledger and the edges of an event name no later event.
use Rattle.std.proofs.Common.{ℕ, suc, ◌-◌, ◌≤◌, Bool, true, false, if◌then◌else◌, not, ◌&&◌, ◌==◌, List, [], ◌∷◌, ◌++◌, filter, map, replicate, slice_index, take, drop, Option, Some, None, is_some, arith}
use Rattle.std.specs.List.{All, flat_map}
use Rattle.std.proofs.lemmas.List.Elements.{All-append, All-cons, All-drop, All-map, All-nil, All-replicate, All-take, All-weaker}
use Rattle.xinu_base.specs.declared.syscalls.Call.{Call}
use Rattle.xinu_model.specs.Machine.{Xinu}
use Rattle.happens_before.specs.Histories.{Edge}
use Rattle.happens_before.specs.Order.{Part, part}
use Rattle.xinu_base.specs.Constants.{NSEM}
use Rattle.xinu_model.specs.Pools.Buffers.{is_in}
use Rattle.xinu_model.specs.Ports.Queues.{most_ports}
use Rattle.xinu_model.specs.Tables.{is_free, message_at, process_at, state_at}
use Rattle.data_races.specs.Changes.{born, buffers_freed, buffers_taken, dead, dies, is_remade, is_renewed, messages_of, numbers, orders, tokens_of, woken}
use Rattle.data_races.specs.Edges.{absence, edge_to, edges_in}
use Rattle.data_races.specs.Edges as edges
use Rattle.data_races.specs.Ledger.{Ledger, first_ledger, ledger_next, queue_next}
use Rattle.data_races.specs.Ledger as ledgers

-- P holds of each element. A record, so that a list is found from what is known of it.
pub record Holds {A : Type 0} (P : A → Type 0) (xs : List A) : Type 0 where
  pub each : All P xs

holds_none : {A : Type 0} (P : A → Type 0) → Holds P []
holds_none P = record { each = All-nil P }

holds_first : {A : Type 0} (P : A → Type 0) (x : A) {xs : List A} → P x → Holds P xs → Holds P (x ∷ xs)
holds_first P x {xs} here rest = record { each = All-cons P x xs here rest.each }

holds_both : {A : Type 0} (P : A → Type 0) {xs ys : List A} → Holds P xs → Holds P ys → Holds P (xs ++ ys)
holds_both P {xs} {ys} one two = record { each = All-append P xs ys one.each two.each }

holds_if : {A : Type 0} (P : A → Type 0) (b : Bool) {xs ys : List A} → Holds P xs → Holds P ys → Holds P (if b then xs else ys)
holds_if P true one two = one
holds_if P false one two = two

holds_flat : {A B : Type 0} (P : B → Type 0) (f : A → List B) → ((a : A) → Holds P (f a)) → (xs : List A) → Holds P (flat_map f xs)
holds_flat P f each [] = holds_none P
holds_flat P f each (x ∷ xs) = holds_both P (each x) (holds_flat P f each xs)

holds_mapped : {A B : Type 0} (P : B → Type 0) (f : A → B) → ((a : A) → P (f a)) → (xs : List A) → Holds P (map f xs)
holds_mapped P f each [] = holds_none P
holds_mapped P f each (x ∷ xs) = holds_first P (f x) (each x) (holds_mapped P f each xs)

-- A part is of event n, or of an earlier one.
pub record Early (n : ℕ) (p : Part) : Type 0 where
  pub early : p.event ≤ n

-- So is the source of an edge.
pub record EarlyEdge (n : ℕ) (e : Edge) : Type 0 where
  pub early : e.event ≤ n

-- So are all parts of a ledger.
pub record UpTo (n : ℕ) (ledger : Ledger) : Type 0 where
  pub tokens : (x : ℕ) → Holds (Early n) (ledger.tokens x)
  pub messages : (x : ℕ) → Holds (Early n) (ledger.messages x)
  pub port_messages : (x : ℕ) → Holds (Early n) (ledger.port_messages x)
  pub buffers : (x : ℕ) → Holds (Early n) (ledger.buffers x)
  pub deaths : (x : ℕ) → Holds (Early n) (ledger.deaths x)

pub first_up_to : (n : ℕ) → UpTo n first_ledger
first_up_to n =
    let none : Holds (Early n) [] = holds_none (Early n) in
    record { tokens = λ x. none; messages = λ x. none; port_messages = λ x. none; buffers = λ x. none; deaths = λ x. none }

module _ (n : ℕ) where
  of_now : (u : ℕ) → Early n (part n u)
  of_now u = record { early = omega arith }

  holds_queue : (u was is : ℕ) (queue : List Part) → Holds (Early n) queue → Holds (Early n) (queue_next (part n u) was is queue)
  holds_queue u was is queue early = record {
    each = All-append (Early n) (drop (was - is) queue) (replicate (is - was) (part n u)) (All-drop (Early n) (was - is) queue early.each)
        (All-replicate (Early n) (is - was) (part n u) (of_now u));
  }

  holds_take : (k : ℕ) (queue : List Part) → Holds (Early n) queue → Holds (Early n) (take k queue)
  holds_take k queue early = record { each = All-take (Early n) k queue early.each }

  edges_to : (u : ℕ) (xs : List Part) → Holds (Early n) xs → Holds (EarlyEdge n) (map (edge_to u) xs)
  edges_to u xs early = record {
    each = All-map (EarlyEdge n) (edge_to u) xs
        (All-weaker (Early n) (λ p. EarlyEdge n (edge_to u p)) (λ p e. let h : p.event ≤ n = e.early in record { early = omega arith }) xs early.each);
  }

  module _ (u : ℕ) (call : Option Call) (old new : Xinu) (ledger : Ledger) (up : UpTo n ledger) where
    one_now : (v : ℕ) → Holds (Early n) (part n v ∷ [])
    one_now v = holds_first (Early n) (part n v) (of_now v) (holds_none (Early n))

    tokens_up : (x : ℕ) → Holds (Early n) (ledgers.tokens_next n u call old new ledger x)
    tokens_up x = holds_if (Early n) (is_remade call old new x) (record { each = All-replicate (Early n) (tokens_of new x) (part n u) (of_now u) })
        (holds_queue u (tokens_of old x) (tokens_of new x) (ledger.tokens x) (up.tokens x))

    messages_up : (x : ℕ) → Holds (Early n) (ledgers.messages_next n u call old new ledger x)
    messages_up x = holds_if (Early n) (is_some (message_at new.tables x) && not (is_some (message_at old.tables x)))
        (holds_first (Early n) (part n u) (of_now u)
        (holds_mapped (Early n) (part n) of_now (filter (λ w. (process_at old.tables w).parent == x) (dead old new))))
        (up.messages x)

    port_messages_up : (x : ℕ) → Holds (Early n) (ledgers.port_messages_next n u call old new ledger x)
    port_messages_up x = holds_if (Early n) (is_renewed old new x) (holds_none (Early n))
        (holds_queue u (messages_of old x) (messages_of new x) (ledger.port_messages x) (up.port_messages x))

    step_up : UpTo n (ledgers.with_step n u call old new ledger)
    step_up = record {
      tokens = tokens_up;
      messages = messages_up;
      port_messages = port_messages_up;
      buffers = λ x. holds_if (Early n) (is_in x (buffers_freed old new)) (one_now u) (up.buffers x);
      deaths = λ x. holds_if (Early n) (dies old new x) (one_now x) (up.deaths x);
    }

    absence_early : (c : Option Call) → Holds (Early n) (absence c old ledger)
    absence_early None = holds_none (Early n)
    absence_early (Some c) = holds_if (Early n) (edges.looks_up c.number && is_free (state_at old.tables (slice_index c.args 0)))
        (up.deaths (slice_index c.args 0)) (holds_none (Early n))

    message_early : Holds (Early n) (edges.message_taken n u call old new ledger)
    message_early = holds_if (Early n) (is_some (message_at old.tables u) && (not (is_some (message_at new.tables u)) && not (is_free (state_at new.tables u))))
        (up.messages u) (holds_none (Early n))

    tokens_early : (x : ℕ) → Holds (Early n) (edges.tokens_taken n u call old new ledger x)
    tokens_early x = holds_if (Early n) (orders old x && not (is_remade call old new x))
        (holds_take (tokens_of old x - tokens_of new x) (ledger.tokens x) (up.tokens x)) (holds_none (Early n))

    port_messages_early : (x : ℕ) → Holds (Early n) (edges.port_messages_taken n u call old new ledger x)
    port_messages_early x = holds_if (Early n) (is_renewed old new x) (up.port_messages x)
        (holds_take (messages_of old x - messages_of new x) (ledger.port_messages x) (up.port_messages x))

    taken_early : Holds (Early n) (edges.taken n u call old new ledger)
    taken_early =
        holds_both (Early n) message_early
        (holds_both (Early n) (holds_flat (Early n) (edges.tokens_taken n u call old new ledger) tokens_early (numbers NSEM))
        (holds_both (Early n) (holds_flat (Early n) (edges.port_messages_taken n u call old new ledger) port_messages_early (numbers most_ports))
        (holds_both (Early n) (holds_flat (Early n) ledger.buffers up.buffers (buffers_taken old new)) (absence_early call))))

    led_to : (ps : List ℕ) → Holds (EarlyEdge n) (edges.leads_to n u call old new ledger ps)
    led_to ps = holds_mapped (EarlyEdge n) (λ v. edge_to v (part n u)) (λ v. record { early = omega arith }) (filter (λ v. not (v == u)) ps)

    edges_early : Holds (EarlyEdge n) (edges.edges_of n u call old new ledger)
    edges_early =
        let ends : Holds (EarlyEdge n) (edges.deaths_end n u call old new ledger) =
        holds_mapped (EarlyEdge n) (λ w. edge_to u (part n w)) (λ w. record { early = omega arith }) (filter (λ w. not (w == u)) (dead old new)) in
        holds_both (EarlyEdge n) (led_to (woken old new))
        (holds_both (EarlyEdge n) (led_to (born old new))
        (holds_both (EarlyEdge n) ends (edges_to u (edges.taken n u call old new ledger) taken_early)))

-- The same of each event.
pub ledger_up : (n : ℕ) (stepper : Option ℕ) (call : Option Call) (old new : Xinu) (ledger : Ledger) → UpTo n ledger →
    UpTo n (ledger_next n stepper call old new ledger)
unfolding ledger_next
ledger_up n None call old new ledger up = up
ledger_up n (Some u) call old new ledger up = step_up n u call old new ledger up

pub edges_up : (n : ℕ) (stepper : Option ℕ) (call : Option Call) (old new : Xinu) (ledger : Ledger) → UpTo n ledger →
    Holds (EarlyEdge n) (edges_in n stepper call old new ledger)
unfolding edges_in
edges_up n None call old new ledger up = holds_none (EarlyEdge n)
edges_up n (Some u) call old new ledger up = edges_early n u call old new ledger up

-- and of a later one
pub later_up : (n : ℕ) (ledger : Ledger) → UpTo n ledger → UpTo (suc n) ledger
later_up n ledger up =
    let weaker : (xs : List Part) → Holds (Early n) xs → Holds (Early (suc n)) xs = λ xs all.
    record { each = All-weaker (Early n) (Early (suc n)) (λ p e. let h : p.event ≤ n = e.early in record { early = omega arith }) xs all.each } in
    record {
      tokens = λ x. weaker (ledger.tokens x) (up.tokens x);
      messages = λ x. weaker (ledger.messages x) (up.messages x);
      port_messages = λ x. weaker (ledger.port_messages x) (up.port_messages x);
      buffers = λ x. weaker (ledger.buffers x) (up.buffers x);
      deaths = λ x. weaker (ledger.deaths x) (up.deaths x);
    }
