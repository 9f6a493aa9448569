-- An event that leaves tables and parts alone orders nothing, and gives and takes nothing.
use Rattle.std.proofs.Common.{◌≡◌, ℕ, ◌-◌, ◌==◌, not, ◌&&◌, ◌||◌, Bool, true, false, if◌then◌else◌, List, [], ◌∷◌, ◌++◌, filter, map, take, Option, Some, None, is_some, refl, sym, ap, subst, ◌∙◌}
use Rattle.std.specs.List.{flat_map}
use Rattle.std.proofs.Math.Nat.{sub_self}
use Rattle.std.proofs.lemmas.Bool.{eq-eqb}
use Rattle.std.proofs.lemmas.List.{append-nil}
use Rattle.xinu_base.specs.declared.processes.State.{State}
use Rattle.xinu_base.specs.declared.processes.State.TheVariants.{Free, Current, Ready, Receiving, Sleeping, Suspended, Waiting, Timed}
use Rattle.xinu_base.specs.Constants.{NPROC, NSEM}
use Rattle.xinu_base.specs.declared.registers.Hart.{Hart}
use Rattle.xinu_model.specs.Machine.{Parts, Xinu}
use Rattle.xinu_model.specs.Ports.Queues.{most_ports, port_at}
use Rattle.xinu_model.specs.Tables.{Tables, message_at, semaphore_at, state_at}
use Rattle.happens_before.specs.Order.{Part, part}
use Rattle.data_races.specs.Changes.{begins, born, dead, dies, free_buffers, is_going, is_owned, is_remade, is_renewed, is_renewed_if, is_stopped, messages_of, numbers, orders, port_of, tokens_of, woken}
use Rattle.data_races.specs.Edges.{edge_to, edges_in}
use Rattle.data_races.specs.Edges as edges
use Rattle.data_races.specs.Ledger.{HasSameEntries, Ledger, ledger_next, queue_next}
use Rattle.data_races.specs.Ledger as ledgers
use Rattle.xinu_model.specs.Pools.Buffers.{is_in}
use Rattle.xinu_model.specs.Tables.{is_free}

filter_none : {A : Type 0} (q : A → Bool) (xs : List A) → ((x : A) → q x ≡ false) → filter q xs ≡ []
filter_none q [] no_one = refl
filter_none q (x ∷ xs) no_one = rw (no_one x) (filter_none q xs no_one)

flat_none : {A B : Type 0} (f : A → List B) (xs : List A) → ((x : A) → f x ≡ []) → flat_map f xs ≡ []
flat_none f [] none = refl
flat_none f (x ∷ xs) none = rw (none x) (flat_none f xs none)

-- nobody is both stopped and going, free and not
never_woken : (s : State) → (is_stopped s && is_going s) ≡ false
never_woken Free = refl
never_woken Current = refl
never_woken Ready = refl
never_woken Receiving = refl
never_woken Sleeping = refl
never_woken Suspended = refl
never_woken Waiting = refl
never_woken Timed = refl

never_both : (b : Bool) → (b && not b) ≡ false
never_both true = refl
never_both false = refl

never_either : (b : Bool) → (not b && b) ≡ false
never_either true = refl
never_either false = refl

-- each number of a list is in it
is_in_first : (a : ℕ) (xs : List ℕ) → is_in a (a ∷ xs) ≡ true
is_in_first a xs = rw (eq-eqb a a refl) refl

is_in_rest : (a b : ℕ) (xs : List ℕ) → is_in a xs ≡ true → is_in a (b ∷ xs) ≡ true
is_in_rest a b xs held = elim (a == b) as (λ c. (c || is_in a xs) ≡ true) [ true ↦ refl | false ↦ held ]

kept_none : (xs ys : List ℕ) → ((a : ℕ) → is_in a xs ≡ true → is_in a ys ≡ true) → filter (λ a. not (is_in a ys)) xs ≡ []
kept_none [] ys within = refl
kept_none (x ∷ xs) ys within = rw (within x (is_in_first x xs)) (kept_none xs ys (λ a held. within a (is_in_rest a x xs held)))

none_kept : (xs : List ℕ) → filter (λ a. not (is_in a xs)) xs ≡ []
none_kept xs = kept_none xs xs (λ a held. held)

never_taken : (a c : Bool) → (a && (not a && c)) ≡ false
never_taken true c = refl
never_taken false c = refl

never_changed : (o : Bool) → (if o then not o else o) ≡ false
never_changed true = refl
never_changed false = refl

-- as many as before: none is taken, and none is put
take_none : {A : Type 0} (k : ℕ) (q : List A) → take (k - k) q ≡ []
take_none k q = rw (sub_self k) refl

queue_same : (by : Part) (k : ℕ) (q : List Part) → queue_next by k k q ≡ q
queue_same by k q = rw (sub_self k) (append-nil q)

take_none_if : {A : Type 0} (c : Bool) (k : ℕ) (q : List A) → (if c then take (k - k) q else []) ≡ []
take_none_if true k q = take_none k q
take_none_if false k q = refl

nothing_of_five : {A : Type 0} (a b c d e : List A) → a ≡ [] → b ≡ [] → c ≡ [] → d ≡ [] → e ≡ [] → (a ++ (b ++ (c ++ (d ++ e)))) ≡ []
nothing_of_five a b c d e p q r s t = rw (p, q, r, s, t) refl

nothing_of_four : {A : Type 0} (a b c d : List A) → a ≡ [] → b ≡ [] → c ≡ [] → d ≡ [] → (a ++ (b ++ (c ++ d))) ≡ []
nothing_of_four a b c d p q r s = rw (p, q, r, s) refl

module _ (n u : ℕ) (t : Tables) (parts : Parts) (harts later : List Hart) (memory now : List ℕ) (ledger : Ledger) where
  abbrev old : Xinu
  old = record { tables = t; harts = harts; memory = memory; parts = parts }

  abbrev new : Xinu
  new = record { tables = t; harts = later; memory = now; parts = parts }

  woken_none : woken old new ≡ []
  woken_none = filter_none (λ p. is_stopped (state_at t p) && is_going (state_at t p)) (numbers NPROC) (λ p. never_woken (state_at t p))

  born_none : born old new ≡ []
  born_none = filter_none (begins old new) (numbers NPROC) (λ p. never_both (is_free (state_at t p)))

  dead_none : dead old new ≡ []
  dead_none = filter_none (dies old new) (numbers NPROC) (λ p. never_either (is_free (state_at t p)))

  renewed_none : (q : ℕ) → is_renewed old new q ≡ false
  renewed_none q = let seq : ℕ = (port_at parts.ports q).seq in rw (eq-eqb seq seq refl) refl

  renewed_if_none : (o : Option ℕ) → is_renewed_if old new o ≡ false
  renewed_if_none None = refl
  renewed_if_none (Some q) = renewed_none q

  remade_none : (sem : ℕ) → is_remade None old new sem ≡ false
  remade_none sem = rw (never_changed (is_owned old sem), renewed_if_none (port_of (semaphore_at t sem).owner)) refl

  taken_none : edges.taken n u None old new ledger ≡ []
  taken_none = nothing_of_five _ _ _ _ _
      (rw (never_taken (is_some (message_at t u)) (not (is_free (state_at t u)))) refl)
      (flat_none (edges.tokens_taken n u None old new ledger) (numbers NSEM) (λ sem. take_none_if (orders old sem && not (is_remade None old new sem)) (tokens_of old sem) (ledger.tokens sem)))
      (flat_none (edges.port_messages_taken n u None old new ledger) (numbers most_ports)
      (λ q. rw (renewed_none q) (take_none (messages_of old q) (ledger.port_messages q))))
      (ap (flat_map ledger.buffers) (none_kept (free_buffers old)))
      refl

  edges_none : edges.edges_of n u None old new ledger ≡ []
  edges_none = nothing_of_four _ _ _ _
      (ap (edges.leads_to n u None old new ledger) woken_none)
      (ap (edges.leads_to n u None old new ledger) born_none)
      (ap (λ ws. map (λ w. edge_to u (part n w)) (filter (λ w. not (w == u)) ws)) dead_none)
      (ap (map (edge_to u)) taken_none)

  entries_same : HasSameEntries (ledgers.with_step n u None old new ledger) ledger
  entries_same = record {
    tokens = λ sem. rw (remade_none sem) (queue_same (part n u) (tokens_of old sem) (ledger.tokens sem));
    messages = λ p. rw (never_both (is_some (message_at t p))) refl;
    port_messages = λ q. rw (renewed_none q) (queue_same (part n u) (messages_of old q) (ledger.port_messages q));
    buffers = λ a. ap (λ freed. if is_in a freed then part n u ∷ [] else ledger.buffers a) (none_kept (free_buffers old));
    deaths = λ w. rw (never_either (is_free (state_at t w))) refl;
  }

-- the same of any two states
module _ (n u : ℕ) (old new : Xinu) (ledger : Ledger) (tables : new.tables ≡ old.tables) (parts : new.parts ≡ old.parts) where
  with_both : Tables → Parts → Xinu
  with_both t p = record { tables = t; harts = new.harts; memory = new.memory; parts = p }

  same : with_both old.tables old.parts ≡ new
  unfolding with_both
  same = ap (λ t. with_both t old.parts) (sym tables) ∙ ap (with_both new.tables) (sym parts)

  pub plain_edges : edges_in n (Some u) None old new ledger ≡ []
  unfolding edges_in with_both
  plain_edges = subst (λ (s : Xinu). edges_in n (Some u) None old s ledger ≡ []) same
      (edges_none n u old.tables old.parts old.harts new.harts old.memory new.memory ledger)

  pub plain_entries : HasSameEntries (ledger_next n (Some u) None old new ledger) ledger
  unfolding ledger_next with_both
  plain_entries = subst (λ (s : Xinu). HasSameEntries (ledger_next n (Some u) None old s ledger) ledger) same
      (entries_same n u old.tables old.parts old.harts new.harts old.memory new.memory ledger)
