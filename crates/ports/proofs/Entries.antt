-- The ports that entries and messages stand for, and how they change with them.
use Rattle.std.proofs.Common.{◌≡◌, ◌∙◌, ℕ, zero, suc, ◌+◌, ◌<◌, ℤ, pos, negsuc, ◌≤◌, ◌≤ℤ◌, Bool, true, false, cond, List, [], ◌∷◌, ◌++◌, length, drop, get_or, set, replicate, Option, Some, None, refl, sym, ap, subst, inl, inr, arith}
use Rattle.std.specs.Prelude.{IfSome, IsSome, nat_abs}
use Rattle.std.specs.Option.{option_map}
use Rattle.std.proofs.lemmas.Bool.{cases_eq, cases_lt}
use Rattle.std.proofs.lemmas.Int.{ints}
use Rattle.std.proofs.lemmas.List.{get_or_default, get_or-set_other, get_or-set_same, length-set, set_past, set-get_or}
use Rattle.xinu_model.specs.Ports.Queues.{MessagePort, PortQueue, first_ports, nodes, port_at, queued}
use Rattle.ports.specs.declared.table.PortEntry.{PortEntry}
use Rattle.ports.specs.declared.table.PortHead.{PortHead}
use Rattle.ports.specs.Nodes.{queue_at, total, with_queue}
use Rattle.ports.specs.Calls.{emptied, with_last, with_rest}
use Rattle.xinu_model.specs.Ports.Calls.{renewed}
use Rattle.ports.specs.Table.{IsEntry, IsTable, PortTable, entry_at, head_of, no_entry, port_of, ports_of, queue_of}

-- a port is that of its entry and its messages
pub port_is : (es : List PortEntry) (qs : List (List ℕ)) (q : ℕ) → length es ≡ length qs → port_at (ports_of es qs) q ≡ port_of (entry_at es q) (queue_at qs q)
port_is [] [] zero n = refl
port_is [] [] (suc q) n = refl
port_is [] (l ∷ qs) q n = absurd (omega (arith, n))
port_is (e ∷ es) [] q n = absurd (omega (arith, n))
port_is (e ∷ es) (l ∷ qs) zero n = refl
port_is (e ∷ es) (l ∷ qs) (suc q) n = port_is es qs q (omega (arith, n))

-- there are as many entries as queues
same_length : (es : List PortEntry) (qs : List (List ℕ)) → IsTable es qs → length es ≡ length qs
same_length es qs k = k.entries ∙ sym k.queues

-- the same of a table that is seen
pub port_seen : (es : List PortEntry) (qs : List (List ℕ)) (next : ℕ) (t : PortTable) (q : ℕ) → IsTable es qs → record { ports = ports_of es qs; next_port = next } ≡ t
    → port_at t.ports q ≡ port_of (entry_at es q) (queue_at qs q)
port_seen es qs next t q k v = ap (λ (t : PortTable). port_at t.ports q) (sym v) ∙ port_is es qs q (same_length es qs k)

-- the table that is seen
abbrev pub seen : List PortEntry → List (List ℕ) → ℕ → PortTable
seen es qs next = record { ports = ports_of es qs; next_port = next }

-- another entry with other messages
pub port_changed : (es : List PortEntry) (qs : List (List ℕ)) (q : ℕ) (e : PortEntry) (l : List ℕ)
    → ports_of (set es q e) (with_queue q l qs) ≡ set (ports_of es qs) q (port_of e l)
port_changed [] qs q e l = refl
port_changed (x ∷ es) [] zero e l = refl
port_changed (x ∷ es) [] (suc q) e l = refl
port_changed (x ∷ es) (m ∷ qs) zero e l = refl
port_changed (x ∷ es) (m ∷ qs) (suc q) e l = ap (λ r. port_of x m ∷ r) (port_changed es qs q e l)

-- other messages
pub messages_changed : (es : List PortEntry) (qs : List (List ℕ)) (q : ℕ) (l : List ℕ)
    → ports_of es (with_queue q l qs) ≡ set (ports_of es qs) q (port_of (entry_at es q) l)
messages_changed es qs q l =
    ap (λ x. ports_of x (with_queue q l qs)) (sym (set-get_or es q no_entry)) ∙ port_changed es qs q (entry_at es q) l

-- the table is one again if the entry and its messages agree
pub table_changed : (es : List PortEntry) (qs : List (List ℕ)) (q : ℕ) (e : PortEntry) (l : List ℕ) → IsTable es qs → q < 30 → IsEntry e.head l
    → IsTable (set es q e) (with_queue q l qs)
table_changed es qs q e l k lt h = record {
  entries = length-set es q e ∙ k.entries;
  queues = length-set qs q l ∙ k.queues;
  each = λ r. elim (cases_eq r q) [
    | inl same ↦ (
        let A : PortEntry → Type 0 = λ x. IsEntry x.head l in
        let B : List ℕ → Type 0 = λ m. IsEntry (entry_at (set es q e) q).head m in
        let C : ℕ → Type 0 = λ r. IsEntry (entry_at (set es q e) r).head (queue_at (with_queue q l qs) r) in
        let n = k.entries in let m = k.queues in
        subst C (sym same) (subst B (sym (get_or-set_same qs q l [] (omega (arith, m, lt)))) (subst A (sym (get_or-set_same es q e no_entry (omega (arith, n, lt)))) h)))
    | inr other ↦ (
        let A : PortEntry → Type 0 = λ x. IsEntry x.head (queue_at qs r) in
        let B : List ℕ → Type 0 = λ m. IsEntry (entry_at (set es q e) r).head m in
        subst B (sym (get_or-set_other qs q r l [] other)) (subst A (sym (get_or-set_other es q r e no_entry other)) (k.each r)))
  ];
}

-- the same if the entry stays
pub table_kept : (es : List PortEntry) (qs : List (List ℕ)) (q : ℕ) (l : List ℕ) → IsTable es qs → IsEntry (entry_at es q).head l
    → IsTable es (with_queue q l qs)
table_kept es qs q l k h = elim (cases_lt q 30) [
  | inl lt ↦ (
      let F : List PortEntry → Type 0 = λ x. IsTable x (with_queue q l qs) in
      subst F (set-get_or es q no_entry) (table_changed es qs q (entry_at es q) l k lt h))
  | inr le ↦ (
      let F : List (List ℕ) → Type 0 = λ x. IsTable es x in
      let n = k.queues in subst F (sym (set_past qs q l (omega (arith, n, le)))) k)
]

-- a number that isn't negative
pub pos_abs : (z : ℤ) → pos 0 ≤ℤ z → z ≡ pos (nat_abs z)
pos_abs (pos n) h = refl
pos_abs (negsuc n) h = absurd (omega (arith, ints, h))

-- the head of a port is read back
pub head_back : (o : Option PortHead) (l : List ℕ) → IsEntry o l → o ≡ option_map head_of (option_map (queue_of l) o)
head_back None l k = refl
head_back (Some h) l k = ap (λ n. Some (record { first_count = n; send = h.send; receive = h.receive })) (pos_abs h.first_count k)

-- a head read back without messages
pub emptied_head : (o : Option PortQueue) → option_map (queue_of []) (option_map head_of o) ≡ emptied o
emptied_head None = refl
emptied_head (Some queue) = refl

-- its first count isn't negative
pub head_counted : (o : Option PortHead) (l : List ℕ) → IsEntry o l → IfSome o (λ h. pos 0 ≤ℤ h.first_count)
head_counted None l k = tt
head_counted (Some h) l k = k

-- an entry whose first count isn't negative agrees with no messages
pub entry_of : (o : Option PortHead) → IfSome o (λ h. pos 0 ≤ℤ h.first_count) → IsEntry o []
entry_of None k = refl
entry_of (Some h) k = k

-- the messages of a port are read back
pub queued_back : (o : Option PortHead) (l : List ℕ) → IsEntry o l → queued (option_map (queue_of l) o) ≡ l
queued_back None l k = sym k
queued_back (Some h) l k = refl

-- how many messages all ports hold
pub nodes_are : (es : List PortEntry) (qs : List (List ℕ)) → length es ≡ length qs → ((q : ℕ) → IsEntry (entry_at es q).head (queue_at qs q)) → nodes (ports_of es qs) ≡ total qs
nodes_are [] [] n k = refl
nodes_are [] (l ∷ qs) n k = absurd (omega (arith, n))
nodes_are (e ∷ es) [] n k = absurd (omega (arith, n))
nodes_are (e ∷ es) (l ∷ qs) n k =
    let a = ap length (queued_back e.head l (k 0)) in
    let b = nodes_are es qs (omega (arith, n)) (λ q. k (suc q)) in
    omega (arith, a, b)

-- the same of a table that is seen
pub nodes_seen : (es : List PortEntry) (qs : List (List ℕ)) (next : ℕ) (t : PortTable) → IsTable es qs → record { ports = ports_of es qs; next_port = next } ≡ t
    → nodes t.ports ≡ total qs
nodes_seen es qs next t k v = ap (λ (t : PortTable). nodes t.ports) (sym v) ∙ nodes_are es qs (same_length es qs k) k.each

-- a message was put last
pub last_put : (ports : List MessagePort) (next q m : ℕ) (e : PortEntry) (l : List ℕ) → port_at ports q ≡ port_of e l → (h : PortHead) → e.head ≡ Some h
    → record { ports = set ports q (port_of e (l ++ m ∷ [])); next_port = next } ≡ with_last (port_at ports q).queue q m (record { ports = ports; next_port = next })
last_put ports next q m e l p h is =
    let F : ℕ → PortTable = λ s. record { ports = set ports q (record { seq = s; queue = Some (queue_of (l ++ m ∷ []) h) }); next_port = next } in
    rw (p, is) (ap F (sym (ap (λ (x : MessagePort). x.seq) p)))

-- the first message was taken
pub first_taken : (ports : List MessagePort) (next q : ℕ) (e : PortEntry) (l : List ℕ) → port_at ports q ≡ port_of e l → (h : PortHead) → e.head ≡ Some h
    → record { ports = set ports q (port_of e (drop 1 l)); next_port = next } ≡ with_rest (port_at ports q).queue q (record { ports = ports; next_port = next })
first_taken ports next q e l p h is =
    let F : ℕ → PortTable = λ s. record { ports = set ports q (record { seq = s; queue = Some (queue_of (drop 1 l) h) }); next_port = next } in
    rw (p, is) (ap F (sym (ap (λ (x : MessagePort). x.seq) p)))

-- the ports at the start
pub ports_start : ports_of (replicate 30 no_entry) (replicate 30 []) ≡ first_ports
unfolding first_ports
ports_start = refl

-- each entry agrees then
pub table_start : IsTable (replicate 30 no_entry) (replicate 30 [])
table_start = record { entries = refl; queues = refl; each = λ q. agrees 30 30 q }
  where
    agrees : (n m q : ℕ) → IsEntry (entry_at (replicate n no_entry) q).head (queue_at (replicate m []) q)
    agrees zero zero zero = refl
    agrees zero zero (suc q) = refl
    agrees zero (suc m) zero = refl
    agrees zero (suc m) (suc q) = agrees zero m q
    agrees (suc n) zero zero = refl
    agrees (suc n) zero (suc q) = agrees n zero q
    agrees (suc n) (suc m) zero = refl
    agrees (suc n) (suc m) (suc q) = agrees n m q

-- a port that isn't in use has no first message
pub none_taken : (ports : List MessagePort) (next q : ℕ) (e : PortEntry) (l : List ℕ) → port_at ports q ≡ port_of e l → e.head ≡ None
    → record { ports = ports; next_port = next } ≡ with_rest (port_at ports q).queue q (record { ports = ports; next_port = next })
none_taken ports next q e l p is = rw (p, is) refl

-- an entry agrees with fewer messages
pub agrees_rest : (o : Option PortHead) (l : List ℕ) → IsEntry o l → IsEntry o (drop 1 l)
agrees_rest None l k = ap (drop 1) k
agrees_rest (Some h) l k = k

-- an entry in use agrees with any messages
pub agrees_used : (o : Option PortHead) (l m : List ℕ) → IsEntry o l → IsSome (option_map (queue_of l) o) → IsEntry o m
agrees_used None l m k u = absurd (cc)
agrees_used (Some h) l m k u = k

-- whether a port is in use is read off its entry
pub head_used : (o : Option PortHead) (l : List ℕ) → IsSome (option_map (queue_of l) o) → (h : PortHead) × (o ≡ Some h)
head_used None l u = absurd (cc)
head_used (Some h) l u = (h, refl)

-- the sequence number of a port is that of its entry
pub seq_is : (es : List PortEntry) (qs : List (List ℕ)) (next : ℕ) (t : PortTable) (q i : ℕ) (r : PortEntry) → IsTable es qs → record { ports = ports_of es qs; next_port = next } ≡ t
    → i ≡ q → i < 30
    → (get_or es i r).seq ≡ (port_at t.ports q).seq
seq_is es qs next t q i r k v is lt =
    let n = k.entries in
    ap (λ (e : PortEntry). e.seq) (get_or_default es i r no_entry (omega (arith, lt, n)) ∙ ap (entry_at es) is)
    ∙ sym (ap (λ (p : MessagePort). p.seq) (port_seen es qs next t q k v))

-- the messages of a port are those of its queue
pub messages_are : (es : List PortEntry) (qs : List (List ℕ)) (next : ℕ) (t : PortTable) (q : ℕ) → IsTable es qs → record { ports = ports_of es qs; next_port = next } ≡ t
    → queue_at qs q ≡ queued (port_at t.ports q).queue
messages_are es qs next t q k v =
    sym (queued_back (entry_at es q).head (queue_at qs q) (k.each q)) ∙ sym (ap (λ (p : MessagePort). queued p.queue) (port_seen es qs next t q k v))

-- a port has another head and the next number, and no messages
pub renewed_table : (es : List PortEntry) (qs ns : List (List ℕ)) (next : ℕ) (t : PortTable) (q i s : ℕ) (head : Option PortHead)
    → record { ports = ports_of es qs; next_port = next } ≡ t → i ≡ q → s ≡ (port_at t.ports q).seq → ns ≡ with_queue q [] qs
    → seen (set es i (record { seq = s + 1; head = head })) ns next
    ≡ record { ports = renewed q (option_map (queue_of []) head) t.ports; next_port = t.next_port }
renewed_table es qs ns next t q i s head v is number none =
    let F : ℕ → PortTable = λ i. record { ports = ports_of (set es i (record { seq = s + 1; head = head })) ns; next_port = next } in
    let G : List (List ℕ) → PortTable = λ ns. record { ports = ports_of (set es q (record { seq = s + 1; head = head })) ns; next_port = next } in
    let H : List MessagePort → PortTable = λ ports. record { ports = ports; next_port = next } in
    let I : PortTable → PortTable = λ t. record { ports = set t.ports q (record { seq = s + 1; queue = option_map (queue_of []) head }); next_port = t.next_port } in
    let J : ℕ → PortTable = λ s. record { ports = set t.ports q (record { seq = s + 1; queue = option_map (queue_of []) head }); next_port = t.next_port } in
    let a = ap F is in let b = ap G none in let c = ap H (port_changed es qs q (record { seq = s + 1; head = head }) []) in let d = ap I v in let e = ap J number in
    a ∙ b ∙ c ∙ d ∙ e

-- the table once a message was put last
pub put_table : (es : List PortEntry) (qs ns : List (List ℕ)) (next : ℕ) (t : PortTable) (q m : ℕ) → IsTable es qs
    → record { ports = ports_of es qs; next_port = next } ≡ t → IsSome (port_at t.ports q).queue
    → ns ≡ with_queue q (queue_at qs q ++ m ∷ []) qs
    → record { ports = ports_of es ns; next_port = next } ≡ with_last (port_at t.ports q).queue q m t
put_table es qs ns next t q m k v used put =
    let e = entry_at es q in
    let l = queue_at qs q in
    let P : PortTable → Type 0 = λ t. record { ports = ports_of es ns; next_port = next } ≡ with_last (port_at t.ports q).queue q m t in
    let G : List (List ℕ) → PortTable = λ ns. record { ports = ports_of es ns; next_port = next } in
    let H : List MessagePort → PortTable = λ ports. record { ports = ports; next_port = next } in
    let u = head_used e.head l (subst (λ (p : MessagePort). IsSome p.queue) (port_seen es qs next t q k v) used) in
    let a = ap G put in
    let b = ap H (messages_changed es qs q (l ++ m ∷ [])) in
    subst P v (a ∙ b ∙ last_put (ports_of es qs) next q m e l (port_is es qs q (same_length es qs k)) u.0 u.1)

-- the table once the first message was taken
pub take_table : (es : List PortEntry) (qs ns : List (List ℕ)) (next : ℕ) (t : PortTable) (q : ℕ) → IsTable es qs
    → record { ports = ports_of es qs; next_port = next } ≡ t
    → ns ≡ with_queue q (drop 1 (queue_at qs q)) qs
    → record { ports = ports_of es ns; next_port = next } ≡ with_rest (port_at t.ports q).queue q t
take_table es qs ns next t q k v taken =
    let e = entry_at es q in
    let l = queue_at qs q in
    let P : PortTable → Type 0 = λ t. record { ports = ports_of es ns; next_port = next } ≡ with_rest (port_at t.ports q).queue q t in
    let G : List (List ℕ) → PortTable = λ ns. record { ports = ports_of es ns; next_port = next } in
    let H : List MessagePort → PortTable = λ ports. record { ports = ports; next_port = next } in
    let a = ap G taken in
    let b = ap H (messages_changed es qs q (drop 1 l)) in
    let p = port_is es qs q (same_length es qs k) in
    subst P v (go p (a ∙ b) e.head refl (k.each q))
  where
    go : port_at (ports_of es qs) q ≡ port_of (entry_at es q) (queue_at qs q)
        → seen es ns next ≡ record { ports = set (ports_of es qs) q (port_of (entry_at es q) (drop 1 (queue_at qs q))); next_port = next }
        → (o : Option PortHead) → (entry_at es q).head ≡ o → IsEntry o (queue_at qs q)
        → record { ports = ports_of es ns; next_port = next } ≡ with_rest (port_at (ports_of es qs) q).queue q (record { ports = ports_of es qs; next_port = next })
    go p x (Some h) is agrees = x ∙ first_taken (ports_of es qs) next q (entry_at es q) (queue_at qs q) p h is
    go p x None is agrees =
        ap (λ ns. record { ports = ports_of es ns; next_port = next }) (taken ∙ ap (λ l. with_queue q l qs) (ap (drop 1) agrees ∙ sym agrees) ∙ set-get_or qs q [])
        ∙ none_taken (ports_of es qs) next q (entry_at es q) (queue_at qs q) p is

-- the first count of a port whose head was read is a signed number
pub first_signed : (o : Option PortQueue) (b : Bool) (h : PortHead) (queue : PortQueue) → Some h ≡ option_map head_of (cond b o None) → o ≡ Some queue
    → h.first_count ≤ℤ pos 2147483647 → queue.first_count ≤ 2147483647
first_signed o false h queue e is fits = absurd (cc)
first_signed o true h queue e is fits =
    let f : Some h ≡ Some (head_of queue) = e ∙ ap (option_map head_of) is in
    let same : h ≡ head_of queue = cc in
    let g = ap (λ (x : PortHead). x.first_count) same in
    omega (arith, ints, g, fits)
