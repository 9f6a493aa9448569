-- The entries and the messages are read back from the ports that they stand for.
use Rattle.std.proofs.Common.{◌≡◌, ◌∙◌, ℕ, zero, suc, List, [], ◌∷◌, length, map, Option, refl, sym, ap, arith}
use Rattle.std.specs.Option.{option_map}
use Rattle.xinu_model.specs.Ports.Queues.{MessagePort, queued}
use Rattle.ports.specs.declared.table.PortEntry.{PortEntry}
use Rattle.ports.specs.declared.table.PortHead.{PortHead}
use Rattle.ports.specs.Nodes.{queue_at}
use Rattle.ports.specs.Table.{IsEntry, IsTable, entry_at, head_of, port_of, ports_of}
use Rattle.ports.proofs.Entries.{head_back, queued_back}

-- the entry of a port
abbrev entry_back : MessagePort → PortEntry
entry_back port = record { seq = port.seq; head = option_map head_of port.queue }

-- the entries of ports
all_back : (es : List PortEntry) (qs : List (List ℕ)) → length es ≡ length qs → ((q : ℕ) → IsEntry (entry_at es q).head (queue_at qs q))
    → es ≡ map entry_back (ports_of es qs)
all_back [] [] n k = refl
all_back [] (l ∷ qs) n k = refl
all_back (e ∷ es) [] n k = absurd (omega (arith, n))
all_back (e ∷ es) (l ∷ qs) n k =
    ap (λ (h : Option PortHead). record { seq = e.seq; head = h } ∷ es) (head_back e.head l (k zero))
    ∙ ap (λ (rest : List PortEntry). entry_back (port_of e l) ∷ rest) (all_back es qs (omega (arith, n)) (λ q. k (suc q)))

-- the messages of ports
all_queued : (es : List PortEntry) (qs : List (List ℕ)) → length es ≡ length qs → ((q : ℕ) → IsEntry (entry_at es q).head (queue_at qs q))
    → qs ≡ map (λ (port : MessagePort). queued port.queue) (ports_of es qs)
all_queued [] [] n k = refl
all_queued [] (l ∷ qs) n k = absurd (omega (arith, n))
all_queued (e ∷ es) [] n k = absurd (omega (arith, n))
all_queued (e ∷ es) (l ∷ qs) n k =
    ap (λ m. m ∷ qs) (sym (queued_back e.head l (k zero)))
    ∙ ap (λ rest. queued (port_of e l).queue ∷ rest) (all_queued es qs (omega (arith, n)) (λ q. k (suc q)))

-- equal ports have equal entries
pub same_entries : (es fs : List PortEntry) (qs rs : List (List ℕ)) → IsTable es qs → IsTable fs rs → ports_of es qs ≡ ports_of fs rs → es ≡ fs
same_entries es fs qs rs k j same =
    all_back es qs (k.entries ∙ sym k.queues) k.each ∙ ap (map entry_back) same ∙ sym (all_back fs rs (j.entries ∙ sym j.queues) j.each)

-- and equal messages
pub same_messages : (es fs : List PortEntry) (qs rs : List (List ℕ)) → IsTable es qs → IsTable fs rs → ports_of es qs ≡ ports_of fs rs → qs ≡ rs
same_messages es fs qs rs k j same =
    all_queued es qs (k.entries ∙ sym k.queues) k.each ∙ ap (map (λ (port : MessagePort). queued port.queue)) same
    ∙ sym (all_queued fs rs (j.entries ∙ sym j.queues) j.each)
