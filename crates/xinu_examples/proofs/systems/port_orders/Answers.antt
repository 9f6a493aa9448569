use Rattle.xinu_examples.proofs.Computed.Ports.{prints_through_a_port, prints_messages_in_order, prints_order_at_a_delete, prints_receivers_after_senders, prints_stale_while_full, shows_messages_in_order_ports}
use Rattle.xinu_examples.proofs.systems.port_orders.Goals as goal

pub returns : goal.returns
returns c = record {
  through_a_port = prints_through_a_port;
  messages_in_order = prints_messages_in_order;
  order_at_a_delete = prints_order_at_a_delete;
  receivers_after_senders = prints_receivers_after_senders;
  stale_while_full = prints_stale_while_full;
  messages_in_order_ports = shows_messages_in_order_ports;
}
