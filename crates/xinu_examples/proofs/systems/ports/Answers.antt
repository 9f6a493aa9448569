use Rattle.xinu_examples.proofs.Computed.Calls.{prints_stale_sender, prints_panic, prints_buffers_through_a_port, prints_all_ports, shows_panics, shows_buffers_through_a_port_tables}
use Rattle.xinu_examples.proofs.systems.ports.Goals as goal

pub returns : goal.returns
returns c = record {
  stale_sender = prints_stale_sender;
  panic = prints_panic;
  buffers_through_a_port = prints_buffers_through_a_port;
  all_ports = prints_all_ports;
  panics = shows_panics;
  buffers_through_a_port_tables = shows_buffers_through_a_port_tables;
}
