use Rattle.std.proofs.Common.{ap, length, ◌∙◌}
use Rattle.kernel_state.proofs.Values.{call_is}
use Rattle.machine.proofs.Dumps.{tables_printed}
use Rattle.machine.proofs.tables.print_tables.Goals as goal
use Rattle.xinu_model.specs.Machine.{CallState}
use Rattle.xinu_model.specs.Text.{device_lines}

pub print_ports-requires : goal.print_ports-requires
print_ports-requires g c = record { many = ap (λ (d : CallState). length d.state.parts.ports) (call_is c.k.view_is) ∙ c.requires.sound.ports.many }

pub print_devices-requires : goal.print_devices-requires
print_devices-requires g c = record {
  six = ap (λ (d : CallState). length d.state.parts.devices.files.system.devices) (call_is c.k.view_is) ∙ c.requires.sound.devices.files.itself.system.six;
}

pub returns : goal.returns
returns g c =
    let s = c.args.k.now.call.state in
    let k = c.k.inside in
    let v = call_is c.k.view_is in
    record {
      prints = tables_printed s k.tables k.heap k.pools k.ports.ports _ c.ticks.result c.quantum.result _ _ _ _ _ _ _ _ _ _ _ _ _ _ _ _ _ _ _ _
          (ap (λ (d : CallState). d.state.tables) v) (ap (λ (d : CallState). d.state.parts.heap) v) (ap (λ (d : CallState). d.state.parts.pools) v)
          (ap (λ (d : CallState). d.state.parts.ports) v) (ap (λ (d : CallState). device_lines d.state.parts.devices) v) c.ticks.ensures.ticks c.quantum.ensures.quantum
          c.print_line.ensures.prints c.print_processes.ensures.prints c.print_ready.ensures.prints c.print_semaphores.ensures.prints c.print_sleepers.ensures.prints
          c.print_free.ensures.prints c.print_pools.ensures.prints c.print_ports.ensures.prints c.print_devices.ensures.prints;
    }
