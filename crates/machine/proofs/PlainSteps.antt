-- What holds of a machine between two events holds after steps that print nothing.
use Rattle.std.proofs.Common.{◌≡◌, ◌∙◌, ◌+◌, ◌≤◌, ℕ, false, drop, sym, ap, subst, arith}
use Rattle.std.specs.List.{list_all}
use Rattle.given_disks.specs.HeldFiles.{HoldsFiles}
use Rattle.kernel.specs.Values.{KernelValue}
use Rattle.kernel_state.specs.Results.{idle, IsIdle}
use Rattle.machine.specs.Machines.{booted_of, IsMachine}
use Rattle.machine.specs.Printed.{Booted}
use Rattle.machine.specs.declared.machine.Machine.TheInside.{Inside}
use Rattle.xinu_laws.proofs.PlainSteps.{steps_sound}
use Rattle.xinu_model.specs.Machine.{CallResult, Parts, Xinu}
use Rattle.xinu_model.specs.Ports.Queues.{port_at}
use Rattle.xinu_model.specs.Sound.State.{IsSound}
use Rattle.xinu_model.specs.Steps.{stepped_times}
use Rattle.xinu_model.specs.Tables.{is_free, Tables}

-- a kernel that is idle in some state is idle
idle_in : (k : CallResult) (s : Xinu) → k ≡ idle s → IsIdle k
idle_in k s e = record { is = e ∙ ap idle (sym (ap (λ (k : CallResult). k.call.state) e)) }

-- the machine after so many steps, whose tables and parts are as before
module _ (m : Inside) (b : Booted) (k : KernelValue) (count most : ℕ) (holds : IsMachine m) (view : booted_of m ≡ b) (goes_on : b.over ≡ false)
    (few : b.events + most ≤ 1000000000) (most_taken : count ≤ most) (is : k.came ≡ idle (stepped_times count m.kernel.came.call.state))
    (tables : k.came.call.state.tables ≡ m.kernel.came.call.state.tables) (parts : k.came.call.state.parts ≡ m.kernel.came.call.state.parts)
    (image : k.image ≡ m.kernel.image) where
  pub sound_after : IsSound k.came.call.state
  sound_after = subst IsSound (sym (ap (λ (k : CallResult). k.call.state) is)) (steps_sound count m.kernel.came.call.state holds.sound)

  pub machine_after : IsMachine (record m { kernel = k; events = m.events + count })
  machine_after =
      let same_ticks = ap (λ (t : Tables). t.ticks) tables in
      let ticks = holds.ticks in
      let events = ap (λ (b : Booted). b.events) view in
      let running : m.has_ended ≡ false = ap (λ (b : Booted). b.over) view ∙ goes_on in
      record {
        idle = idle_in k.came (stepped_times count m.kernel.came.call.state) is;
        sound = sound_after;
        holds = subst (λ w. HoldsFiles k.image w) (sym (ap (λ (p : Parts). p.devices.files) parts))
            (subst (λ l. HoldsFiles l m.kernel.came.call.state.parts.devices.files) (sym image) holds.holds);
        lives = λ _. ap (λ (t : Tables). list_all (λ p. is_free p.state) (drop 1 t.processes)) tables ∙ holds.lives running;
        ticks = omega (arith, same_ticks, ticks);
        numbers = λ q.
            let same = ap (λ (p : Parts). (port_at p.ports q).seq) parts in
            let number = holds.numbers q in
            omega (arith, same, number);
        few = omega (arith, events, few, most_taken);
      }
