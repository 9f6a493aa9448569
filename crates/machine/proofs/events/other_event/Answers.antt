use Rattle.std.proofs.Common.{◌≡◌, false, ap, refl, subst}
use Rattle.host_port.specs.Printing.{Prints}
use Rattle.xinu_base.specs.declared.events.Event.TheVariants.{Disk0, Disk1, Dump, Fail0, Key, Tick, Tx}
use Rattle.xinu_model.specs.Machine.{CallState, Xinu}
use Rattle.xinu_model.specs.Text.{shown, tables_of}
use Rattle.machine.proofs.Happenings.{changes_as, chosen_as, event_did, none_chosen, nothing_printed, other_does, unchanged}
use Rattle.machine.proofs.events.other_event.Goals as goal

pub returns-in-Tick : goal.returns-in-Tick
returns-in-Tick g c =
    let s = c.args.kernel.now.came.call.state in
    record {
      effect = event_did s c.tick.new.kernel.came.call.state c.args.event Tick c.tick.result _ _ _ _ c.in-Tick.is c.tick.ensures.effect;
      idle = c.tick.ensures.idle;
      sound = c.tick.ensures.sound;
      image = changes_as c.args.event Tick _ _ _ c.in-Tick.is c.tick.ensures.image;
    }

pub returns-in-Key : goal.returns-in-Key
returns-in-Key g c =
    let s = c.args.kernel.now.came.call.state in
    record {
      effect = event_did s c.receive.new.kernel.came.call.state c.args.event (Key c.in-Key.b) c.receive.result _ _ _ _ c.in-Key.is c.receive.ensures.effect;
      idle = c.receive.ensures.idle;
      sound = c.receive.ensures.sound;
      image = changes_as c.args.event (Key c.in-Key.b) _ _ _ c.in-Key.is c.receive.ensures.image;
    }

pub returns-in-Tx : goal.returns-in-Tx
returns-in-Tx g c =
    let s = c.args.kernel.now.came.call.state in
    record {
      effect = event_did s c.transmit.new.kernel.came.call.state c.args.event Tx c.transmit.result _ _ _ _ c.in-Tx.is c.transmit.ensures.effect;
      idle = c.transmit.ensures.idle;
      sound = c.transmit.ensures.sound;
      image = changes_as c.args.event Tx _ _ _ c.in-Tx.is c.transmit.ensures.image;
    }

pub returns-in-Disk0 : goal.returns-in-Disk0
returns-in-Disk0 g c =
    let s = c.args.kernel.now.came.call.state in
    record {
      effect = event_did s c.complete.new.kernel.came.call.state c.args.event Disk0 c.complete.result _ _ _ _ c.in-Disk0.is c.complete.ensures.effect;
      idle = c.complete.ensures.idle;
      sound = c.complete.ensures.sound;
      image = changes_as c.args.event Disk0 _ _ _ c.in-Disk0.is c.complete.ensures.image;
    }

pub returns-in-Fail0 : goal.returns-in-Fail0
returns-in-Fail0 g c =
    let s = c.args.kernel.now.came.call.state in
    record {
      effect = event_did s c.complete-in-Fail0.new.kernel.came.call.state c.args.event Fail0 c.complete-in-Fail0.result _ _ _ _ c.in-Fail0.is c.complete-in-Fail0.ensures.effect;
      idle = c.complete-in-Fail0.ensures.idle;
      sound = c.complete-in-Fail0.ensures.sound;
      image = changes_as c.args.event Fail0 _ _ _ c.in-Fail0.is c.complete-in-Fail0.ensures.image;
    }

pub returns-in-Disk1 : goal.returns-in-Disk1
returns-in-Disk1 g c =
    let s = c.args.kernel.now.came.call.state in
    record {
      effect = chosen_as s c.complete_files.new.kernel.came.call.state c.args.event Disk1 c.complete_files.result _ _ _ _ c.in-Disk1.is c.complete_files.ensures.effect;
      idle = c.complete_files.ensures.idle;
      sound = c.complete_files.ensures.sound;
      image = changes_as c.args.event Disk1 _ _ _ c.in-Disk1.is c.complete_files.ensures.image;
    }

pub returns-in-Dump : goal.returns-in-Dump
returns-in-Dump g c =
    let s = c.args.kernel.now.came.call.state in
    let e : c.state.result.now.call.state ≡ s = ap (λ (d : CallState). d.state) c.state.ensures.state in
    let P : Xinu → Type 0
    = λ u. Prints c.args.out.now c.print_tables.new.out (g.H.Host.view c.args.host.now) (g.H.Host.view c.print_tables.new.host) (shown c.args.out.now.plain (tables_of u)) in
    record {
      effect = event_did s s c.args.event Dump false _ _ _ _ c.in-Dump.is
          (record { state = refl; panics = refl; prints = subst P e c.print_tables.ensures.prints });
      idle = c.requires.idle;
      sound = c.requires.sound;
      image = changes_as c.args.event Dump _ _ _ c.in-Dump.is refl;
    }

pub returns-in_default : goal.returns-in_default
returns-in_default g c =
    let s = c.args.kernel.now.came.call.state in
    let does =
    other_does s c.args.event c.requires.not_step c.in_default.not-Tick c.in_default.not-Key c.in_default.not-Tx c.in_default.not-Disk0 c.in_default.not-Fail0
    c.in_default.not-Disk1 c.in_default.not-Dump in
    record {
      effect = none_chosen s s c.args.event _ _ _ _ _ _ does (nothing_printed s c.args.out.now (g.H.Host.view c.args.host.now));
      idle = c.requires.idle;
      sound = c.requires.sound;
      image = unchanged c.args.event _ c.args.kernel.now.image c.in_default.not-Disk1;
    }
