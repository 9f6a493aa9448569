use Rattle.std.proofs.Common.{◌∙◌, ap}
use Rattle.xinu_model.specs.Machine.{CallState, with_tables}
use Rattle.xinu_model.specs.Semaphores.Counts.{free_semaphore, make_semaphore, with_semaphore}
use Rattle.xinu_model.specs.Tables.{no_semaphore}
use Rattle.xinu_base.specs.declared.semaphores.Owner.TheVariants as owner
use Rattle.reference_ports.proofs.NewPorts.{no_second}
use Rattle.reference_ports.proofs.ports.create_port.Goals as goal

pub returns-in_default-free_semaphore-2 : goal.returns-in_default-free_semaphore-2
returns-in_default-free_semaphore-2 c =
    let d = c.args.m.now in
    let q = c.in-Some.q in
    let send = c.in-Some-free_semaphore.send in
    let made = c.own_semaphore.ensures.made in
    let two = c.in_default-free_semaphore-2.ensures.found
    ∙ ap (λ (x : CallState). free_semaphore x.state.tables) made in
    let back = c.take_back.ensures.back
    ∙ ap (λ (x : CallState). with_tables (record (with_semaphore send no_semaphore x.state.tables) { last_semaphore = c.last_semaphore-last.result }) x) made
    ∙ ap (λ l. with_tables (record (with_semaphore send no_semaphore (make_semaphore send (owner.Port q) c.args.n d.state.tables)) { last_semaphore = l }) d)
    c.last_semaphore-last.ensures.last in
    record {
      created = no_second d c.take_back.new.m q send c.args.n c.requires.start c.requires.sound c.in-Some.ensures.found
          c.in-Some-free_semaphore.ensures.found two back;
    }
