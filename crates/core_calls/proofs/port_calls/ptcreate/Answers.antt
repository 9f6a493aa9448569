use Rattle.std.proofs.Common.{◌≡◌, ◌∙◌, pos, negsuc, ap, rules, sym, subst, w32}
use Rattle.std.proofs.lemmas.Int.{to_z-of_z}
use mir.Val.{SFits, of_z, to_z}
use Rattle.ports.specs.Calls.{with_made}
use Rattle.xinu_base.specs.declared.syscalls.Next.TheVariants.{Returns}
use Rattle.xinu_model.specs.Machine.{CallState, refused}
use Rattle.xinu_model.specs.Machine as machine
use Rattle.xinu_model.specs.Ports.Calls.{ptcreate}
use Rattle.xinu_model.specs.Tables.{Tables}
use Rattle.kernel_state.specs.Results.{came_to, IsStart}
use Rattle.kernel_state.specs.States.{kernel_state}
use Rattle.core_calls.proofs.PortCalls.{table_of}
use Rattle.core_calls.proofs.PortRenewals.{no_port_made, no_two_made, ptcreate_is}
use Rattle.kernel_state.proofs.Values.{call_is}
use Rattle.core_calls.proofs.port_calls.ptcreate.Goals as goal

pub returns-in_default-clause-ptcreate : goal.returns-in_default-clause-ptcreate
returns-in_default-clause-ptcreate c =
    let R : CallState → Type 0 = λ d. refused d.state ≡ ptcreate c.args.count d.state in
    ap (λ d. came_to d (Returns (negsuc 0))) c.requires.start.is
    ∙ subst R (call_is c.k.view_is) (no_port_made (kernel_state c.k.inside).state c.args.count c.in_default.ensures.found)

pub returns-in_default-make_two_semaphores-clause-ptcreate : goal.returns-in_default-make_two_semaphores-clause-ptcreate
returns-in_default-make_two_semaphores-clause-ptcreate c =
    let d = kernel_state c.k.inside in
    let begins = (subst IsStart (sym (call_is c.k.view_is)) c.requires.start).is in
    let fits : SFits w32 c.args.count = search rules in
    ap (λ (t : Tables). came_to (record d { state = record d.state { tables = t } }) (Returns (negsuc 0)))
    c.in_default-make_two_semaphores.ensures.made
    ∙ ap (λ d. came_to d (Returns (negsuc 0))) begins
    ∙ no_two_made d.state c.in-Some.q (to_z w32 (of_z w32 c.args.count)) c.in-Some.ensures.found c.in_default-make_two_semaphores.ensures.found
    ∙ ap (λ z. ptcreate z d.state) (to_z-of_z w32 c.args.count fits)
    ∙ ap (λ (d : CallState). ptcreate c.args.count d.state) (call_is c.k.view_is)

pub returns-clause-ptcreate : goal.returns-clause-ptcreate
returns-clause-ptcreate c =
    let d = kernel_state c.k.inside in
    let q = c.in-Some.q in
    let t = c.make_two_semaphores.new.self in
    let p = c.make.new.self in
    let z = to_z w32 (of_z w32 c.args.count) in
    let send = c.in-Some-make_two_semaphores.send in
    let receive = c.in-Some-make_two_semaphores.receive in
    let made : p ≡ with_made q (record { first_count = z; send = send; receive = receive }) (table_of d.state) = search rules in
    let begins = (subst IsStart (sym (call_is c.k.view_is)) c.requires.start).is in
    let fits : SFits w32 c.args.count = search rules in
    let value : to_z w32 c.index.result ≡ pos q = search rules in
    let W : CallState → CallState = λ d. record d {
      state = record d.state { tables = t; parts = record d.state.parts { ports = p.ports; next_port = p.next_port } };
    } in
    ap (λ v. machine.returns (W d) v) value
    ∙ ap (λ d. machine.returns (W d) (pos q)) begins
    ∙ ptcreate_is d.state q send receive z t p c.in-Some.ensures.found
    c.in-Some-make_two_semaphores.ensures'.found c.in-Some-make_two_semaphores.ensures'.made made
    ∙ ap (λ z. ptcreate z d.state) (to_z-of_z w32 c.args.count fits)
    ∙ ap (λ (d : CallState). ptcreate c.args.count d.state) (call_is c.k.view_is)
