use Rattle.std.proofs.Common.{◌≡◌, ◌∙◌, true, if◌then◌else◌, ap, rules, sym, subst}
use Rattle.xinu_base.specs.declared.processes.Rest.TheVariants.{GetBuf}
use Rattle.xinu_model.specs.Machine.{Xinu, CallResult, Waits}
use Rattle.xinu_model.specs.Pools.Buffers.{pool_at}
use Rattle.xinu_model.specs.Semaphores.Waiting.{await}
use Rattle.reference_ports.specs.FreeBuffers.{HasOwnFree}
use Rattle.reference_ports.proofs.FreeRoom.{own_free}
use Rattle.reference_ports.proofs.TokenTaken.{token_taken}
use Rattle.reference_ports.proofs.pools.getbuf.Goals as goal

pub take_buffer-requires-clause-own : goal.take_buffer-requires-clause-own
take_buffer-requires-clause-own c =
    let s = c.args.m.now.state in
    let m = c.await_token.new.self in
    let i = c.in-Some.i in
    let took : c.in_ok-await_token.field-0 ≡ true = search rules in
    let h : (then_ : Xinu → CallResult) → await c.index.result (GetBuf i) then_ s ≡ then_ m.state =
    λ then_. c.in_ok-await_token.ensures.awaits then_ ∙ ap (λ b. if b then then_ m.state else record { call = m; answer = Waits }) took in
    subst (λ (x : Xinu). HasOwnFree (pool_at x.parts.pools i)) (sym (token_taken c.index.result (GetBuf i) s m.state h).is)
    (own_free s.tables s.parts.pools i c.requires.pools)
