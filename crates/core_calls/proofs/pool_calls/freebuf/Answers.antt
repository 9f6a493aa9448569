use Rattle.std.proofs.Common.{◌∙◌, pos, negsuc, sym, ap}
use Rattle.xinu_base.specs.declared.syscalls.Next.TheVariants.{Returns}
use Rattle.xinu_model.specs.Pools.Calls.{freed_buffer}
use Rattle.kernel_state.specs.Results.{came_to}
use Rattle.core_calls.proofs.Disposals.{freebuf_frees, freebuf_refuses}
use Rattle.core_calls.proofs.pool_calls.freebuf.Goals as goal

pub returns-then-free_buffer-clause-freebuf : goal.returns-then-free_buffer-clause-freebuf
returns-then-free_buffer-clause-freebuf c = ap (λ d. came_to d (Returns (pos 0))) (c.free_buffer.ensures.freed ∙ ap (freed_buffer c.args.a) c.requires.start.is)
    ∙ freebuf_frees c.args.k.now.call.state c.args.a (sym c.if-free_buffer.ensures.held)

pub returns-else-free_buffer-clause-freebuf : goal.returns-else-free_buffer-clause-freebuf
returns-else-free_buffer-clause-freebuf c = ap (λ d. came_to d (Returns (negsuc 0))) (c.free_buffer.ensures.freed ∙ ap (freed_buffer c.args.a) c.requires.start.is)
    ∙ freebuf_refuses c.args.k.now.call.state c.args.a (sym c.if-free_buffer.ensures.held)
