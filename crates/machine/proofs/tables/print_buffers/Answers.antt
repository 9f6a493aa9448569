use Rattle.std.proofs.Common.{List, ℕ, arith, map, subst, sym, ◌∙◌}
use Rattle.std.proofs.lemmas.List.{take_all}
use Rattle.std.proofs.lemmas.Option.{get_or_from_slice_get, slice_get_within}
use Rattle.host_port.specs.Printing.{Prints}
use Rattle.xinu_base.specs.declared.lines.TranscriptLine.TheVariants.{Buffer}
use Rattle.xinu_model.specs.Pools.Buffers.{pool_at}
use Rattle.xinu_model.specs.Text.{shown}
use Rattle.machine.proofs.Walks.{printed_more}
use Rattle.machine.proofs.tables.print_buffers.Goals as goal

pub loop-k-preserved : goal.loop-k-preserved
loop-k-preserved g c =
    let free = (pool_at c.args.pools.now c.args.pool).free in
    let address = c.unwrap-address.result in
    let is = sym c.free_at.ensures.free ∙ c.unwrap-address.ensures in
    printed_more (Buffer c.args.pool) free c.loop-k.k address _ _ _ _ _ _ (slice_get_within free c.loop-k.k address is)
    (sym (get_or_from_slice_get free c.loop-k.k address address is)) c.loop-k.invariant c.print_line.ensures.prints

pub returns : goal.returns
returns g c =
    let free = (pool_at c.args.pools.now c.args.pool).free in
    let P : List ℕ → Type 0 = λ l. Prints c.args.out.now c.loop-k.out (g.H.Host.view c.args.host.now) (g.H.Host.view c.loop-k.host) (shown c.args.out.now.plain (map (Buffer c.args.pool) l)) in
    record { prints = subst P (take_all c.loop-k.k free (omega (arith, c.loop-k-test.false, c.free_count-k-end.ensures.count))) c.loop-k.invariant }
