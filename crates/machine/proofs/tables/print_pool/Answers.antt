use Rattle.std.proofs.Common.{◌≡◌, ◌∙◌, ◌∷◌, [], length, map, ap, subst}
use Rattle.host_port.specs.Printing.{Prints}
use Rattle.xinu_base.specs.declared.lines.TranscriptLine.{TranscriptLine}
use Rattle.xinu_base.specs.declared.lines.TranscriptLine.TheVariants.{Buffer, Pool}
use Rattle.xinu_model.specs.Pools.Buffers.{held_in, pool_at}
use Rattle.xinu_model.specs.Text.{shown}
use Rattle.machine.proofs.ShownLines.{shown_both}
use Rattle.machine.proofs.tables.print_pool.Goals as goal

pub returns : goal.returns
returns g c =
    let i = c.args.pool in
    let pool = pool_at c.args.pools.now i in
    let size = c.size_of.result in
    let free = c.free_count.result in
    let held = c.held.result in
    let P : TranscriptLine → Type 0 = λ l. Prints c.args.out.now c.print_buffers.new.out (g.H.Host.view c.args.host.now) (g.H.Host.view c.print_buffers.new.host) (shown c.args.out.now.plain (l ∷ map (Buffer i) pool.free)) in
    let same : Pool i size free held ≡ Pool i pool.size (length pool.free) (held_in pool)
    = ap (λ n. Pool i n free held) c.size_of.ensures.size
    ∙ ap (λ n. Pool i pool.size n held) c.free_count.ensures.count
    ∙ ap (λ n. Pool i pool.size (length pool.free) n) c.held.ensures.held in
    record { prints = subst P same (shown_both _ _ _ _ _ _ (Pool i size free held ∷ []) (map (Buffer i) pool.free) c.print_line.ensures.prints c.print_buffers.ensures.prints) }
