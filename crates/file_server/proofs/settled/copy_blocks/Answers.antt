use Rattle.std.proofs.Common.{◌+◌, ℕ, List, drop, sym, subst}
use Rattle.std.proofs.lemmas.List.{drop_all}
use Rattle.file_server.specs.Settled.{DiffersIn}
use Rattle.file_server.proofs.Settling.{next_left, none_left}
use Rattle.file_server.proofs.settled.copy_blocks.Goals as goal

pub loop-n-preserved : goal.loop-n-preserved
loop-n-preserved c =
    let i = c.loop-n.n-index in let blocks = c.args.blocks.now in let disk = c.args.disk.now in
    let P : List ℕ → Type 0 = λ l. DiffersIn (drop (i + 1) blocks) l disk in
    record { left = subst P (sym c.copy_block.ensures.block) (next_left i blocks c.loop-n.settled disk c.loop-n-test.true c.loop-n.invariant.left) }

pub returns : goal.returns
returns c =
    let blocks = c.args.blocks.now in let disk = c.args.disk.now in
    let P : List ℕ → Type 0 = λ l. DiffersIn l c.loop-n.settled disk in
    record { same = none_left c.loop-n.settled disk (subst P (drop_all c.loop-n.n-index blocks c.loop-n-test.false) c.loop-n.invariant.left) }
