use Rattle.std.proofs.Common.{◌≡◌, ◌+◌, ◌*◌, ◌≤◌, ◌<◌, ℕ, List, length, ap, sym, ◌∙◌, subst, arith, Option, Some}
use Rattle.file_server.specs.Settled.{DiffersIn}
use Rattle.file_server.proofs.Settling.{one_more}
use Rattle.lfs_check.specs.Disks.{block_put}
use Rattle.local_files.specs.Resting.{IsOnDisk}
use Rattle.local_files.specs.Standing.{served_by, wanted}
use Rattle.local_files.specs.declared.BlockWork.{BlockWork}
use Rattle.local_files.specs.declared.BlockWork.TheVariants.{Write}
use Rattle.file_server.proofs.settled.note_write.Goals as goal

pub returns-then-len-lt-MOST : goal.returns-then-len-lt-MOST
returns-then-len-lt-MOST c = record {
  follows = λ base disk s f. record {
    differs = λ few. (
        let e = c.args.files.now in let n = c.in-Some-Write.n in let old = c.args.written.now.items in
        let is : wanted e ≡ Some (Write n) = sym c.wants.ensures ∙ c.in-Some-Write.is ∙ ap Some c.in-Some-Write.field-0-is in
        let T : Option BlockWork → Type 0 = λ o. IsOnDisk o e.blocks in
        let below : n < e.blocks = subst T is (c.wants_a_block_of_the_disk.ensures.within base disk s) in
        let whole = s.whole in let blocks = s.blocks in
        let fits : 512 * n + 512 ≤ length disk = omega (arith, below, whole, blocks) in
        let len = c.push.ensures.len in
        let few_before : length old < 256 = omega (arith, len, few) in
        let L : List ℕ → Type 0 = λ l. DiffersIn l base (block_put disk n e.block) in
        let W : Option BlockWork → Type 0 = λ o. DiffersIn c.push.new.self.items base (served_by o e.block disk) in
        subst W (sym is) (subst L (sym c.push.ensures.items) (one_more n old base disk e.block (f.differs few_before) fits s.outgoing)));
  };
}
