use Rattle.std.proofs.Common.{◌≡◌, ◌∙◌, ◌++◌, List, ℕ, length, take, drop, ap, sym, rules, arith}
use Rattle.reference_devices.proofs.BlockBytes.{range_taken}
use Rattle.reference_devices.proofs.disk.block_in_ram.Goals as goal

pub returns : goal.returns
returns c =
    let memory = c.args.m.now.state.memory in
    let block = c.unwrap-block.result.now in
    let e : block ≡ take 512 (drop c.args.at memory) = search rules in
    let whole : length block ≡ 512 = search rules in
    record {
      bytes = c.in_ok-append.ensures.appended ∙ ap (λ (l : List ℕ). l ++ block) c.new-bytes.ensures.items ∙ e
          ∙ range_taken memory c.args.at 512 (omega arith) (ap length (sym e) ∙ whole);
    }
