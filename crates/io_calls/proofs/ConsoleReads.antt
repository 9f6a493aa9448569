-- The steps of a read.
use Rattle.std.proofs.Common.{◌≡◌, ◌∙◌, ℕ, suc, ◌+◌, ◌-◌, ◌<◌, ◌≤◌, Bool, true, false, Option, Some, None, pos, sym, ap, subst, arith}
use Rattle.io_calls.specs.Consoles.{Begins, if_taken, IsReading, unless_ended}
use Rattle.kernel_state.specs.Results.{came_to}
use Rattle.xinu_base.specs.declared.processes.Rest.TheVariants.{TtyRead}
use Rattle.xinu_base.specs.declared.processes.Span.{Span}
use Rattle.xinu_base.specs.declared.syscalls.Next.{Next}
use Rattle.xinu_base.specs.declared.syscalls.Next.TheVariants as next
use Rattle.xinu_model.specs.Console.Taking.{read_next, reads, span}
use Rattle.xinu_model.specs.Machine.{CallResult, CallState, Returns, Xinu}
use Rattle.xinu_model.specs.Semaphores.Waiting.{await}

-- one item of a read
reads_step : (want at done : ℕ) (s : Xinu) → done < want
    → reads (want - done) at done s ≡ await 0 (TtyRead (span at done want)) (read_next at done (reads (want - suc done) at (suc done))) s
reads_step want at done s h =
    let e : want - done ≡ suc (want - suc done) = omega (arith, h) in
    let f : done + suc (want - suc done) ≡ want = omega (arith, h) in
    ap (λ n. reads n at done s) e ∙ ap (λ w. await 0 (TtyRead (span at done w)) (read_next at done (reads (want - suc done) at (suc done))) s) f

module _ (part : Span) (first : Xinu) (done : ℕ) (d e : CallState) (took : Bool) (r : IsReading part first done d) (early : done < part.want)
    (waits : (then_ : Xinu → CallResult) → await 0 (TtyRead (span part.at done part.want)) then_ d.state ≡ if_taken took then_ e) where
  -- what the wait leaves to do
  after_wait : if_taken took (read_next part.at done (reads (part.want - suc done) part.at (suc done))) e ≡ reads (part.want - part.done) part.at part.done first
  after_wait = sym (waits (read_next part.at done (reads (part.want - suc done) part.at (suc done)))) ∙ sym (reads_step part.want part.at done d.state early) ∙ r.same

  -- The read waits.
  pub read_waits : took ≡ false → came_to e next.Waits ≡ reads (part.want - part.done) part.at part.done first
  read_waits t = sym (ap (λ b. if_taken b (read_next part.at done (reads (part.want - suc done) part.at (suc done))) e) t) ∙ after_wait

  module _ (t : took ≡ true) (m : CallState) (result : Option Next)
      (handled : (then_ : Xinu → CallResult) → read_next part.at done then_ e.state ≡ unless_ended result then_ m) where
    -- what an item leaves to do
    after_item : unless_ended result (reads (part.want - suc done) part.at (suc done)) m ≡ reads (part.want - part.done) part.at part.done first
    after_item =
        sym (handled (reads (part.want - suc done) part.at (suc done)))
        ∙ sym (ap (λ b. if_taken b (read_next part.at done (reads (part.want - suc done) part.at (suc done))) e) t) ∙ after_wait

    -- The read ended with the item,
    pub read_ends : (answer : Next) → result ≡ Some answer → came_to m answer ≡ reads (part.want - part.done) part.at part.done first
    read_ends answer some = sym (ap (λ o. unless_ended o (reads (part.want - suc done) part.at (suc done)) m) some) ∙ after_item

    -- or goes on.
    pub read_goes_on : result ≡ None → Begins m → IsReading part first (done + 1) m
    read_goes_on none begins =
        subst (λ n. IsReading part first n m) (let f : suc done ≡ done + 1 = omega arith in f) (record {
          begins = begins;
          early = omega (arith, early);
          same = sym (ap (λ o. unless_ended o (reads (part.want - suc done) part.at (suc done)) m) none) ∙ after_item;
        })

-- A read of all its bytes is over.
pub read_over : (part : Span) (first : Xinu) (done : ℕ) (d : CallState) → IsReading part first done d → part.want ≤ done
    → record { call = d; answer = Returns (pos part.want) } ≡ reads (part.want - part.done) part.at part.done first
read_over part first done d r late =
    let early = r.early in
    let n : part.want - done ≡ 0 = omega (arith, late) in
    let f : done ≡ part.want = omega (arith, late, early) in
    ap (λ (x : CallState). record { call = x; answer = Returns (pos part.want) }) r.begins.starts.is
    ∙ ap (λ w. reads 0 part.at w d.state) (sym f)
    ∙ ap (λ w. reads w part.at done d.state) (sym n)
    ∙ r.same
