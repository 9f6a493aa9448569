-- The steps of a write.
use Rattle.std.proofs.Common.{◌≡◌, ◌∙◌, ℕ, suc, ◌+◌, ◌-◌, ◌<◌, ◌≤◌, Bool, true, false, pos, sym, ap, subst, arith}
use Rattle.std.specs.Prelude.{slice_index}
use Rattle.io_calls.specs.Consoles.{Begins, if_taken, IsWriting}
use Rattle.kernel_state.specs.Results.{came_to}
use Rattle.xinu_base.specs.declared.processes.Rest.TheVariants.{TtyWrite}
use Rattle.xinu_base.specs.declared.processes.Span.{Span}
use Rattle.xinu_base.specs.declared.syscalls.Next.TheVariants as next
use Rattle.xinu_model.specs.Console.Putting.{put_byte, writes}
use Rattle.xinu_model.specs.Console.Taking.{span}
use Rattle.xinu_model.specs.Machine.{CallResult, CallState, Returns, Xinu}
use Rattle.xinu_model.specs.Semaphores.Waiting.{await}

-- what is done with a byte
abbrev written : ℕ → ℕ → ℕ → Xinu → CallResult
written want at done x = put_byte (slice_index x.memory (at + done)) (TtyWrite (span at done want) true) (writes (want - suc done) at (suc done)) x

-- one byte of a write
writes_step : (want at done : ℕ) (s : Xinu) → done < want
    → writes (want - done) at done s ≡ await 1 (TtyWrite (span at done want) false) (written want at done) s
writes_step want at done s h =
    let e : want - done ≡ suc (want - suc done) = omega (arith, h) in
    let f : done + suc (want - suc done) ≡ want = omega (arith, h) in
    ap (λ n. writes n at done s) e
    ∙ ap (λ w. await 1 (TtyWrite (span at done w) false)
    (λ x. put_byte (slice_index x.memory (at + done)) (TtyWrite (span at done w) true) (writes (want - suc done) at (suc done)) x) s) f

module _ (part : Span) (first : Xinu) (done : ℕ) (d e : CallState) (took : Bool) (r : IsWriting part first done d) (early : done < part.want)
    (waits : (then_ : Xinu → CallResult) → await 1 (TtyWrite (span part.at done part.want) false) then_ d.state ≡ if_taken took then_ e) where
  -- what the wait leaves to do
  after_wait : if_taken took (written part.want part.at done) e ≡ writes (part.want - part.done) part.at part.done first
  after_wait = sym (waits (written part.want part.at done)) ∙ sym (writes_step part.want part.at done d.state early) ∙ r.same

  -- The write waits.
  pub write_waits : took ≡ false → came_to e next.Waits ≡ writes (part.want - part.done) part.at part.done first
  write_waits t = sym (ap (λ b. if_taken b (written part.want part.at done) e) t) ∙ after_wait

  module _ (t : took ≡ true) (b : ℕ) (m : CallState) (put : Bool) (is : b ≡ slice_index e.state.memory (part.at + done))
      (handled : (then_ : Xinu → CallResult) → put_byte b (TtyWrite (span part.at done part.want) true) then_ e.state ≡ if_taken put then_ m) where
    -- what a byte leaves to do
    after_byte : if_taken put (writes (part.want - suc done) part.at (suc done)) m ≡ writes (part.want - part.done) part.at part.done first
    after_byte =
        let more = writes (part.want - suc done) part.at (suc done) in
        sym (handled more)
        ∙ ap (λ x. put_byte x (TtyWrite (span part.at done part.want) true) more e.state) is
        ∙ sym (ap (λ b. if_taken b (written part.want part.at done) e) t) ∙ after_wait

    -- The write waits for the token of a newline,
    pub write_waits_again : put ≡ false → came_to m next.Waits ≡ writes (part.want - part.done) part.at part.done first
    write_waits_again h = sym (ap (λ b. if_taken b (writes (part.want - suc done) part.at (suc done)) m) h) ∙ after_byte

    -- or goes on.
    pub write_goes_on : put ≡ true → Begins m → IsWriting part first (done + 1) m
    write_goes_on h begins =
        subst (λ n. IsWriting part first n m) (let f : suc done ≡ done + 1 = omega arith in f) (record {
          begins = begins;
          early = omega (arith, early);
          same = sym (ap (λ b. if_taken b (writes (part.want - suc done) part.at (suc done)) m) h) ∙ after_byte;
        })

-- A write of all its bytes is over.
pub write_over : (part : Span) (first : Xinu) (done : ℕ) (d : CallState) → IsWriting part first done d → part.want ≤ done
    → record { call = d; answer = Returns (pos part.want) } ≡ writes (part.want - part.done) part.at part.done first
write_over part first done d r late =
    let early = r.early in
    let n : part.want - done ≡ 0 = omega (arith, late) in
    let f : done ≡ part.want = omega (arith, late, early) in
    ap (λ (x : CallState). record { call = x; answer = Returns (pos part.want) }) r.begins.starts.is
    ∙ ap (λ w. writes 0 part.at w d.state) (sym f)
    ∙ ap (λ w. writes w part.at done d.state) (sym n)
    ∙ r.same
