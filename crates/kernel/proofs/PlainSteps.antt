-- Plain instructions of an idle kernel.
use Rattle.std.proofs.Common.{◌≡◌, ◌≢◌, ◌∙◌, ℕ, false, ap, sym, subst}
use Rattle.kernel.proofs.Kept.{idle_may_call, idle_sound, kept_idle}
use Rattle.kernel.specs.Kernels.{IsKernel, kernel_result}
use Rattle.kernel.specs.declared.kernel.Kernel.TheInside.{Inside}
use Rattle.kernel_state.specs.Results.{answer_so_far, idle, IsIdle}
use Rattle.kernel_state.specs.Values.{KernelValue}
use Rattle.xinu_base.specs.declared.processes.Rest.TheVariants.{Nothing}
use Rattle.xinu_laws.proofs.PlainSteps.{IsRunning, plain_of, steps_of, steps_sound}
use Rattle.part_laws.specs.Preserve.{KeepsAll}
use Rattle.xinu_model.specs.Isa.Ran.{ran}
use Rattle.xinu_model.specs.Machine.{CallResult, CallState, current_hart, Xinu}
use Rattle.xinu_model.specs.Runs.{is_over}
use Rattle.xinu_model.specs.Steps.{ArePlain, stepped_times, with_ran}
use Rattle.xinu_model.specs.Tables.{process_at}

-- the state inside an event after at most so many plain instructions
abbrev pub run_in : ℕ → CallState → CallState
run_in most d = record d { state = with_ran (ran most (current_hart d.state) d.state.memory) d.state }

-- The kernel after this many steps: they were plain, and its tables and parts are as before.
pub record IsAfter (k : Inside) (d : KernelValue) (s : Xinu) (steps : ℕ) : Type 0 where
  pub state : kernel_result (record { state = d; answer = k.answer }) ≡ idle (stepped_times steps s)
  pub plain : ArePlain steps s
  pub tables : d.call.state.tables ≡ s.tables
  pub parts : d.call.state.parts ≡ s.parts

-- plain instructions are such steps, and keep what each call keeps
module _ (k : Inside) (d : KernelValue) (h : CallResult) (most steps : ℕ) (view : kernel_result k ≡ h) (keeps : KeepsAll (kernel_result k))
    (i : IsIdle h) (n : h.call.state.tables.current ≢ 0)
    (done : (process_at h.call.state.tables h.call.state.tables.current).rest ≡ Nothing) (lives : is_over h.call.state ≡ false)
    (is : d.call ≡ run_in most k.state.call) (count : steps ≡ (ran most (current_hart k.state.call.state) k.state.call.state.memory).count) where
  all : KeepsAll h
  all = subst KeepsAll view keeps

  runs : IsRunning h.call.state
  runs = record { may = idle_may_call h i all n; done = done; lives = lives }

  pub after_steps : IsAfter k d h.call.state steps
  after_steps =
      let s = h.call.state in
      let after : CallResult → CallResult = λ h. record h { call = run_in most h.call } in
      let count_in : CallResult → ℕ = λ (h : CallResult). (ran most (current_hart h.call.state) h.call.state.memory).count in
      let counted : steps ≡ (ran most (current_hart s) s.memory).count = count ∙ ap count_in view in
      record {
        state = ap (λ (d : CallState). record { call = d; answer = answer_so_far k.answer }) is
            ∙ ap after view ∙ ap after i.is ∙ ap idle (steps_of most s runs) ∙ ap (λ n. idle (stepped_times n s)) (sym counted);
        plain = subst (λ n. ArePlain n s) (sym counted) (plain_of most s runs);
        tables = ap (λ (d : CallState). d.state.tables) is ∙ ap (λ (h : CallResult). h.call.state.tables) view;
        parts = ap (λ (d : CallState). d.state.parts) is ∙ ap (λ (h : CallResult). h.call.state.parts) view;
      }

  pub keeps_steps : IsKernel (record { state = d; answer = k.answer })
  keeps_steps =
      record { keeps = subst KeepsAll (sym after_steps.state) (kept_idle _ (steps_sound steps h.call.state (idle_sound h i all))) }
