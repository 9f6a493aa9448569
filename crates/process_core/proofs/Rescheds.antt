-- The ways through a resched.
use Rattle.std.proofs.Common.{◌≡◌, ◌∙◌, ℕ, true, false, cond, ◌&&◌, int_lt, List, [], ◌∷◌, ◌++◌, Option, Some, None, IsSome, IfNone, IfSome, refl, sym, ap, ℤ}
use Rattle.xinu_base.specs.Insert.{ready_insert}
use Rattle.queue_table.specs.Lists.{Entry, first_process, first_key_of}
use Rattle.xinu_model.specs.Process.Scheduling.{is_current, preempt, resched, dispatch_first, keeps_cpu, ready}
use Rattle.xinu_model.specs.Tables.{Tables, process_at, state_at}

-- whether the current process keeps the processor, by the first key of the ready list
pub keeps_by_key : (t : Tables) (l : List Entry) (k : ℤ) → Some k ≡ first_key_of l
    → keeps_cpu l t ≡ (is_current (state_at t t.current) && int_lt k (process_at t t.current).priority)
keeps_by_key t [] k h = absurd (cc)
keeps_by_key t (e ∷ l) k h = let s : k ≡ e.1 = cc in ap (λ k. is_current (state_at t t.current) && int_lt k (process_at t t.current).priority) (sym s)

-- it keeps it if nobody is ready
pub keeps_alone : (t : Tables) (l : List Entry) → None ≡ first_key_of l → keeps_cpu l t ≡ true
keeps_alone t [] h = refl
keeps_alone t (e ∷ l) h = absurd (cc)

-- nothing changes if it keeps the processor
pub resched_keeps : (t : Tables) → keeps_cpu t.ready t ≡ true → t ≡ resched t
resched_keeps t h = sym (ap (λ c. cond c t (dispatch_first (preempt t).ready (preempt t))) h)

-- else it is preempted, and the first ready process becomes current
pub resched_switches : (t m : Tables) → keeps_cpu t.ready t ≡ false → m ≡ preempt t → dispatch_first m.ready m ≡ resched t
resched_switches t m h e =
    ap (λ (x : Tables). dispatch_first x.ready x) e ∙ sym (ap (λ c. cond c t (dispatch_first (preempt t).ready (preempt t))) h)

-- a current process that runs becomes ready
pub preempt_running : (t : Tables) → is_current (state_at t t.current) ≡ true → ready t.current t ≡ preempt t
preempt_running t h = sym (ap (λ c. cond c (ready t.current t) t) h)

-- one that doesn't run stays as it is
pub preempt_stopped : (t : Tables) → is_current (state_at t t.current) ≡ false → t ≡ preempt t
preempt_stopped t h = sym (ap (λ c. cond c (ready t.current t) t) h)

-- a list with a first key has a first process
pub first_with_key : (l : List Entry) (k : ℤ) → Some k ≡ first_key_of l → IsSome (first_process l)
first_with_key [] k h = absurd (cc)
first_with_key (e ∷ l) k h = refl

-- two lists with an entry between them have a first process
first_of_both : (p : ℕ) (k : ℤ) (a b : List Entry) → IsSome (first_process (a ++ (p, k) ∷ b))
first_of_both p k [] b = refl
first_of_both p k (e ∷ a) b = refl

-- a list into which a process was inserted has a first process
pub first_inserted : (p : ℕ) (k : ℤ) (l : List Entry) → IsSome (first_process (ready_insert p k l))
first_inserted p k l = first_of_both p k _ _

-- nothing is said of an answer that isn't `None`
pub none_if_some : (o : Option ℕ) (P : Type 0) → IsSome o → IfNone o P
none_if_some None P h = absurd (cc)
none_if_some (Some x) P h = tt

-- an answer that isn't `None` is the process that it is said to be
pub some_is : (o : Option ℕ) (p : ℕ) → IsSome o → IfSome o (λ x. x ≡ p) → o ≡ Some p
some_is None p h i = absurd (cc)
some_is (Some x) p h i = ap Some i
