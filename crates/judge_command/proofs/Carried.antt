-- The command by what was read of its words.
use Rattle.std.proofs.Common.{◌≡◌, ℕ, inl, inr, refl, sym, subst}
use Rattle.std.specs.Prelude.{Result, Ok, Err}
use Rattle.command_line.specs.Reading.{Taken}
use Rattle.command_words.specs.Words.{WordsFault}
use Rattle.judge_command.specs.Theorem.{Carries, Obeys}
use Rattle.host_port.specs.Outside.{Outside}
use Rattle.run_inputs.specs.Words.{IsWordsCause}
use Rattle.run_inputs.specs.declared.causes.Cause.{Cause}
use Rattle.run_inputs.specs.declared.causes.Cause.TheVariants as cause
use Rattle.run_inputs.specs.declared.refusals.Refusal.TheVariants as refusal

-- memory ran out
carries_nothing : (read : Result Taken WordsFault) (h : Outside) → Carries read (Err (cause.Refused refusal.NoMemory)) h h
carries_nothing (Ok t) h = inr (record { cause = refl; same = refl })
carries_nothing (Err wrong) h = inr (record { cause = refl; same = refl })

-- something is wrong with them
pub carries_wrong : (read : Result Taken WordsFault) (c : Cause) (h : Outside) → IsWordsCause read c → Carries read (Err c) h h
carries_wrong read (cause.Words told) h is =
    subst (λ (r : Result Taken WordsFault). Carries r (Err (cause.Words told)) h h) (sym is) (inl (record { told = told; is = refl; cause = refl; same = refl }))
carries_wrong read (cause.Refused refusal.NoMemory) h is = carries_nothing read h
carries_wrong read other h is = absurd is

-- nothing is
pub carries_right : (read : Result Taken WordsFault) (t : Taken) (ended : Result ℕ Cause) (old new : Outside) → read ≡ Ok t → Obeys t ended old new
    → Carries read ended old new
carries_right read t ended old new is obeys = subst (λ (r : Result Taken WordsFault). Carries r ended old new) (sym is) (inl obeys)
