-- A byte of the console was sent, or none.
use Rattle.std.proofs.Common.{◌≡◌, ◌∙◌, ℕ, Bool, false, [], ◌∷◌, Option, Some, None, sym, ap, subst}
use Rattle.std.specs.Prelude.{option_map}
use Rattle.io_calls.specs.Consoles.{after_sending}
use Rattle.kernel_state.specs.Results.{idle, IsIdle}
use Rattle.host_port.specs.Outside.{Outside}
use Rattle.host_port.specs.Printing.{Printing, Prints}
use Rattle.machine.proofs.Closing.{effect_as, first_printed}
use Rattle.machine.proofs.Happenings.{nothing_printed}
use Rattle.machine.specs.Printed.{EffectPrints}
use Rattle.xinu_base.specs.declared.lines.TranscriptLine.TheVariants.{Con}
use Rattle.xinu_model.specs.Console.Signals.{sending, sent_in, transmits}
use Rattle.xinu_model.specs.Console.Taking.{console_of}
use Rattle.xinu_model.specs.Console.Transmitting.{Sent, transmitted}
use Rattle.xinu_model.specs.Machine.{CallResult, end_of_event, nothing_happens, Silent, Xinu}
use Rattle.xinu_model.specs.Text.{shown}

-- what is under way after a transmission
abbrev pub after : Option Sent → Xinu → CallResult
after found s = record { call = after_sending found s; answer = Silent }

-- A byte was sent, and printed first.
pub was_sent : (s : Xinu) (found : Option Sent) (byte : ℕ) (result : CallResult) (new : Xinu) (panics : Bool) (a b c : Printing) (h i j : Outside)
    → transmitted (console_of s) ≡ found → option_map (λ (sent : Sent). sent.byte) found ≡ Some byte → result ≡ after found s
    → Prints a b h i (shown a.plain (Con byte ∷ [])) → EffectPrints (end_of_event s.tables.current [] result) new panics b c i j
    → EffectPrints (transmits s) new panics a c h j
was_sent s None byte result new panics a b c h i j is some sent first rest = absurd (cc)
was_sent s (Some x) byte result new panics a b c h i j is some sent first rest =
    let e : x.byte ≡ byte = cc in
    effect_as (end_of_event s.tables.current (Con x.byte ∷ []) (sending x s)) (transmits s) new panics a c h j (ap (λ o. sent_in o s) (sym is))
    (first_printed s.tables.current (Con x.byte) (sending x s) new panics a b c h i j
    (subst (λ n. Prints a b h i (shown a.plain (Con n ∷ []))) (sym e) first)
    (effect_as _ _ new panics b c i j (ap (λ (r : CallResult). end_of_event s.tables.current [] r) sent) rest))

-- No byte was sent: nothing happened.
pub idle_after : (s : Xinu) (found : Option Sent) (result : CallResult) → option_map (λ (sent : Sent). sent.byte) found ≡ None → result ≡ after found s → IsIdle result
idle_after s None result none e = record { is = e ∙ ap (λ (r : CallResult). idle r.call.state) (sym e) }
idle_after s (Some x) result none e = absurd (cc)

pub state_after : (s : Xinu) (found : Option Sent) (result : CallResult) → option_map (λ (sent : Sent). sent.byte) found ≡ None → result ≡ after found s
    → result.call.state ≡ s
state_after s None result none e = ap (λ (r : CallResult). r.call.state) e
state_after s (Some x) result none e = absurd (cc)

pub nothing_sent : (s : Xinu) (found : Option Sent) (result : CallResult) (out : Printing) (host : Outside) → transmitted (console_of s) ≡ found
    → option_map (λ (sent : Sent). sent.byte) found ≡ None → result ≡ after found s → EffectPrints (transmits s) result.call.state false out out host host
nothing_sent s None result out host is none e =
    subst (λ u. EffectPrints (transmits s) u false out out host host) (sym (ap (λ (r : CallResult). r.call.state) e))
    (effect_as (nothing_happens s) (transmits s) s false out out host host (ap (λ o. sent_in o s) (sym is)) (nothing_printed s out host))
nothing_sent s (Some x) result out host is none e = absurd (cc)
