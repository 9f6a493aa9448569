-- A transmission: what is sent is the first of the echo, or else of the output.
use Rattle.std.proofs.Common.{◌≡◌, ◌⊎◌, ℕ, ◌<◌, ◌≤◌, true, false, List, [], ◌∷◌, length, Option, Some, None, refl, ap, subst, arith, inl, inr}
use Rattle.std.proofs.lemmas.Bool.{cond_both}
use Rattle.std.proofs.lemmas.List.{length-append}
use Rattle.xinu_base.specs.declared.console.Item.{Item}
use Rattle.xinu_model.specs.Console.Constants.{TY_OBUFLEN}
use Rattle.xinu_model.specs.Console.Sound.{IsSoundConsole}
use Rattle.xinu_model.specs.Console.State.{Console, with_next_item, with_output}
use Rattle.xinu_model.specs.Console.Transmitting.{Sent, sent_output, sent_first, transmitted, after_transmission}
use Rattle.part_laws.specs.Consoles.{SendsFirst}

-- whether something is sent, what it is; or else that there is nothing
abbrev pub SendsOrWaits : Console → Option Sent → Type 0
SendsOrWaits c None = (c.is_held ≡ true) ⊎ ((c.echo ≡ []) × (c.output ≡ []))
SendsOrWaits c (Some sent) = SendsFirst c sent

-- the output, if there is no echo
output_sends : (l : List ℕ) (c : Console) → c.is_held ≡ false → c.echo ≡ [] → c.output ≡ l → SendsOrWaits c (sent_output l c)
output_sends [] c flows none e = inr (none, e)
output_sends (b ∷ bytes) c flows none e = record {
  flows = flows;
  echo = λ h. cc;
  output = λ h. ap (λ l. record c { output = l }) e;
  after_echo = λ h. none;
}

-- the echo
echo_sends : (l : List ℕ) (c : Console) → c.is_held ≡ false → c.echo ≡ l → SendsOrWaits c (sent_first l c)
echo_sends [] c flows e = output_sends c.output c flows e refl
echo_sends (b ∷ bytes) c flows e = record {
  flows = flows;
  echo = λ h. ap (λ l. record c { echo = l }) e;
  output = λ h. cc;
  after_echo = λ h. cc;
}

-- A transmission.
pub transmission_sends : (c : Console) → SendsOrWaits c (transmitted c)
transmission_sends c =
    cond_both c.is_held None (sent_first c.echo c) (SendsOrWaits c) (λ h. inl h) (λ f. echo_sends c.echo c f refl)

pub sent_is_first : (c : Console) (sent : Sent) → transmitted c ≡ Some sent → SendsFirst c sent
sent_is_first c sent e = subst (SendsOrWaits c) e (transmission_sends c)

pub nothing_to_send : (c : Console) → transmitted c ≡ None → (c.is_held ≡ true) ⊎ ((c.echo ≡ []) × (c.output ≡ []))
nothing_to_send c e = subst (SendsOrWaits c) e (transmission_sends c)

-- fewer bytes of output or of echo keep what always holds
sound_output : (l : List ℕ) (c : Console) → length l ≤ length c.output → IsSoundConsole c
    → IsSoundConsole (after_transmission (sent_output l c) c)
sound_output [] c h s = s
sound_output (b ∷ bytes) c h s = let most = s.output in record { input = s.input; output = omega arith; echo = s.echo; line = s.line }

sound_first : (l : List ℕ) (c : Console) → length l ≤ length c.echo → IsSoundConsole c
    → IsSoundConsole (after_transmission (sent_first l c) c)
sound_first [] c h s = sound_output c.output c (let z : length c.output ≤ length c.output = omega arith in z) s
sound_first (b ∷ bytes) c h s = let most = s.echo in record { input = s.input; output = s.output; echo = omega arith; line = s.line }

pub sound_transmitted : (c : Console) → IsSoundConsole c → IsSoundConsole (after_transmission (transmitted c) c)
sound_transmitted c s =
    cond_both c.is_held None (sent_first c.echo c) (λ o. IsSoundConsole (after_transmission o c)) (λ _. s)
    (λ _. sound_first c.echo c (let z : length c.echo ≤ length c.echo = omega arith in z) s)

-- a byte that is put
pub sound_put : (b : ℕ) (c : Console) → IsSoundConsole c → length c.output < TY_OBUFLEN → IsSoundConsole (with_output b c)
sound_put b c s room =
    let n = length-append c.output (b ∷ []) in
    record { input = s.input; output = omega arith; echo = s.echo; line = s.line }

-- an item that is taken
pub sound_taken : (x : Item) (c : Console) → IsSoundConsole (with_next_item x c) → IsSoundConsole c
sound_taken x c s = let input = s.input in record { input = omega arith; output = s.output; echo = s.echo; line = s.line }
