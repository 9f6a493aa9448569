-- What a typed character and a control function commit fits.
use Rattle.std.proofs.Common.{◌≡◌, ◌≤◌, ℕ, ◌++◌, length, Some, ap, arith}
use Rattle.std.proofs.lemmas.List.{length-append}
use Rattle.part_laws.proofs.Consoles.Characters.{received_goes, controlled_goes}
use Rattle.xinu_model.specs.Console.Controls.{controlled}
use Rattle.xinu_model.specs.Console.Receiving.{received}
use Rattle.xinu_model.specs.Console.Rows.{Committed}
use Rattle.xinu_model.specs.Console.Sound.{IsSoundConsole}
use Rattle.xinu_model.specs.Console.State.{Console}

-- a character and a control function commit no more than there is room for
pub few_received : (b : ℕ) (c : Console) → IsSoundConsole c → (received b c).count ≤ 128
few_received b c k =
    let g = received_goes b c in
    let a = g.appends in
    let input = (g.sound k).input in
    let all : length (received b c).console.committed ≡ length (c.committed ++ a.items) = ap length a.committed in
    let more = length-append c.committed a.items in
    let count = a.count in
    omega (arith, input, all, more, count)

pub few_controlled : (f : ℕ) (c : Console) (m : Committed) → controlled f c ≡ Some m → IsSoundConsole c → m.count ≤ 128
few_controlled f c m e k =
    let g = controlled_goes f c m e in
    let a = g.appends in
    let input = (g.sound k).input in
    let all : length m.console.committed ≡ length (c.committed ++ a.items) = ap length a.committed in
    let more = length-append c.committed a.items in
    let count = a.count in
    omega (arith, input, all, more, count)
