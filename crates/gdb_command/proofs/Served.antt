-- Pieces of an input that were served.
use Rattle.std.proofs.Common.{◌≡◌, suc, ℕ, false, List, [], refl, sym, ap, subst}
use Rattle.gdb_command.specs.Serving.{HasServed, IsServed, Serves, SendsMore}
use Rattle.gdb_command.specs.declared.session.Session.{Session}
use Rattle.gdb_packets.specs.Units.{InputUnit, first_unit}

-- nothing was served yet
pub none-served : (s : Session) (input : List ℕ) → HasServed s input s [] input
unfolding Serves
none-served s input = record { count = 0; serves = (refl, refl, refl) }

-- one piece more
pub more-served : (old mid new : Session) (input sent left after next : List ℕ) (unit : InputUnit) → HasServed old input mid sent left
    → mid.has_ended ≡ false → first_unit left ≡ (unit, next) → SendsMore mid new unit sent after → HasServed old input new after next
unfolding Serves
more-served old mid new input sent left after next unit before on begins now = record {
  count = suc before.count;
  serves = record {
    mid = mid;
    before = sent;
    input = left;
    earlier = before.serves;
    on = on;
    more = now.more;
    served = subst (λ (u : InputUnit). IsServed mid new u now.more) (sym (ap (λ (p : InputUnit × List ℕ). p.0) begins)) now.served;
    sends = now.sends;
    goes_on = sym (ap (λ (p : InputUnit × List ℕ). p.1) begins);
  };
}
