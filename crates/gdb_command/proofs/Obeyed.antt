-- What is done for a command.
use Rattle.std.proofs.Common.{◌≡◌, ◌∙◌, ◌&&◌, ℕ, Bool, true, false, not, List, [], Option, Some, None, IfSome, Result, Ok, Err, sym, ap, subst}
use Rattle.std.specs.Prelude.{MatchOption, OnOk, Vec, codes}
use Rattle.std.specs.Global.{Global}
use Rattle.gdb_answers.specs.Answers.{answer}
use Rattle.gdb_command.specs.Answered.{IsAnswered}
use Rattle.gdb_command.specs.Deeds.{Does, IsDone, ends_session, stops_acks}
use Rattle.gdb_command.specs.Held.{Held, held}
use Rattle.gdb_command.specs.Monitored.{IsMonitored, IsShown}
use Rattle.gdb_command.specs.Serving.{IsObeyed}
use Rattle.gdb_command.specs.declared.asked.Asked.{Asked}
use Rattle.gdb_command.specs.declared.session.Session.{Session}
use Rattle.gdb_packets.specs.Commands.{command_of}
use Rattle.gdb_packets.specs.declared.commands.Command.{Command}
use Rattle.replayed_run.specs.Replayed.{IsReplayed, IsSameRun}
use Rattle.xinu_model.specs.Machine.{Xinu}

-- a command that is answered from the state
pub done-looking : (command : Command) (payload text : List ℕ) (s : Xinu) (old new : Held) (before sent : List ℕ) → answer s old.look command ≡ Some text
    → IsAnswered old new text before sent → IsDone command payload s old new before sent
done-looking command payload text s old new before sent is answers = record {
  answers = subst (λ (o : Option (List ℕ)). IfSome o (λ t. IsAnswered old new t before sent)) (sym is) answers;
  does = λ none. absurd (cc);
}

-- one that isn't
pub done-otherwise : (command : Command) (payload : List ℕ) (s : Xinu) (old new : Held) (before sent : List ℕ) → answer s old.look command ≡ None
    → Does command payload old new before sent → IsDone command payload s old new before sent
done-otherwise command payload s old new before sent none does = record {
  answers = subst (λ (o : Option (List ℕ)). IfSome o (λ t. IsAnswered old new t before sent)) (sym none) tt;
  does = λ same. does;
}

-- what `monitor` asks for was shown
pub monitored : (asked what : Asked) (old mid new : Held) (before shown sent : List ℕ) → asked ≡ what → IsShown asked old mid before shown
    → IsAnswered mid new (codes "OK") shown sent → IsMonitored what old new before sent
monitored asked what old mid new before shown sent is shows answers = record {
  mid = mid;
  shown = shown;
  shows = subst (λ (a : Asked). IsShown a old mid before shown) is shows;
  answers = answers;
}

-- packets are still acknowledged
pub acks-on : (has mid stops now : Bool) → mid ≡ has → mid ≡ true → now ≡ not stops → now ≡ (has && not stops)
acks-on true mid stops now same on is = is
acks-on false mid stops now same on is = absurd (cc)

-- they weren't
pub acks-off : (has mid stops now : Bool) → mid ≡ has → mid ≡ false → now ≡ mid → now ≡ (has && not stops)
acks-off true mid stops now same off is = absurd (cc)
acks-off false mid stops now same off is = is ∙ same

-- a packet
pub obeyed : (old new : Session) (command : Command) (payload before sent : List ℕ) → command ≡ command_of payload → before ≡ []
    → IsReplayed old.run.replay → IsSameRun old.run.replay new.run.replay
    → IsDone command payload old.run.replay.state (held old) (held new) before sent → new.has_acks ≡ (old.has_acks && not (stops_acks command))
    → new.has_ended ≡ ends_session command → IsObeyed old new payload sent
obeyed old new command payload before sent is fresh runs same done acks ends =
    let P : Command → Type 0 = λ c. IsDone c payload old.run.replay.state (held old) (held new) before sent in
    let Q : List ℕ → Type 0 = λ l. IsDone (command_of payload) payload old.run.replay.state (held old) (held new) l sent in
    record {
      runs = runs;
      same = same;
      done = subst Q fresh (subst P is done);
      acks = acks ∙ ap (λ (c : Command). old.has_acks && not (stops_acks c)) is;
      ends = ends ∙ ap ends_session is;
    }

-- what comes of a result that is good
pub on-ok : {T E A B : Type 0} (r : Result T E) → OnOk r A → (A → B) → OnOk r B
on-ok (Ok v) a f = f a
on-ok (Err e) a f = tt

-- an answer that was found, and one that wasn't
pub found-some : (o : Option (Vec ℕ Global)) (v : Vec ℕ Global) (a : Option (List ℕ)) → MatchOption o (a ≡ None) (λ t. a ≡ Some t.items) → o ≡ Some v
    → a ≡ Some v.items
found-some None v a found is = absurd (cc)
found-some (Some w) v a found is = (let same : w ≡ v = cc in found ∙ ap (λ (x : Vec ℕ Global). Some x.items) same)

pub found-none : (o : Option (Vec ℕ Global)) (a : Option (List ℕ)) → MatchOption o (a ≡ None) (λ t. a ≡ Some t.items) → o ≡ None → a ≡ None
found-none None a found is = found
found-none (Some w) a found is = absurd (cc)
