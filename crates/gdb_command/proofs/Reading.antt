-- A read that was served, was cut off, or gave nothing.
use Rattle.std.proofs.Common.{◌≡◌, ◌∙◌, ◌++◌, ◌+◌, ◌≤◌, suc, ℕ, Bool, true, false, List, [], Option, refl, sym, ap, arith, subst, append-nil, take}
use Rattle.std.specs.Io.KnownBytes.{Appends, Consumes}
use Rattle.gdb_command.proofs.Served.{none-served}
use Rattle.gdb_command.proofs.Streams.{appends-none, more-read, no-more-read}
use Rattle.gdb_command.specs.Reads.{HasInputEnded, HasReadOnce, HasServedSome, HasServedStreams, IsCutOff, ReadsMore, ReadsOnce, ReadsSome, ServesStreams, Streams}
use Rattle.gdb_command.specs.Serving.{HasServed, IsPartial, ServesAll}
use Rattle.gdb_command.specs.declared.session.Session.{Session}

-- the streams
abbrev pub at : Option (List ℕ) → Option (List ℕ) → Streams
at left written = record { left = left; written = written }

-- the input has ended
pub input-ended : (s : Session) (pending after : List ℕ) (a b w : Option (List ℕ)) → ReadsMore false pending after a b
    → HasInputEnded s s (at a w) (at b w) pending after
input-ended s pending after a b w reads =
    let none : reads.more ≡ [] = reads.none refl in
    record {
      same = refl;
      waits = reads.appends ∙ ap (λ (l : List ℕ). pending ++ l) none ∙ append-nil pending;
      passes = record { reads = subst (λ (l : List ℕ). Consumes a b l) none reads.reads; writes = appends-none w };
      end = reads.end refl;
    }

-- what was read was served
pub read-once : (old new : Session) (pending mid sent left : List ℕ) (a b w v : Option (List ℕ)) → ReadsMore true pending mid a b
    → ServesAll old mid new sent left → Appends w v sent → HasReadOnce old new (at a w) (at b v) pending left
read-once old new pending mid sent left a b w v reads served writes = record {
  more = reads.more;
  some = reads.some refl;
  sent = sent;
  served = subst (λ (l : List ℕ). ServesAll old l new sent left) reads.appends served;
  passes = record { reads = reads.reads; writes = writes };
}

-- it was cut off before it was served
pub cut-at-once : (s : Session) (pending : List ℕ) (a b w : Option (List ℕ)) → ReadsSome a b → IsCutOff s (at a w) (at b w) pending
cut-at-once s pending a b w some = record {
  more = some.more;
  new = s;
  sent = [];
  left = pending ++ some.more;
  served = none-served s (pending ++ some.more);
  part = 0;
  passes = record { reads = some.reads; writes = appends-none w };
}

pub some-read : {g : Bool} (pending after : List ℕ) (a b : Option (List ℕ)) → ReadsMore g pending after a b → ReadsSome a b
some-read pending after a b reads = record { more = reads.more; reads = reads.reads }

-- its answer was cut off
pub cut-in-answer : (old new : Session) (pending mid input sent bytes left : List ℕ) (a b w v : Option (List ℕ)) {g : Bool} → ReadsMore g pending mid a b
    → input ≡ mid → ServesAll old input new sent left → bytes ≡ sent → (n : ℕ) × Appends w v (take n bytes) → IsCutOff old (at a w) (at b v) pending
cut-in-answer old new pending mid input sent bytes left a b w v reads whole served all part = record {
  more = reads.more;
  new = new;
  sent = sent;
  left = left;
  served = subst (λ (l : List ℕ). HasServed old l new sent left) (whole ∙ reads.appends) served.served;
  part = part.0;
  passes = record { reads = reads.reads; writes = subst (λ (l : List ℕ). Appends w v (take part.0 l)) all part.1 };
}

-- nothing is the beginning of a packet
pub empty-partial : (l : List ℕ) → l ≡ [] → IsPartial l
empty-partial l none = subst IsPartial (sym none) (record { partial = refl })

-- a session that has ended
pub ended-streams : (n : ℕ) (old new : Session) (a b : Streams) (left : List ℕ) → ServesStreams n old new a b left → new.has_ended ≡ true
    → HasServedStreams old new a b
ended-streams n old new a b left serves over = record {
  count = n;
  left = left;
  serves = serves;
  waits = λ on. absurd (cc);
  stops = λ on few. absurd (cc);
}

-- an input that has ended
pub drained-streams : (n : ℕ) (old mid new : Session) (a b c : Streams) (pending left : List ℕ) → ServesStreams n old mid a b pending
    → (mid.has_ended ≡ false → IsPartial pending) → HasInputEnded mid new b c pending left → HasServedStreams old new a c
drained-streams n old mid new a b c pending left serves waits ended = record {
  count = n;
  left = left;
  serves = no-more-read n old mid new a b c pending left serves ended;
  waits = λ on.
      subst IsPartial (sym ended.waits) (waits (sym (ap (λ (s : Session). s.has_ended) ended.same) ∙ on));
  stops = λ on few. ended.end;
}

-- so many reads
pub counted-streams : (n : ℕ) (old new : Session) (a b : Streams) (left : List ℕ) → ServesStreams n old new a b left
    → (new.has_ended ≡ false → IsPartial left) → 18446744073709551615 ≤ n → HasServedStreams old new a b
counted-streams n old new a b left serves waits many = record {
  count = n;
  left = left;
  serves = serves;
  waits = waits;
  stops = λ on few. absurd (omega (arith, many, few));
}

-- a fault
pub cut-streams : (n : ℕ) (old mid : Session) (a b c : Streams) (left : List ℕ) → ServesStreams n old mid a b left → mid.has_ended ≡ false
    → IsCutOff mid b c left → HasServedSome old a c
cut-streams n old mid a b c left serves on cut = record { count = n; mid = mid; between = b; left = left; serves = serves; on = on; cut = cut }

-- one read more
pub read-more : (n : ℕ) (old mid new : Session) (a b c : Streams) (pending left : List ℕ) → ServesStreams n old mid a b pending → mid.has_ended ≡ false
    → HasReadOnce mid new b c pending left → ServesStreams (n + 1) old new a c left
read-more n old mid new a b c pending left before on once =
    let next : suc n ≡ n + 1 = omega arith in
    subst (λ (k : ℕ). ServesStreams k old new a c left) next (more-read n old mid new a b c pending left before on once)

-- the input goes on, or it doesn't
pub goes-on : (goes : Bool) (old new : Session) (a b : Streams) (pending left : List ℕ) → ReadsOnce goes old new a b pending left → goes ≡ true
    → HasReadOnce old new a b pending left
goes-on true old new a b pending left once is = once
goes-on false old new a b pending left once is = absurd (cc)

pub goes-no-more : (goes : Bool) (old new : Session) (a b : Streams) (pending left : List ℕ) → ReadsOnce goes old new a b pending left → goes ≡ false
    → HasInputEnded old new a b pending left
goes-no-more true old new a b pending left once is = absurd (cc)
goes-no-more false old new a b pending left once is = once

-- the same session and streams
pub same-streams : (old mid new : Session) (a : Streams) (left after written so_far : Option (List ℕ)) → new ≡ mid → after ≡ left → so_far ≡ written
    → HasServedStreams old mid a (at left written) → HasServedStreams old new a (at after so_far)
same-streams old mid new a left after written so_far same read wrote served =
    let P : Session → Type 0 = λ s. HasServedStreams old s a (at after so_far) in
    let Q : Option (List ℕ) → Type 0 = λ x. HasServedStreams old mid a (at x so_far) in
    let S : Option (List ℕ) → Type 0 = λ x. HasServedStreams old mid a (at left x) in
    subst P (sym same) (subst Q (sym read) (subst S (sym wrote) served))
