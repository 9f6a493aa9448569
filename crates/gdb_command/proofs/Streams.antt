-- Reads that were served.
use Rattle.std.proofs.Common.{◌≡◌, ◌∙◌, ◌++◌, suc, ℕ, false, List, [], Option, Some, None, refl, sym, ap, subst, append-nil, append_assoc}
use Rattle.std.specs.Io.KnownBytes.{Appends, Consumes}
use Rattle.gdb_command.specs.Reads.{HasInputEnded, HasReadOnce, Passes, ServesReads, ServesStreams, Streams}
use Rattle.gdb_command.specs.declared.session.Session.{Session}

-- nothing appended
pub appends-none : (known : Option (List ℕ)) → Appends known known []
appends-none None = tt
appends-none (Some xs) = sym (append-nil xs)

-- appended twice
pub appends-more : (a b c : Option (List ℕ)) (x y : List ℕ) → Appends a b x → Appends b c y → Appends a c (x ++ y)
appends-more None b c x y one two = tt
appends-more (Some a) None c x y one two = absurd one
appends-more (Some a) (Some b) None x y one two = absurd two
appends-more (Some a) (Some b) (Some c) x y one two = two ∙ ap (λ (l : List ℕ). l ++ y) one ∙ append_assoc a x y

-- nothing consumed
pub consumes-none : (known : Option (List ℕ)) → Consumes known known []
consumes-none None = tt
consumes-none (Some xs) = refl

-- consumed twice
pub consumes-more : (a b c : Option (List ℕ)) (x y : List ℕ) → Consumes a b x → Consumes b c y → Consumes a c (x ++ y)
consumes-more None b c x y one two = tt
consumes-more (Some a) None c x y one two = absurd one
consumes-more (Some a) (Some b) None x y one two = absurd two
consumes-more (Some a) (Some b) (Some c) x y one two = one ∙ ap (λ (l : List ℕ). x ++ l) two ∙ sym (append_assoc x y c)

-- nothing passed
pub passes-none : (s : Streams) → Passes s s [] []
passes-none s = record { reads = consumes-none s.left; writes = appends-none s.written }

-- more passed
pub passes-more : (a b c : Streams) (x y v w : List ℕ) → Passes a b x v → Passes b c y w → Passes a c (x ++ y) (v ++ w)
passes-more a b c x y v w one two = record {
  reads = consumes-more a.left b.left c.left x y one.reads two.reads;
  writes = appends-more a.written b.written c.written v w one.writes two.writes;
}

-- nothing was read yet
pub none-read : (s : Session) (a : Streams) → ServesStreams 0 s s a a []
unfolding ServesReads
none-read s a = record { read = []; written = []; serves = (refl, refl, refl, refl); passes = passes-none a }

-- one read more
pub more-read : (n : ℕ) (old mid new : Session) (a b c : Streams) (pending left : List ℕ) → ServesStreams n old mid a b pending → mid.has_ended ≡ false
    → HasReadOnce mid new b c pending left → ServesStreams (suc n) old new a c left
unfolding ServesReads
more-read n old mid new a b c pending left before on once = record {
  read = before.read ++ once.more;
  written = before.written ++ once.sent;
  serves = record {
    mid = mid;
    before = before.read;
    answers = before.written;
    pending = pending;
    earlier = before.serves;
    on = on;
    more = once.more;
    some = once.some;
    sent = once.sent;
    served = once.served;
    reads = refl;
    writes = refl;
  };
  passes = passes-more a b c before.read once.more before.written once.sent before.passes once.passes;
}

-- the input has ended
pub no-more-read : (n : ℕ) (old mid new : Session) (a b c : Streams) (pending left : List ℕ) → ServesStreams n old mid a b pending
    → HasInputEnded mid new b c pending left → ServesStreams n old new a c left
no-more-read n old mid new a b c pending left before ended =
    let P : List ℕ → Type 0 = λ l. ServesStreams n old new a c l in
    let Q : Session → Type 0 = λ s. ServesStreams n old s a c pending in
    let both = passes-more a b c before.read [] before.written [] before.passes ended.passes in
    let all : Passes a c before.read before.written =
    (let R : List ℕ → Type 0 = λ l. Passes a c l before.written in
    let S : List ℕ → Type 0 = λ l. Passes a c (before.read ++ []) l in
    subst R (append-nil before.read) (subst S (append-nil before.written) both)) in
    subst P (sym ended.waits)
    (subst Q (sym ended.same) (record { read = before.read; written = before.written; serves = before.serves; passes = all }))
