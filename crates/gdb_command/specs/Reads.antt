-- What is written for what is read.
use Rattle.std.specs.Prelude.{◌≡◌, ◌≢◌, ◌<◌, ℕ, zero, suc, Bool, true, false, List, [], ◌++◌, take, Option}
use Rattle.std.specs.Io.KnownBytes.{Appends, Consumes, IsAtEnd}
use Rattle.gdb_command.specs.Serving.{HasServed, IsPartial, ServesAll}
use Rattle.gdb_command.specs.declared.session.Session.{Session}

-- what a stream has left to be read, and what another one was written, so far as they tell it
pub record Streams : Type 0 where
  pub left : Option (List ℕ)
  pub written : Option (List ℕ)

-- So much was read, and so much was written.
pub record Passes (old new : Streams) (read written : List ℕ) : Type 0 where
  pub reads : Consumes old.left new.left read
  pub writes : Appends old.written new.written written

-- Some reads were served, and then one more, as the session hadn't ended: what was read was served after what had been left before.
pub record ServesRead (Before : Session → List ℕ → List ℕ → List ℕ → Type 0) (new : Session) (read written left : List ℕ) : Type 0 where
  pub mid : Session
  pub before : List ℕ
  pub answers : List ℕ
  pub pending : List ℕ
  pub earlier : Before mid before answers pending
  pub on : mid.has_ended ≡ false
  pub more : List ℕ
  pub some : more ≢ []
  pub sent : List ℕ
  pub served : ServesAll mid (pending ++ more) new sent left
  pub reads : read ≡ before ++ more
  pub writes : written ≡ answers ++ sent

-- So many reads were served, one after another: all that was read, what was written for it, and what is left of it.
unfoldable pub ServesReads : ℕ → Session → Session → List ℕ → List ℕ → List ℕ → Type 0
ServesReads zero old new read written left = (new ≡ old) × (read ≡ []) × (written ≡ []) × (left ≡ [])
ServesReads (suc n) old new read written left = ServesRead (ServesReads n old) new read written left

-- What was read once was served after what had been left before.
pub record HasReadOnce (old new : Session) (before after : Streams) (pending left : List ℕ) : Type 0 where
  pub more : List ℕ
  pub some : more ≢ []
  pub sent : List ℕ
  pub served : ServesAll old (pending ++ more) new sent left
  pub passes : Passes before after more sent

-- The input has ended, and nothing else has happened.
pub record HasInputEnded (old new : Session) (before after : Streams) (pending left : List ℕ) : Type 0 where
  pub same : new ≡ old
  pub waits : left ≡ pending
  pub passes : Passes before after [] []
  pub end : IsAtEnd after.left

-- What was read once was served, or the input has ended.
abbrev pub ReadsOnce : Bool → Session → Session → Streams → Streams → List ℕ → List ℕ → Type 0
ReadsOnce true old new before after pending left = HasReadOnce old new before after pending left
ReadsOnce false old new before after pending left = HasInputEnded old new before after pending left

-- A read was cut off: of what is answered to what was read, a part was written.
pub record IsCutOff (old : Session) (before after : Streams) (pending : List ℕ) : Type 0 where
  pub more : List ℕ
  pub new : Session
  pub sent : List ℕ
  pub left : List ℕ
  pub served : HasServed old (pending ++ more) new sent left
  pub part : ℕ
  pub passes : Passes before after more (take part sent)

-- A session served what a stream gave, and wrote what it answered to another.
pub record ServesStreams (count : ℕ) (old new : Session) (before after : Streams) (left : List ℕ) : Type 0 where
  pub read : List ℕ
  pub written : List ℕ
  pub serves : ServesReads count old new read written left
  pub passes : Passes before after read written

-- The same to the end: of the session; or of the input, and then what is left of it isn't whole; or after more reads than 64 bits can number.
pub record HasServedStreams (old new : Session) (before after : Streams) : Type 0 where
  pub count : ℕ
  pub left : List ℕ
  pub serves : ServesStreams count old new before after left
  pub waits : new.has_ended ≡ false → IsPartial left
  pub stops : new.has_ended ≡ false → count < 18446744073709551615 → IsAtEnd after.left

-- The same up to a read that was cut off.
pub record HasServedSome (old : Session) (before after : Streams) : Type 0 where
  pub count : ℕ
  pub mid : Session
  pub between : Streams
  pub left : List ℕ
  pub serves : ServesStreams count old mid before between left
  pub on : mid.has_ended ≡ false
  pub cut : IsCutOff mid between after left

-- Some bytes were read, and nothing was written.
pub record ReadsSome (before after : Option (List ℕ)) : Type 0 where
  pub more : List ℕ
  pub reads : Consumes before after more

-- What was read comes after the bytes that were there: some bytes, if the input goes on, and else none.
pub record ReadsMore (goes : Bool) (before after : List ℕ) (input rest_of : Option (List ℕ)) : Type 0 where
  pub more : List ℕ
  pub appends : after ≡ before ++ more
  pub reads : Consumes input rest_of more
  pub some : goes ≡ true → more ≢ []
  pub none : goes ≡ false → more ≡ []
  pub end : goes ≡ false → IsAtEnd rest_of
