-- The next deed is done.
use Rattle.std.proofs.Common.{◌≡◌, ◌∙◌, ◌++◌, ◌&&◌, ◌==◌, ℕ, zero, suc, Bool, List, [], ◌∷◌, slice_get, Option, None, Some, if◌then◌else◌, ap, subst, sym}
use Rattle.happens_before.specs.Clocks.{Clock, clocks_after, join}
use Rattle.happens_before.specs.Histories.{Access, Accessed, Deed, Edge, Given, Moment}
use Rattle.happens_before.specs.Races.{deed_at, time}
use Rattle.happens_before.specs.Told.{Entries, entered, entries_after, entries_at, entries_in}
use Rattle.race_clocks.proofs.Learning.{learnt_one}
use Rattle.race_clocks.specs.Rows.{kept, knows}
use Rattle.race_detector.specs.declared.detector.Detector.{Detector}
use Rattle.race_detector.specs.Detects.{Detects, HasLearnt, IsAccess, IsSource, Reaches}
use Rattle.race_detector.specs.Told.{pairs_of}
use Rattle.race_detector.proofs.Pairs.{access_found, none_found, nothing_found}
use Rattle.race_entries.specs.Entries.{Holds, entries_of, is_among, is_by, last}
use Rattle.race_entries.specs.declared.entry.Entry.{Entry}
use Rattle.race_entries.proofs.Holding.{held_access, held_gift}

-- the entries after a deed
pub entries_more : (h : List Moment) (n j : ℕ) (d : Deed) → deed_at h (time n j) ≡ Some d
    → entries_at h n (suc j) ≡ entered (time n j) (Some d) (entries_at h n j)
unfolding entries_at entries_in
entries_more h zero j d is = absurd (cc is)
entries_more h (suc n) j d is = ap (λ (o : Option Deed). entered (time (suc n) j) o (entries_at h (suc n) j)) is

pub access_reached : (old new : Detector) (byte : ℕ) (e : Entry)
    → new.told.items ≡ old.told.items ++ pairs_of (knows old.clocks e.process) byte e (entries_of old.entries byte)
    → ((k : ℕ) (f : Entry) → slice_get (entries_of old.entries byte) k ≡ Some f → last old.entries f.stores byte f.process ≡ Some f)
    → ((stores : Bool) (b u : ℕ)
    → last new.entries stores b u ≡ (if (b == byte) && is_by stores u e then Some e else last old.entries stores b u))
    → (h : List Moment) (n j : ℕ) (a : Access) → IsAccess h n j a byte e old.clocks → Reaches h n j old → Reaches h n (suc j) new
access_reached old new byte e tells only enters h n j a is at =
    let Only : ℕ → Type 0 = λ b. (k : ℕ) (f : Entry) → slice_get (entries_of old.entries b) k ≡ Some f → last old.entries f.stores b f.process ≡ Some f in
    let Enters : ℕ → Type 0 = λ c. (stores : Bool) (b u : ℕ) → last new.entries stores b u ≡ (if (b == c) && is_by stores u e then Some e else last old.entries stores b u) in
    let pairs = tells
    ∙ ap (λ b. old.told.items ++ pairs_of (knows old.clocks e.process) b e (entries_of old.entries b)) is.same
    ∙ ap (λ (f : Entry). old.told.items ++ pairs_of (knows old.clocks e.process) a.byte f (entries_of old.entries a.byte)) is.entry in
    record {
      entries = subst (λ (es : Entries). Holds new.entries es) (sym (entries_more h n j (Accessed a) is.deed))
          (held_access old.entries new.entries (entries_at h n j) (time n j) a e is.entry (subst Enters is.same enters) at.entries);
      told = access_found h n j a (knows old.clocks e.process) old.entries is.deed is.known at.entries (subst Only is.same only)
          old.told.items new.told.items pairs at.told;
    }

pub gift_reached : (old new : Detector) (first count : ℕ) → new.told ≡ old.told
    → ((stores : Bool) (b u : ℕ) → last new.entries stores b u ≡ (if is_among first count b then None else last old.entries stores b u))
    → (h : List Moment) (n j : ℕ) → deed_at h (time n j) ≡ Some (Given first count) → Reaches h n j old → Reaches h n (suc j) new
gift_reached old new first count same gives h n j is at = record {
  entries = subst (λ (es : Entries). Holds new.entries es) (sym (entries_more h n j (Given first count) is))
      (held_gift old.entries new.entries (entries_at h n j) (time n j) first count gives at.entries);
  told = rw same (none_found h n j old.told.items (λ a made. cc (is, made)) at.told);
}

-- nothing has happened
pub start : (x : Detector) → ((v u : ℕ) → knows x.clocks v u ≡ 0) → ((stores : Bool) (b u : ℕ) → last x.entries stores b u ≡ None)
    → x.told.items ≡ [] → Detects [] x
unfolding clocks_after entries_after
start x unknown none empty = record {
  clocks = unknown;
  entries = record { same = none };
  told = nothing_found x.told.items empty;
}

pub edge_learnt : (old new : Detector) (process name : ℕ)
    → ((w u : ℕ) → knows new.clocks w u ≡ (if w == process then join (knows old.clocks process) (kept old.clocks name) u else knows old.clocks w u))
    → (parts : ℕ → ℕ → Clock) (before : ℕ → Clock) (edges : List Edge) (e : Edge) → e.target ≡ process
    → IsSource parts e name old → HasLearnt parts before edges old → HasLearnt parts before (edges ++ e ∷ []) new
edge_learnt old new process name learns parts before edges e to source learnt_so =
    let Learns : ℕ → Type 0 = λ v. (w u : ℕ) → knows new.clocks w u ≡ (if w == v then join (knows old.clocks v) (kept old.clocks name) u else knows old.clocks w u) in
    record { clocks = learnt_one before parts edges e old.clocks new.clocks name learnt_so.clocks source.clock (subst Learns (sym to) learns) }
