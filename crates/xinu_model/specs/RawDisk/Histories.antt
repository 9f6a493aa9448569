-- A history of the raw disk: requests and completions, which requests were served, and with what.
use Rattle.std.specs.Prelude.{Bool, List, [], ◌∷◌, Option, Some, None, ℤ}
use Rattle.xinu_model.specs.RawDisk.Completions.{Served, raw_completed, after_completion}
use Rattle.xinu_model.specs.RawDisk.Requests.{Request, RawDisk, requested}

-- A request is made, or one is completed.
pub data DiskStep : Type 0 where
  Requests : (r : Request) → DiskStep
  Completes : (good : Bool) → DiskStep

-- the disk after a step, and after steps
abbrev pub after_step : DiskStep → RawDisk → RawDisk
after_step (Requests r) d = requested r d
after_step (Completes good) d = after_completion (raw_completed good d) d

abbrev pub after_steps : List DiskStep → RawDisk → RawDisk
after_steps [] d = d
after_steps (step ∷ steps) d = after_steps steps (after_step step d)

-- the requests that were made in steps
abbrev pub made_in : List DiskStep → List Request
made_in [] = []
made_in (Requests r ∷ steps) = r ∷ made_in steps
made_in (Completes good ∷ steps) = made_in steps

-- what was served in steps
abbrev pub served_first : Option Served → List Served → List Served
served_first None all = all
served_first (Some s) all = s ∷ all

abbrev pub served_in : List DiskStep → RawDisk → List Served
served_in [] d = []
served_in (Requests r ∷ steps) d = served_in steps (requested r d)
served_in (Completes good ∷ steps) d = served_first (raw_completed good d) (served_in steps (after_step (Completes good) d))

-- the replies in steps
abbrev pub replies_given : List Served → List ℤ
replies_given [] = []
replies_given (s ∷ all) = s.reply ∷ replies_given all

abbrev pub requests_of : List Served → List Request
requests_of [] = []
requests_of (s ∷ all) = s.request ∷ requests_of all
