-- What the code makes of an unavailability notice.
use Rattle.std.specs.Prelude.{ℕ, Bool, true, ltb, List, take}
use Rattle.rules.specs.Units.{max_energy}
use Rattle.rules.specs.DayBook as D
use Rattle.session.specs.Laid.{pad, counted}
use Rattle.session.specs.declared.Notice.{Notice}
use Rattle.notify_unavailability.specs.declared.Availability.{Availability}

-- the call that a notice stands for
abbrev pub available_in : Availability → D.Call
available_in n = D.available n.unit (counted n.count n.energies)

-- an energy above the limit
abbrev pub over_limit : ℕ → Bool
over_limit e = ltb max_energy e

-- energies as they are stored: the first 25 at most, then 0
abbrev pub stored_as : List ℕ → Notice
stored_as es = record { given = true; reserved = 0; reserved2 = 0; energies = pad 25 0 (take 25 es) }
