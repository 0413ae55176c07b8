-- What the code makes of a capacity notice.
use Rattle.std.specs.Prelude.{ℕ, Bool, cond, take, List, map}
use Rattle.rules.specs.Units as U
use Rattle.rules.specs.DayBook as D
use Rattle.session.specs.Image.{published_in, capacities_in, no_notice}
use Rattle.session.specs.declared.Notice.{Notice}
use Rattle.session.specs.declared.Session.{Session}
use Rattle.session.specs.declared.Published.{Published}
use Rattle.notify_unavailability.specs.Notices.{stored_as}
use Rattle.notify_capacity.specs.declared.Capacities.{Capacities}

-- the call that a notice stands for
abbrev pub capacity_in : Capacities → D.Call
capacity_in n = D.capacity (capacities_in n.directions)

-- a direction as it is stored
unfoldable pub direction_as : Published → Notice
direction_as p = cond p.published (stored_as (take p.count p.energies)) no_notice

-- the session with other capacities, and with those of a notice
abbrev pub with_capacities : Session → List Notice → Session
with_capacities s cs = record s { capacities = cs }

abbrev pub capacities_with : Session → Capacities → Session
capacities_with s n = with_capacities s (map direction_as n.directions)

-- Searches among directions

abbrev pub off_hours : ℕ → Published → Bool
off_hours H p = U.not_of_hours H (published_in p)

abbrev pub off_range : Published → Bool
off_range p = U.bad_published (published_in p)
