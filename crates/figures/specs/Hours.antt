-- The hour that is being given, part by part, and what is answered of it.
use Rattle.std.specs.Prelude.{ℕ, ◌+◌, cond, ltb, eqb, not, ◌&&◌, List, [], set, replicate, Option, Some, None}
use Rattle.rules.specs.Units.{direction, loss_of}
use Rattle.hour_offers.specs.declared.Holder.{Holder}
use Rattle.listed.specs.declared.Listed.{Listed}
use Rattle.listed.specs.View.{listed_as}
use Rattle.hour.specs.declared.Hour.{Hour}
use Rattle.hour.specs.View.{no_offer, no_execution}
use Rattle.hour.specs.Ready.{figures_of, figures_in_range}
use Rattle.figures.specs.declared.hours.Cleared.{Cleared}
use Rattle.figures.specs.declared.hours.Given.{Given}
use Rattle.figures.specs.declared.hours.Part.{Part}
use Rattle.figures.specs.declared.hours.Part.TheVariants.{Offer, Execution, Capacity, Loss}

abbrev pub no_parts : Given
no_parts = record {
  hour = record { offers = listed_as 128 no_offer []; executions = listed_as 128 no_execution []; capacities = replicate 8 None };
  losses = replicate 5 0;
}

-- a holder with the loss of its border, if it buys and has none of its own
abbrev pub with_loss : List ℕ → Holder → Holder
with_loss losses x = cond (x.purchase && eqb x.loss 0) (record x { loss = loss_of losses x.border }) x

abbrev pub with_hour : Hour → Given → Given
with_hour h g = record g { hour = h }

-- a list with one more; its count goes one past the room, which no hour that is ready has
unfoldable pub with_one : {A : Type 0} → Listed A 128 → A → Listed A 128
with_one l x = cond (ltb l.count 128) (record { items = set l.items l.count x; count = l.count + 1 }) (record { items = l.items; count = 129 })

-- an hour with one part more: a lodgement, with the loss of its border; a capacity, where it is of a border; a loss of one.
-- None has a capacity of border 0, or a loss of what is no border
abbrev pub with_part : Part → Given → Option Given
with_part (Offer o) g =
    Some (with_hour (record g.hour { offers = with_one g.hour.offers (record o { holder = with_loss g.losses o.holder }) }) g)
with_part (Execution x) g =
    Some (with_hour (record g.hour { executions = with_one g.hour.executions (record x { holder = with_loss g.losses x.holder }) }) g)
with_part (Capacity border export energy) g =
    cond (eqb border 0) None
    (Some (cond (ltb border 5) (with_hour (record g.hour { capacities = set g.hour.capacities (direction border export) (Some energy) }) g) g))
with_part (Loss border loss) g = cond (not (eqb border 0) && ltb border 5) (Some (record g { losses = set g.losses border loss })) None

-- none stays none
abbrev pub put_in : Part → Option Given → Option Given
put_in part None = None
put_in part (Some g) = with_part part g

-- an hour's figures beside its capacities, if it is in its ranges
abbrev pub in_range_of : Hour → Option Cleared
in_range_of h = elim (figures_in_range h) [ None ↦ None | Some figures ↦ Some (record { capacities = h.capacities; figures = figures }) ]

abbrev pub answer_in_range : Option Given → Option Cleared
answer_in_range = elim [ None ↦ None | Some g ↦ in_range_of g.hour ]

-- the same, if a session can hold it
abbrev pub cleared_of : Hour → Option Cleared
cleared_of h = elim (figures_of h) [ None ↦ None | Some figures ↦ Some (record { capacities = h.capacities; figures = figures }) ]

abbrev pub answer_of : Option Given → Option Cleared
answer_of = elim [ None ↦ None | Some g ↦ cleared_of g.hour ]
