-- The lines by border, and ceilings by unit and hour.
use Rattle.std.specs.Prelude.{ℕ, suc, ◌<◌, min, ◌≡◌, cond, List, [], ◌∷◌, map, ltb, length, get_or, replicate, None}
use Rattle.rules.specs.Units.{loss_of, border_sum, increased_sum, lessened, least_of, ceiling}
use Rattle.session.specs.Bare.{bare_notice}
use Rattle.session.specs.Image.{no_unit}
use Rattle.session.specs.declared.Unit.{Unit}
use Rattle.session.specs.declared.Notice.{Notice}
use Rattle.judge_limits.specs.Limits.{notice_in, registered_in, lines_in, limit_at}
use Rattle.std.specs.declared.option.Option as O
use Rattle.close_ceilings.specs.declared.Lines.{Lines}

-- the rows have the border sums by border and hour, with losses by border, none where limit 12 does not apply
abbrev pub SumsOf : List Notice → List ℕ → List (O.Option (List ℕ)) → Type 0
SumsOf cs losses rows = (b h : ℕ) → b < 5 → limit_at (get_or rows b None) h ≡ increased_sum (loss_of losses b) (border_sum (map notice_in cs) b h)

-- the lines of each side
pub record LinesOf (cs : List Notice) (losses : List ℕ) (lines : Lines) : Type 0 where
  pub eight : length cs ≡ 8
  pub sales : SumsOf cs (replicate 5 0) lines.sales
  pub purchases : SumsOf cs losses lines.purchases

unfoldable pub line_row : ℕ → ℕ
line_row border = cond (ltb 4 border) 0 border

-- a unit's line: of its border, on its side
unfoldable pub line_of : Lines → Unit → O.Option (List ℕ)
line_of lines u = get_or (cond u.purchase lines.purchases lines.sales) (line_row u.border) None

-- the lesser of limits 10 and 11, the hours counted from 0
unfoldable pub own_in : ℕ → Notice → ℕ → ℕ
own_in maximum n h = cond n.given (min maximum (get_or n.energies h 0)) maximum

-- "without a notice they are 0"
unfoldable pub rights_in : Notice → ℕ → ℕ
rights_in g h = cond g.given (get_or g.energies h 0) 0

-- the ceiling of a unit, by its notices and the line of its border
unfoldable pub ceiling_in : Unit → Notice → Notice → O.Option (List ℕ) → ℕ → ℕ
ceiling_in u n g line h =
    cond u.rights (least_of (min (own_in u.maximum n h) (rights_in g h)) (lessened 0 (limit_at line (suc h)) ∷ []))
    (least_of (own_in u.maximum n h) (lessened (rights_in g h) (limit_at line (suc h)) ∷ []))

-- that by the rules
abbrev pub ceiling_of : Unit → Notice → Notice → List Notice → List ℕ → ℕ → ℕ
ceiling_of u n g cs losses h = ceiling (lines_in cs losses) (registered_in u n g) (suc h)

-- that of the unit at an index
unfoldable pub ceiling_at : List Unit → List Notice → List Notice → List Notice → List ℕ → ℕ → ℕ → ℕ
ceiling_at us ns gs cs losses p h = ceiling_of (get_or us p no_unit) (get_or ns p bare_notice) (get_or gs p bare_notice) cs losses h

-- the first n rows have the ceilings of a unit each by hour
abbrev pub CeilingsTo : List Unit → List Notice → List Notice → List Notice → List ℕ → ℕ → List (List ℕ) → Type 0
CeilingsTo us ns gs cs losses n rows = (p h : ℕ) → p < n → h < 25 → get_or (get_or rows p []) h 0 ≡ ceiling_at us ns gs cs losses p h

-- each unit has a row
abbrev pub CeilingsOf : List Unit → List Notice → List Notice → List Notice → List ℕ → List (List ℕ) → Type 0
CeilingsOf us ns gs cs losses rows = CeilingsTo us ns gs cs losses (length us) rows
