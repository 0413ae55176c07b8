-- What the balances' queries read at the directions' indices is what they are to show.
use Prim.Native.Nat.{ℕ, ◌+◌, ◌/◌, ◌%◌, ◌≤◌, ◌<◌}
use mathlib.Core.Path.{◌≡◌, ap, ap₂, ◌∙◌}
use mathlib.Core.Bool.{Bool, true, false}
use native.Mathlib.Omega.{arith}
use lib.Dec.{eqb}
use lib.IntN.{sub_ℕ}
use lib.ListN.{get_or}
use Rattle.rules.specs.Units.{direction}
use Rattle.rules.specs.Book.{Book}
use Rattle.rules.specs.Borders as B
use Rattle.rules.specs.Borders.{market_balance, execution_balance}
use Rattle.rules.specs.Clearing.{figures_at}
use Rattle.rules.specs.Queries.{shown}
use Rattle.rules.proofs.BalanceLaws.{market_flow, execution_flow}
use Rattle.hour_borders.proofs.DirectionLaws.{direction-small, direction-border, direction-export}
use Rattle.session.specs.Image.{image, by_direction, figures_as}
use Rattle.session.specs.declared.Session.{Session}
use Rattle.session.specs.declared.HourFigures.{HourFigures}
use Rattle.answer.specs.Told.{value_told, figure}
use Rattle.query.proofs.FigureLaws.{made_at, figures-as}
use Rattle.session.specs.Bare.{bare_figures}
use Rattle.query_balance.specs.declared.Balance.{Balance}
use Rattle.query_balance.specs.declared.Balance.TheVariants.{Market, Bilateral}
use Rattle.query_balance.specs.Parts.{BorderFits, balance_query, balance_of}

pub by-direction : (f : ℕ → Bool → ℕ) (border : ℕ) (export : Bool) → 0 < border → border ≤ 4 → get_or (by_direction f) (direction border export) 0 ≡ f border export
unfolding by_direction
by-direction f border export l h =
    made_at (λ d. f (d / 2 + 1) (eqb (d % 2) 0)) 0 0 8 (direction border export) (direction-small border export (omega arith))
    ∙ ap (λ d. f (d / 2 + 1) (eqb (d % 2) 0)) (let q : 0 + direction border export ≡ direction border export = omega arith in q)
    ∙ ap₂ f (direction-border border export l) (direction-export border export)

module _ (s : Session) (b : Book) (e : s ≡ image b) (border hour at : ℕ) (f : BorderFits s border hour at) where
  abbrev figures : HourFigures
  figures = get_or s.figures at bare_figures

  pub market-at : (export : Bool) → get_or figures.market (direction border export) 0 ≡ market_flow border export (figures_at b hour).offers
  unfolding figures_as
  market-at export =
      ap (λ (y : HourFigures). get_or y.market (direction border export) 0) (figures-as s b e f.hours)
      ∙ by-direction (λ k t. market_flow k t (figures_at b hour).offers) border export f.low f.high

  bilateral-at : (export : Bool) → get_or figures.bilateral (direction border export) 0 ≡ execution_flow border export (figures_at b hour).executions
  unfolding figures_as
  bilateral-at export =
      ap (λ (y : HourFigures). get_or y.bilateral (direction border export) 0) (figures-as s b e f.hours)
      ∙ by-direction (λ k t. execution_flow k t (figures_at b hour).executions) border export f.low f.high

  -- "exports less imports", of the energies that are read
  pub balance-shown : (balance : Balance) → figure (sub_ℕ (get_or (balance_of balance figures) (direction border true) 0) (get_or (balance_of balance figures) (direction border false) 0))
      ≡ value_told (shown b (balance_query balance border hour))
  unfolding value_told shown market_balance execution_balance B.balance
  balance-shown Market = ap figure (ap₂ sub_ℕ (market-at true) (market-at false))
  balance-shown Bilateral = ap figure (ap₂ sub_ℕ (bilateral-at true) (bilateral-at false))
