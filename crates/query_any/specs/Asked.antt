-- The queries as the code names them, and by a number of ours.
use Rattle.std.specs.Prelude.{ℕ, ◌≡◌, Bool, cond, eqb}
use Rattle.std.specs.Prelude as S
use Rattle.std.proofs.Math.Option.{Option, some, none}
use Rattle.rules.specs.Queries as Q
use Rattle.answer.specs.Told.{refused}
use Rattle.answer.specs.declared.Response.{Response}
use Rattle.session.specs.declared.Session.{Session}
use Rattle.query.specs.Replies.{Answered}
use Rattle.query_any.specs.declared.Query.{Query}
use Rattle.query_any.specs.declared.Query.TheVariants.{Verdict, Matched, Executed, Market, Bilateral, Price, MarketMaximum, BilateralMaximum}

-- the rules' query
abbrev pub query_in : Query → Q.Query
query_in = elim [
  | Verdict number ↦ Q.verdict number
  | Matched unit hour ↦ Q.matched unit hour
  | Executed unit hour ↦ Q.executed unit hour
  | Market border hour ↦ Q.market border hour
  | Bilateral border hour ↦ Q.bilateral border hour
  | Price hour ↦ Q.price hour
  | MarketMaximum border export hour ↦ Q.market_max border export hour
  | BilateralMaximum border export hour ↦ Q.bilateral_max border export hour
]

abbrev pub query_of : S.Option Query → Option Q.Query
query_of = elim [ S.None ↦ none | S.Some q ↦ some (query_in q) ]

-- the query of a kind, of a lodging number, unit or border, of a direction and of an hour, where it asks for them; none of a kind
-- that is no query's
unfoldable pub asked : ℕ → ℕ → Bool → ℕ → Option Q.Query
asked kind of export hour =
    cond (eqb kind 101) (some (Q.verdict of))
    (cond (eqb kind 102) (some (Q.matched of hour))
    (cond (eqb kind 103) (some (Q.executed of hour))
    (cond (eqb kind 104) (some (Q.market of hour))
    (cond (eqb kind 105) (some (Q.bilateral of hour))
    (cond (eqb kind 106) (some (Q.price hour))
    (cond (eqb kind 107) (some (Q.market_max of export hour))
    (cond (eqb kind 108) (some (Q.bilateral_max of export hour))
    none)))))))

-- the reply: the query's own promise; where there is no query, refused as 3, as `book::run` refuses what is no call
abbrev pub Replied : Session → Option Q.Query → Response → Type 0
Replied s (some q) r = Answered s q r
Replied s none r = r ≡ refused 3 0
