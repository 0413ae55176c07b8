use Rattle.query.proofs.FigureLaws.{price-shown}
use Rattle.query.proofs.PriceQueryQuery.show.Goals as goal

pub returns : goal.returns
returns c = rw c.from.ensures (price-shown _ _ _ c.requires)
