use Rattle.std.proofs.Common.{rules, None}
use Rattle.std.proofs.lemmas.List.FromFn.{fill_by_all}
use Rattle.rules.specs.Lists.{from}
use Rattle.clear_gather.specs.Built.{capacity_on}
use Rattle.clear_gather.proofs.capacities_at.Goals as goal

pub returns : goal.returns
unfolding from
returns c =
    fill_by_all (capacity_on c.args.notices.now c.args.k) c.from_fn.result 8 None c.from_fn.ensures.items.long
    (λ i h. let r = c.from_fn.ensures.items.at i None h in search rules)
