use Rattle.std.proofs.Common.{rules}
use Rattle.std.proofs.lemmas.List.FromFn.{fill_by_all}
use Rattle.rules.specs.Lists.{from}
use Rattle.book_log.specs.Calls.{number_in, numbers_at}
use Rattle.book_log.proofs.numbers_at.Goals as goal

pub returns : goal.returns
unfolding from numbers_at number_in
returns c = fill_by_all (number_in c.args.p.now c.args.i) c.from_fn.result 25 0 c.from_fn.ensures.items.long (λ k h. let r = c.from_fn.ensures.items.at k 0 h in search rules)
