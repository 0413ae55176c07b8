use Rattle.std.proofs.Common.{rules, map, ◌∙◌, arith, false, []}
use Rattle.std.proofs.lemmas.List.{length-map, get_or-map}
use Rattle.std.proofs.lemmas.List.FromFn.{fill_by_all}
use Rattle.rules.specs.Lists.{from}
use Rattle.session.specs.Image.{published_in}
use Rattle.session.specs.declared.Published.{Published}
use Rattle.book_log.specs.Calls.{direction_in, directions_of}
use Rattle.book_log.proofs.directions_of.Goals as goal

abbrev absent : Published
absent = record { count = 0; published = false; reserved = 0; reserved2 = 0; energies = [] }

pub returns : goal.returns
unfolding from directions_of direction_in
returns c =
    let ps = c.from_fn.result in
    fill_by_all (direction_in c.args.p.now) (map published_in ps) 8 (published_in absent) (length-map ps published_in ∙ c.from_fn.ensures.items.long)
    (λ k h. let r = c.from_fn.ensures.items.at k absent h in get_or-map published_in ps k absent (published_in absent) (omega (arith, c.from_fn.ensures.items.long)) ∙ search rules)
