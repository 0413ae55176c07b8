-- The twelve figures hold: what the definitions compute is what is stated.
use Rattle.std.specs.Prelude.{refl}
use Rattle.rules.specs.Lists.{unfold_lists}
use Rattle.rules.specs.Refusals.{unfold_refusals}
use Rattle.rules.specs.Hours.{unfold_hours}
use Rattle.rules.specs.Units.{unfold_units}
use Rattle.rules.specs.Message.{unfold_message}
use Rattle.rules.specs.Lodging.{unfold_lodging}
use Rattle.rules.specs.Book.{unfold_book}
use Rattle.rules.specs.Judging.{unfold_judging}
use Rattle.rules.specs.Closing.{unfold_closing}
use Rattle.rules.specs.Share.{unfold_share}
use Rattle.rules.specs.Match.{unfold_match}
use Rattle.rules.specs.Borders.{unfold_borders}
use Rattle.rules.specs.Split.{unfold_split}
use Rattle.rules.specs.Withdrawal.{unfold_withdrawal}
use Rattle.rules.specs.Executions.{unfold_executions}
use Rattle.rules.specs.Clearing.{unfold_clearing}
use Rattle.rules.specs.Queries.{unfold_queries}
use Rattle.rules.specs.DayBook.{unfold_day_book}
use Rattle.rules.specs.Figures.{Hold, twelve}

pub twelve-hold : Hold twelve
unfolding unfold_lists unfold_refusals unfold_hours unfold_units unfold_message unfold_lodging unfold_book unfold_judging unfold_closing unfold_share unfold_match unfold_borders unfold_split unfold_withdrawal unfold_executions unfold_clearing unfold_queries unfold_day_book
twelve-hold = (refl, (refl, (refl, (refl, (refl, (refl, (refl, (refl, (refl, (refl, (refl, (refl, tt))))))))))))
