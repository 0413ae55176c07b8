-- The code's records read as the rules'.
use Rattle.std.specs.Prelude.{List, map}
use Rattle.rules.specs.Match.{Holder as RuleHolder, Offer as RuleOffer}
use Rattle.rules.specs.Borders.{Execution as RuleExecution}
use Rattle.hour_offers.specs.declared.Holder.{Holder}
use Rattle.hour_offers.specs.declared.Offer.{Offer}
use Rattle.hour_offers.specs.declared.Execution.{Execution}

abbrev pub holder_in : Holder → RuleHolder
holder_in h = record { number = h.number; unit = h.unit; border = h.border; purchase = h.purchase; legacy = h.legacy; loss = h.loss }

abbrev pub offer_in : Offer → RuleOffer
offer_in o = record { holder = holder_in o.holder; price = o.price; offered = o.offered; matched = o.matched }

abbrev pub execution_in : Execution → RuleExecution
execution_in x = record { holder = holder_in x.holder; energy = x.energy }

abbrev pub offers_in : List Offer → List RuleOffer
offers_in os = map offer_in os

abbrev pub executions_in : List Execution → List RuleExecution
executions_in xs = map execution_in xs
