use Rattle.std.proofs.Common.{arith, sym, ◌∙◌, ◌&&◌, not, nat_lt}
use Rattle.rules.specs.Withdrawal as W
use Rattle.withdraw_choose.proofs.PriceLaws.{chosen, masked-fits, below-read, above-read, purchases-go, sales-go}
use Rattle.withdraw_choose.proofs.choose.Goals as goal

pub purchases_below-requires : goal.purchases_below-requires
purchases_below-requires c = masked-fits (λ o. o.holder.purchase && nat_lt o.price c.in-Some-Some.lowest) c.args.offers.now c.requires.fits

pub sales_above-requires : goal.sales_above-requires
sales_above-requires c = masked-fits (λ o. not o.holder.purchase && nat_lt c.in-Some-Some.highest o.price) c.args.offers.now c.requires.fits

pub returns-in-None-None : goal.returns-in-None-None
unfolding W.choose
returns-in-None-None c =
    chosen c.args.over.now c.args.offers.now c.args.abroad.now c.requires.abroad (sym c.in-None-None.is-0 ∙ c.lowest_purchase_price-lowest.ensures) (sym c.in-None-None.is-1 ∙ c.highest_sale_price-highest.ensures)

pub returns-in-None-Some : goal.returns-in-None-Some
unfolding W.choose
returns-in-None-Some c =
    chosen c.args.over.now c.args.offers.now c.args.abroad.now c.requires.abroad (sym c.in-None-Some.is-0 ∙ c.lowest_purchase_price-lowest.ensures) (sym c.in-None-Some.is-1 ∙ c.highest_sale_price-highest.ensures)

pub returns-in-Some-None : goal.returns-in-Some-None
unfolding W.choose
returns-in-Some-None c =
    chosen c.args.over.now c.args.offers.now c.args.abroad.now c.requires.abroad (sym c.in-Some-None.is-0 ∙ c.lowest_purchase_price-lowest.ensures) (sym c.in-Some-None.is-1 ∙ c.highest_sale_price-highest.ensures)

pub returns-then-purchases_below-sales_above : goal.returns-then-purchases_below-sales_above
returns-then-purchases_below-sales_above c =
    let os = c.args.offers.now in
    let p = c.in-Some-Some in
    purchases-go p.lowest p.highest os (c.purchases_below.ensures ∙ below-read p.lowest os) (c.sales_above.ensures ∙ above-read p.highest os) (omega arith)
    ∙ chosen c.args.over.now os c.args.abroad.now c.requires.abroad (sym p.is-0 ∙ c.lowest_purchase_price-lowest.ensures) (sym p.is-1 ∙ c.highest_sale_price-highest.ensures)

pub returns-else-purchases_below-sales_above : goal.returns-else-purchases_below-sales_above
returns-else-purchases_below-sales_above c =
    let os = c.args.offers.now in
    let p = c.in-Some-Some in
    sales-go p.lowest p.highest os (c.purchases_below.ensures ∙ below-read p.lowest os) (c.sales_above.ensures ∙ above-read p.highest os) (omega arith)
    ∙ chosen c.args.over.now os c.args.abroad.now c.requires.abroad (sym p.is-0 ∙ c.lowest_purchase_price-lowest.ensures) (sym p.is-1 ∙ c.highest_sale_price-highest.ensures)
