-- Demand 3, of the session that C and Rust programs lend: what holds after every list of calls of this crate, of their responses and of
-- what its queries then respond. A call lent is a call by value, so the claim is the session's (`Demanded` of crates/book), whose
-- premises are of the session that a call found and the one that it left. That each is the promise of a function of this crate, which asks for
-- nothing in return, is part of the claim here: both are read off the function's own contract, so that neither moves without the other.
use mathlib.Core.Path.{◌≡◌}
use seplogic.Ra.Ura.{Ura}
use lib.ListN.{length}
use base.Logic.{SProp, ent, emp, id⊢}
use prog.Memory.{Memory}
use prog.Routine.{Routine}
use types.Logic.{Logic}
use contract.Monad.{Fun, fact, fact_mono}
use contract.Lifetimes.{Lfts}
use denote.Triple.Entry.{Args, Res}
use denote.Triple.Clauses.{Ended, AtExit, Clauses}
use Rattle.rules.specs.DayBook as D
use Rattle.rules.specs.Queries as Q
use Rattle.calendar.specs.View.{date_in}
use Rattle.session.specs.Image.{unit_in, key_in}
use Rattle.session.specs.Steps.{Opens}
use Rattle.notify_unavailability.specs.Notices.{available_in}
use Rattle.notify_rights.specs.Rights.{rights_in}
use Rattle.notify_capacity.specs.Capacities.{capacity_in}
use Rattle.set_loss.specs.Losses.{loss_in}
use Rattle.query.specs.Replies.{Answered}
use Rattle.book.specs.Runs as R
use Rattle.book.specs.Runs.{Called}
use Rattle.book.specs.Demand3.{Demanded}
use Rattle.book.proofs.DemandLaws.{session-demand-3}
use Rattle.gate.specs.contracts.gate_open as opening
use Rattle.gate.specs.contracts.gate_register as register
use Rattle.gate.specs.contracts.gate_capacity as capacity
use Rattle.gate.specs.contracts.gate_unavailability as available
use Rattle.gate.specs.contracts.gate_rights as rights
use Rattle.gate.specs.contracts.gate_loss as loss
use Rattle.gate.specs.contracts.gate_lodge as lodge
use Rattle.gate.specs.contracts.gate_annul as annul
use Rattle.gate.specs.contracts.gate_close as close
use Rattle.gate.specs.contracts.gate_clear as clear
use Rattle.gate.specs.contracts.gate_verdict as verdict
use Rattle.gate.specs.contracts.gate_matched as matched
use Rattle.gate.specs.contracts.gate_executed as executed
use Rattle.gate.specs.contracts.gate_market_balance as market
use Rattle.gate.specs.contracts.gate_bilateral_balance as bilateral
use Rattle.gate.specs.contracts.gate_market_maximum as market-maximum
use Rattle.gate.specs.contracts.gate_bilateral_maximum as bilateral-maximum
use Rattle.gate.specs.contracts.gate_price as price

-- a function's contract asks for nothing, and promises P of its arguments, of its result and of its arguments at exit
pub record Promises {M : Type 1} (𝓤 : Ura M) (T : Ended) (c : Clauses 𝓤 T)
    (P : (κs : Lfts T.signature.lifetimes) → Args T.signature κs → Res T.signature κs → AtExit T κs → Type 0) : Type 1 where
  pub ghost : (κs : Lfts T.signature.lifetimes) (a : Args T.signature κs) → (c κs a).ghost
  pub asks : (κs : Lfts T.signature.lifetimes) (a : Args T.signature κs) → ent 𝓤 (emp 𝓤) ((c κs a).requires (ghost κs a))
  pub gives : (κs : Lfts T.signature.lifetimes) (a : Args T.signature κs) (g : (c κs a).ghost) (r : Res T.signature κs) (e : AtExit T κs)
      → ent 𝓤 ((c κs a).ensures g r e) (fact 𝓤 (P κs a r e))

pub record GateDemanded {M : Type 1} {𝓤 : Ura M} (𝓛 : Logic 𝓤) (at_mem : Memory → SProp 𝓤) (run : Routine → Fun 𝓤) : Type 1 where
  -- opening and the calls, as `Demanded` has them
  pub opens : Promises 𝓤 opening.ended (opening.clauses 𝓛 at_mem run) (λ κs a r e. Opens (date_in a.0) r)
  pub registers : Promises 𝓤 register.ended (register.clauses 𝓛 at_mem run) (λ κs a r e. Called a.0.now (D.register (unit_in a.1.0)) (record { session = e.0.now; answer = r }))
  pub notifies : Promises 𝓤 capacity.ended (capacity.clauses 𝓛 at_mem run) (λ κs a r e. length a.1.0.directions ≡ 8 → Called a.0.now (capacity_in a.1.0) (record { session = e.0.now; answer = r }))
  pub avails : Promises 𝓤 available.ended (available.clauses 𝓛 at_mem run) (λ κs a r e. Called a.0.now (available_in a.1.0) (record { session = e.0.now; answer = r }))
  pub grants : Promises 𝓤 rights.ended (rights.clauses 𝓛 at_mem run) (λ κs a r e. Called a.0.now (rights_in a.1.0) (record { session = e.0.now; answer = r }))
  pub sets : Promises 𝓤 loss.ended (loss.clauses 𝓛 at_mem run) (λ κs a r e. Called a.0.now (loss_in a.1.0) (record { session = e.0.now; answer = r }))
  pub lodges : Promises 𝓤 lodge.ended (lodge.clauses 𝓛 at_mem run) (λ κs a r e. Called a.0.now (D.lodge a.1.0.now) (record { session = e.0.now; answer = r }))
  pub annuls : Promises 𝓤 annul.ended (annul.clauses 𝓛 at_mem run) (λ κs a r e. Called a.0.now (D.annul (key_in a.1.0)) (record { session = e.0.now; answer = r }))
  pub closes : Promises 𝓤 close.ended (close.clauses 𝓛 at_mem run) (λ κs a r e. Called a.0.now D.close (record { session = e.0.now; answer = r }))
  pub clears : Promises 𝓤 clear.ended (clear.clauses 𝓛 at_mem run) (λ κs a r e. Called a.0.now D.clear (record { session = e.0.now; answer = r }))
  -- the queries
  pub verdicts : Promises 𝓤 verdict.ended (verdict.clauses 𝓛 at_mem run) (λ κs a r e. Answered a.0.now (Q.verdict a.1.0) r)
  pub matches : Promises 𝓤 matched.ended (matched.clauses 𝓛 at_mem run) (λ κs a r e. Answered a.0.now (Q.matched a.1.0 a.1.1.0) r)
  pub executions : Promises 𝓤 executed.ended (executed.clauses 𝓛 at_mem run) (λ κs a r e. Answered a.0.now (Q.executed a.1.0 a.1.1.0) r)
  pub markets : Promises 𝓤 market.ended (market.clauses 𝓛 at_mem run) (λ κs a r e. Answered a.0.now (Q.market a.1.0 a.1.1.0) r)
  pub bilaterals : Promises 𝓤 bilateral.ended (bilateral.clauses 𝓛 at_mem run) (λ κs a r e. Answered a.0.now (Q.bilateral a.1.0 a.1.1.0) r)
  pub market_maxima : Promises 𝓤 market-maximum.ended (market-maximum.clauses 𝓛 at_mem run) (λ κs a r e. Answered a.0.now (Q.market_max a.1.0 a.1.1.0 a.1.1.1.0) r)
  pub bilateral_maxima : Promises 𝓤 bilateral-maximum.ended (bilateral-maximum.clauses 𝓛 at_mem run) (λ κs a r e. Answered a.0.now (Q.bilateral_max a.1.0 a.1.1.0 a.1.1.1.0) r)
  pub prices : Promises 𝓤 price.ended (price.clauses 𝓛 at_mem run) (λ κs a r e. Answered a.0.now (Q.price a.1.0) r)
  -- every list of calls
  pub demand : Demanded

pub gate-demand-3 : {M : Type 1} {𝓤 : Ura M} (𝓛 : Logic 𝓤) (at_mem : Memory → SProp 𝓤) (run : Routine → Fun 𝓤) → GateDemanded 𝓛 at_mem run
gate-demand-3 {𝓤 = 𝓤} 𝓛 at_mem run = record {
  opens = record { ghost = λ κs a. tt; asks = λ κs a. id⊢ 𝓤 _; gives = λ κs a g r e. id⊢ 𝓤 _ };
  registers = record { ghost = λ κs a. tt; asks = λ κs a. id⊢ 𝓤 _; gives = λ κs a g r e. fact_mono 𝓤 _ _ (λ m. R.registers a.1.0 m) };
  notifies = record { ghost = λ κs a. tt; asks = λ κs a. id⊢ 𝓤 _; gives = λ κs a g r e. fact_mono 𝓤 _ _ (λ m h. R.notifies a.1.0 h m) };
  avails = record { ghost = λ κs a. tt; asks = λ κs a. id⊢ 𝓤 _; gives = λ κs a g r e. fact_mono 𝓤 _ _ (λ m. R.avails a.1.0 m) };
  grants = record { ghost = λ κs a. tt; asks = λ κs a. id⊢ 𝓤 _; gives = λ κs a g r e. fact_mono 𝓤 _ _ (λ m. R.grants a.1.0 m) };
  sets = record { ghost = λ κs a. tt; asks = λ κs a. id⊢ 𝓤 _; gives = λ κs a g r e. fact_mono 𝓤 _ _ (λ m. R.sets a.1.0 m) };
  lodges = record { ghost = λ κs a. tt; asks = λ κs a. id⊢ 𝓤 _; gives = λ κs a g r e. fact_mono 𝓤 _ _ (λ m. R.lodges a.1.0.now m) };
  annuls = record { ghost = λ κs a. tt; asks = λ κs a. id⊢ 𝓤 _; gives = λ κs a g r e. fact_mono 𝓤 _ _ (λ m. R.annuls a.1.0 m) };
  closes = record { ghost = λ κs a. tt; asks = λ κs a. id⊢ 𝓤 _; gives = λ κs a g r e. fact_mono 𝓤 _ _ (λ m. R.closes m) };
  clears = record { ghost = λ κs a. tt; asks = λ κs a. id⊢ 𝓤 _; gives = λ κs a g r e. fact_mono 𝓤 _ _ (λ m. R.clears m) };
  verdicts = record { ghost = λ κs a. tt; asks = λ κs a. id⊢ 𝓤 _; gives = λ κs a g r e. id⊢ 𝓤 _ };
  matches = record { ghost = λ κs a. tt; asks = λ κs a. id⊢ 𝓤 _; gives = λ κs a g r e. id⊢ 𝓤 _ };
  executions = record { ghost = λ κs a. tt; asks = λ κs a. id⊢ 𝓤 _; gives = λ κs a g r e. id⊢ 𝓤 _ };
  markets = record { ghost = λ κs a. tt; asks = λ κs a. id⊢ 𝓤 _; gives = λ κs a g r e. id⊢ 𝓤 _ };
  bilaterals = record { ghost = λ κs a. tt; asks = λ κs a. id⊢ 𝓤 _; gives = λ κs a g r e. id⊢ 𝓤 _ };
  market_maxima = record { ghost = λ κs a. tt; asks = λ κs a. id⊢ 𝓤 _; gives = λ κs a g r e. id⊢ 𝓤 _ };
  bilateral_maxima = record { ghost = λ κs a. tt; asks = λ κs a. id⊢ 𝓤 _; gives = λ κs a g r e. id⊢ 𝓤 _ };
  prices = record { ghost = λ κs a. tt; asks = λ κs a. id⊢ 𝓤 _; gives = λ κs a g r e. id⊢ 𝓤 _ };
  demand = session-demand-3;
}
