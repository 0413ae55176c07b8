pub mod CountLaws
pub mod IndexLaws
pub mod ClassLaws
pub mod StandingLaws
pub mod JudgeLaws
mod PairLaws
