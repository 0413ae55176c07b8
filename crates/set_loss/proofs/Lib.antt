pub mod LossLaws
