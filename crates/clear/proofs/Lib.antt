pub mod EndLaws
mod StageLaws
mod SlottedLaws
