pub mod CallLaws
pub mod RunLaws
pub mod ReplayLaws
pub mod ReplyLaws
pub mod StageLaws
pub mod DemandLaws
