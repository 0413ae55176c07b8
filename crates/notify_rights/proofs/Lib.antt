pub mod RightsLaws
