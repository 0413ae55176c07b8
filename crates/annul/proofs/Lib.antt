pub mod AnnulLaws
