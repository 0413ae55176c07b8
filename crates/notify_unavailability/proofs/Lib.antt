pub mod NoticeLaws
