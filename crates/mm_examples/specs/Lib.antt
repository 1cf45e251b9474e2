pub mod Broken
pub mod Examples
pub mod Pieces
pub mod SiteText
