pub mod Path
pub mod Queue
pub mod Search
pub mod Why
