pub mod Looking
pub mod WeakReferences
