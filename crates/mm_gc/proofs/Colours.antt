pub mod Alike
pub mod AlikeHeaps
pub mod Coloured
pub mod Outlined
pub mod Outlines
pub mod Recoloured
