mod Joined
pub mod Walking
pub mod FirstBursts
pub mod Tables
