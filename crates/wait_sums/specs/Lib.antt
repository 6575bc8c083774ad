pub mod WaitSums
