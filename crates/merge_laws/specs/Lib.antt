pub mod Candidates
pub mod Reach
pub mod Reaches
pub mod Resolution
pub mod Withdrawal
