pub mod EnclaveRuns
pub mod ThreadRuns
pub mod MailRuns
pub mod Moments
pub mod Rights
pub mod Layouts
pub mod OddRows
pub mod PassRuns
