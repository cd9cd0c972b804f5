pub mod SuiteCases
pub mod SuiteSteps
pub mod FrameSteps
pub mod Bursts
pub mod OneBit
pub mod Lent
pub mod AskedSetup
