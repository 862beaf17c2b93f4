-- Rule 7: replacing a life.
pub mod Lives
pub mod Suspects
pub mod Lost
pub mod Won
pub mod WonRest
pub mod Elect
pub mod LaterLife
pub mod RenewalParts
pub mod RenewedWord
pub mod Renew
pub mod Finish
