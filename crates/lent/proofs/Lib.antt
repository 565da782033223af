pub mod Ways
pub mod BridgeSteps
pub mod Endings
pub mod OnBridge
