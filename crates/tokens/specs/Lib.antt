pub mod Quoted
pub mod Blob
pub mod Token
pub mod Steps
pub mod TokenSteps
pub mod BlobSteps
