pub mod IpcFields
pub mod IpcFieldCode
pub mod Contains
pub mod Causes
pub mod UnionIds
pub mod Uses
pub mod Latest
pub mod Representable
