pub mod BareKinds
pub mod OneKind
