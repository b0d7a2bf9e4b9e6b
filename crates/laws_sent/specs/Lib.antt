pub mod Below
pub mod Parts
pub mod ReadUnder
pub mod PartLaws
pub mod DictionaryLaws
pub mod SentFields
pub mod SchemaLaws
