mod Forms
mod States
mod Refusals
mod Nexts
mod AllPrints
mod FetchedPrints
mod Tables
mod Asked
