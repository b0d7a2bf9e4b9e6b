mod Lengths
mod Texts
