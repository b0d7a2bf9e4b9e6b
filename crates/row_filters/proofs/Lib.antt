mod NoNumbers
mod Marked
mod Compared
