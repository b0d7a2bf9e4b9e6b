mod Places
mod Steps
mod Appended
