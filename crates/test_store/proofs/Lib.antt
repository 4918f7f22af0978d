mod Divided
mod Places
mod Resets
