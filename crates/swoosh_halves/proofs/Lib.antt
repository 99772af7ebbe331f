mod Joining
mod Pairing
