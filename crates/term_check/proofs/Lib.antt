mod Every
mod Scopes
mod Separates
mod Start
mod Falls
mod Walk
mod Proofs
mod Separations
