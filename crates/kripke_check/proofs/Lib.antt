pub mod Words
mod ByPlace
mod Models
mod Every
