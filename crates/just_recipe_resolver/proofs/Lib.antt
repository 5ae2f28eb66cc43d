mod Along
mod Given
mod Placed
