mod Gathering
mod Keeping
mod Noting
mod Walked
