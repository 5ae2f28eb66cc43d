mod Checked
mod Seen
mod Walking
