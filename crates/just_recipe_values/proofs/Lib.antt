mod Judging
mod Saying
