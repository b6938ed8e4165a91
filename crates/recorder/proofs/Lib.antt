mod Running
mod Planning
