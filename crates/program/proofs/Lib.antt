mod InMemory
mod OneFile
mod Target
mod TwoFiles
