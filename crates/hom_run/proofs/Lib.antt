mod Answerings
mod Looks
mod NormalReplies
mod Lines
mod Replays
mod Runs
mod SliceReplies
mod Takings
