mod Rights
mod InfoReplies
mod Rows
mod DropsBacked
mod Doors
mod NewObject
