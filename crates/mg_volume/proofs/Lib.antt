pub mod AccountLists
pub mod AccountsStaged
mod Rewritten
mod Seams
mod ThreadMoved
mod StandingPages
pub mod BareRows
pub mod BlockParts
pub mod ByBase
pub mod ByNumber
pub mod ChangedBy
pub mod Collected
pub mod CommitChange
pub mod Drawn
pub mod Found
pub mod FoundOwn
pub mod FreeFrame
pub mod FreePlace
mod Handed
mod ImageBytes
pub mod Indexed
pub mod ObjectChanged
pub mod ObjectInserted
pub mod ObjectLists
pub mod ObjectOrder
pub mod ObjectRemoved
pub mod ObjectStaged
pub mod ObjectWithout
pub mod Opened
pub mod OpenedFormed
pub mod PagesChange
pub mod RemovedOrder
mod Reread
mod Respelled
pub mod RowsApart
mod Staged
pub mod Stages
pub mod StillStaged
pub mod StillWaiting
pub mod ThreadChanged
pub mod ThreadLists
pub mod ThreadSearch
mod ThreadStaged
mod ThreadsFound
mod RowTotals
