mod Cutting
mod Names
mod ObjectsTold
mod SettingsTold
mod StateTold
mod ThreadsTold
mod ValuesTold
mod WordsTold
