mod Apart
mod Keys
mod Lists
mod Rows
