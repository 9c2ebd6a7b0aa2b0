mod Bound
mod Lists
mod Listed
mod Released
