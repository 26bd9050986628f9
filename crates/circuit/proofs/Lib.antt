mod Continuing
mod Items
mod Right
mod Texts
