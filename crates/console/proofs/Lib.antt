mod Texts
mod TextLines
