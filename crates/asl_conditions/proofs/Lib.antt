mod Rows
mod Readings
mod Grammars
mod Told
mod Worths
mod Worked
