mod Losing
mod Words
