mod OpenTables
mod Ranking
mod Sorting
