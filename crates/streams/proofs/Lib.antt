mod Windows
mod Commands
mod Records
mod Orders
