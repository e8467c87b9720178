mod Members
mod ForRequests
mod Asked
mod Steps
mod Begun
mod Wanting
mod Rows
