mod Numbers
mod Digits
