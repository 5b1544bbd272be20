mod Built
mod Asking
