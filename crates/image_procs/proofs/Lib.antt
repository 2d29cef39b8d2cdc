mod Walks
mod Filtered
mod FittingLists
mod Standing
mod Arrays
mod Looking
mod Placing
