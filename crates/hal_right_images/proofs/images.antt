mod Reaching
mod Supporting
mod Righting
mod Barred
mod Units
mod Serving
mod Knowing
mod Reading
