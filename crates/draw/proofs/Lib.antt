mod Walk
mod Filled
mod Order
mod Effective
mod Sampled
