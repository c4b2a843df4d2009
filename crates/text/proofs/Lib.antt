-- The laws of the texts: `Placing` for texts put one after the other, `Digits` for lengths and the digits one by one, `ReadBack` for digits read again.
pub mod Digits
pub mod Placing
pub mod ReadBack
pub mod Standing
