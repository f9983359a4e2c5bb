pub mod Regime
