pub mod Prediction
