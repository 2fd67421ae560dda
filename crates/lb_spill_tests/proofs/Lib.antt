pub mod DoublingOrder
