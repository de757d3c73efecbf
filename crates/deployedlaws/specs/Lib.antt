pub mod OutThere
