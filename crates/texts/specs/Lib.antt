-- For callers
pub mod Text  -- the text of a log and of a world
pub mod ModelFile  -- model files of any kind of model
pub mod Mistakes  -- the mistakes of a text that is not a model file
pub mod AnyModel  -- model files of this project's models
pub mod Settings  -- values of a model file that are set
pub mod Names  -- named numbers in the state of a process
