-- For callers
pub mod Ring  -- the token ring
pub mod Words  -- the words that processes draw
pub mod WordLaws  -- the bounds of these words
pub mod Phold  -- PHOLD
pub mod JobShop  -- the job shop
pub mod Any  -- the model that a model file can name
-- For tests
pub mod Relay  -- six processes that send each message on
-- Inside: each model obeys the laws of a model
pub mod RingLaws
pub mod HoldLaws
pub mod ShopLaws
