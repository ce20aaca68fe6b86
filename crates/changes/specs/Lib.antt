-- What a lane's call sees and changes.
pub mod Change
