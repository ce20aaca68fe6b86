-- Idle entries past a line's lanes do not show.
pub mod SoundLine
pub mod Steps
pub mod Lists
pub mod FewerLanes
