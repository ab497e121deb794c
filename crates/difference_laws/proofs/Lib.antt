-- The laws.
pub mod NothingDiffers
pub mod TableAgain
pub mod SoundUnnoted
