pub mod OneTask
