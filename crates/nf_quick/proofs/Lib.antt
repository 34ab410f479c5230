mod Common
pub mod PushByPush
pub mod Answering
pub mod Finishing
