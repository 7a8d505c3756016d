pub mod TraceLaws
pub mod OutsideLaws
pub mod FlashLaws
pub mod PeriodLaws
