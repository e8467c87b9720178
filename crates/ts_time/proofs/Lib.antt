pub mod CalendarLemmas
pub mod CivilLemmas
pub mod ReadingLemmas
pub mod TextLemmas
pub mod FastTimes
