pub mod Bits
pub mod MeetingMask
