pub mod Entries
pub mod Histories
pub mod Steps
pub mod Rule
pub mod Seats
pub mod Closing
pub mod InternalSeats
pub mod CloseFaults
