-- How the C interface takes what it is asked with, and what it leaves in the caller's memory of what the definitions of slot_file, stores, vehicles and locomotives give.
pub mod Fields
pub mod Memory
