-- The bid list: its words (rules 7.1 and 7.5), the bids that a round takes (rules 7.2 to 7.4), and the refusals of the others (rules 13.14 to 13.16).
pub mod Bids
pub mod BidRefusals
pub mod Places
pub mod Encoding
