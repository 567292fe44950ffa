-- How many bids a round can have, how large the numbers are that it writes, and the output of one round and of two.
pub mod FewBids
pub mod RoundDone
pub mod RoundLength
pub mod TwoRounds
