-- What an auction offers of a path, and what each of its rounds does: rules 6.4, 6.5 and 6.7.
pub mod Offers
