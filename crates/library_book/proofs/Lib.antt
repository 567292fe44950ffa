-- Laws about a book in words.
-- Laws about words that encode a book.
pub mod WordLaws
pub mod ReadBack
pub mod ValidLaws
