-- Laws about an hour.
pub mod PriceLaws
