-- Laws about the tree of claims and about the order that it gives.
pub mod KeyLaws
pub mod TreeLaws
pub mod PlayLaws
pub mod LeafLaws
pub mod FirstLaws
pub mod StepLaws
