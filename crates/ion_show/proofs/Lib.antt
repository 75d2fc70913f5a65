pub mod NthLaws
