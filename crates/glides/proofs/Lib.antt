pub mod GlideLaws
