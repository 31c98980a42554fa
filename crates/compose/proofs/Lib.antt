pub mod ComposeLaws
