pub mod Laws
pub mod Test
