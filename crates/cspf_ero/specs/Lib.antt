pub mod Objects
pub mod Reading
pub mod ReplyLine
pub mod Laws
pub mod ReplyHead
