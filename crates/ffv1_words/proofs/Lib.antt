mod AnyWord
mod Grammar
mod Refusals
mod Vectors
