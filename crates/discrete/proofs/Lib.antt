-- Laws of counting and of the answers, and what users lean on: indices, neighbours, and the walk of the cursor.
pub mod Indices
pub mod Ways
pub mod Places
pub mod Answers
pub mod Unmapping
pub mod AtIndex
pub mod Laws
